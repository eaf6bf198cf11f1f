-- Which facts go where homes change: those at these homes, and whatever rests on one that goes.
use Rattle.std.specs.Prelude.{◌≡◌, ◌<◌, ◌⊎◌, List, [], ◌∷◌}
use Rattle.std.specs.List.{AllByRecursion, Contains}
use Rattle.thr_base.specs.declared.names.Fact.{Fact}
use Rattle.thr_base.specs.declared.names.FactId.{FactId}
use Rattle.thr_base.specs.declared.names.HomeNo.{HomeNo}
use Rattle.thr_base.specs.declared.names.Instance.{Instance}
use Rattle.fact_table.specs.declared.live_fact.LiveFact.{LiveFact}
use Rattle.fact_table.specs.declared.table.Inserted.{Inserted}
use Rattle.fact_table.specs.Live.{ArePremisesLive, IsLive, premises_of}
use Rattle.fact_table.specs.Table.{FactTable, IsInsertAnswer, IsTable}

-- The live fact is withdrawn: its home is listed, or a premise of its kept instance is withdrawn.
pub data IsWithdrawn (homes : List HomeNo) (live : List LiveFact) : LiveFact → Type 0 where
  at_home : (f : LiveFact) → Contains homes f.fact.home → IsWithdrawn homes live f
  by_premise : (f g : LiveFact) → Contains live g → Contains (premises_of f.kept) g.id → IsWithdrawn homes live g → IsWithdrawn homes live f

-- The second list is the first without the facts of which this holds; all others are as they were.
abbrev pub IsWithout : (LiveFact → Type 0) → List LiveFact → List LiveFact → Type 0
IsWithout Goes [] left = left ≡ []
IsWithout Goes (f ∷ live) left = (Goes f × IsWithout Goes live left) ⊎ ((¬ Goes f) × (rest : List LiveFact) × (left ≡ f ∷ rest) × IsWithout Goes live rest)

-- The fact is live, and came before another.
abbrev pub CameBefore : List LiveFact → LiveFact → FactId → Type 0
CameBefore live f premise = IsLive live premise × (premise.0 < f.id.0)

-- Each fact rests on live facts that came before it.
abbrev pub RestOnEarlier : List LiveFact → Type 0
RestOnEarlier live = AllByRecursion (λ f. AllByRecursion (CameBefore live f) (premises_of f.kept)) live

-- ---- laws

-- What comes into a table rests on what came before, so that each fact there does.
abbrev pub InsertionsRestOnEarlier : Type 0
InsertionsRestOnEarlier =
    (table later : FactTable) (fact : Fact) (instance : Instance) (answer : Inserted) → IsTable table → ArePremisesLive table.live instance
    → IsInsertAnswer table fact instance answer later → RestOnEarlier table.live → RestOnEarlier later.live
