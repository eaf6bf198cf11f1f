-- A table of live facts.
use Rattle.std.specs.Prelude.{◌≡◌, ◌≢◌, ℕ, ◌+◌, ◌<◌, ◌≤◌, false, List, [], ◌∷◌, ◌++◌, length, map}
use Rattle.std.specs.List.{AllByRecursion}
use Rattle.thr_base.specs.Held.{Rise}
use Rattle.thr_base.specs.declared.names.Fact.{Fact}
use Rattle.thr_base.specs.declared.names.Instance.{Instance}
use Rattle.fact_table.specs.declared.live_fact.LiveFact.{LiveFact}
use Rattle.fact_table.specs.declared.table.Inserted.{Inserted}
use Rattle.fact_table.specs.declared.table.Inserted.TheVariants.{New, Same, Full}
use Rattle.fact_table.specs.Live.{IsLive, Lacks, HasFact, rank_of}

-- A table: how many homes there are, how many facts may be live, how many ids were given, and the live facts by rising id.
pub record FactTable : Type 0 where
  pub homes : ℕ
  pub limit : ℕ
  pub given : ℕ
  pub live : List LiveFact

-- the table without facts
abbrev pub no_facts : ℕ → ℕ → FactTable
no_facts homes limit = record { homes = homes; limit = limit; given = 0; live = [] }

-- The table has this home, by number from 1.
abbrev pub HasHome : ℕ → ℕ → Type 0
HasHome homes home = (0 < home) × (home ≤ homes)

-- No fact is live twice.
abbrev pub AreDistinct : List LiveFact → Type 0
AreDistinct [] = Unit {0}
AreDistinct (f ∷ live) = AllByRecursion (λ g. g.fact ≢ f.fact) live × AreDistinct live

-- What is known of each table.
pub record IsTable (table : FactTable) : Type 0 where
  pub few : length table.live ≤ table.limit
  pub ids_rise : Rise 0 (map (λ f. f.id.0) table.live)
  pub ids_given : AllByRecursion (λ f. f.id.0 ≤ table.given) table.live
  pub at_homes : AllByRecursion (λ f. HasHome table.homes f.fact.home.0) table.live
  pub distinct : AreDistinct table.live

-- a new fact, which gets the next id
abbrev pub new_fact : FactTable → Fact → Instance → LiveFact
new_fact table fact instance = record {
  id = record { 0 = table.given + 1 };
  fact = fact;
  kept = instance;
  rank = rank_of table.live instance;
  marked = false;
}

-- How a fact comes in: by the next id, unless it is live already, or as many are as may be. Then nothing changes.
abbrev pub IsInsertAnswer : FactTable → Fact → Instance → Inserted → FactTable → Type 0
IsInsertAnswer table fact instance (New id) later =
    Lacks table.live fact × (length table.live < table.limit) × (id.0 ≡ table.given + 1)
    × (later ≡ record table { given = table.given + 1; live = table.live ++ new_fact table fact instance ∷ [] })
IsInsertAnswer table fact instance (Same id) later = HasFact table.live id fact × (later ≡ table)
IsInsertAnswer table fact instance Full later = Lacks table.live fact × (length table.live ≡ table.limit) × (later ≡ table)

-- What is named in the answer is live.
abbrev pub NamesLive : Inserted → List LiveFact → Type 0
NamesLive (New id) live = IsLive live id
NamesLive (Same id) live = IsLive live id
NamesLive Full live = Unit {0}
