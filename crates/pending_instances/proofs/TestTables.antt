-- A table and what is pending over it, in tests.
use Rattle.std.proofs.Common.{◌≡◌, true, List, [], ◌∷◌, filter, length, refl, sym, ap, ◌∙◌, arith}
use Rattle.thr_base.specs.declared.names.Fact.{Fact}
use Rattle.thr_base.specs.declared.names.FactId.{FactId}
use Rattle.thr_base.specs.declared.names.Instance.{Instance}
use Rattle.fact_table.specs.declared.live_fact.LiveFact.{LiveFact}
use Rattle.fact_table.specs.declared.table.Inserted.TheVariants.{New}
use Rattle.fact_table.specs.Live.{NoneIsMarked}
use Rattle.fact_table.specs.Table.{FactTable, HasHome, IsInsertAnswer, IsTable}
use Rattle.transition_formula.specs.Program.{Program}
use Rattle.horn_rules.specs.Home.{homes}
use Rattle.horn_rules.proofs.Lists.{all-contained}
use Rattle.horn_rules.proofs.Numbers.{numbered-there}
use Rattle.instance_cursors.specs.Waiting.{Waiting}
use Rattle.pending_instances.specs.Calls.{IsLeft, Opens}
use Rattle.pending_instances.specs.Pending.{AreAtHomes, IsFor}
use Rattle.pending_instances.specs.inside.Together.{AreTogether}

at-homes : (program : Program) (table : FactTable) → IsTable table → table.homes ≡ length (homes program) → AreAtHomes program table.live
at-homes program table is same f has =
    let at = all-contained (λ g. HasHome table.homes (LiveFact.fact g).home.0) table.live f is.at_homes has in
    numbered-there (homes program) f.fact.home.0 at.0 (omega (arith, at.1, same))

-- a fact that comes is in both
pub comes-together : (program : Program) (old new : FactTable) (waiting later : Waiting) (id : FactId) (fact : Fact) (kept : Instance) → AreTogether program old waiting → IsInsertAnswer old fact kept (New id) new
    → NoneIsMarked new.live → new.homes ≡ old.homes → IsTable new → ((p : Program) → IsFor p waiting → AreAtHomes p new.live → Opens p waiting new later) → AreTogether program new later
comes-together program old new waiting later id fact kept are answer unmarked homes_same is_table came =
    let homes_are = homes_same ∙ are.homes_are in
    let opens = came program are.is_for (at-homes program new is_table homes_are) in
    let limit : new.limit ≡ old.limit = ap (λ (t : FactTable). t.limit) answer.3 in
    record {
      is_for = opens.is_for;
      homes_are = homes_are;
      room_is = opens.room_is ∙ are.room_is ∙ sym limit;
      given_is = opens.given_is;
      live_is = opens.live_is;
      unmarked = unmarked;
    }

filter-all : (live : List LiveFact) → live ≡ filter (λ f. true) live
filter-all [] = refl
filter-all (f ∷ live) = ap (λ fs. f ∷ fs) (filter-all live)

-- no fact of the table went
pub none-went : (program : Program) (table : FactTable) (waiting : Waiting) → AreTogether program table waiting → IsLeft waiting table
none-went program table waiting are = record {
  given_is = sym are.given_is;
  keep = λ f. true;
  live_is = sym are.live_is ∙ filter-all waiting.live;
}
