-- Where facts fail.
use Rattle.std.specs.Prelude.{◌≡◌, ◌≢◌, ℕ, List, Some}
use Rattle.std.specs.List.{AllByRecursion}
use Rattle.transition_formula.specs.Program.{Program}
use Rattle.fact_table.specs.declared.live_fact.LiveFact.{LiveFact}
use Rattle.horn_rules.specs.Stored.{home_numbered}
use Rattle.horn_rules.specs.Home.{Home, State as AtLocation}
use Rattle.horn_rules.specs.Fact.{Fact}
use Rattle.derivation_tree.specs.Facts.{fact_at}
use Rattle.core_steps.specs.State.{State}

-- The home is location 0 of a thread.
abbrev pub IsFailing : Home → Type 0
IsFailing home = (i : ℕ) × (home ≡ AtLocation i 0)

-- No live fact is at location 0.
abbrev pub NoneFails : State → Type 0
NoneFails state = (id i : ℕ) (fact : Fact) → fact_at state.live id ≡ Some fact → fact.home ≢ AtLocation i 0

-- No fact of the list is at location 0.
abbrev pub NoneIn : Program → List LiveFact → Type 0
NoneIn program live = AllByRecursion (λ f. ¬ IsFailing (home_numbered program f.fact.home.0)) live
