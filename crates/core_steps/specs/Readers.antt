-- What the readers of a core tell of its state.
use Rattle.std.specs.Prelude.{◌≡◌, ℕ, List, length, map, reverse, Some}
use Rattle.lin_rows.specs.Row.{Row}
use Rattle.predicate_sets.specs.Sets.{set_at}
use Rattle.transition_formula.specs.Program.{Program, at_number}
use Rattle.fact_table.specs.declared.live_fact.LiveFact.{LiveFact}
use Rattle.fact_table.specs.Table.{FactTable, IsTable}
use Rattle.horn_rules.specs.Home.{Home, homes}
use Rattle.horn_rules.specs.Stored.{fact_of, instance_of}
use Rattle.derivation_tree.specs.Facts.{KeptFact}
use Rattle.core_steps.specs.State.{State}

-- Each home has the list of its number.
pub record IsListsOf (program : Program) (state : State) (lists : List (List Row)) : Type 0 where
  pub one_each : length lists ≡ length (homes program)
  pub each : (n : ℕ) (home : Home) → at_number (homes program) n ≡ Some home → state.sets home ≡ set_at lists n

-- what a stored fact stands for
abbrev pub kept_of : Program → LiveFact → KeptFact
kept_of program f = record { id = f.id.0; fact = fact_of program f.fact; kept = instance_of f.kept }

-- the facts of a table, the newest first
abbrev pub newest : Program → List LiveFact → List KeptFact
newest program live = reverse (map (kept_of program) live)

-- The table has the live facts.
pub record IsTableOf (program : Program) (state : State) (table : FactTable) : Type 0 where
  pub homes_are : table.homes ≡ length (homes program)
  pub given_is : state.given ≡ table.given
  pub live_is : state.live ≡ newest program table.live
  pub is_table : IsTable table
