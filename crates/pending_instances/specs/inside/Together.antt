-- A table and what is pending over it, in tests.
use Rattle.std.specs.Prelude.{◌≡◌, length}
use Rattle.fact_table.specs.Live.{NoneIsMarked}
use Rattle.fact_table.specs.Table.{FactTable}
use Rattle.transition_formula.specs.Program.{Program}
use Rattle.horn_rules.specs.Home.{homes}
use Rattle.instance_cursors.specs.Waiting.{Waiting}
use Rattle.pending_instances.specs.Pending.{IsFor}

-- They are for one program, and have the same live facts.
pub record AreTogether (program : Program) (table : FactTable) (waiting : Waiting) : Type 0 where
  pub is_for : IsFor program waiting
  pub homes_are : table.homes ≡ length (homes program)
  pub room_is : waiting.room ≡ table.limit
  pub given_is : waiting.given ≡ table.given
  pub live_is : waiting.live ≡ table.live
  pub unmarked : NoneIsMarked table.live
