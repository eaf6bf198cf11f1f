-- What is seen of a core.
use Rattle.std.specs.Prelude.{ℕ, List, ◌++◌}
use Rattle.thr_base.specs.declared.names.RuleName.{RuleName}
use Rattle.thr_base.specs.declared.limits.Limits.{Limits}
use Rattle.lin_rows.specs.Row.{Row}
use Rattle.transition_formula.specs.Program.{Program}
use Rattle.horn_rules.specs.Stored.{sets_of}
use Rattle.core_steps.specs.State.{Opening, State}
use Rattle.core_steps.specs.Event.{Event, History}
use Rattle.core_steps.specs.After.{after}

-- what it opened with, the predicates by the numbers of homes, and the events since
pub record Course : Type 0 where
  pub program : Program
  pub start : List (List Row)
  pub rule : RuleName
  pub limits : Limits
  pub workers : ℕ
  pub history : History

abbrev pub opening_of : Course → Opening
opening_of course = record {
  program = course.program;
  sets = sets_of course.program course.start;
  rule = course.rule;
  limits = course.limits;
  workers = course.workers;
}

-- the state that it is in
abbrev pub state_of : Course → State
state_of course = after (opening_of course) course.history

-- the course with further events, the newest first
abbrev pub with_events : Course → List Event → Course
with_events course events = record course { history = events ++ course.history }
