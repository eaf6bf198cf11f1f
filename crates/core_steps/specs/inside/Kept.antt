-- What each core keeps.
use Rattle.std.specs.Prelude.{◌≡◌, ◌≤◌, length, map}
use Rattle.std.specs.Vec.{vec_capacity}
use Rattle.core_steps.specs.declared.stored_core.Core.TheInside.{Inside}
use Rattle.core_steps.specs.State.{Opening, State, IsOpening}
use Rattle.core_steps.specs.Legal.{IsLegal}
use Rattle.core_steps.specs.Laws.{most_events}
use Rattle.core_steps.specs.Stored.{history_of}
use Rattle.core_steps.specs.Course.{Course, opening_of, state_of}
use Rattle.core_steps.specs.Readers.{IsListsOf}
use Rattle.core_steps.specs.inside.Parts.{AreEpochs, IsFullTable, IsWaiting, AreHolds, AreClaims, IsStopAt}

abbrev pub seen : Inside → Course
seen inside = record {
  program = inside.program.now;
  start = inside.start;
  rule = inside.rule;
  limits = inside.limits;
  workers = inside.workers;
  history = history_of inside.program.now inside.journal.items;
}

-- The parts hold the state that the history leaves.
pub record Holds (opening : Opening) (state : State) (inside : Inside) : Type 0 where
  pub lists : IsListsOf opening.program state inside.sets
  pub shared : map (λ list. list.value) inside.lists.items ≡ inside.sets
  pub epochs : AreEpochs opening.program state inside.epochs.items
  pub table : IsFullTable opening.program opening.limits.facts state inside.table
  pub waiting : IsWaiting opening state inside.table inside.waiting
  pub holds : AreHolds opening.program opening.workers state inside.holds.items
  pub claims : AreClaims opening.workers state inside.claims.items
  pub published : length state.published ≡ inside.published
  pub refined : state.refined ≡ inside.refined
  pub stop : IsStopAt state inside.journal.items inside.stopped

pub record IsKept (inside : Inside) : Type 0 where
  pub opening : IsOpening (opening_of (seen inside))
  pub legal : IsLegal (opening_of (seen inside)) (seen inside).history
  pub holds : Holds (opening_of (seen inside)) (state_of (seen inside)) inside
  pub room : most_events inside.limits inside.workers ≤ vec_capacity inside.journal
