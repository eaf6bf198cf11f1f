-- What a refine and a stop are to answer, in the same order as the other calls.
use Rattle.std.specs.Prelude.{◌≡◌, ◌≢◌, ◌-◌, ℕ, true, false, List, [], ◌∷◌, length, Some, None}
use Rattle.farkas_cert.specs.declared.answers.LeaveKind.{LeaveKind}
use Rattle.horn_rules.specs.Home.{Home}
use Rattle.horn_rules.specs.Predicate.{Predicate}
use Rattle.derivation_tree.specs.declared.scope.Scope.{Scope}
use Rattle.derivation_tree.specs.declared.scope.TreeLeft.{TreeLeft}
use Rattle.core_steps.specs.State.{Opening, State, Reason, Refinements, Predicates, JobLeft, RootLeft, Task, held_by, claimed_by, IsFree}
use Rattle.core_steps.specs.Event.{Event, StaleRefine, Refine, Stop, StaleStop}
use Rattle.core_steps.specs.Withdrawn.{has_id, remaining}
use Rattle.core_steps.specs.Pending.{is_present}
use Rattle.core_steps.specs.Predicates.{is_changed, AreNew}
use Rattle.core_steps.specs.Allowed.{IsRefine, IsReason}

-- ---- refine

pub data RefineAnswer : Type 0 where
  -- so many facts were withdrawn
  Done : ℕ → RefineAnswer
  StaleClaim : RefineAnswer
  NotHeld : RefineAnswer
  Stopped : RefineAnswer

-- Worker w refines by a claim of this fact, which agrees with the run in the facts of its tree, with what the tree teaches.
pub data IsRefineAnswer (opening : Opening) (state : State) (w id : ℕ) (Agrees : Type 0) (scope : Scope) (predicates : List Predicate) : RefineAnswer → List Event → Type 0 where
  stopped : state.stop ≢ None → claimed_by state.claims w ≡ None → IsRefineAnswer opening state w id Agrees scope predicates Stopped []
  drops : (held : ℕ) → state.stop ≢ None → claimed_by state.claims w ≡ Some held → IsRefineAnswer opening state w id Agrees scope predicates Stopped (StaleRefine w ∷ [])
  other_claim : state.stop ≡ None → claimed_by state.claims w ≢ Some id → IsRefineAnswer opening state w id Agrees scope predicates NotHeld []
  disagrees : state.stop ≡ None → claimed_by state.claims w ≡ Some id → has_id state.live id ≡ true → (¬ Agrees)
      → IsRefineAnswer opening state w id Agrees scope predicates NotHeld []
  stale : state.stop ≡ None → claimed_by state.claims w ≡ Some id → has_id state.live id ≡ false
      → IsRefineAnswer opening state w id Agrees scope predicates StaleClaim (StaleRefine w ∷ [])
  spent : state.stop ≡ None → Agrees → claimed_by state.claims w ≡ Some id → IsReason opening state w (Refinements opening.limits.refinements)
      → IsRefineAnswer opening state w id Agrees scope predicates Stopped (Stop w (Refinements opening.limits.refinements) ∷ [])
  overfills : (home : Home) → state.stop ≡ None → Agrees → claimed_by state.claims w ≡ Some id → IsReason opening state w (Predicates home)
      → IsRefineAnswer opening state w id Agrees scope predicates Stopped (Stop w (Predicates home) ∷ [])
  refines : (new : List Predicate) → state.stop ≡ None → Agrees → claimed_by state.claims w ≡ Some id → AreNew state.sets predicates new → IsRefine opening state w scope new
      → IsRefineAnswer opening state w id Agrees scope predicates (Done (length state.live - length (remaining (is_changed new) state.live))) (Refine w scope new ∷ [])

-- ---- stop

pub data StopAnswer : Type 0 where
  Recorded : StopAnswer
  StaleLeft : StopAnswer
  NotHeld : StopAnswer
  Stopped : StopAnswer

-- what is named in a stop: a job that is left, or a claim that is left, each with the worker that it was given to, or nothing that is held
pub data Named : Type 0 where
  OfTask : ℕ → Task → LeaveKind → Named
  OfClaim : ℕ → ℕ → TreeLeft → Named
  OfRun : Reason → Named

abbrev pub reason_of : Named → Reason
reason_of (OfTask v task kind) = JobLeft task.instance kind
reason_of (OfClaim v id left) = RootLeft id left
reason_of (OfRun reason) = reason

-- it was given to the worker, which holds it
abbrev pub IsNamed : State → ℕ → Named → Type 0
IsNamed state w (OfTask v task kind) = (v ≡ w) × (held_by state.holds w ≡ Some task)
IsNamed state w (OfClaim v id left) = (v ≡ w) × (claimed_by state.claims w ≡ Some id)
IsNamed state w (OfRun reason) = Unit {0}

-- it is stale
abbrev pub IsStale : State → Named → Type 0
IsStale state (OfTask v task kind) = is_present state task ≡ false
IsStale state (OfClaim v id left) = has_id state.live id ≡ false
IsStale state (OfRun reason) = ⊥

-- Worker w stops the run by what it names, which agrees with the run.
pub data IsStopAnswer (opening : Opening) (state : State) (w : ℕ) (Agrees : Type 0) (named : Named) : StopAnswer → List Event → Type 0 where
  stopped : state.stop ≢ None → IsFree state w → IsStopAnswer opening state w Agrees named Stopped []
  drops : state.stop ≢ None → (¬ IsFree state w) → IsStopAnswer opening state w Agrees named Stopped (StaleStop w ∷ [])
  other : state.stop ≡ None → (¬ IsNamed state w named) → IsStopAnswer opening state w Agrees named NotHeld []
  disagrees : state.stop ≡ None → IsNamed state w named → (¬ IsStale state named) → (¬ Agrees) → IsStopAnswer opening state w Agrees named NotHeld []
  stale : state.stop ≡ None → IsNamed state w named → IsStale state named → IsStopAnswer opening state w Agrees named StaleLeft (StaleStop w ∷ [])
  records : state.stop ≡ None → IsNamed state w named → Agrees → IsReason opening state w (reason_of named)
      → IsStopAnswer opening state w Agrees named Recorded (Stop w (reason_of named) ∷ [])
