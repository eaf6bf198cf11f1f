-- What a stop names, answers and adds.
use Rattle.std.specs.Prelude.{◌≡◌, ℕ, List}
use Rattle.transition_formula.specs.Program.{Program}
use Rattle.transition_formula.specs.StoredRun.{run_of}
use Rattle.derivation_tree.specs.Tree.{Tree}
use Rattle.derivation_tree.specs.Kept.{Leaving, OfJob, OfTree, HasTree}
use Rattle.derivation_tree.specs.Replay.{FailsAtReplay}
use Rattle.core_steps.specs.declared.event.Reason.{Reason as StoredReason}
use Rattle.core_steps.specs.declared.event.Reason.TheVariants as reason
use Rattle.core_steps.specs.declared.answers.StopAnswer.{StopAnswer as StoredAnswer}
use Rattle.core_steps.specs.declared.answers.StopAnswer.TheVariants as told
use Rattle.core_steps.specs.State.{Opening, State}
use Rattle.core_steps.specs.Event.{Event}
use Rattle.core_steps.specs.Allowed.{IsOfSize}
use Rattle.core_steps.specs.Stored.{reason_of}
use Rattle.core_steps.specs.Course.{Course, opening_of, state_of, with_events}
use Rattle.core_steps.specs.Jobs.{JobAgrees}
use Rattle.core_steps.specs.Publishes.{job_task}
use Rattle.core_steps.specs.Claims.{KeptAgrees}
use Rattle.core_steps.specs.Ends.{Named, OfTask, OfClaim, OfRun, StopAnswer, Recorded, StaleLeft, NotHeld, Stopped, IsStopAnswer}

-- what is named by what is left: a job or a claim, each with its worker
abbrev pub named_left : Program → Leaving → Named
named_left program (OfJob job kind) = OfTask job.worker (job_task program job) kind
named_left program (OfTree kept left) = OfClaim kept.worker kept.root left

-- what is named by a reason
abbrev pub named_of : Program → StoredReason → Named
named_of program (reason.Left left) = named_left program left
named_of program why = OfRun (reason_of why)

-- What is left agrees with the run.
abbrev pub LeavingAgrees : Opening → State → Leaving → Type 0
LeavingAgrees opening state (OfJob job kind) = JobAgrees opening state job
LeavingAgrees opening state (OfTree kept left) = KeptAgrees state kept

abbrev pub ReasonAgrees : Opening → State → StoredReason → Type 0
ReasonAgrees opening state (reason.Left left) = LeavingAgrees opening state left
ReasonAgrees opening state why = Unit {0}

-- ---- which reasons a worker may give

-- What is left is of the run's program, and a tree is left for its size by the run's limit, and for all else where it is not too large.
abbrev pub IsOfRun : Opening → Leaving → Type 0
IsOfRun opening (OfJob job kind) = job.program.now ≡ opening.program
IsOfRun opening (OfTree kept left) = (kept.program ≡ opening.program) × ((tree : Tree) → HasTree kept tree → IsOfSize opening.limits.tree tree left)

-- A reason that may be given: what is left of the run, a schedule that fails, or want of memory.
abbrev pub MayBeGiven : Opening → StoredReason → Type 0
MayBeGiven opening (reason.Left left) = IsOfRun opening left
MayBeGiven opening (reason.Unsafe schedule) = FailsAtReplay opening.program (run_of schedule)
MayBeGiven opening reason.Memory = Unit {0}
MayBeGiven opening why = ⊥

-- ---- the call

-- the code's answer tells this one
abbrev pub TellsStopped : StopAnswer → StoredAnswer → Type 0
TellsStopped Recorded told.Recorded = Unit {0}
TellsStopped StaleLeft told.Stale = Unit {0}
TellsStopped NotHeld told.NotHeld = Unit {0}
TellsStopped Stopped told.Stopped = Unit {0}
TellsStopped answer code = ⊥

-- What a stop by worker w answers and adds.
pub record Stops (old : Course) (w : ℕ) (why : StoredReason) (stored : StoredAnswer) (new : Course) : Type 0 where
  pub answer : StopAnswer
  pub events : List Event
  pub is_answer : IsStopAnswer (opening_of old) (state_of old) w (ReasonAgrees (opening_of old) (state_of old) why) (named_of old.program why) answer events
  pub tells : TellsStopped answer stored
  pub course : new ≡ with_events old events
