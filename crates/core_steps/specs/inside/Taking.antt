-- What is taken, and what handing it out comes to.
use Rattle.std.specs.Prelude.{◌≡◌, ◌≤◌, ◌<◌, ℕ, [], ◌∷◌, length, Some, None}
use Rattle.thr_base.specs.declared.names.Instance.{Instance as StoredInstance}
use Rattle.transition_formula.specs.Program.{at_number}
use Rattle.horn_rules.specs.Home.{homes}
use Rattle.horn_rules.specs.Stored.{instance_of}
use Rattle.instance_cursors.specs.declared.choosing.Next.{Next}
use Rattle.core_steps.specs.declared.answers.Taken.{Taken}
use Rattle.core_steps.specs.declared.answers.Taken.TheVariants as taken
use Rattle.core_steps.specs.State.{Opening, State, Task, Jobs}
use Rattle.core_steps.specs.Event.{Take, Stop}
use Rattle.core_steps.specs.Pending.{IsPending}
use Rattle.core_steps.specs.Answers.{IsPreferred}
use Rattle.core_steps.specs.Course.{Course, opening_of, state_of, with_events}
use Rattle.core_steps.specs.Jobs.{IsHandedOut}
use Rattle.core_steps.specs.inside.Parts.{IsPendingOf}

abbrev pub NonePending : Opening → State → Type 0
NonePending opening state = (task : Task) → ¬ IsPending opening state task

abbrev pub IsNotPending : Opening → State → StoredInstance → Type 0
IsNotPending opening state instance = ¬ IsPendingOf opening state (instance_of instance)

-- The task of what is taken next, which is pending.
pub record IsNextOf (opening : Opening) (state : State) (next : Next) (task : Task) : Type 0 where
  pub instance_is : task.instance ≡ instance_of next.instance
  pub home_is : at_number (homes opening.program) next.home.0 ≡ Some task.home
  pub pending : IsPending opening state task

-- Some such task, of the worker's own thread where there is one.
abbrev pub IsChosen : Opening → State → ℕ → Next → Type 0
IsChosen opening state w next = (task : Task) × IsNextOf opening state next task × IsPreferred opening state w None task

abbrev pub IsThisOne : Opening → State → StoredInstance → Next → Type 0
IsThisOne opening state instance next = (next.instance ≡ instance) × ((task : Task) × IsNextOf opening state next task)

-- What comes of handing the job of a task out: the job, or a stop where no publishes are left.
abbrev pub HandsOut : Course → ℕ → Next → Taken → Course → Type 0
HandsOut old w next (taken.Job job) new =
    (length (state_of old).published < old.limits.jobs)
    × ((task : Task) × IsNextOf (opening_of old) (state_of old) next task × IsHandedOut (opening_of old) (state_of old) w task job)
    × (new ≡ with_events old (Take w (instance_of next.instance) ∷ []))
HandsOut old w next taken.NothingPending new = ⊥
HandsOut old w next taken.HoldsAlready new = ⊥
HandsOut old w next taken.Stopped new = (old.limits.jobs ≤ length (state_of old).published) × (new ≡ with_events old (Stop w (Jobs old.limits.jobs) ∷ []))
