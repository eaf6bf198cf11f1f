-- Jobs as a core hands them out, and takes them back.
use Rattle.std.specs.Prelude.{◌≡◌, ℕ, List, Option, Some, None, option_map}
use Rattle.thr_base.specs.declared.names.Instance.{Instance as StoredInstance}
use Rattle.transition_formula.specs.Program.{at_number}
use Rattle.horn_rules.specs.declared.job.Premise.{Premise}
use Rattle.horn_rules.specs.declared.job.Job.{Job}
use Rattle.horn_rules.specs.Home.{homes}
use Rattle.horn_rules.specs.Job.{IsJob}
use Rattle.horn_rules.specs.Stored.{fact_of, home_numbered, instance_of}
use Rattle.derivation_tree.specs.Facts.{fact_at}
use Rattle.core_steps.specs.declared.answers.Taken.{Taken}
use Rattle.core_steps.specs.declared.answers.Taken.TheVariants as taken
use Rattle.core_steps.specs.State.{Opening, State, Task}
use Rattle.core_steps.specs.Event.{Event}
use Rattle.core_steps.specs.Answers.{TakeAnswer, GivesJob, NothingPending, HoldsAlready, Stopped, IsTakeAnswer}
use Rattle.core_steps.specs.Course.{Course, opening_of, state_of, with_events}

-- The premise is a live fact, with the predicates of its home.
abbrev pub PremiseAgrees : Opening → State → Option Premise → Type 0
PremiseAgrees opening state None = Unit {0}
PremiseAgrees opening state (Some premise) =
    (fact_at state.live premise.id.0 ≡ Some (fact_of opening.program premise.fact))
    × (premise.set.value ≡ state.sets (home_numbered opening.program premise.fact.home.0))

-- The job agrees with the run: its premises are live facts, and all predicates are those that homes have.
pub record JobAgrees (opening : Opening) (state : State) (job : Job) : Type 0 where
  pub first : PremiseAgrees opening state job.first
  pub second : PremiseAgrees opening state job.second
  pub target : job.target.value ≡ state.sets (home_numbered opening.program job.home.0)

-- The job is of this task.
pub record IsJobOf (opening : Opening) (task : Task) (job : Job) : Type 0 where
  pub instance_is : instance_of job.instance ≡ task.instance
  pub home_is : at_number (homes opening.program) job.home.0 ≡ Some task.home
  pub epoch_is : job.epoch.0 ≡ task.epoch

-- Worker w is handed this job: it is of the task, fits the program, and agrees with the run.
pub record IsHandedOut (opening : Opening) (state : State) (w : ℕ) (task : Task) (job : Job) : Type 0 where
  pub program_is : job.program.now ≡ opening.program
  pub worker_is : job.worker ≡ w
  pub is_of : IsJobOf opening task job
  pub fits : IsJob opening.program job
  pub agrees : JobAgrees opening state job

-- the code's answer tells this one
abbrev pub TellsTaken : Opening → State → ℕ → TakeAnswer → Taken → Type 0
TellsTaken opening state w (GivesJob task) (taken.Job job) = IsHandedOut opening state w task job
TellsTaken opening state w NothingPending taken.NothingPending = Unit {0}
TellsTaken opening state w HoldsAlready taken.HoldsAlready = Unit {0}
TellsTaken opening state w Stopped taken.Stopped = Unit {0}
TellsTaken opening state w answer told = ⊥

-- What a take by worker w answers and adds.
pub record Takes (old : Course) (w : ℕ) (asked : Option StoredInstance) (told : Taken) (new : Course) : Type 0 where
  pub answer : TakeAnswer
  pub events : List Event
  pub is_answer : IsTakeAnswer (opening_of old) (state_of old) w (option_map instance_of asked) answer events
  pub tells : TellsTaken (opening_of old) (state_of old) w answer told
  pub course : new ≡ with_events old events
