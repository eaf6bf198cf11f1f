-- One job of a run.
use Rattle.std.specs.Prelude.{◌≡◌, ◌⊎◌, ◌<◌, ◌≤◌, suc, true, List, [], ◌∷◌, length, None}
use Rattle.horn_rules.specs.declared.job.Job.{Job}
use Rattle.horn_rules.specs.Job.{IsJob}
use Rattle.core_steps.specs.State.{Opening, State}
use Rattle.core_steps.specs.Event.{Event}
use Rattle.core_steps.specs.Pending.{is_present}
use Rattle.core_steps.specs.Course.{Course, opening_of, state_of, with_events}
use Rattle.core_steps.specs.Jobs.{JobAgrees}
use Rattle.core_steps.specs.Publishes.{job_task}
use Rattle.serial_run.specs.Run.{IsIdle, Runs}
use Rattle.serial_run.specs.declared.next.Went.{Went}
use Rattle.serial_run.specs.declared.next.Went.TheVariants.{On, Ended}

-- The one thing that is held is this job, of worker 1, as the run hands it out.
pub record HoldsJob (opening : Opening) (state : State) (job : Job) : Type 0 where
  pub held : state.holds ≡ record { worker = 1; task = job_task opening.program job } ∷ []
  pub no_claims : state.claims ≡ []
  pub no_stop : state.stop ≡ None
  pub program_is : job.program.now ≡ opening.program
  pub worker_is : job.worker ≡ 1
  pub fits : IsJob opening.program job
  pub agrees : JobAgrees opening state job
  pub present : is_present state (job_task opening.program job) ≡ true
  pub left_over : length state.published < opening.limits.jobs

abbrev pub HasJob : Course → Job → Type 0
HasJob course job = HoldsJob (opening_of course) (state_of course) job

-- Nothing is held, or a job of worker 1 alone, as the run hands it out.
abbrev pub HoldsOwn : Course → Type 0
HoldsOwn course = IsIdle course ⊎ ((job : Job) × HasJob course job)

-- One more job is published.
pub record Advances (old new : Course) : Type 0 where
  pub events : List Event
  pub course : new ≡ with_events old events
  pub sets_stay : (state_of new).sets ≡ (state_of old).sets
  pub refined_stays : (state_of new).refined ≡ (state_of old).refined
  pub no_stop : (state_of new).stop ≡ None
  pub idle : IsIdle new
  pub one_more : length (state_of new).published ≡ suc (length (state_of old).published)
  pub few : length (state_of new).published ≤ old.limits.jobs

-- There is more history, and nothing is held.
pub record Reaches (old new : Course) : Type 0 where
  pub events : List Event
  pub course : new ≡ with_events old events
  pub sets_stay : (state_of new).sets ≡ (state_of old).sets
  pub refined_stays : (state_of new).refined ≡ (state_of old).refined
  pub no_stop : (state_of old).stop ≡ None → (state_of new).stop ≡ None
  pub idle : IsIdle new

-- The job that was taken is all that changed.
pub record HasTaken (old : Course) (job : Job) (new : Course) : Type 0 where
  pub events : List Event
  pub course : new ≡ with_events old events
  pub sets_stay : (state_of new).sets ≡ (state_of old).sets
  pub refined_stays : (state_of new).refined ≡ (state_of old).refined
  pub no_stop : (state_of old).stop ≡ None
  pub as_many : length (state_of new).published ≡ length (state_of old).published
  pub has_job : HasJob new job

-- What is done with the next job.
abbrev pub GoesFrom : Course → Went → Course → Type 0
GoesFrom old On new = Advances old new
GoesFrom old Ended new = Runs old new
