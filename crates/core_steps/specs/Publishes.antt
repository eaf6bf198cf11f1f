-- What a publish answers and adds.
use Rattle.std.specs.Prelude.{◌≡◌, List, Option, option_map}
use Rattle.thr_base.specs.Held.{positions}
use Rattle.transition_formula.specs.Program.{Program}
use Rattle.horn_rules.specs.declared.job.Job.{Job}
use Rattle.horn_rules.specs.Job.{JobOutcome}
use Rattle.horn_rules.specs.Fact.{Fact}
use Rattle.horn_rules.specs.Stored.{home_numbered, instance_of}
use Rattle.core_steps.specs.declared.answers.Published.{Published}
use Rattle.core_steps.specs.declared.answers.Published.TheVariants as told
use Rattle.core_steps.specs.State.{Task}
use Rattle.core_steps.specs.Event.{Event}
use Rattle.core_steps.specs.Answers.{PublishAnswer, NewFact, SameFact, NothingPosted, StaleJob, NotHeld, Stopped, IsPublishAnswer}
use Rattle.core_steps.specs.Course.{Course, opening_of, state_of, with_events}
use Rattle.core_steps.specs.Jobs.{JobAgrees}

-- the task that a job is of
abbrev pub job_task : Program → Job → Task
job_task program job = record { instance = instance_of job.instance; home = home_numbered program job.home.0; epoch = job.epoch.0 }

-- the fact that is posted, or nothing
abbrev pub fact_posted : Program → JobOutcome → Option Fact
fact_posted program posted = option_map (λ held. record { home = home_numbered program posted.job.home.0; held = positions held }) posted.held

-- the code's answer tells this one
abbrev pub TellsPublished : PublishAnswer → Published → Type 0
TellsPublished (NewFact n) (told.New id) = n ≡ id.0
TellsPublished (SameFact n) (told.Same id) = n ≡ id.0
TellsPublished NothingPosted told.Nothing = Unit {0}
TellsPublished StaleJob told.Stale = Unit {0}
TellsPublished NotHeld told.NotHeld = Unit {0}
TellsPublished Stopped told.Stopped = Unit {0}
TellsPublished answer published = ⊥

-- What a publish of a job with its outcome answers and adds.
pub record Publishes (old : Course) (posted : JobOutcome) (published : Published) (new : Course) : Type 0 where
  pub answer : PublishAnswer
  pub events : List Event
  pub is_answer : IsPublishAnswer (opening_of old) (state_of old) posted.job.worker (job_task old.program posted.job) (JobAgrees (opening_of old) (state_of old) posted.job)
      (fact_posted old.program posted) answer events
  pub tells : TellsPublished answer published
  pub course : new ≡ with_events old events
