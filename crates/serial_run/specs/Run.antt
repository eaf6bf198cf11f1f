-- What a run on one thread comes to.
use Rattle.std.specs.Prelude.{◌≡◌, ◌≢◌, ℕ, List, [], Some, None}
use Rattle.thr_base.specs.declared.limits.Limits.{Limits}
use Rattle.core_steps.specs.State.{Reason, Facts, Jobs, Refinements, Predicates, JobLeft, RootLeft, Unsafe, Memory}
use Rattle.core_steps.specs.Event.{Event}
use Rattle.core_steps.specs.Pending.{IsQuiet}
use Rattle.core_steps.specs.Course.{Course, opening_of, state_of, with_events}

-- No worker holds a job or a claim.
pub record IsIdle (course : Course) : Type 0 where
  pub no_jobs : (state_of course).holds ≡ []
  pub no_claims : (state_of course).claims ≡ []

-- A run that does not refine stops by its limits on facts and on publishes, at a job that is left, and for want of memory.
abbrev pub StopsARun : Limits → Reason → Type 0
StopsARun limits (Facts n) = n ≡ limits.facts
StopsARun limits (Jobs n) = n ≡ limits.jobs
StopsARun limits (JobLeft instance kind) = Unit {0}
StopsARun limits Memory = Unit {0}
StopsARun limits reason = ⊥

-- How it ended: a stop stood before, it is quiet, or it stopped.
pub data HasEnded (old new : Course) : Type 0 where
  stood : (state_of old).stop ≢ None → HasEnded old new
  is_quiet : IsQuiet (opening_of new) (state_of new) → HasEnded old new
  stops : (reason : Reason) → (state_of new).stop ≡ Some reason → StopsARun new.limits reason → HasEnded old new

-- There is more history, no home got a predicate, and the run has ended.
pub record Runs (old new : Course) : Type 0 where
  pub events : List Event
  pub course : new ≡ with_events old events
  pub sets_stay : (state_of new).sets ≡ (state_of old).sets
  pub refined_stays : (state_of new).refined ≡ (state_of old).refined
  pub idle : IsIdle new
  pub ended : HasEnded old new
