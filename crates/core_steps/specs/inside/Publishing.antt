-- What a publish comes to, step by step.
use Rattle.std.specs.Prelude.{◌≡◌, ◌⊎◌, List, ℕ, [], ◌∷◌, Some, None}
use Rattle.thr_base.specs.declared.names.Fact.{Fact as StoredFact}
use Rattle.fact_table.specs.declared.table.Inserted.{Inserted}
use Rattle.fact_table.specs.declared.table.Inserted.TheVariants as inserted
use Rattle.transition_formula.specs.Program.{Program}
use Rattle.horn_rules.specs.declared.job.Job.{Job}
use Rattle.horn_rules.specs.Case.{Case}
use Rattle.horn_rules.specs.Post.{IsFactOf}
use Rattle.horn_rules.specs.Laws.{IsWord}
use Rattle.horn_rules.specs.Stored.{HasItsHome, fact_of}
use Rattle.derivation_tree.specs.Facts.{fact_at}
use Rattle.core_steps.specs.State.{Opening, State, Task, held_by}
use Rattle.core_steps.specs.Event.{Event, New, Same, StalePublish}
use Rattle.core_steps.specs.Allowed.{Posts, IsNewPublish, IsSamePublish, IsFull}
use Rattle.core_steps.specs.Course.{Course, state_of, with_events}
use Rattle.core_steps.specs.Publishes.{job_task}

-- After a stop: the job that the worker holds is dropped, if it holds one.
abbrev pub DropsAny : Course → ℕ → Course → Type 0
DropsAny old w new =
    ((held_by (state_of old).holds w ≡ None) × (new ≡ old))
    ⊎ ((task : Task) × (held_by (state_of old).holds w ≡ Some task) × (new ≡ with_events old (StalePublish w ∷ [])))

-- The fact is the post of a job that its worker holds.
pub record IsToPublish (opening : Opening) (state : State) (job : Job) (fact : StoredFact) : Type 0 where
  pub no_stop : state.stop ≡ None
  pub home : HasItsHome opening.program fact
  pub word : IsWord fact
  pub given : Case
  pub posts : Posts opening state job.worker (job_task opening.program job) given
  pub is_fact : IsFactOf state.sets given (fact_of opening.program fact)

-- How it comes in: as a new fact, or one that is live already; or as many are live as may be.
abbrev pub AddsAs : Opening → State → Job → StoredFact → Inserted → Type 0
AddsAs opening state job fact (inserted.New id) = IsNewPublish opening state job.worker id.0 (fact_of opening.program fact)
AddsAs opening state job fact (inserted.Same id) =
    IsSamePublish opening state job.worker id.0 × (fact_at state.live id.0 ≡ Some (fact_of opening.program fact))
AddsAs opening state job fact inserted.Full = IsFull opening state job.worker

-- the event of it
abbrev pub added_events : Program → Job → StoredFact → Inserted → List Event
added_events program job fact (inserted.New id) = New job.worker id.0 (fact_of program fact) ∷ []
added_events program job fact (inserted.Same id) = Same job.worker id.0 ∷ []
added_events program job fact inserted.Full = []
