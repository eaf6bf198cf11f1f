-- How what a worker names stands.
use Rattle.std.specs.Prelude.{◌≡◌, ◌⊎◌, ℕ, false, ◌==◌, ◌||◌, Bool, List, [], ◌∷◌, Some}
use Rattle.std.specs.List.{list_any, list_all}
use Rattle.thr_base.specs.declared.names.FactId.{FactId}
use Rattle.thr_base.specs.declared.names.Fact.{Fact as StoredFact}
use Rattle.thr_base.specs.declared.names.Instance.{Instance as StoredInstance}
use Rattle.horn_rules.specs.Instance.{Instance, premises_of}
use Rattle.horn_rules.specs.Stored.{instance_of}
use Rattle.horn_rules.specs.declared.job.Job.{Job}
use Rattle.derivation_tree.specs.Kept.{KeptTree, Leaving}
use Rattle.core_steps.specs.declared.standing.Standing.{Standing}
use Rattle.core_steps.specs.declared.standing.Standing.TheVariants as standing
use Rattle.core_steps.specs.declared.event.Reason.{Reason as StoredReason}
use Rattle.core_steps.specs.State.{Opening, State, claimed_by, held_by, IsFree}
use Rattle.core_steps.specs.Event.{StaleStop}
use Rattle.core_steps.specs.Pending.{is_present}
use Rattle.core_steps.specs.Withdrawn.{has_id}
use Rattle.core_steps.specs.Jobs.{JobAgrees}
use Rattle.core_steps.specs.Publishes.{job_task}
use Rattle.core_steps.specs.Claims.{KeptAgrees}
use Rattle.core_steps.specs.Ends.{IsNamed, IsStale}
use Rattle.core_steps.specs.Stops.{LeavingAgrees, ReasonAgrees, named_left, named_of}
use Rattle.core_steps.specs.Course.{Course, state_of, with_events}

-- What is named is not held, or not the run's; it is stale; or it stands.
abbrev pub StandsSo : Type 0 → Type 0 → Type 0 → Standing → Type 0
StandsSo Named Stale Agrees standing.Foreign = (¬ Named) ⊎ (Named × (¬ Stale) × (¬ Agrees))
StandsSo Named Stale Agrees standing.Stale = Named × Stale
StandsSo Named Stale Agrees standing.Holds = Named × (¬ Stale) × Agrees

-- How a job stands that worker w names.
abbrev pub JobStands : Opening → State → ℕ → Job → Standing → Type 0
JobStands opening state w job how =
    let task = job_task opening.program job in
    StandsSo ((job.worker ≡ w) × (held_by state.holds w ≡ Some task)) (is_present state task ≡ false) (JobAgrees opening state job) how

-- The worker has claimed the root of what is kept.
abbrev pub IsClaimOf : State → ℕ → KeptTree → Type 0
IsClaimOf state w kept = (kept.worker ≡ w) × (claimed_by state.claims w ≡ Some kept.root)

abbrev pub IsGone : State → KeptTree → Type 0
IsGone state kept = has_id state.live kept.root ≡ false

-- How a claim stands.
abbrev pub ClaimStands : State → ℕ → KeptTree → Standing → Type 0
ClaimStands state w kept how = StandsSo (IsClaimOf state w kept) (IsGone state kept) (KeptAgrees state kept) how

-- How what is left stands, and what a reason names.
abbrev pub LeftStands : Opening → State → ℕ → Leaving → Standing → Type 0
LeftStands opening state w left how =
    let named = named_left opening.program left in
    StandsSo (IsNamed state w named) (IsStale state named) (LeavingAgrees opening state left) how

abbrev pub ReasonStands : Opening → State → ℕ → StoredReason → Standing → Type 0
ReasonStands opening state w why how =
    let named = named_of opening.program why in
    StandsSo (IsNamed state w named) (IsStale state named) (ReasonAgrees opening state why) how

-- This is so where it stands.
abbrev pub WhereItStands : Standing → Type 0 → Type 0
WhereItStands standing.Holds So = So
WhereItStands other So = Unit {0}

-- After a stop: what the worker holds is dropped, if it holds anything.
abbrev pub DropsWhatIsHeld : Course → ℕ → Course → Type 0
DropsWhatIsHeld old w new = (IsFree (state_of old) w × (new ≡ old)) ⊎ ((¬ IsFree (state_of old) w) × (new ≡ with_events old (StaleStop w ∷ [])))

-- ---- what is kept

-- the instance has a premise of this id
abbrev pub names : Instance ℕ → ℕ → Bool
names instance id = list_any (λ p. p == id) (premises_of instance)

-- so has one of these facts
abbrev pub names_any : List (FactId × StoredFact × StoredInstance) → ℕ → Bool
names_any facts id = list_any (λ f. names (instance_of f.2) id) facts

-- each of the facts is that of the root, or a premise of one of them
abbrev pub are_all_below : ℕ → List (FactId × StoredFact × StoredInstance) → Bool
are_all_below root facts = list_all (λ f. f.0.0 == root || names_any facts f.0.0) facts
