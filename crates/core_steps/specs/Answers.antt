-- What each call on a run is to answer, and the events that it adds, by the state that it finds. Looked at in this order: a stop; whether the
-- worker holds something already, or does not hold what it names; what is stale; the rest.
use Rattle.std.specs.Prelude.{◌≡◌, ◌≢◌, ◌≤◌, ◌+◌, ℕ, true, false, List, [], ◌∷◌, length, Option, Some, None}
use Rattle.std.specs.List.{Contains}
use Rattle.horn_rules.specs.Home.{State as AtLocation}
use Rattle.horn_rules.specs.Fact.{Fact}
use Rattle.horn_rules.specs.Instance.{Instance}
use Rattle.derivation_tree.specs.Facts.{fact_at}
use Rattle.derivation_tree.specs.Tree.{thread_of}
use Rattle.core_steps.specs.State.{Opening, State, Facts, Jobs, Task, Claimed, held_by, IsFree}
use Rattle.core_steps.specs.Event.{Event, Take, New, Same, Nothing, StalePublish, Claim}
use Rattle.core_steps.specs.Event as event
use Rattle.core_steps.specs.Pending.{IsPending, is_present}
use Rattle.core_steps.specs.Allowed.{IsTake, IsNewPublish, IsSamePublish, IsNothingPublish, IsClaim, IsReason}

-- ---- take

pub data TakeAnswer : Type 0 where
  GivesJob : Task → TakeAnswer
  NothingPending : TakeAnswer
  HoldsAlready : TakeAnswer
  Stopped : TakeAnswer

-- Some job may be handed out, of those that are asked for.
abbrev pub IsAskedFor : Option (Instance ℕ) → Task → Type 0
IsAskedFor None task = Unit {0}
IsAskedFor (Some instance) task = task.instance ≡ instance

-- Of any job, one of the worker's own thread is preferred.
abbrev pub IsPreferred : Opening → State → ℕ → Option (Instance ℕ) → Task → Type 0
IsPreferred opening state w (Some instance) task = Unit {0}
IsPreferred opening state w None task = (other : Task) → IsPending opening state other → thread_of other.home ≡ w → thread_of task.home ≡ w

-- worker w asks for any job, or for one of this instance
pub data IsTakeAnswer (opening : Opening) (state : State) (w : ℕ) (asked : Option (Instance ℕ)) : TakeAnswer → List Event → Type 0 where
  stopped : state.stop ≢ None → IsTakeAnswer opening state w asked Stopped []
  holds : state.stop ≡ None → (¬ IsFree state w) → IsTakeAnswer opening state w asked HoldsAlready []
  none_pending : state.stop ≡ None → IsFree state w → ((task : Task) → IsAskedFor asked task → ¬ IsPending opening state task)
      → IsTakeAnswer opening state w asked NothingPending []
  spent : (task : Task) → state.stop ≡ None → IsFree state w → IsAskedFor asked task → IsPending opening state task → opening.limits.jobs ≤ length state.published
      → IsTakeAnswer opening state w asked Stopped (event.Stop w (Jobs opening.limits.jobs) ∷ [])
  gives : (task : Task) → state.stop ≡ None → IsAskedFor asked task → IsPending opening state task → IsPreferred opening state w asked task
      → IsTake opening state w task.instance → IsTakeAnswer opening state w asked (GivesJob task) (Take w task.instance ∷ [])

-- ---- publish

pub data PublishAnswer : Type 0 where
  NewFact : ℕ → PublishAnswer
  SameFact : ℕ → PublishAnswer
  NothingPosted : PublishAnswer
  StaleJob : PublishAnswer
  NotHeld : PublishAnswer
  Stopped : PublishAnswer

-- Worker w publishes a job of this task, which agrees with the run in its premises and their predicates, with the fact that is its post, or
-- nothing.
pub data IsPublishAnswer (opening : Opening) (state : State) (w : ℕ) (task : Task) (Agrees : Type 0) : Option Fact → PublishAnswer → List Event → Type 0 where
  stopped : (fact : Option Fact) → state.stop ≢ None → held_by state.holds w ≡ None → IsPublishAnswer opening state w task Agrees fact Stopped []
  drops : (fact : Option Fact) (held : Task) → state.stop ≢ None → held_by state.holds w ≡ Some held
      → IsPublishAnswer opening state w task Agrees fact Stopped (StalePublish w ∷ [])
  other_job : (fact : Option Fact) → state.stop ≡ None → held_by state.holds w ≢ Some task → IsPublishAnswer opening state w task Agrees fact NotHeld []
  disagrees : (fact : Option Fact) → state.stop ≡ None → held_by state.holds w ≡ Some task → is_present state task ≡ true → (¬ Agrees)
      → IsPublishAnswer opening state w task Agrees fact NotHeld []
  stale : (fact : Option Fact) → state.stop ≡ None → held_by state.holds w ≡ Some task → is_present state task ≡ false
      → IsPublishAnswer opening state w task Agrees fact StaleJob (StalePublish w ∷ [])
  full : (fact : Fact) → state.stop ≡ None → Agrees → held_by state.holds w ≡ Some task → IsReason opening state w (Facts opening.limits.facts)
      → IsPublishAnswer opening state w task Agrees (Some fact) Stopped (event.Stop w (Facts opening.limits.facts) ∷ [])
  new : (fact : Fact) → state.stop ≡ None → Agrees → held_by state.holds w ≡ Some task → IsNewPublish opening state w (state.given + 1) fact
      → IsPublishAnswer opening state w task Agrees (Some fact) (NewFact (state.given + 1)) (New w (state.given + 1) fact ∷ [])
  same : (fact : Fact) (id : ℕ) → state.stop ≡ None → Agrees → held_by state.holds w ≡ Some task → fact_at state.live id ≡ Some fact → IsSamePublish opening state w id
      → IsPublishAnswer opening state w task Agrees (Some fact) (SameFact id) (Same w id ∷ [])
  nothing : state.stop ≡ None → Agrees → held_by state.holds w ≡ Some task → IsNothingPublish opening state w → IsPublishAnswer opening state w task Agrees None NothingPosted (Nothing w ∷ [])

-- ---- claim

pub data ClaimAnswer : Type 0 where
  GivesClaim : ℕ → ClaimAnswer
  NothingClaimable : ClaimAnswer
  HoldsAlready : ClaimAnswer
  Stopped : ClaimAnswer

-- Every live fact at location 0 has been claimed.
abbrev pub AreAllClaimed : State → Type 0
AreAllClaimed state =
    (id i : ℕ) (fact : Fact) → fact_at state.live id ≡ Some fact → fact.home ≡ AtLocation i 0 → (claim : Claimed) × Contains state.claims claim × (claim.root ≡ id)

-- worker w asks for a claim
pub data IsClaimAnswer (opening : Opening) (state : State) (w : ℕ) : ClaimAnswer → List Event → Type 0 where
  stopped : state.stop ≢ None → IsClaimAnswer opening state w Stopped []
  holds : state.stop ≡ None → (¬ IsFree state w) → IsClaimAnswer opening state w HoldsAlready []
  none_claimable : state.stop ≡ None → IsFree state w → AreAllClaimed state → IsClaimAnswer opening state w NothingClaimable []
  gives : (id : ℕ) → state.stop ≡ None → IsClaim state w id → IsClaimAnswer opening state w (GivesClaim id) (Claim w id ∷ [])
