-- What the events of a run on one thread do to what is held.
use Rattle.std.proofs.Common.{◌≡◌, ℕ, suc, [], ◌∷◌, length, Option, Some, None, refl, sym, ap, subst, ◌∙◌}
use Rattle.horn_rules.specs.Home.{Home}
use Rattle.horn_rules.specs.Fact.{Fact}
use Rattle.derivation_tree.specs.Facts.{target_among}
use Rattle.core_steps.specs.State.{Opening, State, Task, Reason, held_by, holds_without, claims_without}
use Rattle.core_steps.specs.Event.{Event, Take, New, Same, Nothing, Stop}
use Rattle.core_steps.specs.After.{effect, with_job, with_fact, with_published, without_job}

-- A take of a pending task by worker 1 adds that hold.
pub taken-state : (opening : Opening) (state : State) (task : Task) → target_among opening.program state.live task.instance ≡ Some task.home → task.epoch ≡ state.epochs task.home
    → effect opening state (Take 1 task.instance) ≡ record state { holds = record { worker = 1; task = task } ∷ state.holds }
taken-state opening state task leads present =
    ap (with_job 1 task.instance state) leads ∙ ap (λ (epoch : ℕ). record state { holds = record { worker = 1; task = record { instance = task.instance; home = task.home; epoch = epoch } } ∷ state.holds }) (sym present)

-- The one thing that is held is a job of worker 1.
pub record HoldsOne (state : State) (task : Task) : Type 0 where
  pub holds : state.holds ≡ record { worker = 1; task = task } ∷ []
  pub claims : state.claims ≡ []

pub held-one : (state : State) (task : Task) → HoldsOne state task → held_by state.holds 1 ≡ Some task
held-one state task one = ap (λ holds. held_by holds 1) one.holds

-- One more job is published, and nothing is held.
pub record Publishes (state later : State) : Type 0 where
  pub holds : later.holds ≡ []
  pub claims : later.claims ≡ []
  pub sets : later.sets ≡ state.sets
  pub refined : later.refined ≡ state.refined
  pub stop : later.stop ≡ state.stop
  pub one_more : length later.published ≡ suc (length state.published)

dropped : (state : State) (task : Task) → HoldsOne state task → holds_without 1 state.holds ≡ []
dropped state task one = ap (holds_without 1) one.holds

-- what a new fact, and what any other publish leaves, by the job that is held
abbrev new_later : ℕ → Fact → State → Option Task → State
new_later id fact state held = without_job 1 (with_fact id fact (with_published state held) held)

abbrev post_later : State → Option Task → State
post_later state held = without_job 1 (with_published state held)

-- Each publish of the job that worker 1 holds does so.
pub new-publishes : (opening : Opening) (state : State) (task : Task) (id : ℕ) (fact : Fact) → HoldsOne state task → Publishes state (effect opening state (New 1 id fact))
new-publishes opening state task id fact one =
    let at = held-one state task one in
    record {
      holds = ap (λ (held : Option Task). (new_later id fact state held).holds) at ∙ dropped state task one;
      claims = ap (λ (held : Option Task). (new_later id fact state held).claims) at ∙ one.claims;
      sets = ap (λ (held : Option Task). (new_later id fact state held).sets) at;
      refined = ap (λ (held : Option Task). (new_later id fact state held).refined) at;
      stop = ap (λ (held : Option Task). (new_later id fact state held).stop) at;
      one_more = ap (λ (held : Option Task). length (new_later id fact state held).published) at;
    }

post-publishes : (state : State) (task : Task) → HoldsOne state task → Publishes state (post_later state (held_by state.holds 1))
post-publishes state task one =
    let at = held-one state task one in
    record {
      holds = ap (λ (held : Option Task). (post_later state held).holds) at ∙ dropped state task one;
      claims = ap (λ (held : Option Task). (post_later state held).claims) at ∙ one.claims;
      sets = ap (λ (held : Option Task). (post_later state held).sets) at;
      refined = ap (λ (held : Option Task). (post_later state held).refined) at;
      stop = ap (λ (held : Option Task). (post_later state held).stop) at;
      one_more = ap (λ (held : Option Task). length (post_later state held).published) at;
    }

pub same-publishes : (opening : Opening) (state : State) (task : Task) (id : ℕ) → HoldsOne state task → Publishes state (effect opening state (Same 1 id))
same-publishes opening state task id one = post-publishes state task one

pub nothing-publishes : (opening : Opening) (state : State) (task : Task) → HoldsOne state task → Publishes state (effect opening state (Nothing 1))
nothing-publishes opening state task one = post-publishes state task one

-- What a stop by worker 1 leaves, where nothing else is held.
pub record Stops (state later : State) : Type 0 where
  pub holds : later.holds ≡ []
  pub claims : later.claims ≡ []
  pub sets : later.sets ≡ state.sets
  pub refined : later.refined ≡ state.refined

pub stop-of-one : (opening : Opening) (state : State) (task : Task) (reason : Reason) → HoldsOne state task → Stops state (effect opening state (Stop 1 reason))
stop-of-one opening state task reason one = record {
  holds = dropped state task one;
  claims = ap (claims_without 1) one.claims;
  sets = refl;
  refined = refl;
}

pub stop-of-none : (opening : Opening) (state : State) (reason : Reason) → state.holds ≡ [] → state.claims ≡ [] → Stops state (effect opening state (Stop 1 reason))
stop-of-none opening state reason holds claims = record {
  holds = ap (holds_without 1) holds;
  claims = ap (claims_without 1) claims;
  sets = refl;
  refined = refl;
}
