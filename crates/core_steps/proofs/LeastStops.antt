-- Where no predicate was added, a stop tells of the least set.
use Rattle.std.proofs.Common.{◌≡◌, ◌≢◌, ◌<◌, ◌≤◌, ◌+◌, ℕ, suc, List, [], ◌∷◌, length, map, Option, Some, None, refl, sym, ap, ap₂, subst, ◌∙◌, inl, inr, arith}
use Rattle.std.specs.Prelude.{unwrap_or}
use Rattle.std.specs.List.{AllByRecursion, Contains}
use Rattle.lin_rows.proofs.Lists.{AllByRecursion-weaken}
use Rattle.transition_formula.specs.Program.{Program, IsProgram}
use Rattle.horn_rules.specs.Home.{Home, State as AtLocation, IsHomeOf}
use Rattle.horn_rules.specs.Fact.{Sets, Fact, Statement, statement_of}
use Rattle.horn_rules.specs.Instance.{Instance, Init, Own, Guar, Env, Inter, HasKind, premises_of, map_instance}
use Rattle.horn_rules.specs.Case.{Case, IsCaseOf}
use Rattle.horn_rules.specs.Post.{IsFactOf}
use Rattle.horn_rules.specs.Least.{Least}
use Rattle.horn_rules.specs.Target.{target_of}
use Rattle.horn_rules.proofs.ByNumber.{IsOnce, once-pairs}
use Rattle.horn_rules.proofs.Derivations.{given-least}
use Rattle.horn_rules.proofs.Lists.{Contains-first, Contains-later, first-or-later, contains-nothing, Contains-map, Contains-unmap, all-contained}
use Rattle.horn_rules.proofs.Targets.{targets-have-cases}
use Rattle.derivation_tree.specs.Facts.{KeptFact, fact_at, target_among}
use Rattle.derivation_tree.proofs.Derivations.{target-there}
use Rattle.core_steps.specs.State.{Opening, State, Task, Hold, held_by, holds_without, start_of, IsOpening}
use Rattle.core_steps.specs.Event.{Event, Take, New, Same, Nothing, StalePublish, Claim, Refine, StaleRefine, Stop, StaleStop, History}
use Rattle.core_steps.specs.After.{with_job, with_fact, with_published, without_job, effect, after}
use Rattle.core_steps.specs.Allowed.{IsOver, IsLiveFact, Posts, IsTake, IsNewPublish}
use Rattle.core_steps.specs.Bounds.{IsLeast, AreMoreThan, IsLeastInstance}
use Rattle.core_steps.proofs.Live.{Falls, fact_at-found, found-fact_at, map-map, map-same, all-unmap, kind-other, target_among-premises}
use Rattle.core_steps.proofs.Derived.{IsDerived, AreDerived}
use Rattle.core_steps.proofs.Keeps.{Keeps, without-from, held_by-found}
use Rattle.core_steps.proofs.Events.{Found, leads-found}

-- ---- what stays where no predicate is added

-- The task leads to its home from live facts, in the first epoch.
pub record Leads (opening : Opening) (live : List KeptFact) (task : Task) : Type 0 where
  pub leads : target_among opening.program live task.instance ≡ Some task.home
  pub first : task.epoch ≡ 0

-- No home got a predicate, no fact is live twice, and what is held or published leads.
pub record Unrefined (opening : Opening) (state : State) : Type 0 where
  pub sets_are : state.sets ≡ opening.sets
  pub epochs_are : (home : Home) → state.epochs home ≡ 0
  pub apart : (a b : KeptFact) → Contains state.live a → Contains state.live b → a.fact ≡ b.fact → a ≡ b
  pub held : (hold : Hold) → Contains state.holds hold → Leads opening state.live hold.task
  pub published : (task : Task) → Contains state.published task → Leads opening state.live task

pub unrefined-start : (opening : Opening) → Unrefined opening (start_of opening)
unrefined-start opening = record {
  sets_are = refl;
  epochs_are = λ home. refl;
  apart = λ a b there also e. absurd (contains-nothing a there);
  held = λ hold there. absurd (contains-nothing hold there);
  published = λ task there. absurd (contains-nothing task there);
}

-- What leads still does where one more fact is live.
leads-later : (opening : Opening) (f : KeptFact) (live : List KeptFact) (task : Task) → Falls (f ∷ live) → Leads opening live task → Leads opening (f ∷ live) task
leads-later opening f live task falls leads =
    let found = leads-found opening.program live task.instance task.home leads.leads in
    let later = AllByRecursion-weaken (Contains live) (Contains (f ∷ live)) (λ g there. Contains-later f g live there) (premises_of found.premises) found.are_live in
    record {
      leads =
          ap (target_among opening.program (f ∷ live)) (sym found.ids) ∙ target_among-premises opening.program (f ∷ live) found.premises falls later
          ∙ sym (target_among-premises opening.program live found.premises falls.1 found.are_live) ∙ ap (target_among opening.program live) found.ids ∙ leads.leads;
      first = leads.first;
    }

-- one more job is held
unrefined-held : (opening : Opening) (state : State) (w : ℕ) (task : Task) → Unrefined opening state → Leads opening state.live task
    → Unrefined opening (record state { holds = record { worker = w; task = task } ∷ state.holds })
unrefined-held opening state w task is leads =
    let new : Hold = record { worker = w; task = task } in
    record {
      sets_are = is.sets_are;
      epochs_are = is.epochs_are;
      apart = is.apart;
      held = λ hold there. elim (first-or-later new hold state.holds there) [
        | inl same ↦ subst (λ h. Leads opening state.live (Hold.task h)) same leads
        | inr later ↦ is.held hold later
      ];
      published = is.published;
    }

-- some jobs are held no longer
pub unrefined-fewer : (opening : Opening) (state : State) (w : ℕ) → Unrefined opening state → Unrefined opening (record state { holds = holds_without w state.holds })
unrefined-fewer opening state w is = record {
  sets_are = is.sets_are;
  epochs_are = is.epochs_are;
  apart = is.apart;
  held = λ hold there. is.held hold (without-from w state.holds hold there).0;
  published = is.published;
}

-- a job is published
unrefined-published : (opening : Opening) (state : State) (w : ℕ) (task : Task) → Unrefined opening state → held_by state.holds w ≡ Some task
    → Unrefined opening (record state { published = task ∷ state.published; holds = holds_without w state.holds })
unrefined-published opening state w task is held =
    let (own, there, worker_is, task_is) = held_by-found state.holds w task held in
    record {
      sets_are = is.sets_are;
      epochs_are = is.epochs_are;
      apart = is.apart;
      held = λ hold kept. is.held hold (without-from w state.holds hold kept).0;
      published = λ other among. elim (first-or-later task other state.published among) [
        | inl same ↦ subst (Leads opening state.live) (task_is ∙ same) (is.held own there)
        | inr later ↦ is.published other later
      ];
    }

-- one more fact is live
unrefined-live : (opening : Opening) (state : State) (f : KeptFact) (given : ℕ) → Unrefined opening state → Falls (f ∷ state.live) → (¬ IsLiveFact state f.fact)
    → Unrefined opening (record state { live = f ∷ state.live; given = given })
unrefined-live opening state f given is falls new =
    let other : (g : KeptFact) → Contains state.live g → f.fact ≡ g.fact → ⊥ =
    λ g there e. new (subst (Contains (map (λ (h : KeptFact). h.fact) state.live)) (sym e) (Contains-map (λ (h : KeptFact). h.fact) state.live g there)) in
    record {
      sets_are = is.sets_are;
      epochs_are = is.epochs_are;
      apart = λ a b there also e. elim (first-or-later f a state.live there) [
        | inl same ↦ elim (first-or-later f b state.live also) [
          | inl same_b ↦ sym same ∙ same_b
          | inr later_b ↦ absurd (other b later_b (ap (λ g. KeptFact.fact g) same ∙ e))
        ]
        | inr later ↦ elim (first-or-later f b state.live also) [
          | inl same_b ↦ absurd (other a later (ap (λ g. KeptFact.fact g) same_b ∙ sym e))
          | inr later_b ↦ is.apart a b later later_b e
        ]
      ];
      held = λ hold there. leads-later opening f state.live hold.task falls (is.held hold there);
      published = λ task there. leads-later opening f state.live task falls (is.published task there);
    }

pub unrefined-take : (opening : Opening) (state : State) (w : ℕ) (instance : Instance ℕ) → Unrefined opening state → IsTake opening state w instance
    → Unrefined opening (with_job w instance state (target_among opening.program state.live instance))
unrefined-take opening state w instance is take =
    let task = take.task in
    let leads : target_among opening.program state.live instance ≡ Some task.home = ap (target_among opening.program state.live) (sym take.instance_is) ∙ take.pending.leads in
    subst (Unrefined opening) (sym (ap (with_job w instance state) leads))
    (unrefined-held opening state w (record { instance = instance; home = task.home; epoch = state.epochs task.home }) is (record { leads = leads; first = is.epochs_are task.home }))

pub unrefined-post : (opening : Opening) (state : State) (w : ℕ) (task : Task) → Unrefined opening state → held_by state.holds w ≡ Some task
    → Unrefined opening (without_job w (with_published state (held_by state.holds w)))
unrefined-post opening state w task is held =
    subst (λ o. Unrefined opening (without_job w (with_published state o))) (sym held) (unrefined-published opening state w task is held)

pub unrefined-new : (opening : Opening) (state : State) (w id : ℕ) (fact : Fact) → Unrefined opening state → IsNewPublish opening state w id fact
    → Falls (effect opening state (New w id fact)).live → Unrefined opening (effect opening state (New w id fact))
unrefined-new opening state w id fact is publish falls =
    let held = publish.posts.held in
    let task = publish.task in
    let grown = unrefined-live opening state (record { id = id; fact = fact; kept = task.instance }) id is
    (subst (λ o. Falls (without_job w (with_fact id fact (with_published state o) o)).live) held falls) publish.not_live in
    subst (λ o. Unrefined opening (without_job w (with_fact id fact (with_published state o) o))) (sym held)
    (unrefined-published opening (record state { live = record { id = id; fact = fact; kept = task.instance } ∷ state.live; given = id }) w task grown held)
