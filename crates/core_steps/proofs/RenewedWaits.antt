-- Which instances are pending after a refine.
use Rattle.std.proofs.Common.{◌≡◌, ◌⊎◌, ◌≤◌, ℕ, suc, Bool, true, false, ◌||◌, List, Some, refl, sym, ap, subst, ◌∙◌, inl, inr, arith}
use Rattle.std.specs.Prelude.{if◌then◌else◌}
use Rattle.std.specs.List.{Contains}
use Rattle.lin_rows.proofs.Lists.{AllByRecursion-weaken}
use Rattle.horn_rules.specs.Home.{Home}
use Rattle.horn_rules.specs.Instance.{Instance, HasKind, premises_of}
use Rattle.horn_rules.specs.Predicate.{Predicate}
use Rattle.derivation_tree.specs.Facts.{target_among}
use Rattle.core_steps.specs.State.{Opening, State, Task}
use Rattle.core_steps.specs.Withdrawn.{remaining, loses}
use Rattle.core_steps.specs.Predicates.{is_changed}
use Rattle.core_steps.specs.After.{with_new}
use Rattle.core_steps.specs.inside.Parts.{IsPendingOf}
use Rattle.core_steps.proofs.Tests.{tells, true-false}
use Rattle.core_steps.proofs.Live.{remaining-from, remaining-falls, target_among-premises}
use Rattle.core_steps.proofs.Keeps.{Keeps}
use Rattle.core_steps.proofs.Events.{leads-found}
use Rattle.core_steps.proofs.Waits.{not-done, not-held, task_at}

-- the home begins its next epoch
abbrev pub is_renewed : State → List Predicate → Home → Bool
is_renewed state predicates home = is_changed predicates home || loses state.live (remaining (is_changed predicates) state.live) home

-- where facts go: what leads still and was pending, or leads to a home that begins its next epoch
pub pending-refined : (opening : Opening) (state : State) (predicates : List Predicate) (instance : Instance ℕ) → Keeps opening state
    → let later = with_new predicates state in
    (IsPendingOf opening later instance → HasKind opening.rule instance × ((home : Home) × (target_among opening.program later.live instance ≡ Some home)
    × (IsPendingOf opening state instance ⊎ (is_renewed state predicates home ≡ true))))
    × (HasKind opening.rule instance → (home : Home) → target_among opening.program later.live instance ≡ Some home
    → IsPendingOf opening state instance ⊎ (is_renewed state predicates home ≡ true) → IsPendingOf opening later instance)
pending-refined opening state predicates instance keeps = (left, right)
  where
    later : State
    later = with_new predicates state

    -- what leads among the facts that remain led there before
    led : (home : Home) → target_among opening.program later.live instance ≡ Some home → target_among opening.program state.live instance ≡ Some home
    led home leads =
        let found = leads-found opening.program later.live instance home leads in
        let all = AllByRecursion-weaken (Contains later.live) (Contains state.live) (λ f there. remaining-from (is_changed predicates) state.live f there) (premises_of found.premises) found.are_live in
        let after = target_among-premises opening.program later.live found.premises (remaining-falls (is_changed predicates) state.live keeps.falls) found.are_live in
        let before = target_among-premises opening.program state.live found.premises keeps.falls all in
        ap (target_among opening.program state.live) (sym found.ids) ∙ before ∙ sym after ∙ ap (target_among opening.program later.live) found.ids ∙ leads

    kept-epoch : (home : Home) → is_renewed state predicates home ≡ false → later.epochs home ≡ state.epochs home
    kept-epoch home miss = ap (λ b. if b then suc (state.epochs home) else state.epochs home) miss

    next-epoch : (home : Home) → is_renewed state predicates home ≡ true → later.epochs home ≡ suc (state.epochs home)
    next-epoch home hit = ap (λ b. if b then suc (state.epochs home) else state.epochs home) hit

    left : IsPendingOf opening later instance → HasKind opening.rule instance × ((home : Home) × (target_among opening.program later.live instance ≡ Some home)
        × (IsPendingOf opening state instance ⊎ (is_renewed state predicates home ≡ true)))
    left (other, is, after) =
        let leads : target_among opening.program later.live instance ≡ Some other.home = ap (target_among opening.program later.live) (sym is) ∙ after.leads in (
          subst (HasKind opening.rule) is after.has_kind,
          (
            other.home,
            leads,
            elim (tells (is_renewed state predicates other.home)) [
              | inl hit ↦ inr hit
              | inr miss ↦ inl (
                other,
                is,
                record {
                  has_kind = after.has_kind;
                  leads = ap (target_among opening.program state.live) is ∙ led other.home leads;
                  present = after.present ∙ kept-epoch other.home miss;
                  not_done = after.not_done;
                  not_held = after.not_held;
                },
              )
            ],
          ),
        )

    right : HasKind opening.rule instance → (home : Home) → target_among opening.program later.live instance ≡ Some home
        → IsPendingOf opening state instance ⊎ (is_renewed state predicates home ≡ true) → IsPendingOf opening later instance
    right kind home leads either = elim (tells (is_renewed state predicates home)) [
      | inl hit ↦ (
        task_at later instance home,
        refl,
        record {
          has_kind = kind;
          leads = leads;
          present = refl;
          not_done = not-done later (task_at later instance home) (λ done there same. never hit done same (keeps.published_taken done there).epoch);
          not_held = not-held later (task_at later instance home) (λ hold there same. never hit hold.task same (keeps.held_taken hold there).epoch);
        },
      )
      | inr miss ↦ elim either [
        | inl (other, is, before) ↦
            let homes : Some other.home ≡ Some home = sym before.leads ∙ ap (target_among opening.program state.live) is ∙ led home leads in
            let same : other.home ≡ home = cc in (
              other,
              is,
              record {
                has_kind = before.has_kind;
                leads = ap (target_among opening.program later.live) is ∙ leads ∙ ap (λ h. Some h) (sym same);
                present = before.present ∙ ap state.epochs same ∙ sym (kept-epoch home miss) ∙ ap later.epochs (sym same);
                not_done = before.not_done;
                not_held = before.not_held;
              },
            )
        | inr hit ↦ true-false (is_renewed state predicates home) hit miss
      ]
    ]
      where
        never : is_renewed state predicates home ≡ true → (other : Task) → task_at later instance home ≡ other → other.epoch ≤ state.epochs other.home → ⊥
        never hit other same le =
            let epoch : later.epochs home ≡ other.epoch = ap (λ t. Task.epoch t) same in
            let homes : state.epochs home ≡ state.epochs other.home = ap state.epochs (ap (λ t. Task.home t) same) in
            let next = next-epoch home hit in
            omega (arith, epoch, homes, next, le)
