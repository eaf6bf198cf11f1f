use Rattle.std.proofs.Common.{ℕ, [], ◌∷◌, ap, subst, ◌∙◌}
use Rattle.derivation_tree.specs.Kept.{KeptTree}
use Rattle.core_steps.specs.declared.standing.Standing.TheVariants as standing
use Rattle.core_steps.specs.Event.{StaleRefine}
use Rattle.core_steps.specs.Course.{Course, opening_of, state_of, with_events}
use Rattle.core_steps.specs.Claims.{KeptAgrees}
use Rattle.core_steps.specs.inside.Kept.{seen}
use Rattle.core_steps.specs.inside.Standing.{StandsSo, IsClaimOf, IsGone}
use Rattle.core_steps.specs.inside.Changing.{DropsAnyClaim}
use Rattle.core_steps.proofs.WhatLooksTell.{no-stop}
use Rattle.core_steps.proofs.Counts.{Counts, counts-legal}
use Rattle.core_steps.proofs.RefineAnswers.{unclaim-allowed, refine-dropped, refine-foreign, refine-stale}
use Rattle.core_steps.proofs.stored_core.Core.refine.Goals as goal

pub returns-then-is_stopped-clause-answer : goal.returns-then-is_stopped-clause-answer
returns-then-is_stopped-clause-answer c =
    let old = c.args.self.now in
    let worker_is = c.worker-w.ensures ∙ ap (λ (k : KeptTree). k.worker) c.kept-kept.ensures.kept in
    refine-dropped old c.args.refutation c.drop_any_claim.new.self (c.is_stopped.ensures.0 c.if-is_stopped.true) (subst (λ v. DropsAnyClaim old v c.drop_any_claim.new.self) worker_is c.drop_any_claim.ensures)

pub returns-in-Foreign-clause-answer : goal.returns-in-Foreign-clause-answer
returns-in-Foreign-clause-answer c =
    let old = c.args.self.now in
    let S = state_of old in
    let So : KeptTree → ℕ → Type 0 = λ k v. StandsSo (IsClaimOf S v k) (IsGone S k) (KeptAgrees S k) standing.Foreign in
    let kept_is = c.kept-kept.ensures.kept in
    let worker_is = c.worker-w.ensures ∙ ap (λ (k : KeptTree). k.worker) kept_is in
    refine-foreign old c.args.refutation (no-stop S c.is_stopped.result c.if-is_stopped.false c.is_stopped.ensures.1)
    (subst (λ v. So c.args.refutation.kept v) worker_is (subst (λ k. So k c.worker-w.result) kept_is c.in-Foreign.ensures))

pub drop_claim-requires : goal.drop_claim-requires
drop_claim-requires c =
    let old = c.args.self.now in
    let Count : Course → Type 0 = λ s. Counts (opening_of s) (state_of s) in
    let counts = subst Count c.self.view_is (counts-legal (opening_of (seen c.self.inside)) (seen c.self.inside).history c.self.invariant.legal) in
    unclaim-allowed (opening_of old) (state_of old) c.worker-w.result c.kept-kept.result.now.root counts c.in-Stale.ensures.0.1 (λ none. c.in-Stale.ensures.1)

pub returns-in-Stale-clause-answer : goal.returns-in-Stale-clause-answer
returns-in-Stale-clause-answer c =
    let old = c.args.self.now in
    let S = state_of old in
    let So : KeptTree → ℕ → Type 0 = λ k v. StandsSo (IsClaimOf S v k) (IsGone S k) (KeptAgrees S k) standing.Stale in
    let kept_is = c.kept-kept.ensures.kept in
    let worker_is = c.worker-w.ensures ∙ ap (λ (k : KeptTree). k.worker) kept_is in
    refine-stale old c.args.refutation c.drop_claim.new.self (no-stop S c.is_stopped.result c.if-is_stopped.false c.is_stopped.ensures.1)
    (subst (λ v. So c.args.refutation.kept v) worker_is (subst (λ k. So k c.worker-w.result) kept_is c.in-Stale.ensures))
    (c.drop_claim.ensures ∙ ap (λ v. with_events old (StaleRefine v ∷ [])) worker_is)
