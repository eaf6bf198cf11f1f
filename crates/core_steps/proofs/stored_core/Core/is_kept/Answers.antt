use Rattle.std.proofs.Common.{false, refl, sym, subst, ◌∙◌}
use Rattle.std.specs.Prelude.{IsTrue}
use Rattle.std.specs.List.{Contains}
use Rattle.derivation_tree.specs.Kept.{kept_fact_of}
use Rattle.core_steps.specs.Course.{Course, opening_of, state_of}
use Rattle.core_steps.specs.inside.Kept.{seen}
use Rattle.core_steps.proofs.Tests.{true-false}
use Rattle.core_steps.proofs.Refines.{keeps-legal}
use Rattle.core_steps.proofs.ClaimTests.{known-kept, unknown-kept}
use Rattle.core_steps.proofs.stored_core.Core.is_kept.Goals as goal

pub returns-in-None : goal.returns-in-None
returns-in-None c =
    let o = opening_of (seen c.self.inside) in
    let s = state_of (seen c.self.inside) in
    let Told : Course → Type 0 = λ x. Contains (state_of x).live (kept_fact_of x.program c.args.kept.now) → IsTrue false in (
      λ t. true-false false t refl,
      subst Told c.self.view_is (λ there. absurd (unknown-kept o.program o.limits.facts s c.self.inside.table c.args.kept.now c.self.invariant.holds.table (sym c.kept.ensures ∙ c.in-None.is) there)),
    )

pub returns-in-Some : goal.returns-in-Some
returns-in-Some c =
    let o = opening_of (seen c.self.inside) in
    let s = state_of (seen c.self.inside) in
    let falls = (keeps-legal o (seen c.self.inside).history c.self.invariant.legal).falls in
    let both = known-kept o.program o.limits.facts s c.self.inside.table c.args.kept.now c.in-Some.fact c.in-Some.instance c.self.invariant.holds.table falls c.is_same.ensures.word
    (sym c.kept.ensures ∙ c.in-Some.is) in
    let There : Course → Type 0 = λ x. Contains (state_of x).live (kept_fact_of x.program c.args.kept.now) in
    (λ t. subst There c.self.view_is (both.0 (c.is_same.ensures.same.0 t)), λ there. c.is_same.ensures.same.1 (both.1 (subst There (sym c.self.view_is) there)))
