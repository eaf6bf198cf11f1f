use Rattle.std.proofs.Common.{false, refl, sym, ap, subst, ◌∙◌}
use Rattle.std.specs.List.{AllByRecursion, Contains}
use Rattle.transition_formula.specs.Program.{Program}
use Rattle.derivation_tree.specs.Kept.{kept_fact_of}
use Rattle.core_steps.specs.Course.{Course, opening_of, state_of}
use Rattle.core_steps.specs.inside.Kept.{seen}
use Rattle.core_steps.specs.inside.Standing.{are_all_below}
use Rattle.core_steps.proofs.Tests.{true-false}
use Rattle.core_steps.proofs.Live.{Falls}
use Rattle.core_steps.proofs.Refines.{keeps-legal}
use Rattle.core_steps.proofs.ClaimTests.{StoredKept, tests-agree, agree-lives, agree-passes}
use Rattle.core_steps.proofs.stored_core.Core.agrees_with.Goals as goal

pub returns-then-not-are_all_kept : goal.returns-then-not-are_all_kept
returns-then-not-are_all_kept c =
    let state = state_of c.args.self.now in
    let All : Program → Type 0 = λ p. AllByRecursion (λ (x : StoredKept). Contains state.live (kept_fact_of p x)) c.facts-facts.result.now in (
      λ t. true-false false t refl,
      λ agrees. true-false c.are_all_kept.result (c.are_all_kept.ensures.1 (subst All c.requires (agree-lives state c.args.kept.now c.facts-facts.result.now c.facts-facts.ensures.facts agrees))) c.if-not-are_all_kept.true,
    )

pub returns : goal.returns
returns c =
    let state = state_of c.args.self.now in
    let All : Program → Type 0 = λ p. AllByRecursion (λ (x : StoredKept). Contains state.live (kept_fact_of p x)) c.facts-facts.result.now in
    let lives = subst All (sym c.requires) (c.are_all_kept.ensures.0 c.if-not-are_all_kept.false) in
    let Fall : Course → Type 0 = λ x. Falls (state_of x).live in
    let falls = subst Fall c.self.view_is (keeps-legal (opening_of (seen c.self.inside)) (seen c.self.inside).history c.self.invariant.legal).falls in
    let tested = c.are_all_below.ensures ∙ ap (λ n. are_all_below n c.facts-facts.result.now) c.root.ensures in (
      λ t. tests-agree state c.args.kept.now c.facts-facts.result.now c.facts-facts.ensures.kept falls c.facts-facts.ensures.facts lives (sym tested ∙ t),
      λ agrees. tested ∙ agree-passes state c.args.kept.now c.facts-facts.result.now c.facts-facts.ensures.facts agrees,
    )
