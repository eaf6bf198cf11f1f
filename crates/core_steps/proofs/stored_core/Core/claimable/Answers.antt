use Rattle.std.proofs.Common.{sym, subst}
use Rattle.std.specs.List.{AllByRecursion, Contains}
use Rattle.fact_table.specs.declared.live_fact.LiveFact.{LiveFact}
use Rattle.core_steps.specs.Answers.{AreAllClaimed}
use Rattle.core_steps.specs.Course.{Course, opening_of, state_of}
use Rattle.core_steps.specs.inside.Kept.{seen}
use Rattle.core_steps.specs.inside.Claiming.{MayBeClaimed, IsClaimable}
use Rattle.core_steps.proofs.Refines.{keeps-legal}
use Rattle.core_steps.proofs.ClaimAnswers.{all-claimed, one-claimable}
use Rattle.core_steps.proofs.stored_core.Core.claimable.Goals as goal

pub returns-in-None : goal.returns-in-None
returns-in-None c =
    let o = opening_of (seen c.self.inside) in
    let s = state_of (seen c.self.inside) in
    let All : Course → Type 0 = λ x. AllByRecursion (λ (f : LiveFact). ¬ MayBeClaimed x.program (state_of x) f) c.facts.result.now in
    let none = subst (λ l. AllByRecursion (λ (f : LiveFact). ¬ MayBeClaimed o.program s f) l) c.facts.ensures.facts (subst All (sym c.self.view_is) c.in-None.ensures) in
    let Claims : Course → Type 0 = λ x. AreAllClaimed (state_of x) in
    subst Claims c.self.view_is (all-claimed o.program o.limits.facts s c.self.inside.table c.self.invariant.holds.table none)

pub returns-in-Some : goal.returns-in-Some
returns-in-Some c =
    let o = opening_of (seen c.self.inside) in
    let s = state_of (seen c.self.inside) in
    let May : Course → Type 0 = λ x. MayBeClaimed x.program (state_of x) c.in-Some.f in
    let Claims : Course → Type 0 = λ x. IsClaimable (state_of x) c.in-Some.f.id.0 in
    subst Claims c.self.view_is (one-claimable o.program o.limits.facts s c.self.inside.table c.in-Some.f c.self.invariant.holds.table (keeps-legal o (seen c.self.inside).history c.self.invariant.legal).falls
    (subst (λ l. Contains l c.in-Some.f) c.facts.ensures.facts c.in-Some.ensures.0) (subst May (sym c.self.view_is) c.in-Some.ensures.1))
