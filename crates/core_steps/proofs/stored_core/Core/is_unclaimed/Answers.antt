use Rattle.std.proofs.Common.{◌≡◌, not, sym, ap, subst, ◌∙◌, inl, inr}
use Rattle.core_steps.specs.Course.{Course, opening_of, state_of}
use Rattle.core_steps.specs.inside.Kept.{seen}
use Rattle.core_steps.specs.inside.Claiming.{IsUnclaimed, any_root}
use Rattle.core_steps.proofs.Tests.{tells, not-true}
use Rattle.core_steps.proofs.Counts.{counts-legal}
use Rattle.core_steps.proofs.ClaimAnswers.{root-claimed}
use Rattle.core_steps.proofs.stored_core.Core.is_unclaimed.Goals as goal

pub returns : goal.returns
returns c =
    let o = opening_of (seen c.self.inside) in
    let s = state_of (seen c.self.inside) in
    let counts = counts-legal o (seen c.self.inside).history c.self.invariant.legal in
    let both = root-claimed o s c.self.inside.claims.items c.args.id counts c.self.invariant.holds.claims in
    let Un : Course → Type 0 = λ x. IsUnclaimed (state_of x) c.args.id.0 in
    let told : c.any_root.result ≡ any_root c.self.inside.claims.items c.args.id = c.any_root.ensures ∙ ap (λ l. any_root l c.args.id) c.deref.ensures.value in (
      λ t. subst Un c.self.view_is (both.1 (sym told ∙ not-true c.any_root.result t)),
      λ un. elim (tells c.any_root.result) [
        | inl hit ↦ absurd (both.0 (sym told ∙ hit) (subst Un (sym c.self.view_is) un))
        | inr miss ↦ ap not miss
      ],
    )
