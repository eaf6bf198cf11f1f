use Rattle.std.proofs.Common.{◌≡◌, ◌<◌, ◌-◌, ◌+◌, None, inl, inr, sym, ap, subst, ◌∙◌, arith, option_map}
use Rattle.std.proofs.lemmas.Option.{slice_get_read}
use Rattle.thr_base.specs.declared.names.FactId.{FactId}
use Rattle.core_steps.specs.Course.{Course, opening_of, state_of}
use Rattle.core_steps.specs.State.{claimed_by}
use Rattle.core_steps.specs.inside.Kept.{seen}
use Rattle.core_steps.proofs.Counts.{counts-legal}
use Rattle.core_steps.proofs.Standings.{claimed-outside}
use Rattle.core_steps.proofs.stored_core.Core.root_claimed.Goals as goal

pub returns-then-w-eq0 : goal.returns-then-w-eq0
returns-then-w-eq0 c =
    let o = opening_of (seen c.self.inside) in
    let Claims : Course → Type 0 = λ s. None ≡ claimed_by (state_of s).claims c.args.w in
    subst Claims c.self.view_is (sym (claimed-outside o (state_of (seen c.self.inside)) c.args.w (counts-legal o (seen c.self.inside).history c.self.invariant.legal) (inl c.if-w-eq0.true)))

pub returns-then-w-self : goal.returns-then-w-self
returns-then-w-self c =
    let o = opening_of (seen c.self.inside) in
    let Claims : Course → Type 0 = λ s. None ≡ claimed_by (state_of s).claims c.args.w in
    subst Claims c.self.view_is (sym (claimed-outside o (state_of (seen c.self.inside)) c.args.w (counts-legal o (seen c.self.inside).history c.self.invariant.legal) (inr c.if-w-self.true)))

pub returns : goal.returns
returns c =
    let are = c.self.invariant.holds.claims in
    let one = are.one_each in
    let low = c.if-w-eq0.false in
    let high = c.if-w-self.false in
    let lt : c.args.w - 1 < c.self.inside.workers = omega (arith, low, high) in
    let at = slice_get_read c.self.inside.claims.items c.self.inside.workers (c.args.w - 1) c.index.result.now (sym one) lt c.index.ensures in
    let number : (c.args.w - 1) + 1 ≡ c.args.w = omega (arith, low) in
    let Told : Course → Type 0 = λ s. option_map (λ id. FactId.0 id) c.index.result.now ≡ claimed_by (state_of s).claims c.args.w in
    subst Told c.self.view_is (sym (are.each (c.args.w - 1) c.index.result.now at) ∙ ap (claimed_by (state_of (seen c.self.inside)).claims) number)
