use Rattle.std.proofs.Common.{◌≡◌, ◌<◌, ◌-◌, ◌+◌, Some, None, inl, inr, sym, ap, subst, ◌∙◌, arith, option_map}
use Rattle.std.specs.Prelude.{IfSome, IsSome}
use Rattle.std.proofs.lemmas.Option.{slice_get_read}
use Rattle.transition_formula.specs.Program.{at_number}
use Rattle.horn_rules.specs.Home.{homes}
use Rattle.core_steps.specs.declared.held.Held.{Held}
use Rattle.core_steps.specs.Course.{Course, opening_of, state_of}
use Rattle.core_steps.specs.State.{held_by}
use Rattle.core_steps.specs.inside.Kept.{seen}
use Rattle.core_steps.specs.inside.Parts.{task_of}
use Rattle.core_steps.proofs.Counts.{counts-legal}
use Rattle.core_steps.proofs.Agreements.{held-outside}
use Rattle.core_steps.proofs.TakeAnswers.{some-by}
use Rattle.core_steps.proofs.stored_core.Core.job_held.Goals as goal

pub returns-then-w-eq0-clause-held : goal.returns-then-w-eq0-clause-held
returns-then-w-eq0-clause-held c =
    let o = opening_of (seen c.self.inside) in
    let Held : Course → Type 0 = λ s. None ≡ held_by (state_of s).holds c.args.w in
    subst Held c.self.view_is (sym (held-outside o (state_of (seen c.self.inside)) c.args.w (counts-legal o (seen c.self.inside).history c.self.invariant.legal) (inl c.if-w-eq0.true)))

pub returns-then-w-self-clause-held : goal.returns-then-w-self-clause-held
returns-then-w-self-clause-held c =
    let o = opening_of (seen c.self.inside) in
    let Held : Course → Type 0 = λ s. None ≡ held_by (state_of s).holds c.args.w in
    subst Held c.self.view_is (sym (held-outside o (state_of (seen c.self.inside)) c.args.w (counts-legal o (seen c.self.inside).history c.self.invariant.legal) (inr c.if-w-self.true)))

pub returns-clause-held : goal.returns-clause-held
returns-clause-held c =
    let are = c.self.invariant.holds.holds in
    let one = are.one_each in
    let low = c.if-w-eq0.false in
    let high = c.if-w-self.false in
    let lt : c.args.w - 1 < c.self.inside.workers = omega (arith, low, high) in
    let at = slice_get_read c.self.inside.holds.items c.self.inside.workers (c.args.w - 1) c.index.result.now (sym one) lt c.index.ensures in
    let number : (c.args.w - 1) + 1 ≡ c.args.w = omega (arith, low) in
    let Told : Course → Type 0 = λ s. option_map (task_of s.program) c.index.result.now ≡ held_by (state_of s).holds c.args.w in
    subst Told c.self.view_is (sym (are.each (c.args.w - 1) c.index.result.now at) ∙ ap (held_by (state_of (seen c.self.inside)).holds) number)

pub returns-clause-home : goal.returns-clause-home
returns-clause-home c =
    let are = c.self.invariant.holds.holds in
    let one = are.one_each in
    let low = c.if-w-eq0.false in
    let high = c.if-w-self.false in
    let lt : c.args.w - 1 < c.self.inside.workers = omega (arith, low, high) in
    let at = slice_get_read c.self.inside.holds.items c.self.inside.workers (c.args.w - 1) c.index.result.now (sym one) lt c.index.ensures in
    let Told : Course → Type 0 = λ s. IfSome c.index.result.now (λ held. IsSome (at_number (homes s.program) held.home.0)) in
    subst Told c.self.view_is (some-by c.index.result.now (λ (held : Held). IsSome (at_number (homes c.self.inside.program.now) held.home.0)) (λ held is. are.homes_are (c.args.w - 1) held (at ∙ ap (λ h. Some h) is)))
