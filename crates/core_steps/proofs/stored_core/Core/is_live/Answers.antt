use Rattle.std.proofs.Common.{◌≡◌, true, false, sym, subst, ◌∙◌}
use Rattle.core_steps.specs.Course.{Course, opening_of, state_of}
use Rattle.core_steps.specs.Withdrawn.{has_id}
use Rattle.core_steps.specs.inside.Kept.{seen}
use Rattle.core_steps.proofs.PremiseFacts.{known-live, unknown-live}
use Rattle.core_steps.proofs.stored_core.Core.is_live.Goals as goal

pub returns-in-Some : goal.returns-in-Some
returns-in-Some c =
    let o = opening_of (seen c.self.inside) in
    let Has : Course → Type 0 = λ s. true ≡ has_id (state_of s).live c.args.id.0 in
    subst Has c.self.view_is (sym (known-live o.program o.limits.facts (state_of (seen c.self.inside)) c.self.inside.table c.args.id.0 c.in-Some.field-0.0 c.in-Some.field-0.1 c.self.invariant.holds.table
    (sym c.kept.ensures ∙ c.in-Some.is)))

pub returns-in-None : goal.returns-in-None
returns-in-None c =
    let o = opening_of (seen c.self.inside) in
    let Has : Course → Type 0 = λ s. false ≡ has_id (state_of s).live c.args.id.0 in
    subst Has c.self.view_is (sym (unknown-live o.program o.limits.facts (state_of (seen c.self.inside)) c.self.inside.table c.args.id.0 c.self.invariant.holds.table (sym c.kept.ensures ∙ c.in-None.is)))
