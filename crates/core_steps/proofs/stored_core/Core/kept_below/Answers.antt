use Rattle.std.proofs.Common.{[], sym, ap, subst, ◌∙◌}
use Rattle.std.specs.Prelude.{reverse}
use Rattle.derivation_tree.specs.Kept.{kept_facts_of}
use Rattle.core_steps.specs.Course.{Course, opening_of, state_of}
use Rattle.core_steps.specs.Claims.{IsClaimFor}
use Rattle.core_steps.specs.inside.Kept.{seen}
use Rattle.core_steps.specs.inside.Claiming.{IsClaimable, with_all_picked}
use Rattle.core_steps.proofs.Refines.{keeps-legal}
use Rattle.core_steps.proofs.ClaimAnswers.{found-picks, found-kept}
use Rattle.core_steps.proofs.stored_core.Core.kept_below.Goals as goal

pub new-requires : goal.new-requires
new-requires c =
    let o = opening_of (seen c.self.inside) in
    let s = state_of (seen c.self.inside) in
    let Claims : Course → Type 0 = λ x. IsClaimable (state_of x) c.args.root.0 in
    let found = c.in_ok-facts.ensures ∙ ap (λ l. with_all_picked c.args.root.0 [] (reverse l)) c.facts.ensures.facts in
    let picks = ap (kept_facts_of o.program) c.reverse.ensures.items ∙ found-picks o.program c.args.root.0 c.self.inside.table.live c.in_ok-facts.facts.items found in
    (found-kept o s c.self.inside.table c.args.w c.args.root c.reverse.new.self.items c.self.invariant.holds.table (keeps-legal o (seen c.self.inside).history c.self.invariant.legal)
    (subst Claims (sym c.self.view_is) c.requires) picks).0

pub returns : goal.returns
returns c =
    let o = opening_of (seen c.self.inside) in
    let s = state_of (seen c.self.inside) in
    let Claims : Course → Type 0 = λ x. IsClaimable (state_of x) c.args.root.0 in
    let found = c.in_ok-facts.ensures ∙ ap (λ l. with_all_picked c.args.root.0 [] (reverse l)) c.facts.ensures.facts in
    let picks = ap (kept_facts_of o.program) c.reverse.ensures.items ∙ found-picks o.program c.args.root.0 c.self.inside.table.live c.in_ok-facts.facts.items found in
    let for = (found-kept o s c.self.inside.table c.args.w c.args.root c.reverse.new.self.items c.self.invariant.holds.table (keeps-legal o (seen c.self.inside).history c.self.invariant.legal)
    (subst Claims (sym c.self.view_is) c.requires) picks).1 in
    let For : Course → Type 0 = λ x. IsClaimFor (opening_of x) (state_of x) c.args.w c.args.root.0 c.new.result in
    subst For c.self.view_is (subst (IsClaimFor o s c.args.w c.args.root.0) (sym c.new.ensures) for)
