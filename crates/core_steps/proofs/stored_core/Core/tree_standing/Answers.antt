use Rattle.std.proofs.Common.{sym, subst}
use Rattle.derivation_tree.specs.Kept.{IsLeaving}
use Rattle.core_steps.specs.State.{RootLeft}
use Rattle.core_steps.specs.Allowed.{IsReason}
use Rattle.core_steps.specs.Claims.{KeptAgrees}
use Rattle.core_steps.specs.Course.{Course, opening_of, state_of}
use Rattle.core_steps.specs.Stops.{IsOfRun}
use Rattle.core_steps.specs.Stored.{reason_of_left}
use Rattle.core_steps.specs.inside.Kept.{seen}
use Rattle.core_steps.specs.inside.Standing.{WhereItStands, IsClaimOf, IsGone}
use Rattle.core_steps.proofs.Live.{Falls}
use Rattle.core_steps.proofs.Refines.{keeps-legal}
use Rattle.core_steps.proofs.Standings.{where-stands, tree-reason}
use Rattle.core_steps.proofs.stored_core.Core.tree_standing.Goals as goal

pub returns-clause-is_reason : goal.returns-clause-is_reason
returns-clause-is_reason c =
    let O = opening_of c.args.self.now in
    let S = state_of c.args.self.now in
    let kept = c.in-Some.kept.now in
    let left = c.in-Some.field-0-1.now in
    let same = c.in-Some.ensures.some in
    let Fall : Course → Type 0 = λ x. Falls (state_of x).live in
    let falls = subst Fall c.self.view_is (keeps-legal (opening_of (seen c.self.inside)) (seen c.self.inside).history c.self.invariant.legal).falls in
    subst (λ x. WhereItStands c.claim_standing.result (IsReason O S c.args.w (reason_of_left x))) (sym same)
    (where-stands (IsClaimOf S c.args.w kept) (IsGone S kept) (KeptAgrees S kept) (IsReason O S c.args.w (RootLeft kept.root left)) c.claim_standing.result c.claim_standing.ensures
    (λ named live agrees. tree-reason O S c.args.w kept left c.facts-facts.ensures.kept falls (subst IsLeaving same c.in-Some.ensures.left) (subst (IsOfRun O) same c.requires.run) named live agrees))
