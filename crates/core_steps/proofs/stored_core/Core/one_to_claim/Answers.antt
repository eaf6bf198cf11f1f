use Rattle.std.proofs.Common.{◌+◌, take, sym, subst}
use Rattle.core_steps.specs.Course.{state_of}
use Rattle.core_steps.specs.inside.Claiming.{IsOneToClaim}
use Rattle.core_steps.proofs.Tests.{true-false}
use Rattle.core_steps.proofs.ClaimAnswers.{to-claim-more, to-claim-found}
use Rattle.core_steps.proofs.stored_core.Core.one_to_claim.Goals as goal
use Rattle.core_steps.proofs.stored_core.Core.one_to_claim.Goals.{then-may_be_claimed, else-may_be_claimed}

pub loop-f-preserved : goal.loop-f-preserved
loop-f-preserved c =
    let program = c.args.self.now.program in
    let state = state_of c.args.self.now in
    elim c.if-may_be_claimed.branch [
      | then-may_be_claimed w ↦
          subst (IsOneToClaim program state (take (c.loop-f.f-index + 1) c.args.facts.now)) (sym w.one-is)
          (to-claim-found program state c.args.facts.now c.loop-f.f-index _ c.loop-f.one w.smaller.result c.loop-f-test.true c.loop-f.invariant (c.may_be_claimed.ensures.0 w.if-may_be_claimed.true) w.smaller.ensures)
      | else-may_be_claimed w ↦
          subst (IsOneToClaim program state (take (c.loop-f.f-index + 1) c.args.facts.now)) (sym w.one-is)
          (to-claim-more program state c.args.facts.now c.loop-f.f-index _ c.loop-f.one c.loop-f-test.true c.loop-f.invariant
          (λ may. true-false c.may_be_claimed.result (c.may_be_claimed.ensures.1 may) w.if-may_be_claimed.false))
    ]
