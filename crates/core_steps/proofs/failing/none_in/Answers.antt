use Rattle.core_steps.proofs.Tests.{true-false}
use Rattle.core_steps.proofs.QuietFacts.{none-more}
use Rattle.core_steps.proofs.failing.none_in.Goals as goal

pub loop-f-preserved : goal.loop-f-preserved
loop-f-preserved c =
    none-more c.args.program.now c.args.facts.now c.loop-f.f-index _ c.loop-f-test.true c.loop-f.invariant
    (λ fails. true-false c.is_failing.result (c.is_failing.ensures.1 fails) c.if-is_failing.false)
