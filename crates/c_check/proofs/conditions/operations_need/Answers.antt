use Rattle.std.proofs.Common.{max, ap, sym, ◌∙◌, take}
use Rattle.c_check.specs.inside.Tests.{operations_need}
use Rattle.c_check.proofs.TestPostfix.{operations_need-next, ord_max-max}
use Rattle.c_check.proofs.conditions.operations_need.Goals as goal

pub loop-test-preserved : goal.loop-test-preserved
loop-test-preserved c =
    c.max-most.ensures ∙ ord_max-max c.loop-test.most c.operation_need.result ∙ ap (λ n. max n c.operation_need.result) c.loop-test.invariant
    ∙ ap (max (operations_need (take c.loop-test.test-index c.args.tests.now))) c.operation_need.ensures
    ∙ sym (operations_need-next c.args.tests.now c.loop-test.test-index c.test-item.result c.loop-test-test.true (sym c.test-item.is))
