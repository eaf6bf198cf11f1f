use Rattle.std.proofs.Common.{ap, ◌∙◌}
use Rattle.c_check.specs.inside.Tests.{operations_need}
use Rattle.c_check.proofs.TestPostfix.{operations_need-postfix}
use Rattle.c_check.proofs.conditions.test_need.Goals as goal

pub returns : goal.returns
returns c = λ t is. c.operations_need.ensures ∙ ap operations_need is ∙ operations_need-postfix t
