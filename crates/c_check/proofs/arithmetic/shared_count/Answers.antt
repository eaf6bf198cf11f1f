use Rattle.std.proofs.Common.{ap, ◌∙◌}
use Rattle.c_check.specs.inside.Operations.{shared_operations}
use Rattle.c_check.proofs.Postfix.{shared_operations-postfix}
use Rattle.c_check.proofs.arithmetic.shared_count.Goals as goal

pub returns : goal.returns
returns c = λ a is. c.shared_operations.ensures.value ∙ ap shared_operations is ∙ shared_operations-postfix a
