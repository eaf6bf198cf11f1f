use Rattle.std.proofs.Common.{sym, ◌∙◌, ◌<◌, arith}
use Rattle.lin_rows.proofs.Divisors.{gcd-step}
use Rattle.lin_rows.proofs.divisor.common_divisor.Goals as goal

pub steps-preserved : goal.steps-preserved
steps-preserved c =
    let some : 0 < c.steps.lesser = omega arith in
    sym (gcd-step c.steps.greater c.steps.lesser some) ∙ c.steps.invariant
