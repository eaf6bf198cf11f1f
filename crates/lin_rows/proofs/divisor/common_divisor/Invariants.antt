use Rattle.std.proofs.Common.{◌≡◌}
use Rattle.lin_rows.specs.Gcd.{gcd}
use Rattle.lin_rows.proofs.divisor.common_divisor.Given as goal

abbrev pub invariant-steps : goal.invariant-steps
invariant-steps l = gcd l.greater l.lesser ≡ gcd l.a l.b

abbrev pub decreases-steps : goal.decreases-steps
decreases-steps l = l.lesser
