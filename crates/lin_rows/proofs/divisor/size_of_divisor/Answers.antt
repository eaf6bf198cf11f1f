use Rattle.std.proofs.Common.{◌≡◌, drop, fold, unsigned_abs, sym, ◌∙◌, subst, arith}
use Rattle.lin_rows.specs.Gcd.{gcd, gcd_of}
use Rattle.lin_rows.proofs.Divisors.{gcd_onto-one}
use Rattle.lin_rows.proofs.divisor.size_of_divisor.Goals as goal

pub returns-then-divisor-eq1 : goal.returns-then-divisor-eq1
returns-then-divisor-eq1 c =
    let rest = drop c.numbers.number-index c.args.numbers.now in
    let is_one : c.numbers.divisor ≡ 1 = omega (arith, c.if-divisor-eq1.true) in
    sym (gcd_onto-one rest) ∙ subst (λ d. fold (λ g x. gcd (unsigned_abs x) g) d rest ≡ gcd_of c.args.numbers.now) is_one c.numbers.invariant
