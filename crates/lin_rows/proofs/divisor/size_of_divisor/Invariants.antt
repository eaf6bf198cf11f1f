use Rattle.std.proofs.Common.{◌≡◌, drop, fold, unsigned_abs}
use Rattle.lin_rows.specs.Gcd.{gcd, gcd_of}
use Rattle.lin_rows.proofs.divisor.size_of_divisor.Given as goal

abbrev pub invariant-numbers : goal.invariant-numbers
invariant-numbers l = fold (λ g x. gcd (unsigned_abs x) g) l.divisor (drop l.number-index l.numbers) ≡ gcd_of l.numbers
