use Rattle.std.proofs.Common.{◌≡◌, ◌+◌, pos, ◌+ℤ◌, drop, option_map}
use Rattle.lin_rows.specs.Row.{product_of}
use Rattle.lin_rows.specs.Sum.{overflow_from}
use Rattle.lin_rows.proofs.sum.sum_of_products.Given as goal

abbrev pub invariant-places : goal.invariant-places
invariant-places l = record {
  sum : product_of l.coefficients l.x ≡ l.sum +ℤ product_of (drop l.place l.coefficients) (drop l.place l.x);
  overflow : overflow_from (pos 0) l.coefficients l.x ≡ option_map (λ n. l.place + n) (overflow_from l.sum (drop l.place l.coefficients) (drop l.place l.x));
}
