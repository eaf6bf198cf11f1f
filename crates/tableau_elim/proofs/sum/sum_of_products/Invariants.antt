use Rattle.std.proofs.Common.{◌≡◌, ◌+◌, pos, ◌+ℤ◌, drop, option_map}
use Rattle.thr_base.specs.Number.{Fits}
use Rattle.lin_rows.specs.Row.{product_of}
use Rattle.lin_rows.specs.Sum.{overflow_from}
use Rattle.tableau_elim.proofs.sum.sum_of_products.Given as goal

abbrev pub invariant-places : goal.invariant-places
invariant-places l = record {
  fits : Fits l.sum;
  sum : product_of l.numbers l.values ≡ l.sum +ℤ product_of (drop l.place l.numbers) (drop l.place l.values);
  overflow : overflow_from (pos 0) l.numbers l.values ≡ option_map (λ n. l.place + n) (overflow_from l.sum (drop l.place l.numbers) (drop l.place l.values));
}
