-- The sum of the products of two lists.
use Rattle.std.proofs.Common.{◌≡◌, ℕ, List, Some, None, ℤ, refl}
use Rattle.lin_rows.specs.Sum.{sum_overflow, sum_in_order}

-- nothing is given where a product or a sum does not fit
pub sum_in_order-none : (xs ys : List ℤ) (n : ℕ) → sum_overflow xs ys ≡ Some n → sum_in_order xs ys ≡ None
sum_in_order-none xs ys n e = rw e refl
