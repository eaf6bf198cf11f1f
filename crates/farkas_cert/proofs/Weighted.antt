-- The weighted sum of listed multipliers, and what divides it.
use Rattle.std.proofs.Common.{◌≡◌, ℕ, zero, suc, refl, sym, ap, ◌∙◌, arith, List, [], ◌∷◌, map, take, drop, get_or, Bool, Some, None, Option}
use Rattle.std.specs.Prelude.{ℤ, pos, negsuc, neg_ℤ, ◌+ℤ◌, ◌*ℤ◌, unsigned_abs}
use Rattle.std.specs.Int.{◌∣◌}
use Rattle.std.specs.List.{AllByRecursion}
use Rattle.std.proofs.lemmas.Int.{unsigned_abs-mul}
use Rattle.std.proofs.lemmas.Nat.Gcd.{dvd-zero}
use Rattle.std.proofs.Math.Nat.{dvd-mul_right}
use Rattle.lin_rows.specs.Row.{Row, product_of, multiple_of}
use Rattle.lin_rows.proofs.Points.{product_of-nil, product_of-scaled, product_of-sum_of}
use Rattle.farkas_cert.specs.Cert.{add_weighted, row_numbered, weighted_sum}
use Rattle.farkas_cert.specs.Divided.{over}
use Rattle.farkas_cert.specs.Line.{nonzero_pairs}
use Rattle.lin_rows.proofs.Divisors.{DividesAll}
use Rattle.farkas_cert.proofs.Divisors.{over-exact}
use Rattle.lin_rows.proofs.Integers.{mul-add_ℤ, mul_assoc_ℤ, zero-mul_ℤ, mul-zero_ℤ}
use Rattle.farkas_cert.proofs.Integers.{linear, mul-one_ℤ}
use Rattle.farkas_cert.proofs.Signs.{Signs, split_at}

-- ---- weighted sums as products

-- the products of the rows with the point
abbrev pub values_at : List ℤ → List Row → List ℤ
values_at y rows = map (λ row. product_of row.coefficients y) rows

-- the bounds of the rows
abbrev pub bounds_of : List Row → List ℤ
bounds_of rows = map (λ row. row.bound) rows

-- The product of a sum with a row adds the row's product.
sum_with : (o : Option Row) (row : Row) (m : ℤ) (total : Row) (y : List ℤ) → o ≡ Some row
    → product_of (add_weighted o m total).coefficients y ≡ m *ℤ product_of row.coefficients y +ℤ product_of total.coefficients y
sum_with None row m total y e = absurd cc
sum_with (Some other) row m total y e =
    let same : other ≡ row = cc in
    product_of-sum_of (multiple_of m other.coefficients) total.coefficients y
    ∙ ap (λ t. t +ℤ product_of total.coefficients y) (product_of-scaled m other.coefficients y)
    ∙ ap (λ (r : Row). m *ℤ product_of r.coefficients y +ℤ product_of total.coefficients y) same

-- The bound of a sum with a row adds the row's bound.
added_bound : (o : Option Row) (row : Row) (m : ℤ) (total : Row) → o ≡ Some row → (add_weighted o m total).bound ≡ m *ℤ row.bound +ℤ total.bound
added_bound None row m total e = absurd cc
added_bound (Some other) row m total e = let same : other ≡ row = cc in ap (λ (r : Row). m *ℤ r.bound +ℤ total.bound) same

-- The product of a weighted sum is that of the multipliers with the rows' products.
pub weighted_coefficients : (all rows : List Row) (k : ℕ) (equal : Bool) (ms y : List ℤ) → drop k all ≡ rows → Signs equal rows ms
    → product_of (weighted_sum all (nonzero_pairs (suc k) ms)).coefficients y ≡ product_of ms (values_at y rows)
unfolding nonzero_pairs
weighted_coefficients all rows k equal [] y e h = refl
weighted_coefficients all [] k equal (m ∷ ms) y e h = absurd h
weighted_coefficients all (row ∷ rows) k equal (pos zero ∷ ms) y e h =
    omega (arith, linear, weighted_coefficients all rows (suc k) equal ms y (split_at all rows k row e).1 h.1, zero-mul_ℤ (product_of row.coefficients y))
weighted_coefficients all (row ∷ rows) k equal (pos (suc m) ∷ ms) y e h =
    let at = split_at all rows k row e in
    sum_with (row_numbered all (suc k)) row (pos (suc m)) (weighted_sum all (nonzero_pairs (suc (suc k)) ms)) y at.0
    ∙ ap (λ t. pos (suc m) *ℤ product_of row.coefficients y +ℤ t) (weighted_coefficients all rows (suc k) equal ms y at.1 h.1)
weighted_coefficients all (row ∷ rows) k equal (negsuc m ∷ ms) y e h =
    let at = split_at all rows k row e in
    sum_with (row_numbered all (suc k)) row (negsuc m) (weighted_sum all (nonzero_pairs (suc (suc k)) ms)) y at.0
    ∙ ap (λ t. negsuc m *ℤ product_of row.coefficients y +ℤ t) (weighted_coefficients all rows (suc k) equal ms y at.1 h.1)

-- The bound of a weighted sum is the product of the multipliers with the bounds.
pub weighted_bound : (all rows : List Row) (k : ℕ) (equal : Bool) (ms : List ℤ) → drop k all ≡ rows → Signs equal rows ms
    → (weighted_sum all (nonzero_pairs (suc k) ms)).bound ≡ product_of ms (bounds_of rows)
unfolding nonzero_pairs
weighted_bound all rows k equal [] e h = refl
weighted_bound all [] k equal (m ∷ ms) e h = absurd h
weighted_bound all (row ∷ rows) k equal (pos zero ∷ ms) e h =
    omega (arith, linear, weighted_bound all rows (suc k) equal ms (split_at all rows k row e).1 h.1, zero-mul_ℤ row.bound)
weighted_bound all (row ∷ rows) k equal (pos (suc m) ∷ ms) e h =
    let at = split_at all rows k row e in
    added_bound (row_numbered all (suc k)) row (pos (suc m)) (weighted_sum all (nonzero_pairs (suc (suc k)) ms)) at.0
    ∙ ap (λ t. pos (suc m) *ℤ row.bound +ℤ t) (weighted_bound all rows (suc k) equal ms at.1 h.1)
weighted_bound all (row ∷ rows) k equal (negsuc m ∷ ms) e h =
    let at = split_at all rows k row e in
    added_bound (row_numbered all (suc k)) row (negsuc m) (weighted_sum all (nonzero_pairs (suc (suc k)) ms)) at.0
    ∙ ap (λ t. negsuc m *ℤ row.bound +ℤ t) (weighted_bound all rows (suc k) equal ms at.1 h.1)

-- A list whose products all vanish is zeros.
pub zeros_from_products : (xs : List ℤ) → ((y : List ℤ) → product_of xs y ≡ pos 0) → AllByRecursion (λ a. a ≡ pos 0) xs
zeros_from_products [] h = tt
zeros_from_products (x ∷ xs) h = (
  omega (arith, linear, h (pos 1 ∷ []), mul-one_ℤ x, product_of-nil xs),
  zeros_from_products xs (λ y. omega (arith, linear, h (pos 0 ∷ y), mul-zero_ℤ x)),
)

-- ---- divisors

-- x is g times a number.
abbrev pub IsMultiple : ℕ → ℤ → Type 0
IsMultiple g x = (q : ℤ) × (x ≡ pos g *ℤ q)

-- A number with a divisor is a multiple of it.
pub multiple_from_divides : (g : ℕ) (x : ℤ) → g ∣ unsigned_abs x → IsMultiple g x
multiple_from_divides g x h = (over g x, sym (over-exact g x h))

-- A multiple has the divisor.
pub divides_from_multiple : (g : ℕ) (x : ℤ) → IsMultiple g x → g ∣ unsigned_abs x
divides_from_multiple g x (q, e) = rw (e, unsigned_abs-mul) (dvd-mul_right g (unsigned_abs q))

-- A product of numbers with a common divisor is a multiple of it.
pub multiple_product : (g : ℕ) (ms ys : List ℤ) → DividesAll g ms → IsMultiple g (product_of ms ys)
multiple_product g [] ys h = (pos 0, sym (mul-zero_ℤ (pos g)))
multiple_product g (m ∷ ms) [] h = (pos 0, sym (mul-zero_ℤ (pos g)))
multiple_product g (m ∷ ms) (y ∷ ys) h =
    let here = multiple_from_divides g m h.0 in
    let rest = multiple_product g ms ys h.1 in (
      here.0 *ℤ y +ℤ rest.0,
      ap (λ t. t *ℤ y +ℤ product_of ms ys) here.1 ∙ ap (λ t. (pos g *ℤ here.0) *ℤ y +ℤ t) rest.1
          ∙ ap (λ t. t +ℤ pos g *ℤ rest.0) (mul_assoc_ℤ (pos g) here.0 y) ∙ sym (mul-add_ℤ (pos g) (here.0 *ℤ y) rest.0),
    )

-- What divides the listed multipliers divides them all.
pub divides_listed : (g k : ℕ) (ms : List ℤ) → AllByRecursion (λ pair. g ∣ unsigned_abs pair.1) (nonzero_pairs k ms) → DividesAll g ms
unfolding nonzero_pairs
divides_listed g k [] h = tt
divides_listed g k (pos zero ∷ ms) h = (dvd-zero g, divides_listed g (suc k) ms h)
divides_listed g k (pos (suc m) ∷ ms) h = (h.0, divides_listed g (suc k) ms h.1)
divides_listed g k (negsuc m ∷ ms) h = (h.0, divides_listed g (suc k) ms h.1)

-- What divides negated numbers divides the numbers.
pub divides_neg : (g : ℕ) (ms : List ℤ) → DividesAll g (map neg_ℤ ms) → DividesAll g ms
divides_neg g [] h = tt
divides_neg g (pos zero ∷ ms) h = (h.0, divides_neg g ms h.1)
divides_neg g (pos (suc m) ∷ ms) h = (h.0, divides_neg g ms h.1)
divides_neg g (negsuc m ∷ ms) h = (h.0, divides_neg g ms h.1)

-- A list is divided where its parts are.
pub divides_parts : (g n : ℕ) (xs : List ℤ) → DividesAll g (take n xs) → g ∣ unsigned_abs (get_or xs n (pos 0)) → DividesAll g (drop (suc n) xs)
    → DividesAll g xs
divides_parts g n [] h b k = tt
divides_parts g zero (x ∷ xs) h b k = (b, k)
divides_parts g (suc n) (x ∷ xs) h b k = (h.0, divides_parts g n xs h.1 b k)
