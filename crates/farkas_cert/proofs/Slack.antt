-- How far a point is from a line, and what setting a column does to it.
use Rattle.std.proofs.Common.{◌≡◌, ℕ, zero, suc, ◌<◌, refl, sym, ap, ◌∙◌, arith, List, [], ◌∷◌, take, length, get_or, Bool, true, false, cond, Some, None, Option}
use Rattle.std.specs.Prelude.{ℤ, pos, ◌+ℤ◌, ◌-ℤ◌, ◌*ℤ◌, ◌≤ℤ◌, slice_set, ◌&&◌}
use Rattle.std.specs.Option.{option_map, option_and_then}
use Rattle.thr_base.specs.Number.{fits}
use Rattle.lin_rows.specs.Row.{product_of, multiple_of}
use Rattle.lin_rows.specs.Exact.{fitting}
use Rattle.farkas_cert.specs.Line.{Line, coefficient_at, bound_of}
use Rattle.farkas_cert.specs.BackSubstitution.{RationalPoint, Fraction, fraction, minus_products, bound_on}
use Rattle.lin_rows.proofs.Integers.{mul-add_ℤ, add-mul_ℤ, mul_assoc_ℤ, mul-zero_ℤ, zero-mul_ℤ}
use Rattle.farkas_cert.proofs.Integers.{linear, mul_left_comm_ℤ}
use Rattle.farkas_cert.proofs.Linear.{IsLinear, product-linear, get-linear, take-linear, difference-linear}

-- ---- the distance

-- the products of a line's coefficients with the numerators, less its bound times the denominator
abbrev pub slack : ℕ → RationalPoint → List ℤ → ℤ
slack n point xs = product_of (take n xs) point.numerators -ℤ get_or xs n (pos 0) *ℤ point.denominator

-- A linear function times a number is linear.
times_linear : (f : List ℤ → ℤ) (d : ℤ) → IsLinear f → IsLinear (λ xs. f xs *ℤ d)
times_linear f d h = record {
  of_sum = λ xs ys. ap (λ t. t *ℤ d) (h.of_sum xs ys) ∙ add-mul_ℤ (f xs) (f ys) d;
  of_scaled = λ k xs. ap (λ t. t *ℤ d) (h.of_scaled k xs) ∙ mul_assoc_ℤ k (f xs) d;
}

-- The slack is linear in the numbers.
pub slack_linear : (n : ℕ) (point : RationalPoint) → IsLinear (slack n point)
slack_linear n point =
    difference-linear (λ xs. product_of (take n xs) point.numerators) (λ xs. get_or xs n (pos 0) *ℤ point.denominator)
    (take-linear n (λ xs. product_of xs point.numerators) (product-linear point.numerators))
    (times_linear (λ xs. get_or xs n (pos 0)) point.denominator (get-linear n))

-- what a line asks of its slack
abbrev pub Holds : Bool → ℤ → Type 0
Holds true s = s ≡ pos 0
Holds false s = s ≤ℤ pos 0

-- the line holds at the point
abbrev pub MeetsLine : ℕ → RationalPoint → Line → Type 0
MeetsLine n point line = Holds line.equal (slack n point line.numbers)

-- ---- one column of a product

-- The product with a number that is set is the one without it and the new product.
pub set_product : (xs ns : List ℤ) (c : ℕ) (y : ℤ) → c < length ns
    → product_of xs (slice_set ns c y) ≡ product_of (slice_set xs c (pos 0)) ns +ℤ get_or xs c (pos 0) *ℤ y
set_product [] ns c y h = omega (arith, linear, zero-mul_ℤ y)
set_product (x ∷ xs) [] c y h = absurd (omega arith)
set_product (x ∷ xs) (n ∷ ns) zero y h = omega (arith, linear, zero-mul_ℤ n)
set_product (x ∷ xs) (n ∷ ns) (suc c) y h = omega (arith, linear, set_product xs ns c y (omega arith))

-- A product is the one without a place and the product there.
pub without_product : (xs ns : List ℤ) (c : ℕ)
    → product_of xs ns ≡ product_of (slice_set xs c (pos 0)) ns +ℤ get_or xs c (pos 0) *ℤ get_or ns c (pos 0)
without_product [] ns c = omega (arith, linear, zero-mul_ℤ (get_or ns c (pos 0)))
without_product (x ∷ xs) [] zero = omega (arith, linear, mul-zero_ℤ x)
without_product (x ∷ xs) [] (suc c) = omega (arith, linear, mul-zero_ℤ (get_or xs c (pos 0)))
without_product (x ∷ xs) (n ∷ ns) zero = omega (arith, linear, zero-mul_ℤ n)
without_product (x ∷ xs) (n ∷ ns) (suc c) = omega (arith, linear, without_product xs ns c)

-- The product with a multiple is the multiple of the product.
pub product-scaled_right : (k : ℤ) (xs ns : List ℤ) → product_of xs (multiple_of k ns) ≡ k *ℤ product_of xs ns
product-scaled_right k [] ns = sym (mul-zero_ℤ k)
product-scaled_right k (x ∷ xs) [] = sym (mul-zero_ℤ k)
product-scaled_right k (x ∷ xs) (n ∷ ns) = omega (arith, linear, product-scaled_right k xs ns, mul_left_comm_ℤ x k n, mul-add_ℤ k (x *ℤ n) (product_of xs ns))

-- ---- what a line says of a column

-- its bound times the denominator, less the products of the other columns
abbrev pub rest_of : ℕ → ℕ → RationalPoint → Line → ℤ
rest_of n c point line = bound_of n line *ℤ point.denominator -ℤ product_of (slice_set (take n line.numbers) c (pos 0)) point.numerators

-- A number less products, where it is given, is the difference.
minus_is : (t : ℤ) (xs ns : List ℤ) (r : ℤ) → minus_products t xs ns ≡ Some r → r ≡ t -ℤ product_of xs ns
minus_is t [] ns r e = let same : t ≡ r = cc in omega (arith, linear)
minus_is t (x ∷ xs) [] r e = let same : t ≡ r = cc in omega (arith, linear)
minus_is t (x ∷ xs) (n ∷ ns) r e = by_fit (minus_is (t -ℤ x *ℤ n) xs ns r) (fits (x *ℤ n) && fits (t -ℤ x *ℤ n)) e where
  by_fit : (minus_products (t -ℤ x *ℤ n) xs ns ≡ Some r → r ≡ (t -ℤ x *ℤ n) -ℤ product_of xs ns) → (b : Bool)
      → cond b (minus_products (t -ℤ x *ℤ n) xs ns) None ≡ Some r → r ≡ t -ℤ (x *ℤ n +ℤ product_of xs ns)
  by_fit rest true e = let h = rest e in omega (arith, linear)
  by_fit rest false e = absurd cc

-- A number that is given is the number.
fitting_is : (x y : ℤ) → fitting x ≡ Some y → x ≡ y
fitting_is x y e = by_fit (fits x) e where
  by_fit : (b : Bool) → cond b (Some x) None ≡ Some y → x ≡ y
  by_fit true e = cc
  by_fit false e = absurd cc

-- What is given behind a step has the step given.
pub and_then_is : {X Y : Type 0} (f : X → Option Y) (o : Option X) (y : Y) → option_and_then f o ≡ Some y → (x : X) × (o ≡ Some x) × (f x ≡ Some y)
and_then_is f None y e = absurd cc
and_then_is f (Some x) y e = (x, refl, e)

-- An image that is given is that of what is given.
pub map_is : {X Y : Type 0} (f : X → Y) (o : Option X) (y : Y) → option_map f o ≡ Some y → (x : X) × (o ≡ Some x) × (f x ≡ y)
map_is f None y e = absurd cc
map_is f (Some x) y e = (x, refl, cc)

-- The bound of a line is the fraction of its rest and its coefficient.
pub bound_on_is : (n c : ℕ) (point : RationalPoint) (line : Line) (f : Fraction) → bound_on n c point line ≡ Some f
    → f ≡ fraction (rest_of n c point line) (coefficient_at c line *ℤ point.denominator)
unfolding bound_on
bound_on_is n c point line f e =
    let others = slice_set (take n line.numbers) c (pos 0) in
    let outer = and_then_is (λ t. option_map (fraction t) (fitting (coefficient_at c line *ℤ point.denominator)))
    (option_and_then (λ t. minus_products t others point.numerators) (fitting (bound_of n line *ℤ point.denominator))) f e in
    let inner = and_then_is (λ t. minus_products t others point.numerators) (fitting (bound_of n line *ℤ point.denominator)) outer.0 outer.1 in
    let start = fitting_is (bound_of n line *ℤ point.denominator) inner.0 inner.1 in
    let rest = minus_is inner.0 others point.numerators outer.0 inner.2 in
    let last = map_is (fraction outer.0) (fitting (coefficient_at c line *ℤ point.denominator)) f outer.2 in
    let divisor = fitting_is (coefficient_at c line *ℤ point.denominator) last.0 last.1 in
    cc
