-- Linear functions of lists: each number, each product with a list, of the whole list or of a part. What they give of a combination.
use Rattle.std.proofs.Common.{◌≡◌, ℕ, zero, suc, refl, sym, ap, ◌∙◌, arith, List, [], ◌∷◌, take, drop, get_or}
use Rattle.std.specs.Prelude.{ℤ, pos, neg_ℤ, ◌+ℤ◌, ◌-ℤ◌, ◌*ℤ◌, ◌≤ℤ◌, ◌<ℤ◌}
use Rattle.lin_rows.specs.Row.{product_of, multiple_of, sum_of}
use Rattle.lin_rows.specs.Gcd.{gcd_of}
use Rattle.farkas_cert.specs.Divided.{divided_numbers}
use Rattle.farkas_cert.specs.Line.{combination}
use Rattle.farkas_cert.proofs.Divisors.{divided-exact, divided-same}
use Rattle.lin_rows.proofs.Integers.{mul-add_ℤ, mul-zero_ℤ, zero-mul_ℤ, mul_comm_ℤ, mul-neg_ℤ}
use Rattle.lin_rows.proofs.Points.{product_of-scaled, product_of-sum_of}
use Rattle.farkas_cert.proofs.Integers.{linear, eq_of_mul_right_ℤ, le_of_mul_right_ℤ, mul_right_le_ℤ}

pub record IsLinear (f : List ℤ → ℤ) : Type 0 where
  pub of_sum : (xs ys : List ℤ) → f (sum_of xs ys) ≡ f xs +ℤ f ys
  pub of_scaled : (k : ℤ) (xs : List ℤ) → f (multiple_of k xs) ≡ k *ℤ f xs

-- ---- products

-- The product with a list is linear.
pub product-linear : (zs : List ℤ) → IsLinear (λ xs. product_of xs zs)
product-linear zs = record { of_sum = λ xs ys. product_of-sum_of xs ys zs; of_scaled = λ k xs. product_of-scaled k xs zs }

-- ---- single numbers

-- The sum at a place is that of the numbers there.
pub get-sum : (xs ys : List ℤ) (c : ℕ) → get_or (sum_of xs ys) c (pos 0) ≡ get_or xs c (pos 0) +ℤ get_or ys c (pos 0)
get-sum [] ys c = omega (arith, linear)
get-sum (x ∷ xs) [] c = omega (arith, linear)
get-sum (x ∷ xs) (y ∷ ys) zero = refl
get-sum (x ∷ xs) (y ∷ ys) (suc c) = get-sum xs ys c

-- The multiple at a place is that of the number there.
pub get-scaled : (k : ℤ) (xs : List ℤ) (c : ℕ) → get_or (multiple_of k xs) c (pos 0) ≡ k *ℤ get_or xs c (pos 0)
get-scaled k [] c = sym (mul-zero_ℤ k)
get-scaled k (x ∷ xs) zero = refl
get-scaled k (x ∷ xs) (suc c) = get-scaled k xs c

-- The number at a place is linear.
pub get-linear : (c : ℕ) → IsLinear (λ xs. get_or xs c (pos 0))
get-linear c = record { of_sum = λ xs ys. get-sum xs ys c; of_scaled = λ k xs. get-scaled k xs c }

-- ---- parts

-- The first sums are those of the first numbers.
pub take-sum : (n : ℕ) (xs ys : List ℤ) → take n (sum_of xs ys) ≡ sum_of (take n xs) (take n ys)
take-sum zero xs ys = refl
take-sum (suc n) [] ys = refl
take-sum (suc n) (x ∷ xs) [] = refl
take-sum (suc n) (x ∷ xs) (y ∷ ys) = ap (λ zs. (x +ℤ y) ∷ zs) (take-sum n xs ys)

-- The first multiples are those of the first numbers.
pub take-scaled : (n : ℕ) (k : ℤ) (xs : List ℤ) → take n (multiple_of k xs) ≡ multiple_of k (take n xs)
take-scaled zero k xs = refl
take-scaled (suc n) k [] = refl
take-scaled (suc n) k (x ∷ xs) = ap (λ zs. (k *ℤ x) ∷ zs) (take-scaled n k xs)

-- A list is its sum with the empty one.
pub sum-none : (xs : List ℤ) → xs ≡ sum_of xs []
sum-none [] = refl
sum-none (x ∷ xs) = refl

-- The last sums are those of the last numbers.
pub drop-sum : (n : ℕ) (xs ys : List ℤ) → drop n (sum_of xs ys) ≡ sum_of (drop n xs) (drop n ys)
drop-sum zero xs ys = refl
drop-sum (suc n) [] ys = refl
drop-sum (suc n) (x ∷ xs) [] = sum-none (drop n xs)
drop-sum (suc n) (x ∷ xs) (y ∷ ys) = drop-sum n xs ys

-- The last multiples are those of the last numbers.
pub drop-scaled : (n : ℕ) (k : ℤ) (xs : List ℤ) → drop n (multiple_of k xs) ≡ multiple_of k (drop n xs)
drop-scaled zero k xs = refl
drop-scaled (suc n) k [] = refl
drop-scaled (suc n) k (x ∷ xs) = drop-scaled n k xs

-- A linear function of the first numbers is linear.
pub take-linear : (n : ℕ) (f : List ℤ → ℤ) → IsLinear f → IsLinear (λ xs. f (take n xs))
take-linear n f h = record {
  of_sum = λ xs ys. ap f (take-sum n xs ys) ∙ h.of_sum (take n xs) (take n ys);
  of_scaled = λ k xs. ap f (take-scaled n k xs) ∙ h.of_scaled k (take n xs);
}

-- A linear function of the last numbers is linear.
pub drop-linear : (n : ℕ) (f : List ℤ → ℤ) → IsLinear f → IsLinear (λ xs. f (drop n xs))
drop-linear n f h = record {
  of_sum = λ xs ys. ap f (drop-sum n xs ys) ∙ h.of_sum (drop n xs) (drop n ys);
  of_scaled = λ k xs. ap f (drop-scaled n k xs) ∙ h.of_scaled k (drop n xs);
}

-- The difference of linear functions is linear.
pub difference-linear : (f g : List ℤ → ℤ) → IsLinear f → IsLinear g → IsLinear (λ xs. f xs -ℤ g xs)
difference-linear f g h k = record {
  of_sum = λ xs ys. omega (arith, linear, h.of_sum xs ys, k.of_sum xs ys);
  of_scaled = λ m xs. omega (arith, linear, h.of_scaled m xs, k.of_scaled m xs, mul-add_ℤ m (f xs) (neg_ℤ (g xs)), mul-neg_ℤ m (g xs));
}

-- ---- combinations and what is left of them after the division

-- A linear function of a combination combines its values.
pub of_combination : (f : List ℤ → ℤ) → IsLinear f → (a : ℤ) (xs : List ℤ) (b : ℤ) (ys : List ℤ) → f (combination a xs b ys) ≡ a *ℤ f xs +ℤ b *ℤ f ys
of_combination f h a xs b ys = omega (arith, linear, h.of_sum (multiple_of a xs) (multiple_of b ys), h.of_scaled a xs, h.of_scaled b ys)

-- The greatest common divisor times the value of divided numbers is the value.
pub of_divided : (f : List ℤ → ℤ) → IsLinear f → (xs : List ℤ) → pos (gcd_of xs) *ℤ f (divided_numbers xs) ≡ f xs
of_divided f h xs = sym (h.of_scaled (pos (gcd_of xs)) (divided_numbers xs)) ∙ ap f (divided-exact xs)

-- A natural number is 0 or positive.
by_size : {P : Type 0} (g : ℕ) → (g ≡ 0 → P) → (pos 0 <ℤ pos g → P) → P
by_size zero same positive = same refl
by_size (suc g) same positive = positive (omega (arith, linear))

-- Divided numbers are the numbers, or their divisor is positive.
by_divisor : {P : Type 0} (xs : List ℤ) → (divided_numbers xs ≡ xs → P) → (pos 0 <ℤ pos (gcd_of xs) → P) → P
by_divisor xs same positive = by_size (gcd_of xs) (λ e. same (divided-same xs e)) positive

-- What vanishes on both vanishes on the made line; what is not negative stays so.
pub divided_vanishes : (f : List ℤ → ℤ) → IsLinear f → (xs : List ℤ) → f xs ≡ pos 0 → f (divided_numbers xs) ≡ pos 0
divided_vanishes f h xs e = by_divisor xs
    (λ z. ap f z ∙ e)
    (λ p. eq_of_mul_right_ℤ (f (divided_numbers xs)) (pos 0) (pos (gcd_of xs)) p (mul_comm_ℤ (f (divided_numbers xs)) (pos (gcd_of xs)) ∙ of_divided f h xs ∙ e ∙ sym (zero-mul_ℤ (pos (gcd_of xs)))))

-- A value from 0 on stays so for divided numbers.
pub divided_not_negative : (f : List ℤ → ℤ) → IsLinear f → (xs : List ℤ) → pos 0 ≤ℤ f xs → pos 0 ≤ℤ f (divided_numbers xs)
divided_not_negative f h xs e = by_divisor xs
    (λ z. let i = ap f z in omega (arith, linear))
    (λ p. let i = mul_comm_ℤ (f (divided_numbers xs)) (pos (gcd_of xs)) ∙ of_divided f h xs in
    le_of_mul_right_ℤ (pos 0) (f (divided_numbers xs)) (pos (gcd_of xs)) p (omega (arith, linear, zero-mul_ℤ (pos (gcd_of xs)))))

-- A value that is 0 for divided numbers is 0.
pub from_divided_vanishes : (f : List ℤ → ℤ) → IsLinear f → (xs : List ℤ) → f (divided_numbers xs) ≡ pos 0 → f xs ≡ pos 0
from_divided_vanishes f h xs e = sym (of_divided f h xs) ∙ ap (λ t. pos (gcd_of xs) *ℤ t) e ∙ mul-zero_ℤ (pos (gcd_of xs))

-- A value of at most 0 for divided numbers is at most 0.
pub from_divided_at_most : (f : List ℤ → ℤ) → IsLinear f → (xs : List ℤ) → f (divided_numbers xs) ≤ℤ pos 0 → f xs ≤ℤ pos 0
from_divided_at_most f h xs e =
    let g = pos (gcd_of xs) in
    let n : pos 0 ≤ℤ g = omega (arith, linear) in
    omega (arith, linear, mul_right_le_ℤ (f (divided_numbers xs)) (pos 0) g n e, zero-mul_ℤ g, mul_comm_ℤ (f (divided_numbers xs)) g, of_divided f h xs)
