-- Products of lists with points.
use Rattle.std.proofs.Common.{◌≡◌, List, [], ◌∷◌, map, ℤ, pos, ◌+ℤ◌, ◌*ℤ◌, neg_ℤ, refl, sym, ◌∙◌, ap, ap₂, subst, ◌≤ℤ◌, MatchBool, arith}
use Rattle.std.proofs.lemmas.Int.{ints}
use Rattle.lin_rows.specs.Row.{Row, Meets, MeetsOver, product_of, multiple_of, sum_of}
use Rattle.lin_rows.proofs.Integers.{mul_assoc_ℤ, mul-add_ℤ, add-mul_ℤ, neg-mul_ℤ, zero-mul_ℤ, mul-zero_ℤ}
use Rattle.lin_rows.proofs.Divisors.{AllZero}

-- The product with the empty list is 0.
pub product_of-nil : (xs : List ℤ) → product_of xs [] ≡ pos 0
product_of-nil [] = refl
product_of-nil (x ∷ xs) = refl

-- The product of a multiple is the multiple of the product.
pub product_of-scaled : (k : ℤ) (xs z : List ℤ) → product_of (multiple_of k xs) z ≡ k *ℤ product_of xs z
product_of-scaled k [] z = sym (mul-zero_ℤ k)
product_of-scaled k (x ∷ xs) [] = sym (mul-zero_ℤ k)
product_of-scaled k (x ∷ xs) (y ∷ z) =
    ap₂ ◌+ℤ◌ (mul_assoc_ℤ k x y) (product_of-scaled k xs z) ∙ sym (mul-add_ℤ k (x *ℤ y) (product_of xs z))

-- the sum of two sums, taken the other way
pub regroup : (a b c d : ℤ) → (a +ℤ b) +ℤ (c +ℤ d) ≡ (a +ℤ c) +ℤ (b +ℤ d)
regroup a b c d = omega (arith, ints)

-- The product of a sum is the sum of the products.
pub product_of-sum_of : (xs ys z : List ℤ) → product_of (sum_of xs ys) z ≡ product_of xs z +ℤ product_of ys z
product_of-sum_of [] ys z = omega (arith, ints)
product_of-sum_of (x ∷ xs) [] z = omega (arith, ints)
product_of-sum_of (x ∷ xs) (y ∷ ys) [] = refl
product_of-sum_of (x ∷ xs) (y ∷ ys) (w ∷ z) =
    ap₂ ◌+ℤ◌ (add-mul_ℤ x y w) (product_of-sum_of xs ys z) ∙ regroup (x *ℤ w) (y *ℤ w) (product_of xs z) (product_of ys z)

-- The product of the negated numbers is the negated product.
pub product_of-neg : (xs z : List ℤ) → product_of (map neg_ℤ xs) z ≡ neg_ℤ (product_of xs z)
product_of-neg [] z = refl
product_of-neg (x ∷ xs) [] = refl
product_of-neg (x ∷ xs) (y ∷ z) =
    ap₂ ◌+ℤ◌ (neg-mul_ℤ x y) (product_of-neg xs z) ∙ omega (arith, ints)

-- coefficients that are all 0 give 0
pub product_of-AllZero : (xs z : List ℤ) → AllZero xs → product_of xs z ≡ pos 0
product_of-AllZero [] z all = refl
product_of-AllZero (x ∷ xs) [] all = refl
product_of-AllZero (x ∷ xs) (y ∷ z) all =
    ap₂ ◌+ℤ◌ (ap (λ v. v *ℤ y) all.0 ∙ zero-mul_ℤ y) (product_of-AllZero xs z all.1)

-- a whole point is the rational one over 1
pub MeetsOver-one : (row : Row) (z : List ℤ) → Meets row z → MeetsOver row z (pos 1)
MeetsOver-one row z meets =
    let one : row.bound ≡ row.bound *ℤ pos 1 = omega (arith, ints) in
    subst (λ b. MatchBool row.equal (product_of row.coefficients z ≡ b) (product_of row.coefficients z ≤ℤ b)) one meets
