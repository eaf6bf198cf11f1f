-- Laws of sums, products and orders of integers, which the crates above cite too.
use Rattle.std.proofs.Common.{◌≡◌, ℕ, ◌+◌, ◌*◌, ◌≤◌, ◌<◌, ℤ, pos, negsuc, ◌+ℤ◌, ◌*ℤ◌, neg_ℤ, ◌≤ℤ◌, ◌<ℤ◌, arith, refl, ◌∙◌, ap, ap₂, div-one, List, [], ◌∷◌, map, mul-le-mul_left, mod-lt}
use Rattle.std.specs.Int.{int_div_euclid, int_rem_euclid}
use Rattle.std.proofs.Math.Nat.{div-add-mod}
use Rattle.std.proofs.lemmas.Int.{ints, by_lt_z}
use borrow.Author.Differences.{up, down, sum_is_lem, product_is}

-- ---- products and sums
-- A product does not change where its factors change places.
pub mul_comm_ℤ : (a b : ℤ) → a *ℤ b ≡ b *ℤ a
mul_comm_ℤ a b = omega (arith, ints)

-- Products may be grouped to the right.
pub mul_assoc_ℤ : (a b c : ℤ) → (a *ℤ b) *ℤ c ≡ a *ℤ (b *ℤ c)
mul_assoc_ℤ a b c =
    let l = product_is a b in
    let r = product_is b c in
    omega (arith, ints, ap (λ n. n * up c) l.0, ap (λ n. n * down c) l.0, ap (λ n. n * up c) l.1, ap (λ n. n * down c) l.1, ap (λ n. up a * n) r.0, ap (λ n. down a * n) r.0, ap (λ n. up a * n) r.1, ap (λ n. down a * n) r.1)

-- A number times a sum is the sum of the products.
pub mul-add_ℤ : (a b c : ℤ) → a *ℤ (b +ℤ c) ≡ a *ℤ b +ℤ a *ℤ c
mul-add_ℤ a b c = omega (arith, ints, ap (λ n. up a * n) (sum_is_lem b c), ap (λ n. down a * n) (sum_is_lem b c))

-- A sum times a number is the sum of the products.
pub add-mul_ℤ : (a b c : ℤ) → (a +ℤ b) *ℤ c ≡ a *ℤ c +ℤ b *ℤ c
add-mul_ℤ a b c = mul_comm_ℤ (a +ℤ b) c ∙ mul-add_ℤ c a b ∙ omega (arith, ints)

-- A product with a negated second factor is negated.
pub mul-neg_ℤ : (a b : ℤ) → a *ℤ neg_ℤ b ≡ neg_ℤ (a *ℤ b)
mul-neg_ℤ a b = omega (arith, ints, ap (λ n. up a * n) (neg_is_up b), ap (λ n. down a * n) (neg_is_up b), ap (λ n. up a * n) (neg_is_down b), ap (λ n. down a * n) (neg_is_down b))
  where
    neg_is_up : (b : ℤ) → up (neg_ℤ b) ≡ down b
    neg_is_up b = omega (arith, ints)

    neg_is_down : (b : ℤ) → down (neg_ℤ b) ≡ up b
    neg_is_down b = omega (arith, ints)

-- A product with a negated first factor is negated.
pub neg-mul_ℤ : (a b : ℤ) → neg_ℤ a *ℤ b ≡ neg_ℤ (a *ℤ b)
neg-mul_ℤ a b = mul_comm_ℤ (neg_ℤ a) b ∙ mul-neg_ℤ b a ∙ ap neg_ℤ (mul_comm_ℤ b a)

-- 0 times a number is 0.
pub zero-mul_ℤ : (a : ℤ) → pos 0 *ℤ a ≡ pos 0
zero-mul_ℤ a = omega (arith, ints)

-- A number times 0 is 0.
pub mul-zero_ℤ : (a : ℤ) → a *ℤ pos 0 ≡ pos 0
mul-zero_ℤ a = omega (arith, ints)

-- 1 times a number is the number.
pub one-mul_ℤ : (a : ℤ) → pos 1 *ℤ a ≡ a
one-mul_ℤ a = omega (arith, ints)

-- 0 and a number make the number.
pub zero-add_ℤ : (a : ℤ) → pos 0 +ℤ a ≡ a
zero-add_ℤ a = omega (arith, ints)

-- A number and 0 make the number.
pub add-zero_ℤ : (a : ℤ) → a +ℤ pos 0 ≡ a
add-zero_ℤ a = omega (arith, ints)

-- A sum does not change where its parts change places.
pub add_comm_ℤ : (a b : ℤ) → a +ℤ b ≡ b +ℤ a
add_comm_ℤ a b = omega (arith, ints)

-- Sums may be grouped to the right.
pub add_assoc_ℤ : (a b c : ℤ) → (a +ℤ b) +ℤ c ≡ a +ℤ (b +ℤ c)
add_assoc_ℤ a b c = omega (arith, ints)

-- ---- orders
-- A number from 0 on is a natural one.
pub le_by_sign : (a : ℤ) → pos 0 ≤ℤ a → (n : ℕ) × (a ≡ pos n)
le_by_sign (pos n) h = (n, refl)
le_by_sign (negsuc n) h = absurd (omega (arith, ints))

-- A factor from 0 on keeps the order.
pub mul-le-mul_ℤ : (a b c : ℤ) → pos 0 ≤ℤ a → b ≤ℤ c → (a *ℤ b) ≤ℤ (a *ℤ c)
mul-le-mul_ℤ (pos n) b c p h =
    let k : up b + down c ≤ up c + down b = omega (arith, ints) in
    omega (arith, ints, mul-le-mul_left n k)
mul-le-mul_ℤ (negsuc n) b c p h = absurd (omega (arith, ints))

-- a negative factor turns the order round
pub mul-le-mul_neg_ℤ : (a b c : ℤ) → a ≤ℤ pos 0 → b ≤ℤ c → (a *ℤ c) ≤ℤ (a *ℤ b)
mul-le-mul_neg_ℤ a b c p h =
    let turned = mul-le-mul_ℤ (neg_ℤ a) b c (omega (arith, ints)) h in
    omega (arith, ints, turned, ap up (neg-mul_ℤ a b), ap down (neg-mul_ℤ a b), ap up (neg-mul_ℤ a c), ap down (neg-mul_ℤ a c))

-- A positive factor keeps the strict order.
pub mul-lt-mul_ℤ : (a b c : ℤ) → pos 0 <ℤ a → b <ℤ c → (a *ℤ b) <ℤ (a *ℤ c)
mul-lt-mul_ℤ a b c p h =
    let step = mul-le-mul_ℤ a (b +ℤ pos 1) c (omega (arith, ints)) (omega (arith, ints)) in
    omega (arith, ints, step, ap up (mul-add_ℤ a b (pos 1)), ap down (mul-add_ℤ a b (pos 1)))

-- A positive factor may be taken off an order.
pub le_of_mul-le-mul_ℤ : (a b c : ℤ) → pos 0 <ℤ a → (a *ℤ b) ≤ℤ (a *ℤ c) → b ≤ℤ c
le_of_mul-le-mul_ℤ a b c p h = by_lt_z c b (λ lt. absurd (omega (arith, ints, mul-lt-mul_ℤ a c b p lt))) (λ le. le)

-- A positive factor may be taken off an equation.
pub eq_of_mul-eq-mul_ℤ : (a b c : ℤ) → pos 0 <ℤ a → a *ℤ b ≡ a *ℤ c → b ≡ c
eq_of_mul-eq-mul_ℤ a b c p h =
    let one = le_of_mul-le-mul_ℤ a b c p (omega (arith, ints)) in
    let other = le_of_mul-le-mul_ℤ a c b p (omega (arith, ints)) in
    omega (arith, ints)

-- ---- quotients rounded down
-- The divisor times the quotient, and the remainder, make the number.
pub quotient-remainder : (b : ℤ) (g : ℕ) → 0 < g → pos g *ℤ int_div_euclid b (pos g) +ℤ int_rem_euclid b (pos g) ≡ b
quotient-remainder (pos n) g p = omega (arith, ints, div-add-mod n g)
quotient-remainder (negsuc n) g p = omega (arith, ints, div-add-mod n g, mod-lt n p)

-- ---- by one and by nothing
-- A number divided by 1 is the number.
pub over_one : (x : ℤ) → int_div_euclid x (pos 1) ≡ x
over_one (pos n) = ap pos (div-one n)
over_one (negsuc n) = ap negsuc (div-one n)

-- a list over one
pub map-over_one : (xs : List ℤ) → map (λ x. int_div_euclid x (pos 1)) xs ≡ xs
map-over_one [] = refl
map-over_one (x ∷ xs) = ap₂ (λ y ys. y ∷ ys) (over_one x) (map-over_one xs)

-- nothing more
pub add-nothing_ℤ : (a b : ℤ) → b ≡ pos 0 → a +ℤ b ≡ a
add-nothing_ℤ a b e = omega (arith, ints)

-- nothing before
pub nothing-add_ℤ : (a b c : ℤ) → a ≡ pos 0 → b ≡ c → a +ℤ b ≡ c
nothing-add_ℤ a b c e f = omega (arith, ints)
