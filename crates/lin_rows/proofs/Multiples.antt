-- The least common multiple of two positive numbers.
use Rattle.std.proofs.Common.{◌≡◌, ℕ, zero, suc, ◌+◌, ◌*◌, ◌/◌, ◌%◌, ◌<◌, refl, sym, ◌∙◌, ap, subst, arith, mul_assoc, mul_comm, mul_left_comm, mul-le-mul_left, ℤ, pos, negsuc, ◌*ℤ◌, unsigned_abs}
use Rattle.std.specs.Prelude.{◌<ℤ◌}
use Rattle.std.specs.Int.{◌∣◌, int_div_euclid}
use Rattle.std.proofs.lemmas.Nat.Gcd.{mod-eq-zero_of_dvd}
use Rattle.std.proofs.lemmas.Int.{ints}
use Rattle.std.proofs.Math.Nat.{div-add-mod, dvd-add_iff_right, dvd-mul_left, dvd-mul_right_of_dvd, mul-dvd-mul_left, mul-dvd-mul_right, dvd_of_mul-dvd-mul_right, eq-zero_of_zero-dvd}
use Rattle.lin_rows.specs.Gcd.{gcd_within, gcd, lcm}
use Rattle.lin_rows.proofs.Divisors.{IsGcd-gcd}

-- what divides both multiples of m divides that of a remainder
dvd-mul_mod : (d m a b : ℕ) → d ∣ m * a → d ∣ m * b → d ∣ m * (a % b)
dvd-mul_mod d m a b p q =
    let whole : m * b * (a / b) + m * (a % b) ≡ m * a = omega (arith, ap (λ n. m * n) (div-add-mod a b)) in
    (dvd-add_iff_right d (dvd-mul_right_of_dvd d q (a / b))).1 (subst (λ n. d ∣ n) (sym whole) p)

-- and that of the greatest common divisor
dvd-mul_gcd_within : (f a b m d : ℕ) → d ∣ m * a → d ∣ m * b → d ∣ m * gcd_within f a b
dvd-mul_gcd_within zero a b m d p q = p
dvd-mul_gcd_within (suc f) a zero m d p q = p
dvd-mul_gcd_within (suc f) a (suc b) m d p q = dvd-mul_gcd_within f (suc b) (a % suc b) m d q (dvd-mul_mod d m a (suc b) p q)

-- what divides a positive number is positive
positive_divisor : (a g : ℕ) → 0 < a → g ∣ a → 0 < g
positive_divisor a zero some h = absurd (omega (arith, eq-zero_of_zero-dvd h))
positive_divisor a (suc g) some h = omega arith

-- The greatest common divisor of a positive number and another is positive.
gcd-positive : (a b : ℕ) → 0 < a → 0 < gcd a b
gcd-positive a b some = positive_divisor a (gcd a b) some (IsGcd-gcd a b).0

-- a divisor times its quotient
quotient-exact : (g a : ℕ) → g ∣ a → g * (a / g) ≡ a
quotient-exact g a h = omega (arith, div-add-mod a g, mod-eq-zero_of_dvd g h)

-- the multiple times the divisor is the product
lcm-mul-gcd : (a b : ℕ) → lcm a b * gcd a b ≡ a * b
lcm-mul-gcd a b =
    let exact = quotient-exact (gcd a b) a (IsGcd-gcd a b).0 in
    let step : lcm a b * gcd a b ≡ gcd a b * (a / gcd a b) * b = simp (mul_assoc, mul_comm, mul_left_comm) in
    step ∙ ap (λ n. n * b) exact

-- a product is positive where both numbers are
mul_positive : (a b : ℕ) → 0 < a → 0 < b → 0 < a * b
mul_positive a b p q = omega (arith, mul-le-mul_left a q)

-- the first number of a positive product is positive
positive_left : (a b : ℕ) → 0 < a * b → 0 < a
positive_left zero b p = absurd (omega arith)
positive_left (suc a) b p = omega arith

-- The least common multiple of positive numbers is positive.
pub lcm-positive : (a b : ℕ) → 0 < a → 0 < b → 0 < lcm a b
lcm-positive a b p q =
    let exact = lcm-mul-gcd a b in
    let some = mul_positive a b p q in
    positive_left (lcm a b) (gcd a b) (omega (arith, exact, some))

-- The first number divides the least common multiple.
pub lcm-first : (a b : ℕ) → 0 < a → a ∣ lcm a b
lcm-first a b some =
    dvd_of_mul-dvd-mul_right a (gcd-positive a b some) (subst (λ n. a * gcd a b ∣ n) (sym (lcm-mul-gcd a b)) (mul-dvd-mul_left (gcd a b) a (IsGcd-gcd a b).1))

-- The second number divides the least common multiple.
pub lcm-second : (a b : ℕ) → b ∣ lcm a b
lcm-second a b = dvd-mul_left b (a / gcd a b)

-- The least common multiple divides each common multiple.
pub lcm-least : (a b m : ℕ) → 0 < a → a ∣ m → b ∣ m → lcm a b ∣ m
lcm-least a b m some p q =
    let first : a * b ∣ m * a = subst (λ n. a * b ∣ n) (mul_comm a m) (mul-dvd-mul_left b a q) in
    let second : a * b ∣ m * b = mul-dvd-mul_right a p b in
    let all = dvd-mul_gcd_within b a b m (a * b) first second in
    dvd_of_mul-dvd-mul_right (lcm a b) (gcd-positive a b some) (subst (λ n. n ∣ m * gcd a b) (sym (lcm-mul-gcd a b)) all)

-- ---- of integers
-- The greatest common divisor with a positive integer is positive.
pub gcd-positive_ℤ : (a b : ℤ) → pos 0 <ℤ a → pos 0 <ℤ pos (gcd (unsigned_abs a) (unsigned_abs b))
gcd-positive_ℤ (pos a) b some = let h = gcd-positive a (unsigned_abs b) (omega (arith, ints)) in omega (arith, ints)
gcd-positive_ℤ (negsuc a) b some = absurd (omega (arith, ints))

-- the quotient of a positive number times another
pub lcm-quotient : (a b : ℤ) → pos 0 <ℤ a → pos 0 <ℤ b
    → int_div_euclid a (pos (gcd (unsigned_abs a) (unsigned_abs b))) *ℤ b ≡ pos (lcm (unsigned_abs a) (unsigned_abs b))
lcm-quotient (pos a) (pos b) p q = refl
lcm-quotient (pos a) (negsuc b) p q = absurd (omega (arith, ints))
lcm-quotient (negsuc a) b p q = absurd (omega (arith, ints))
