-- Division by a common divisor is exact.
use Rattle.std.proofs.Common.{◌≡◌, ℕ, zero, suc, ◌%◌, ◌<◌, ◌≤◌, refl, sym, ◌∙◌, arith, List, [], ◌∷◌, map}
use Rattle.std.specs.Prelude.{ℤ, pos, ◌*ℤ◌, unsigned_abs}
use Rattle.std.specs.Int.{IsGcd, ◌∣◌}
use Rattle.std.proofs.lemmas.Nat.{mod_below}
use Rattle.std.proofs.lemmas.Nat.Gcd.{IsGcd-from_zero, IsGcd-from_mod}
use Rattle.lin_rows.specs.Gcd.{gcd_within, gcd_of}
use Rattle.lin_rows.proofs.Divisors.{DividesAll, AllZero, AllZero-from_gcd_of, gcd_of-divides, exact_quotient, zero_from_abs}
use Rattle.farkas_cert.specs.Divided.{over, divided_numbers}
use Rattle.lin_rows.proofs.Integers.{zero-mul_ℤ}

-- Euclid's steps, as many as the second number, end at the greatest common divisor.
gcd_within-IsGcd : (fuel a b : ℕ) → b ≤ fuel → IsGcd a b (gcd_within fuel a b)
gcd_within-IsGcd zero a b h = IsGcd-from_zero a b (omega arith)
gcd_within-IsGcd (suc fuel) a zero h = IsGcd-from_zero a zero refl
gcd_within-IsGcd (suc fuel) a (suc b) h =
    let falls : a % suc b < suc b = mod_below a (suc b) (omega arith) in
    IsGcd-from_mod a (suc b) (gcd_within fuel (suc b) (a % suc b)) (gcd_within-IsGcd fuel (suc b) (a % suc b) (omega arith))

-- A divisor times the quotient is the number.
pub over-exact : (g : ℕ) (x : ℤ) → g ∣ unsigned_abs x → pos g *ℤ over g x ≡ x
over-exact zero x h = zero-mul_ℤ (over 0 x) ∙ sym (zero_from_abs x h)
over-exact (suc g) x h = sym (exact_quotient x (suc g) (omega arith) h)

-- A common divisor times the quotients is the numbers.
over_all : (g : ℕ) (xs : List ℤ) → DividesAll g xs → map (λ x. pos g *ℤ x) (map (over g) xs) ≡ xs
over_all g [] h = refl
over_all g (x ∷ xs) h =
    let l = over-exact g x h.0 in
    let r = over_all g xs h.1 in
    cc

-- The greatest common divisor times the divided numbers is the numbers.
pub divided-exact : (xs : List ℤ) → map (λ x. pos (gcd_of xs) *ℤ x) (divided_numbers xs) ≡ xs
unfolding divided_numbers
divided-exact xs = over_all (gcd_of xs) xs (gcd_of-divides xs)

-- Numbers that are all 0, divided by 0, stay.
zeros_over : (g : ℕ) (xs : List ℤ) → g ≡ 0 → AllZero xs → map (over g) xs ≡ xs
zeros_over g [] e h = refl
zeros_over g (x ∷ xs) e h =
    let here : over g x ≡ x = rw (h.0, e) refl in
    let rest = zeros_over g xs e h.1 in
    cc

-- Zeros are divided by nothing.
pub divided-same : (xs : List ℤ) → gcd_of xs ≡ 0 → divided_numbers xs ≡ xs
unfolding divided_numbers
divided-same xs e = zeros_over (gcd_of xs) xs e (AllZero-from_gcd_of xs e)
