-- Numbers that fit.
use Rattle.std.proofs.Common.{◌≡◌, ℕ, suc, ◌+◌, ◌<◌, ◌^◌, ℤ, pos, negsuc, SFits, to_z, of_z, to_z-of_z, neg_ℤ, unsigned_abs, zero, div-le_self, true, ltb-true, lt-ltb, lit<, arith}
use Rattle.std.specs.Int.{w128, int_div_euclid}
use Rattle.std.proofs.lemmas.Int.{ints}
use borrow.Author.Differences.{up, down}
use Rattle.thr_base.specs.Number.{Fits, fits}

-- What fits is in the range of an `i128`.
pub SFits-from_Fits : (z : ℤ) → Fits z → SFits w128 z
SFits-from_Fits (pos n) h = omega (arith, ints)
SFits-from_Fits (negsuc n) h = omega (arith, ints)

-- A number that fits is read back from its bits.
pub read_back : (z : ℤ) → Fits z → to_z w128 (of_z w128 z) ≡ z
read_back z h = to_z-of_z (SFits-from_Fits z h)

-- A quotient by what is at least 1 fits where the number does.
pub Fits-int_div_euclid : (z : ℤ) (g : ℕ) → Fits z → Fits (int_div_euclid z (pos g))
Fits-int_div_euclid (pos n) g h = omega (arith, div-le_self n g)
Fits-int_div_euclid (negsuc n) g h = omega (arith, div-le_self n g)

-- The number with the other sign fits.
pub Fits-neg : (z : ℤ) → Fits z → Fits (neg_ℤ z)
Fits-neg (pos zero) h = h
Fits-neg (pos (suc n)) h = h
Fits-neg (negsuc n) h = h

-- The absolute value of a number that fits is below 2^127.
pub unsigned_abs-below : (z : ℤ) → Fits z → unsigned_abs z < 2 ^ 127
unsigned_abs-below (pos n) h = h
unsigned_abs-below (negsuc n) h = h

-- ---- for arithmetic, where a number is read as `up z - down z`
-- What fits, as two inequalities between natural numbers.
pub Fits-out : (z : ℤ) → Fits z → (up z < down z + 2 ^ 127) × (down z < up z + 2 ^ 127)
Fits-out (pos n) h = (omega arith, omega arith)
Fits-out (negsuc n) h = (omega arith, omega arith)

-- These inequalities say that a number fits.
pub Fits-in : (z : ℤ) → up z < down z + 2 ^ 127 → down z < up z + 2 ^ 127 → Fits z
Fits-in (pos n) a b = omega arith
Fits-in (negsuc n) a b = omega arith

-- ---- the test of what fits
-- What passes the test fits.
pub fits-true : (z : ℤ) → fits z ≡ true → Fits z
fits-true (pos n) e = ltb-true n (2 ^ 127) e
fits-true (negsuc n) e = ltb-true (suc n) (2 ^ 127) e

-- what fits passes it
pub true-fits : (z : ℤ) → Fits z → fits z ≡ true
true-fits (pos n) h = lt-ltb n (2 ^ 127) h
true-fits (negsuc n) h = lt-ltb (suc n) (2 ^ 127) h

-- ---- small numbers, and absolute values
-- 0 fits.
pub zero_fits : Fits (pos 0)
zero_fits = lit< tt

-- 1 fits.
pub one_fits : Fits (pos 1)
one_fits = lit< tt

-- -1 fits.
pub minus_one_fits : Fits (negsuc 0)
minus_one_fits = lit< tt

-- an absolute value fits where the number does
pub Fits-unsigned_abs : (z : ℤ) → Fits z → Fits (pos (unsigned_abs z))
Fits-unsigned_abs (pos n) h = h
Fits-unsigned_abs (negsuc n) h = h
