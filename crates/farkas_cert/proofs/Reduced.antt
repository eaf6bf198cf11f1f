-- Reduced fractions, and numbers that are given where they fit.
use Rattle.std.proofs.Common.{◌≡◌, refl, sym, subst, arith, Bool, true, false, Some, None, cond}
use Rattle.std.specs.Prelude.{ℤ, pos, negsuc, ◌<ℤ◌, unsigned_abs}
use Rattle.std.proofs.lemmas.Int.{ints}
use Rattle.thr_base.specs.Number.{Fits, fits}
use Rattle.lin_rows.specs.Exact.{fitting}
use Rattle.lin_rows.specs.Gcd.{gcd}
use Rattle.lin_rows.proofs.Numbers.{fits-true}
use Rattle.farkas_cert.specs.Divided.{over}
use Rattle.farkas_cert.specs.BackSubstitution.{fraction}
use Rattle.farkas_cert.proofs.Eliminates.{gcd_positive, positive_abs}

-- what a number that is given where it fits says
pub fitting_is : (z x : ℤ) → Some x ≡ fitting z → (x ≡ z) × Fits x
fitting_is z x e = by_test (fits z) refl e where
  by_test : (b : Bool) → fits z ≡ b → Some x ≡ cond b (Some z) None → (x ≡ z) × Fits x
  by_test true t e = let same : x ≡ z = cc in (same, subst Fits (sym same) (fits-true z t))
  by_test false t e = absurd cc

-- the divisor of a number and a positive one
pub divisor_positive : (t s : ℤ) → pos 0 <ℤ s → pos 0 <ℤ pos (gcd (unsigned_abs t) (unsigned_abs s))
divisor_positive t s h = gcd_positive (unsigned_abs t) (unsigned_abs s) (positive_abs s h)

-- a fraction over a positive number
pub fraction-parts : (t s : ℤ) → pos 0 <ℤ s →
    let g = gcd (unsigned_abs t) (unsigned_abs s) in record { numerator = over g t; denominator = over g s } ≡ fraction t s
unfolding fraction
fraction-parts t (pos s) h = refl
fraction-parts t (negsuc s) h = absurd (omega (arith, ints))
