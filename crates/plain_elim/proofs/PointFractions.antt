-- Fractions as pairs of numbers that fit.
use Rattle.std.proofs.Common.{◌≡◌, refl, arith, Bool, true, false, Some, None, cond}
use Rattle.std.specs.Prelude.{ℤ, pos, negsuc, neg_ℤ, ◌*ℤ◌, ◌<ℤ◌, unsigned_abs, int_lt, ◌&&◌, IfSome}
use Rattle.std.proofs.lemmas.Int.{ints}
use Rattle.thr_base.specs.Number.{Fits, fits}
use Rattle.lin_rows.specs.Exact.{fitting}
use Rattle.lin_rows.specs.Gcd.{gcd}
use Rattle.lin_rows.proofs.Numbers.{Fits-int_div_euclid, fits-true}
use Rattle.lin_rows.proofs.Divisors.{IsGcd-gcd}
use Rattle.farkas_cert.specs.Divided.{over}
use Rattle.farkas_cert.specs.BackSubstitution.{Fraction, fraction, is_below}
use Rattle.farkas_cert.proofs.Divisors.{over-exact}
use Rattle.farkas_cert.proofs.Fractions.{positive_over}
use Rattle.farkas_cert.proofs.Reduced.{divisor_positive}
use Rattle.plain_elim.specs.inside.PointParts.{IsFraction}

-- what is given fits
pub fits-fitting : (z : ℤ) → IfSome (fitting z) Fits
fits-fitting z = by_test (fits z) refl where
  by_test : (b : Bool) → fits z ≡ b → IfSome (cond b (Some z) None) Fits
  by_test true t = fits-true z t
  by_test false t = tt

-- where the second of two cross products does not fit
pub is_below-none : (f g : Fraction) → None ≡ fitting (g.numerator *ℤ f.denominator) → None ≡ is_below f g
is_below-none f g e = by_test (fits (f.numerator *ℤ g.denominator)) (fits (g.numerator *ℤ f.denominator)) e where
  by_test : (a b : Bool) → None ≡ cond b (Some (g.numerator *ℤ f.denominator)) None
      → None ≡ cond (a && b) (Some (int_lt (f.numerator *ℤ g.denominator) (g.numerator *ℤ f.denominator))) None
  by_test true true e = absurd cc
  by_test true false e = refl
  by_test false b e = refl

pub IsFraction-parts : (t s : ℤ) → Fits t → Fits s → pos 0 <ℤ s →
    let g = gcd (unsigned_abs t) (unsigned_abs s) in IsFraction (over g t) (over g s)
IsFraction-parts t s ht hs h =
    let g = gcd (unsigned_abs t) (unsigned_abs s) in
    let exact = over-exact g s (IsGcd-gcd (unsigned_abs t) (unsigned_abs s)).1 in
    record {
      positive = positive_over (pos g) (over g s) s (divisor_positive t s h) exact h;
      numerator_fits = Fits-int_div_euclid t g ht;
      denominator_fits = Fits-int_div_euclid s g hs;
    }

-- both numbers negated
pub fraction-neg : (t s : ℤ) → s <ℤ pos 0 → fraction (neg_ℤ t) (neg_ℤ s) ≡ fraction t s
unfolding fraction
fraction-neg t (pos s) h = absurd (omega (arith, ints))
fraction-neg t (negsuc s) h = refl
