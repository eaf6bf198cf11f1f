-- Fractions in order, and the value that is chosen between two of them.
use Rattle.std.proofs.Common.{◌≡◌, ℕ, zero, suc, ◌+◌, ◌*◌, ◌/◌, ◌<◌, refl, sym, ap, ◌∙◌, arith, Bool, true, false, cond, Some, None, Option}
use Rattle.std.specs.Prelude.{ℤ, pos, negsuc, neg_ℤ, ◌*ℤ◌, ◌≤ℤ◌, ◌<ℤ◌, unsigned_abs, int_le}
use Rattle.std.specs.Int.{int_div_euclid}
use Rattle.std.proofs.lemmas.Int.{ints, by_lt_z}
use Rattle.std.proofs.Math.Nat.{div-mul-le_self, lt-div-mul-add}
use Rattle.lin_rows.specs.Gcd.{gcd}
use Rattle.lin_rows.proofs.Divisors.{IsGcd-gcd}
use Rattle.farkas_cert.specs.Divided.{over}
use Rattle.farkas_cert.specs.BackSubstitution.{Fraction, whole, reduced_fraction, fraction, floor_of, ceiling_of, chosen_value}
use Rattle.farkas_cert.proofs.Divisors.{over-exact}
use Rattle.farkas_cert.proofs.Eliminates.{gcd_positive}
use Rattle.lin_rows.proofs.Integers.{mul_comm_ℤ, mul-neg_ℤ, neg-mul_ℤ, zero-mul_ℤ}
use Rattle.farkas_cert.proofs.Integers.{linear, mul-one_ℤ, mul_right_le_ℤ, le_of_mul_right_ℤ, factors}

pub record IsAtMost (f g : Fraction) : Type 0 where
  pub left : pos 0 <ℤ f.denominator
  pub right : pos 0 <ℤ g.denominator
  pub le : (f.numerator *ℤ g.denominator) ≤ℤ (g.numerator *ℤ f.denominator)

-- A fraction is at most itself.
pub at_most_self : (f : Fraction) → pos 0 <ℤ f.denominator → IsAtMost f f
at_most_self f h = record { left = h; right = h; le = omega (arith, linear) }

-- A positive number is not negative.
pub not_negative : (a : ℤ) → pos 0 <ℤ a → pos 0 ≤ℤ a
not_negative a h = omega (arith, linear)

-- Cross products of fractions in order are in order.
trans_by : (a b c d e f : ℤ) → pos 0 <ℤ b → pos 0 <ℤ d → pos 0 <ℤ f → (a *ℤ d) ≤ℤ (c *ℤ b) → (c *ℤ f) ≤ℤ (e *ℤ d) → (a *ℤ f) ≤ℤ (e *ℤ b)
trans_by a b c d e f hb hd hf h k =
    let first = mul_right_le_ℤ (a *ℤ d) (c *ℤ b) f (not_negative f hf) h in
    let second = mul_right_le_ℤ (c *ℤ f) (e *ℤ d) b (not_negative b hb) k in
    let left : (a *ℤ d) *ℤ f ≡ (a *ℤ f) *ℤ d = simp factors in
    let middle : (c *ℤ b) *ℤ f ≡ (c *ℤ f) *ℤ b = simp factors in
    let right : (e *ℤ d) *ℤ b ≡ (e *ℤ b) *ℤ d = simp factors in
    le_of_mul_right_ℤ (a *ℤ f) (e *ℤ b) d hd (omega (arith, linear))

-- At most what is at most is at most.
pub at_most_trans : (f g h : Fraction) → IsAtMost f g → IsAtMost g h → IsAtMost f h
at_most_trans f g h i k = record {
  left = i.left;
  right = k.right;
  le = trans_by f.numerator f.denominator g.numerator g.denominator h.numerator h.denominator i.left i.right k.right i.le k.le;
}

-- ---- whole numbers beside a fraction

-- The floor times the divisor is at most the number.
floor_by : (x d : ℤ) → pos 0 <ℤ d → (int_div_euclid x d *ℤ d) ≤ℤ x
floor_by (pos a) (pos k) h = omega (arith, linear, div-mul-le_self a k)
floor_by (negsuc a) (pos zero) h = absurd (omega (arith, linear))
floor_by (negsuc a) (pos (suc k)) h = let l : a < a / suc k * suc k + suc k = lt-div-mul-add (omega arith) in omega (arith, ints)
floor_by x (negsuc k) h = absurd (omega (arith, linear))

-- A whole number up to the floor is at most the fraction.
pub below_floor : (k : ℤ) (f : Fraction) → pos 0 <ℤ f.denominator → k ≤ℤ floor_of f → IsAtMost (whole k) f
below_floor k f h l = record {
  left = omega (arith, linear);
  right = h;
  le = omega (arith, linear, mul_right_le_ℤ k (floor_of f) f.denominator (not_negative f.denominator h) l, floor_by f.numerator f.denominator h, mul-one_ℤ f.numerator);
}

-- A fraction is at most its ceiling.
pub below_ceiling : (f : Fraction) → pos 0 <ℤ f.denominator → IsAtMost f (whole (ceiling_of f))
below_ceiling f h = record {
  left = h;
  right = omega (arith, linear);
  le = omega (arith, linear, floor_by (neg_ℤ f.numerator) f.denominator h, mul-one_ℤ f.numerator, neg-mul_ℤ (int_div_euclid (neg_ℤ f.numerator) f.denominator) f.denominator);
}

-- A number is at most itself.
at_most_itself : (k : ℤ) → k ≤ℤ k
at_most_itself k = omega (arith, linear)

-- ---- the chosen value

-- The chosen value is at most what both bounds are at most.
pub chosen_upper : (low high : Option Fraction) (u g : Fraction) → high ≡ Some u → IsAtMost u g → ((l : Fraction) → low ≡ Some l → IsAtMost l g)
    → IsAtMost (chosen_value low high) g
chosen_upper low None u g e h k = absurd cc
chosen_upper None (Some v) u g e h k =
    let same : v ≡ u = cc in
    let top : IsAtMost v g = rw same h in
    at_most_trans (whole (floor_of v)) v g (below_floor (floor_of v) v top.left (at_most_itself (floor_of v))) top
chosen_upper (Some l) (Some v) u g e h k = by_test (int_le (ceiling_of l) (floor_of v)) refl where
  same : v ≡ u
  same = cc

  top : IsAtMost v g
  top = rw same h

  by_test : (b : Bool) → int_le (ceiling_of l) (floor_of v) ≡ b → IsAtMost (cond b (whole (ceiling_of l)) l) g
  by_test true t = at_most_trans (whole (ceiling_of l)) v g (below_floor (ceiling_of l) v top.left (omega (arith, ints))) top
  by_test false t = k l refl

-- The chosen value is at least what is at most the lower bound.
pub chosen_lower : (low high : Option Fraction) (l f : Fraction) → low ≡ Some l → IsAtMost f l → IsAtMost f (chosen_value low high)
chosen_lower None high l f e h = absurd cc
chosen_lower (Some m) None l f e h =
    let same : m ≡ l = cc in
    let top : IsAtMost f m = rw same h in
    at_most_trans f m (whole (ceiling_of m)) top (below_ceiling m top.right)
chosen_lower (Some m) (Some v) l f e h = by_test (int_le (ceiling_of m) (floor_of v)) where
  same : m ≡ l
  same = cc

  top : IsAtMost f m
  top = rw same h

  by_test : (b : Bool) → IsAtMost f (cond b (whole (ceiling_of m)) m)
  by_test true = at_most_trans f m (whole (ceiling_of m)) top (below_ceiling m top.right)
  by_test false = top

-- a fraction that may be there, with a positive denominator
abbrev pub IsPositive : Option Fraction → Type 0
IsPositive o = (f : Fraction) → o ≡ Some f → pos 0 <ℤ f.denominator

-- The chosen value has a positive denominator.
pub chosen_positive : (low high : Option Fraction) → IsPositive low → IsPositive high → pos 0 <ℤ (chosen_value low high).denominator
chosen_positive None None h k = omega (arith, linear)
chosen_positive None (Some v) h k = omega (arith, linear)
chosen_positive (Some l) None h k = omega (arith, linear)
chosen_positive (Some l) (Some v) h k = by_test (int_le (ceiling_of l) (floor_of v)) where
  by_test : (b : Bool) → pos 0 <ℤ (cond b (whole (ceiling_of l)) l).denominator
  by_test true = omega (arith, linear)
  by_test false = h l refl

-- ---- a fraction of two numbers

pub record IsFractionOf (t s : ℤ) (f : Fraction) : Type 0 where
  pub positive : pos 0 <ℤ f.denominator
  pub same : f.numerator *ℤ s ≡ t *ℤ f.denominator

-- A factor of a positive product with a positive number is positive.
pub positive_over : (g x s : ℤ) → pos 0 <ℤ g → g *ℤ x ≡ s → pos 0 <ℤ s → pos 0 <ℤ x
positive_over g x s h e k = by_lt_z (pos 0) x (λ l. l) (λ l. absurd (omega (arith, linear, mul_right_le_ℤ x (pos 0) g (not_negative g h) l, zero-mul_ℤ g, mul_comm_ℤ x g)))

-- A reduced fraction has the value.
reduced_is : (t : ℤ) (s : ℕ) → 0 < s → IsFractionOf t (pos s) (reduced_fraction t s)
reduced_is t s h =
    let g = gcd (unsigned_abs t) s in
    let d = IsGcd-gcd (unsigned_abs t) s in
    let left = over-exact g t d.0 in
    let right = over-exact g (pos s) d.1 in
    let swapped : over g t *ℤ (pos g *ℤ over g (pos s)) ≡ (pos g *ℤ over g t) *ℤ over g (pos s) = simp factors in
    record {
      positive = positive_over (pos g) (over g (pos s)) (pos s) (gcd_positive (unsigned_abs t) s h) right (omega (arith, linear));
      same = ap (λ x. over g t *ℤ x) (sym right) ∙ swapped ∙ ap (λ x. x *ℤ over g (pos s)) left;
    }

-- A fraction of a number and one other than 0 has the value.
pub fraction_is : (t s : ℤ) → ¬ (s ≡ pos 0) → IsFractionOf t s (fraction t s)
unfolding fraction
fraction_is t (pos zero) n = absurd (n refl)
fraction_is t (pos (suc s)) n = reduced_is t (suc s) (omega arith)
fraction_is t (negsuc s) n =
    let r = reduced_is (neg_ℤ t) (suc s) (omega arith) in
    let f = reduced_fraction (neg_ℤ t) (suc s) in
    record {
      positive = r.positive;
      same = let e = r.same in omega (arith, linear, mul-neg_ℤ f.numerator (pos (suc s)), neg-mul_ℤ t f.denominator);
    }
