-- Setting a column: lines without it still hold, and a line with it holds where the value is on the right side of its bound.
use Rattle.std.proofs.Common.{◌≡◌, ℕ, ◌<◌, sym, ap, ◌∙◌, arith, subst, take, length, get_or, Bool, true, false, cond, Some, None}
use Rattle.std.specs.Prelude.{ℤ, pos, neg_ℤ, ◌+ℤ◌, ◌-ℤ◌, ◌*ℤ◌, ◌<ℤ◌, unsigned_abs, slice_set, ◌&&◌}
use Rattle.std.proofs.lemmas.List.{length-set, length-map, get_or-take}
use Rattle.thr_base.specs.Number.{fits}
use Rattle.lin_rows.specs.Row.{product_of, multiple_of}
use Rattle.lin_rows.specs.Gcd.{gcd}
use Rattle.lin_rows.proofs.Divisors.{IsGcd-gcd}
use Rattle.farkas_cert.specs.Divided.{over}
use Rattle.farkas_cert.specs.Line.{Line, coefficient_at, bound_of, all_fit}
use Rattle.farkas_cert.specs.BackSubstitution.{RationalPoint, Fraction, assigned_point}
use Rattle.farkas_cert.proofs.Divisors.{over-exact}
use Rattle.farkas_cert.proofs.Eliminates.{gcd_positive, positive_abs}
use Rattle.farkas_cert.proofs.Fractions.{positive_over, not_negative}
use Rattle.lin_rows.proofs.Integers.{mul-add_ℤ, add-mul_ℤ, mul_assoc_ℤ, mul_comm_ℤ, mul-neg_ℤ, neg-mul_ℤ, mul-zero_ℤ, zero-mul_ℤ}
use Rattle.farkas_cert.proofs.Integers.{linear, mul_right_le_ℤ, le_of_mul_right_ℤ, eq_of_mul_right_ℤ, mul-positive_ℤ, factors}
use Rattle.farkas_cert.proofs.Slack.{slack, Holds, MeetsLine, set_product, without_product, product-scaled_right, rest_of}

-- ---- what the step does

pub record Moved (c : ℕ) (point : RationalPoint) (f : Fraction) (next : RationalPoint) : Type 0 where
  pub divisor : ℤ
  pub scale : ℤ
  pub share : ℤ
  pub divisor_positive : pos 0 <ℤ divisor
  pub scale_positive : pos 0 <ℤ scale
  pub of_value : divisor *ℤ scale ≡ f.denominator
  pub of_point : divisor *ℤ share ≡ point.denominator
  pub numerators : next.numerators ≡ slice_set (multiple_of scale point.numerators) c (f.numerator *ℤ share)
  pub denominator : next.denominator ≡ point.denominator *ℤ scale

-- A point that is given by a test is the point.
some_point : (b : Bool) (x y : RationalPoint) → cond b (Some x) None ≡ Some y → x ≡ y
some_point true x y e = cc
some_point false x y e = absurd cc

-- A point with a column set is the point moved there.
pub assigned_moved : (c : ℕ) (point : RationalPoint) (f : Fraction) (next : RationalPoint) → pos 0 <ℤ point.denominator → pos 0 <ℤ f.denominator
    → assigned_point c point f ≡ Some next → Moved c point f next
unfolding assigned_point
assigned_moved c point f next h k e =
    let g = gcd (unsigned_abs point.denominator) (unsigned_abs f.denominator) in
    let d = IsGcd-gcd (unsigned_abs point.denominator) (unsigned_abs f.denominator) in
    let scale = over g f.denominator in
    let share = over g point.denominator in
    let numerators = slice_set (multiple_of scale point.numerators) c (f.numerator *ℤ share) in
    let denominator = point.denominator *ℤ scale in
    let same = some_point (all_fit numerators && fits denominator) (record { numerators = numerators; denominator = denominator }) next e in
    let positive = gcd_positive (unsigned_abs point.denominator) (unsigned_abs f.denominator) (positive_abs f.denominator k) in
    let exact = over-exact g f.denominator d.1 in
    record {
      divisor = pos g;
      scale = scale;
      share = share;
      divisor_positive = positive;
      scale_positive = positive_over (pos g) scale f.denominator positive exact k;
      of_value = exact;
      of_point = over-exact g point.denominator d.0;
      numerators = ap (λ (p : RationalPoint). p.numerators) (sym same);
      denominator = ap (λ (p : RationalPoint). p.denominator) (sym same);
    }

-- A moved point has as many numerators.
pub moved_length : (n c : ℕ) (point : RationalPoint) (f : Fraction) (next : RationalPoint) → Moved c point f next → length point.numerators ≡ n
    → length next.numerators ≡ n
moved_length n c point f next m h =
    rw m.numerators (length-set (multiple_of m.scale point.numerators) c (f.numerator *ℤ m.share) ∙ length-map point.numerators (λ x. m.scale *ℤ x) ∙ h)

-- A moved point has a positive denominator.
pub moved_positive : (c : ℕ) (point : RationalPoint) (f : Fraction) (next : RationalPoint) → Moved c point f next → pos 0 <ℤ point.denominator
    → pos 0 <ℤ next.denominator
moved_positive c point f next m h = rw m.denominator (mul-positive_ℤ point.denominator m.scale h m.scale_positive)

-- ---- slack after the step

-- what the other columns give, and column c
moved_slack : (n c : ℕ) (point : RationalPoint) (f : Fraction) (next : RationalPoint) (line : Line) (m : Moved c point f next) → c < n
    → length point.numerators ≡ n →
    slack n next line.numbers ≡ (m.scale *ℤ product_of (slice_set (take n line.numbers) c (pos 0)) point.numerators +ℤ coefficient_at c line *ℤ (f.numerator *ℤ m.share)) -ℤ bound_of n line *ℤ (point.denominator *ℤ m.scale)
moved_slack n c point f next line m l h =
    let xs = take n line.numbers in
    let ns = multiple_of m.scale point.numerators in
    let y = f.numerator *ℤ m.share in
    let long : c < length ns = rw (length-map point.numerators (λ x. m.scale *ℤ x)) (omega arith) in
    let set = set_product xs ns c y long in
    let rest = product-scaled_right m.scale (slice_set xs c (pos 0)) point.numerators in
    let here = get_or-take n line.numbers c (pos 0) l in
    let numerators = ap (λ t. product_of xs t) m.numerators in
    let denominator = ap (λ t. bound_of n line *ℤ t) m.denominator in
    let column = ap (λ t. t *ℤ y) here in
    omega (arith, linear)

-- The scaled slack of a moved point, multiplied out.
scaled_sum : (g q s v d o a w b : ℤ) → g *ℤ q ≡ v → g *ℤ s ≡ d
    → g *ℤ ((q *ℤ o +ℤ a *ℤ (w *ℤ s)) -ℤ b *ℤ (d *ℤ q)) ≡ (a *ℤ d) *ℤ w -ℤ (b *ℤ d -ℤ o) *ℤ v
scaled_sum g q s v d o a w b e k =
    let first : g *ℤ (q *ℤ o) ≡ o *ℤ v = sym (mul_assoc_ℤ g q o) ∙ ap (λ t. t *ℤ o) e ∙ mul_comm_ℤ v o in
    let turn : g *ℤ (a *ℤ (w *ℤ s)) ≡ a *ℤ (w *ℤ (g *ℤ s)) = simp factors in
    let back : a *ℤ (w *ℤ d) ≡ (a *ℤ d) *ℤ w = simp factors in
    let second = turn ∙ ap (λ t. a *ℤ (w *ℤ t)) k ∙ back in
    let turn_b : g *ℤ (b *ℤ (d *ℤ q)) ≡ b *ℤ (d *ℤ (g *ℤ q)) = simp factors in
    let third = turn_b ∙ ap (λ t. b *ℤ (d *ℤ t)) e ∙ sym (mul_assoc_ℤ b d v) in
    omega (
      arith,
      linear,
      mul-add_ℤ g (q *ℤ o +ℤ a *ℤ (w *ℤ s)) (neg_ℤ (b *ℤ (d *ℤ q))),
      mul-add_ℤ g (q *ℤ o) (a *ℤ (w *ℤ s)),
      mul-neg_ℤ g (b *ℤ (d *ℤ q)),
      add-mul_ℤ (b *ℤ d) (neg_ℤ o) v,
      neg-mul_ℤ o v,
    )

-- up to a positive factor, the slack of a line is its coefficient times the denominator times the value, less the rest of the line
pub slack_at : (n c : ℕ) (point : RationalPoint) (f : Fraction) (next : RationalPoint) (line : Line) (m : Moved c point f next) → c < n
    → length point.numerators ≡ n →
    m.divisor *ℤ slack n next line.numbers ≡ (coefficient_at c line *ℤ point.denominator) *ℤ f.numerator -ℤ rest_of n c point line *ℤ f.denominator
slack_at n c point f next line m l h =
    ap (λ t. m.divisor *ℤ t) (moved_slack n c point f next line m l h)
    ∙ scaled_sum m.divisor m.scale m.share f.denominator point.denominator (product_of (slice_set (take n line.numbers) c (pos 0)) point.numerators)
    (coefficient_at c line) f.numerator (bound_of n line) m.of_value m.of_point

-- ---- what holds

-- A positive factor keeps that a slack is right.
holds_scaled : (equal : Bool) (k s : ℤ) → pos 0 <ℤ k → Holds equal s → Holds equal (k *ℤ s)
holds_scaled true k s h e = ap (λ t. k *ℤ t) e ∙ mul-zero_ℤ k
holds_scaled false k s h e = omega (arith, linear, mul_right_le_ℤ s (pos 0) k (not_negative k h) e, mul_comm_ℤ s k, zero-mul_ℤ k)

-- A positive factor may be taken off.
pub holds_cancel : (equal : Bool) (k s : ℤ) → pos 0 <ℤ k → Holds equal (k *ℤ s) → Holds equal s
holds_cancel true k s h e = eq_of_mul_right_ℤ s (pos 0) k h (mul_comm_ℤ s k ∙ e ∙ sym (zero-mul_ℤ k))
holds_cancel false k s h e = le_of_mul_right_ℤ s (pos 0) k h (omega (arith, linear, mul_comm_ℤ s k, zero-mul_ℤ k))

-- A line without the column holds as before.
pub still_meets : (n c : ℕ) (point : RationalPoint) (f : Fraction) (next : RationalPoint) (line : Line) → Moved c point f next → c < n
    → length point.numerators ≡ n → coefficient_at c line ≡ pos 0 → MeetsLine n point line → MeetsLine n next line
still_meets n c point f next line m l h z k =
    let xs = take n line.numbers in
    let o = product_of (slice_set xs c (pos 0)) point.numerators in
    let y = f.numerator *ℤ m.share in
    let none : coefficient_at c line *ℤ y ≡ pos 0 = ap (λ t. t *ℤ y) z ∙ zero-mul_ℤ y in
    let here = get_or-take n line.numbers c (pos 0) l ∙ z in
    let before = without_product xs point.numerators c in
    let lost : get_or xs c (pos 0) *ℤ get_or point.numerators c (pos 0) ≡ pos 0 = ap (λ t. t *ℤ get_or point.numerators c (pos 0)) here ∙ zero-mul_ℤ (get_or point.numerators c (pos 0)) in
    let turn : bound_of n line *ℤ (point.denominator *ℤ m.scale) ≡ m.scale *ℤ (bound_of n line *ℤ point.denominator) = simp factors in
    let same : slack n next line.numbers ≡ m.scale *ℤ slack n point line.numbers = moved_slack n c point f next line m l h ∙
    omega (arith, linear, mul-add_ℤ m.scale (product_of xs point.numerators) (neg_ℤ (bound_of n line *ℤ point.denominator)), mul-neg_ℤ m.scale (bound_of n line *ℤ point.denominator), ap (λ t. m.scale *ℤ t) before, mul-add_ℤ m.scale o (get_or xs c (pos 0) *ℤ get_or point.numerators c (pos 0)), ap (λ t. m.scale *ℤ t) lost, mul-zero_ℤ m.scale) in
    subst (λ t. Holds line.equal t) (sym same) (holds_scaled line.equal m.scale (slack n point line.numbers) m.scale_positive k)
