-- A kept line holds where the value is on the right side of its bound, and a pair that holds puts a lower bound below an upper one.
use Rattle.std.proofs.Common.{◌≡◌, ℕ, zero, suc, ◌<◌, refl, sym, ap, ◌∙◌, arith, subst, List, take, length, get_or, Bool, true, false, cond, Some}
use Rattle.std.specs.Prelude.{ℤ, pos, negsuc, neg_ℤ, ◌+ℤ◌, ◌-ℤ◌, ◌*ℤ◌, ◌≤ℤ◌, ◌<ℤ◌, unsigned_abs}
use Rattle.std.specs.Int.{int_signum, IsGcd}
use Rattle.std.proofs.lemmas.List.{get_or-take}
use Rattle.lin_rows.specs.Gcd.{gcd}
use Rattle.lin_rows.proofs.Divisors.{IsGcd-gcd}
use Rattle.farkas_cert.specs.Divided.{over, divided_numbers}
use Rattle.farkas_cert.specs.Line.{Line, coefficient_at, is_nonzero, combination, made_line}
use Rattle.farkas_cert.specs.BackSubstitution.{RationalPoint, Fraction, bound_on}
use Rattle.farkas_cert.specs.Elimination.{paired_line, substituted_line}
use Rattle.farkas_cert.proofs.Divisors.{over-exact}
use Rattle.farkas_cert.proofs.Eliminates.{gcd_positive_left, positive_abs, nonzero_abs}
use Rattle.farkas_cert.proofs.Fractions.{IsAtMost, IsFractionOf, fraction_is, positive_over, not_negative}
use Rattle.lin_rows.proofs.Integers.{mul-add_ℤ, add-mul_ℤ, mul_assoc_ℤ, mul_comm_ℤ, mul-neg_ℤ, neg-mul_ℤ, mul-zero_ℤ, zero-mul_ℤ}
use Rattle.farkas_cert.proofs.Integers.{linear, mul_left_comm_ℤ, mul_right_le_ℤ, le_of_mul_right_ℤ, mul-positive_ℤ, factors}
use Rattle.farkas_cert.proofs.Linear.{IsLinear, of_combination, from_divided_vanishes, from_divided_at_most}
use Rattle.farkas_cert.proofs.Derived.{made_is}
use Rattle.farkas_cert.proofs.Slack.{slack, slack_linear, Holds, MeetsLine, without_product, rest_of, bound_on_is}
use Rattle.farkas_cert.proofs.Moves.{Moved, slack_at, holds_cancel}

-- ---- the two sides of a bound

-- A value at most an upper bound is on its right side.
upper_side : (s t : ℤ) (f w : Fraction) → pos 0 <ℤ s → IsFractionOf t s f → IsAtMost w f → (s *ℤ w.numerator -ℤ t *ℤ w.denominator) ≤ℤ pos 0
upper_side s t f w h i k =
    let wide = mul_right_le_ℤ (w.numerator *ℤ f.denominator) (f.numerator *ℤ w.denominator) s (not_negative s h) k.le in
    let left : (w.numerator *ℤ f.denominator) *ℤ s ≡ (s *ℤ w.numerator) *ℤ f.denominator = simp factors in
    let turn : (f.numerator *ℤ w.denominator) *ℤ s ≡ (f.numerator *ℤ s) *ℤ w.denominator = simp factors in
    let back : (t *ℤ f.denominator) *ℤ w.denominator ≡ (t *ℤ w.denominator) *ℤ f.denominator = simp factors in
    let right = turn ∙ ap (λ x. x *ℤ w.denominator) i.same ∙ back in
    let l : (s *ℤ w.numerator) ≤ℤ (t *ℤ w.denominator) = le_of_mul_right_ℤ (s *ℤ w.numerator) (t *ℤ w.denominator) f.denominator i.positive (omega (arith, linear)) in
    omega (arith, linear)

-- A value at least a lower bound is on its right side.
lower_side : (s t : ℤ) (f w : Fraction) → s <ℤ pos 0 → IsFractionOf t s f → IsAtMost f w → (s *ℤ w.numerator -ℤ t *ℤ w.denominator) ≤ℤ pos 0
lower_side s t f w h i k =
    let wide = mul_right_le_ℤ (f.numerator *ℤ w.denominator) (w.numerator *ℤ f.denominator) (neg_ℤ s) (omega (arith, linear)) k.le in
    let right : (w.numerator *ℤ f.denominator) *ℤ s ≡ (s *ℤ w.numerator) *ℤ f.denominator = simp factors in
    let turn : (f.numerator *ℤ w.denominator) *ℤ s ≡ (f.numerator *ℤ s) *ℤ w.denominator = simp factors in
    let back : (t *ℤ f.denominator) *ℤ w.denominator ≡ (t *ℤ w.denominator) *ℤ f.denominator = simp factors in
    let left = turn ∙ ap (λ x. x *ℤ w.denominator) i.same ∙ back in
    let l : (s *ℤ w.numerator) ≤ℤ (t *ℤ w.denominator) = le_of_mul_right_ℤ (s *ℤ w.numerator) (t *ℤ w.denominator) f.denominator i.positive
    (omega (arith, linear, mul-neg_ℤ (f.numerator *ℤ w.denominator) s, mul-neg_ℤ (w.numerator *ℤ f.denominator) s)) in
    omega (arith, linear)

-- A value at the bound of an equality is on it.
same_side : (s t : ℤ) (f : Fraction) → IsFractionOf t s f → s *ℤ f.numerator -ℤ t *ℤ f.denominator ≡ pos 0
same_side s t f i = omega (arith, linear, i.same, mul_comm_ℤ s f.numerator)

-- A negative number times a positive one is negative.
negative_product : (a d : ℤ) → a <ℤ pos 0 → pos 0 <ℤ d → (a *ℤ d) <ℤ pos 0
negative_product a d h k = omega (arith, linear, mul-positive_ℤ (neg_ℤ a) d (omega (arith, linear)) k, neg-mul_ℤ a d)

-- A number other than 0 times a positive one is not 0.
nonzero_product : (a d : ℤ) → is_nonzero a ≡ true → pos 0 <ℤ d → ¬ (a *ℤ d ≡ pos 0)
nonzero_product (pos zero) d e h = absurd cc
nonzero_product (pos (suc a)) d e h = let p = mul-positive_ℤ (pos (suc a)) d (omega (arith, linear)) h in λ z. absurd (omega (arith, linear))
nonzero_product (negsuc a) d e h = let p = negative_product (negsuc a) d (omega (arith, linear)) h in λ z. absurd (omega (arith, linear))

-- the bound of a line with the column, as a fraction
pub bound_is : (n c : ℕ) (point : RationalPoint) (line : Line) (f : Fraction) → is_nonzero (coefficient_at c line) ≡ true → pos 0 <ℤ point.denominator
    → bound_on n c point line ≡ Some f
    → IsFractionOf (rest_of n c point line) (coefficient_at c line *ℤ point.denominator) f
bound_is n c point line f z h e =
    subst (λ (g : Fraction). IsFractionOf (rest_of n c point line) (coefficient_at c line *ℤ point.denominator) g) (sym (bound_on_is n c point line f e))
    (fraction_is (rest_of n c point line) (coefficient_at c line *ℤ point.denominator) (nonzero_product (coefficient_at c line) point.denominator z h))

-- ---- a kept line holds

-- An equality whose scaled slack is 0 holds.
holds_by : (equal : Bool) (k s : ℤ) → pos 0 <ℤ k → equal ≡ true → k *ℤ s ≡ pos 0 → Holds equal s
holds_by true k s h t e = holds_cancel true k s h e
holds_by false k s h t e = absurd cc

-- An inequality whose scaled slack is at most 0 holds.
holds_below : (equal : Bool) (k s : ℤ) → pos 0 <ℤ k → equal ≡ false → (k *ℤ s) ≤ℤ pos 0 → Holds equal s
holds_below true k s h t e = absurd cc
holds_below false k s h t e = holds_cancel false k s h e

-- An equality holds at the point where its column has its value.
pub solved_meets : (n c : ℕ) (point : RationalPoint) (f : Fraction) (next : RationalPoint) (line : Line) → Moved c point f next → c < n
    → length point.numerators ≡ n → pos 0 <ℤ point.denominator
    → is_nonzero (coefficient_at c line) ≡ true → line.equal ≡ true → bound_on n c point line ≡ Some f → MeetsLine n next line
solved_meets n c point f next line m l h d z t e =
    let i = bound_is n c point line f z d e in
    let s = coefficient_at c line *ℤ point.denominator in
    holds_by line.equal m.divisor (slack n next line.numbers) m.divisor_positive t (slack_at n c point f next line m l h ∙ same_side s (rest_of n c point line) f i)

-- A line with an upper bound holds at a point at most there.
pub upper_meets : (n c : ℕ) (point : RationalPoint) (w : Fraction) (next : RationalPoint) (line : Line) (f : Fraction) → Moved c point w next → c < n
    → length point.numerators ≡ n → pos 0 <ℤ point.denominator
    → line.equal ≡ false → pos 0 <ℤ coefficient_at c line → IsFractionOf (rest_of n c point line) (coefficient_at c line *ℤ point.denominator) f
    → IsAtMost w f → MeetsLine n next line
upper_meets n c point w next line f m l h d t a i k =
    let s = coefficient_at c line *ℤ point.denominator in
    let side = upper_side s (rest_of n c point line) f w (mul-positive_ℤ (coefficient_at c line) point.denominator a d) i k in
    holds_below line.equal m.divisor (slack n next line.numbers) m.divisor_positive t (omega (arith, linear, slack_at n c point w next line m l h))

-- A line with a lower bound holds at a point at least there.
pub lower_meets : (n c : ℕ) (point : RationalPoint) (w : Fraction) (next : RationalPoint) (line : Line) (f : Fraction) → Moved c point w next → c < n
    → length point.numerators ≡ n → pos 0 <ℤ point.denominator
    → line.equal ≡ false → coefficient_at c line <ℤ pos 0 → IsFractionOf (rest_of n c point line) (coefficient_at c line *ℤ point.denominator) f
    → IsAtMost f w → MeetsLine n next line
lower_meets n c point w next line f m l h d t a i k =
    let s = coefficient_at c line *ℤ point.denominator in
    let side = lower_side s (rest_of n c point line) f w (negative_product (coefficient_at c line) point.denominator a d) i k in
    holds_below line.equal m.divisor (slack n next line.numbers) m.divisor_positive t (omega (arith, linear, slack_at n c point w next line m l h))

-- ---- a pair that holds

-- Of a pair that holds the lower bound is at most the upper one.
pair_bounds : (p q d u v fn fd gn gd : ℤ) → pos 0 <ℤ p → pos 0 <ℤ q → pos 0 <ℤ d → pos 0 <ℤ fd → pos 0 <ℤ gd
    → fn *ℤ (p *ℤ d) ≡ u *ℤ fd → gn *ℤ (neg_ℤ q *ℤ d) ≡ v *ℤ gd → pos 0 ≤ℤ (q *ℤ u +ℤ p *ℤ v) → (gn *ℤ fd) ≤ℤ (fn *ℤ gd)
pair_bounds p q d u v fn fd gn gd hp hq hd hf hg e k s =
    let wide = mul_right_le_ℤ (neg_ℤ (p *ℤ v)) (q *ℤ u) (gd *ℤ fd) (not_negative (gd *ℤ fd) (mul-positive_ℤ gd fd hg hf)) (omega (arith, linear)) in
    let turn : (gn *ℤ fd) *ℤ (p *ℤ (q *ℤ d)) ≡ (gn *ℤ (q *ℤ d)) *ℤ (fd *ℤ p) = simp factors in
    let back : (v *ℤ gd) *ℤ (fd *ℤ p) ≡ (p *ℤ v) *ℤ (gd *ℤ fd) = simp factors in
    let negated : gn *ℤ (q *ℤ d) ≡ neg_ℤ (v *ℤ gd) = omega (arith, linear, ap (λ t. gn *ℤ t) (neg-mul_ℤ q d), mul-neg_ℤ gn (q *ℤ d)) in
    let left = turn ∙ ap (λ t. t *ℤ (fd *ℤ p)) negated ∙ neg-mul_ℤ (v *ℤ gd) (fd *ℤ p) ∙ ap neg_ℤ back in
    let turn_f : (fn *ℤ gd) *ℤ (p *ℤ (q *ℤ d)) ≡ (fn *ℤ (p *ℤ d)) *ℤ (gd *ℤ q) = simp factors in
    let back_f : (u *ℤ fd) *ℤ (gd *ℤ q) ≡ (q *ℤ u) *ℤ (gd *ℤ fd) = simp factors in
    let right = turn_f ∙ ap (λ t. t *ℤ (gd *ℤ q)) e ∙ back_f in
    le_of_mul_right_ℤ (gn *ℤ fd) (fn *ℤ gd) (p *ℤ (q *ℤ d)) (mul-positive_ℤ p (q *ℤ d) hp (mul-positive_ℤ q d hq hd))
    (omega (arith, linear, neg-mul_ℤ (p *ℤ v) (gd *ℤ fd)))

-- the slack of a line by its column c
slack_split : (n c : ℕ) (point : RationalPoint) (line : Line) → c < n
    → slack n point line.numbers ≡ coefficient_at c line *ℤ get_or point.numerators c (pos 0) -ℤ rest_of n c point line
slack_split n c point line l =
    omega (arith, linear, without_product (take n line.numbers) point.numerators c, ap (λ t. t *ℤ get_or point.numerators c (pos 0)) (get_or-take n line.numbers c (pos 0) l))

-- What holds of divided numbers holds of the numbers.
holds_unreduced : (equal : Bool) (f : List ℤ → ℤ) → IsLinear f → (xs : List ℤ) → Holds equal (f (divided_numbers xs)) → Holds equal (f xs)
holds_unreduced true f l xs h = from_divided_vanishes f l xs h
holds_unreduced false f l xs h = from_divided_at_most f l xs h

-- what holds of the made line holds of the combination
unreduced : (n : ℕ) (point : RationalPoint) (equal : Bool) (a : ℤ) (left : Line) (b : ℤ) (right next : Line)
    → made_line equal a left.numbers b right.numbers ≡ Some next → MeetsLine n point next
    → Holds equal (a *ℤ slack n point left.numbers +ℤ b *ℤ slack n point right.numbers)
unreduced n point equal a left b right next e h =
    let xs = combination a left.numbers b right.numbers in
    let here : Holds equal (slack n point (divided_numbers xs)) = subst (λ (line : Line). MeetsLine n point line) (sym (made_is equal a left.numbers b right.numbers next e)) h in
    subst (λ t. Holds equal t) (of_combination (slack n point) (slack_linear n point) a left.numbers b right.numbers) (holds_unreduced equal (slack n point) (slack_linear n point) xs here)

-- A line holds where its form with the equality put in does.
pub substituted_back : (n c : ℕ) (point : RationalPoint) (equality line next : Line) → is_nonzero (coefficient_at c equality) ≡ true
    → equality.equal ≡ true → MeetsLine n point equality → substituted_line c equality line ≡ Some next → MeetsLine n point next → MeetsLine n point line
unfolding substituted_line
substituted_back n c point equality line next z t m e h = at (is_nonzero q) refl e where
  p : ℤ
  p = coefficient_at c equality

  q : ℤ
  q = coefficient_at c line

  g : ℕ
  g = gcd (unsigned_abs p) (unsigned_abs q)

  a : ℤ
  a = over g (pos (unsigned_abs p))

  b : ℤ
  b = neg_ℤ (over g (int_signum p *ℤ q))

  vanishes : slack n point equality.numbers ≡ pos 0
  vanishes = subst (λ (k : Bool). Holds k (slack n point equality.numbers)) t m

  positive : pos 0 <ℤ a
  positive = positive_over (pos g) a (pos (unsigned_abs p)) (gcd_positive_left (unsigned_abs p) (unsigned_abs q) (nonzero_abs p z))
      (over-exact g (pos (unsigned_abs p)) (IsGcd-gcd (unsigned_abs p) (unsigned_abs q)).0) (omega (arith, linear, nonzero_abs p z))

  at : (k : Bool) → is_nonzero q ≡ k → cond k (made_line line.equal a line.numbers b equality.numbers) (Some line) ≡ Some next
      → MeetsLine n point line
  at true w e =
      let sum = unreduced n point line.equal a line b equality next e h in
      let only : a *ℤ slack n point line.numbers +ℤ b *ℤ slack n point equality.numbers ≡ a *ℤ slack n point line.numbers =
      omega (arith, linear, ap (λ t. b *ℤ t) vanishes, mul-zero_ℤ b) in
      holds_cancel line.equal a (slack n point line.numbers) positive (subst (λ t. Holds line.equal t) only sum)
  at false w e = let same : line ≡ next = cc in subst (λ (l : Line). MeetsLine n point l) (sym same) h

-- q times the one slack and p times the other, where their parts by g do not rise above 0
pair_sum : (g a b p q u v x : ℤ) → pos 0 <ℤ g → g *ℤ a ≡ q → g *ℤ b ≡ p → (a *ℤ (p *ℤ x -ℤ u) +ℤ b *ℤ (neg_ℤ q *ℤ x -ℤ v)) ≤ℤ pos 0
    → pos 0 ≤ℤ (q *ℤ u +ℤ p *ℤ v)
pair_sum g a b p q u v x hg e k h =
    let sl = p *ℤ x -ℤ u in
    let sr = neg_ℤ q *ℤ x -ℤ v in
    let wide = mul_right_le_ℤ (a *ℤ sl +ℤ b *ℤ sr) (pos 0) g (not_negative g hg) h in
    let left : (a *ℤ sl) *ℤ g ≡ q *ℤ sl = mul_comm_ℤ (a *ℤ sl) g ∙ sym (mul_assoc_ℤ g a sl) ∙ ap (λ t. t *ℤ sl) e in
    let right : (b *ℤ sr) *ℤ g ≡ p *ℤ sr = mul_comm_ℤ (b *ℤ sr) g ∙ sym (mul_assoc_ℤ g b sr) ∙ ap (λ t. t *ℤ sr) k in
    let meet : p *ℤ (q *ℤ x) ≡ q *ℤ (p *ℤ x) = mul_left_comm_ℤ p q x in
    omega (arith, linear, add-mul_ℤ (a *ℤ sl) (b *ℤ sr) g, zero-mul_ℤ g, mul-add_ℤ q (p *ℤ x) (neg_ℤ u), mul-neg_ℤ q u, mul-add_ℤ p (neg_ℤ q *ℤ x) (neg_ℤ v), mul-neg_ℤ p v, ap (λ t. p *ℤ t) (neg-mul_ℤ q x), mul-neg_ℤ p (q *ℤ x))

-- Of a pair that holds the bounds are in order.
pub paired_bounds : (n c : ℕ) (point : RationalPoint) (positive negative next : Line) (f g : Fraction) → c < n → pos 0 <ℤ point.denominator
    → pos 0 <ℤ coefficient_at c positive → coefficient_at c negative <ℤ pos 0
    → IsFractionOf (rest_of n c point positive) (coefficient_at c positive *ℤ point.denominator) f
    → IsFractionOf (rest_of n c point negative) (coefficient_at c negative *ℤ point.denominator) g
    → paired_line c positive negative ≡ Some next → MeetsLine n point next → IsAtMost g f
unfolding paired_line
paired_bounds n c point positive negative next f g l d hp hn i k e h = record {
  left = k.positive;
  right = i.positive;
  le = pair_bounds p q point.denominator (rest_of n c point positive) (rest_of n c point negative) f.numerator f.denominator g.numerator g.denominator hp hq d i.positive k.positive i.same
      (ap (λ t. g.numerator *ℤ (t *ℤ point.denominator)) double ∙ k.same)
      (pair_sum (pos r) (over r q) (over r p) p q (rest_of n c point positive) (rest_of n c point negative) (get_or point.numerators c (pos 0))
      (gcd_positive_left (unsigned_abs p) (unsigned_abs q) (positive_abs p hp)) (over-exact r q at.1) (over-exact r p at.0) sum);
} where
  p : ℤ
  p = coefficient_at c positive

  q : ℤ
  q = neg_ℤ (coefficient_at c negative)

  r : ℕ
  r = gcd (unsigned_abs p) (unsigned_abs q)

  at : IsGcd (unsigned_abs p) (unsigned_abs q) r
  at = IsGcd-gcd (unsigned_abs p) (unsigned_abs q)

  hq : pos 0 <ℤ q
  hq = omega (arith, linear)

  double : neg_ℤ q ≡ coefficient_at c negative
  double = omega (arith, linear)

  whole_sum : (over r q *ℤ slack n point positive.numbers +ℤ over r p *ℤ slack n point negative.numbers) ≤ℤ pos 0
  whole_sum = unreduced n point false (over r q) positive (over r p) negative next e h

  sum : (over r q *ℤ (p *ℤ get_or point.numerators c (pos 0) -ℤ rest_of n c point positive) +ℤ over r p *ℤ (neg_ℤ q *ℤ get_or point.numerators c (pos 0) -ℤ rest_of n c point negative)) ≤ℤ pos 0
  sum = subst (λ t. (over r q *ℤ (p *ℤ get_or point.numerators c (pos 0) -ℤ rest_of n c point positive) +ℤ over r p *ℤ (t *ℤ get_or point.numerators c (pos 0) -ℤ rest_of n c point negative)) ≤ℤ pos 0) (sym double)
      (subst (λ t. (over r q *ℤ (p *ℤ get_or point.numerators c (pos 0) -ℤ rest_of n c point positive) +ℤ over r p *ℤ t) ≤ℤ pos 0) (slack_split n c point negative l)
      (subst (λ t. (over r q *ℤ t +ℤ over r p *ℤ slack n point negative.numbers) ≤ℤ pos 0) (slack_split n c point positive l) whole_sum))
