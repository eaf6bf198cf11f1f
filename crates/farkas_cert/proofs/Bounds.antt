-- The bounds of a column: each line's bound is within them, and what holds of each line's bound holds of them.
use Rattle.std.proofs.Common.{◌≡◌, ℕ, refl, sym, ap, arith, subst, List, [], ◌∷◌, Bool, true, false, cond, Some, None, Option, ◌⊎◌, inl, inr}
use Rattle.std.specs.Prelude.{pos, ◌*ℤ◌, ◌<ℤ◌, int_lt, ◌&&◌}
use Rattle.std.specs.Option.{option_and_then}
use Rattle.std.specs.List.{AllByRecursion}
use Rattle.std.proofs.lemmas.Int.{ints}
use Rattle.thr_base.specs.Number.{fits}
use Rattle.farkas_cert.specs.Line.{Line, coefficient_at, is_nonzero}
use Rattle.farkas_cert.specs.BackSubstitution.{RationalPoint, Fraction, Bounds, bound_on, is_below, greater_of, lesser_of, narrowed_bounds, bounds_from}
use Rattle.farkas_cert.proofs.Fractions.{IsAtMost, at_most_self, at_most_trans, IsPositive}
use Rattle.farkas_cert.proofs.Slack.{and_then_is, map_is}
use Rattle.farkas_cert.proofs.Sides.{bound_is}

-- P holds of the fraction, where there is one.
abbrev pub IfThere : (Fraction → Type 0) → Option Fraction → Type 0
IfThere P o = (f : Fraction) → o ≡ Some f → P f

-- ---- the better of two

-- The test of order compares the cross products.
below_is : (f g : Fraction) (less : Bool) → is_below f g ≡ Some less → int_lt (f.numerator *ℤ g.denominator) (g.numerator *ℤ f.denominator) ≡ less
below_is f g less e = by_fit (fits (f.numerator *ℤ g.denominator) && fits (g.numerator *ℤ f.denominator)) e where
  by_fit : (b : Bool) → cond b (Some (int_lt (f.numerator *ℤ g.denominator) (g.numerator *ℤ f.denominator))) None ≡ Some less
      → int_lt (f.numerator *ℤ g.denominator) (g.numerator *ℤ f.denominator) ≡ less
  by_fit true e = cc
  by_fit false e = absurd cc

-- f is below g, or g is at most f.
abbrev Compared : Fraction → Fraction → Bool → Type 0
Compared f g true = IsAtMost f g
Compared f g false = IsAtMost g f

-- What the test of order says of two fractions.
compared : (f g : Fraction) (less : Bool) → pos 0 <ℤ f.denominator → pos 0 <ℤ g.denominator → is_below f g ≡ Some less → Compared f g less
compared f g true h k e = record { left = h; right = k; le = omega (arith, ints, below_is f g true e) }
compared f g false h k e = record { left = k; right = h; le = omega (arith, ints, below_is f g false e) }

-- what is chosen of an old bound and f: one of the two, and not on the wrong side of either
pub record IsLesser (old : Option Fraction) (f u : Fraction) : Type 0 where
  pub new : IsAtMost u f
  pub kept : (v : Fraction) → old ≡ Some v → IsAtMost u v
  pub one : (u ≡ f) ⊎ (old ≡ Some u)

pub record IsGreater (old : Option Fraction) (f l : Fraction) : Type 0 where
  pub new : IsAtMost f l
  pub kept : (v : Fraction) → old ≡ Some v → IsAtMost v l
  pub one : (l ≡ f) ⊎ (old ≡ Some l)

-- The lesser of two fractions, of which one may be missing.
lesser_is : (old : Option Fraction) (f u : Fraction) → IsPositive old → pos 0 <ℤ f.denominator → lesser_of old f ≡ Some u → IsLesser old f u
lesser_is None f u h k e =
    let same : f ≡ u = cc in
    record { new = subst (λ (v : Fraction). IsAtMost v f) same (at_most_self f k); kept = λ v e. absurd cc; one = inl (sym same) }
lesser_is (Some best) f u h k e = by_test (map_is (λ less. cond less f best) (is_below f best) u e) where
  by_test : (less : Bool) × (is_below f best ≡ Some less) × (cond less f best ≡ u) → IsLesser (Some best) f u
  by_test (true, e, s) =
      let below : IsAtMost f best = compared f best true k (h best refl) e in
      record {
        new = subst (λ (v : Fraction). IsAtMost v f) s (at_most_self f k);
        kept = λ v t. let same : best ≡ v = cc in subst (λ (w : Fraction). IsAtMost w v) s (subst (λ (w : Fraction). IsAtMost f w) same below);
        one = inl (sym s);
      }
  by_test (false, e, s) =
      let above : IsAtMost best f = compared f best false k (h best refl) e in
      record {
        new = subst (λ (v : Fraction). IsAtMost v f) s above;
        kept = λ v t. let same : best ≡ v = cc in subst (λ (w : Fraction). IsAtMost w v) s (subst (λ (w : Fraction). IsAtMost best w) same (at_most_self best (h best refl)));
        one = inr (ap (λ (v : Fraction). Some v) s);
      }

-- The greater of two fractions, of which one may be missing.
greater_is : (old : Option Fraction) (f l : Fraction) → IsPositive old → pos 0 <ℤ f.denominator → greater_of old f ≡ Some l → IsGreater old f l
greater_is None f l h k e =
    let same : f ≡ l = cc in
    record { new = subst (λ (v : Fraction). IsAtMost f v) same (at_most_self f k); kept = λ v e. absurd cc; one = inl (sym same) }
greater_is (Some best) f l h k e = by_test (map_is (λ less. cond less f best) (is_below best f) l e) where
  by_test : (less : Bool) × (is_below best f ≡ Some less) × (cond less f best ≡ l) → IsGreater (Some best) f l
  by_test (true, e, s) =
      let below : IsAtMost best f = compared best f true (h best refl) k e in
      record {
        new = subst (λ (v : Fraction). IsAtMost f v) s (at_most_self f k);
        kept = λ v t. let same : best ≡ v = cc in subst (λ (w : Fraction). IsAtMost v w) s (subst (λ (w : Fraction). IsAtMost w f) same below);
        one = inl (sym s);
      }
  by_test (false, e, s) =
      let above : IsAtMost f best = compared best f false (h best refl) k e in
      record {
        new = subst (λ (v : Fraction). IsAtMost f v) s above;
        kept = λ v t. let same : best ≡ v = cc in subst (λ (w : Fraction). IsAtMost v w) s (subst (λ (w : Fraction). IsAtMost w best) same (at_most_self best (h best refl)));
        one = inr (ap (λ (v : Fraction). Some v) s);
      }

-- ---- one line

-- the bound of a line is within the bounds: an upper bound where its coefficient is positive, else a lower one
abbrev pub IsBounded : Bounds → Bool → Fraction → Type 0
IsBounded bounds true f = (u : Fraction) × (bounds.upper ≡ Some u) × IsAtMost u f
IsBounded bounds false f = (l : Fraction) × (bounds.lower ≡ Some l) × IsAtMost f l

pub record IsNarrower (old new : Bounds) : Type 0 where
  pub upper : (v : Fraction) → old.upper ≡ Some v → (u : Fraction) × (new.upper ≡ Some u) × IsAtMost u v
  pub lower : (v : Fraction) → old.lower ≡ Some v → (l : Fraction) × (new.lower ≡ Some l) × IsAtMost v l

-- what holds of all lower bounds, and of all upper ones
pub record OfBounds (L U : Fraction → Type 0) (bounds : Bounds) : Type 0 where
  pub lower : IfThere L bounds.lower
  pub upper : IfThere U bounds.upper

-- the denominator is positive
abbrev pub HasPositive : Fraction → Type 0
HasPositive f = pos 0 <ℤ f.denominator

-- what has to hold of a bound on its side
abbrev pub OnSide : (Fraction → Type 0) → (Fraction → Type 0) → Bool → Fraction → Type 0
OnSide L U true f = U f
OnSide L U false f = L f

-- What is within bounds is so within narrower ones.
bounded_narrower : (old new : Bounds) (side : Bool) (f : Fraction) → IsNarrower old new → IsBounded old side f → IsBounded new side f
bounded_narrower old new true f n h = let at = n.upper h.0 h.1 in (at.0, at.1, at_most_trans at.0 h.0 f at.2 h.2)
bounded_narrower old new false f n h = let at = n.lower h.0 h.1 in (at.0, at.1, at_most_trans f h.0 at.0 h.2 at.2)

-- Bounds are as narrow as themselves.
narrower_self : (bounds : Bounds) → OfBounds HasPositive HasPositive bounds → IsNarrower bounds bounds
narrower_self bounds h = record {
  upper = λ v e. (v, e, at_most_self v (h.upper v e));
  lower = λ v e. (v, e, at_most_self v (h.lower v e));
}

-- Narrower than narrower bounds is narrower.
narrower_trans : (a b c : Bounds) → IsNarrower a b → IsNarrower b c → IsNarrower a c
narrower_trans a b c h k = record {
  upper = λ v e. let first = h.upper v e in let second = k.upper first.0 first.1 in (second.0, second.1, at_most_trans second.0 first.0 v second.2 first.2);
  lower = λ v e. let first = h.lower v e in let second = k.lower first.0 first.1 in (second.0, second.1, at_most_trans v first.0 second.0 first.2 second.2);
}

-- What holds of two fractions holds of the one that is taken.
of_one : (P : Fraction → Type 0) (old : Option Fraction) (f u v : Fraction) → (u ≡ f) ⊎ (old ≡ Some u) → IfThere P old → P f → Some u ≡ Some v → P v
of_one P old f u v (inl s) h k e = let same : f ≡ v = cc in subst P same k
of_one P old f u v (inr s) h k e = let same : old ≡ Some v = cc in h v same

pub record Narrows (old new : Bounds) (side : Bool) (f : Fraction) : Type 0 where
  pub narrower : IsNarrower old new
  pub bounded : IsBounded new side f

-- Bounds with one more fraction are narrower, and the fraction is within them.
narrows : (old new : Bounds) (side : Bool) (f : Fraction) → OfBounds HasPositive HasPositive old → HasPositive f → narrowed_bounds side old f ≡ Some new
    → Narrows old new side f
narrows old new true f h k e =
    let at = map_is (λ u. record old { upper = Some u }) (lesser_of old.upper f) new e in
    let lesser = lesser_is old.upper f at.0 h.upper k at.1 in
    subst (λ (b : Bounds). Narrows old b true f) at.2 (record {
      narrower = record {
        upper = λ v s. (at.0, refl, lesser.kept v s);
        lower = λ v s. (v, s, at_most_self v (h.lower v s));
      };
      bounded = (at.0, refl, lesser.new);
    })
narrows old new false f h k e =
    let at = map_is (λ l. record old { lower = Some l }) (greater_of old.lower f) new e in
    let greater = greater_is old.lower f at.0 h.lower k at.1 in
    subst (λ (b : Bounds). Narrows old b false f) at.2 (record {
      narrower = record {
        upper = λ v s. (v, s, at_most_self v (h.upper v s));
        lower = λ v s. (at.0, refl, greater.kept v s);
      };
      bounded = (at.0, refl, greater.new);
    })

-- What holds of bounds and of one more fraction holds of the new bounds.
keeps : (L U : Fraction → Type 0) (old new : Bounds) (side : Bool) (f : Fraction) → OfBounds HasPositive HasPositive old → HasPositive f
    → OfBounds L U old → OnSide L U side f → narrowed_bounds side old f ≡ Some new → OfBounds L U new
keeps L U old new true f h k o p e =
    let at = map_is (λ u. record old { upper = Some u }) (lesser_of old.upper f) new e in
    let lesser = lesser_is old.upper f at.0 h.upper k at.1 in
    subst (λ (b : Bounds). OfBounds L U b) at.2 (record {
      lower = o.lower;
      upper = λ v s. of_one U old.upper f at.0 v lesser.one o.upper p s;
    })
keeps L U old new false f h k o p e =
    let at = map_is (λ l. record old { lower = Some l }) (greater_of old.lower f) new e in
    let greater = greater_is old.lower f at.0 h.lower k at.1 in
    subst (λ (b : Bounds). OfBounds L U b) at.2 (record {
      lower = λ v s. of_one L old.lower f at.0 v greater.one o.lower p s;
      upper = o.upper;
    })

-- ---- all lines

-- whether the line bounds its column from above
abbrev pub side_of : ℕ → Line → Bool
side_of c line = int_lt (pos 0) (coefficient_at c line)

-- a line with the column, whose bound is within the bounds
abbrev pub IsBoundedLine : ℕ → ℕ → RationalPoint → Bounds → Line → Type 0
IsBoundedLine n c point bounds line = (f : Fraction) × (bound_on n c point line ≡ Some f) × IsBounded bounds (side_of c line) f

-- the line has the column
abbrev pub HasColumn : ℕ → Line → Type 0
HasColumn c line = is_nonzero (coefficient_at c line) ≡ true

-- A fraction with a positive denominator has it on its side.
positive_side : (side : Bool) (f : Fraction) → HasPositive f → OnSide HasPositive HasPositive side f
positive_side true f h = h
positive_side false f h = h

pub record BoundsOver (n c : ℕ) (point : RationalPoint) (old new : Bounds) (lines : List Line) : Type 0 where
  pub narrower : IsNarrower old new
  pub bounded : AllByRecursion (IsBoundedLine n c point new) lines
  pub positive : OfBounds HasPositive HasPositive new

-- The bounds of lines are narrower than those before, and each line's bound is within them.
pub bounds_over : (n c : ℕ) (point : RationalPoint) (old new : Bounds) (lines : List Line) → pos 0 <ℤ point.denominator
    → AllByRecursion (HasColumn c) lines → OfBounds HasPositive HasPositive old → bounds_from n c point old lines ≡ Some new
    → BoundsOver n c point old new lines
unfolding bounds_from
bounds_over n c point old new [] d z o e =
    let same : old ≡ new = cc in
    subst (λ (b : Bounds). BoundsOver n c point old b []) same (record { narrower = narrower_self old o; bounded = tt; positive = o })
bounds_over n c point old new (line ∷ lines) d z o e =
    let outer = and_then_is (λ next. bounds_from n c point next lines) (option_and_then (narrowed_bounds (side_of c line) old) (bound_on n c point line)) new e in
    let inner = and_then_is (narrowed_bounds (side_of c line) old) (bound_on n c point line) outer.0 outer.1 in
    let positive = (bound_is n c point line inner.0 z.0 d inner.1).positive in
    let step = narrows old outer.0 (side_of c line) inner.0 o positive inner.2 in
    let kept = keeps HasPositive HasPositive old outer.0 (side_of c line) inner.0 o positive o (positive_side (side_of c line) inner.0 positive) inner.2 in
    let rest = bounds_over n c point outer.0 new lines d z.1 kept outer.2 in
    record {
      narrower = narrower_trans old outer.0 new step.narrower rest.narrower;
      bounded = ((inner.0, inner.1, bounded_narrower outer.0 new (side_of c line) inner.0 rest.narrower step.bounded), rest.bounded);
      positive = rest.positive;
    }

-- what holds of each line's bound, on its side
abbrev pub BoundHas : (Fraction → Type 0) → (Fraction → Type 0) → ℕ → ℕ → RationalPoint → Line → Type 0
BoundHas L U n c point line = (f : Fraction) → bound_on n c point line ≡ Some f → OnSide L U (side_of c line) f

-- What holds of bounds and of each line's bound holds of the bounds of all.
pub keeps_over : (L U : Fraction → Type 0) (n c : ℕ) (point : RationalPoint) (old new : Bounds) (lines : List Line) → pos 0 <ℤ point.denominator
    → AllByRecursion (HasColumn c) lines → OfBounds HasPositive HasPositive old
    → AllByRecursion (BoundHas L U n c point) lines → OfBounds L U old → bounds_from n c point old lines ≡ Some new → OfBounds L U new
unfolding bounds_from
keeps_over L U n c point old new [] d z o h k e = let same : old ≡ new = cc in subst (λ (b : Bounds). OfBounds L U b) same k
keeps_over L U n c point old new (line ∷ lines) d z o h k e =
    let outer = and_then_is (λ next. bounds_from n c point next lines) (option_and_then (narrowed_bounds (side_of c line) old) (bound_on n c point line)) new e in
    let inner = and_then_is (narrowed_bounds (side_of c line) old) (bound_on n c point line) outer.0 outer.1 in
    let positive = (bound_is n c point line inner.0 z.0 d inner.1).positive in
    let kept = keeps HasPositive HasPositive old outer.0 (side_of c line) inner.0 o positive o (positive_side (side_of c line) inner.0 positive) inner.2 in
    let step = keeps L U old outer.0 (side_of c line) inner.0 o positive k (h.0 inner.0 inner.1) inner.2 in
    keeps_over L U n c point outer.0 new lines d z.1 kept h.1 step outer.2
