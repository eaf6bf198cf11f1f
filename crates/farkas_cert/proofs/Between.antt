-- Where the pairs of a stage hold, its kept inequalities hold at the value that is chosen between their bounds.
use Rattle.std.proofs.Common.{◌≡◌, ℕ, ◌<◌, refl, sym, arith, List, map, length, Bool, true, false, Some, None, Option}
use Rattle.std.specs.Prelude.{ℤ, pos, ◌<ℤ◌, ⊤, int_lt, flat_map}
use Rattle.std.specs.List.{AllByRecursion}
use Rattle.std.proofs.lemmas.Int.{ints}
use Rattle.farkas_cert.specs.Line.{Line, coefficient_at, is_nonzero}
use Rattle.farkas_cert.specs.BackSubstitution.{RationalPoint, Fraction, Bounds, bound_on, bounds_from, chosen_value}
use Rattle.farkas_cert.specs.Elimination.{paired_line, positives, negatives, with_column, pairs_at}
use Rattle.farkas_cert.proofs.Fractions.{IsAtMost, chosen_upper, chosen_lower, chosen_positive}
use Rattle.farkas_cert.proofs.Lists.{all_filter, filter_all, all_both, all_from, all_there, all_unmap, all_unflat, all_unfilter}
use Rattle.farkas_cert.proofs.Certificates.{all_kept}
use Rattle.farkas_cert.proofs.Refuting.{nonzero_negative}
use Rattle.farkas_cert.proofs.Slack.{MeetsLine}
use Rattle.farkas_cert.proofs.Moves.{Moved}
use Rattle.farkas_cert.proofs.Sides.{bound_is, upper_meets, lower_meets, paired_bounds}
use Rattle.farkas_cert.proofs.Bounds.{IfThere, IsBounded, OfBounds, HasPositive, OnSide, side_of, IsBoundedLine, HasColumn, bounds_over, BoundHas, keeps_over}

-- no bound on either side
abbrev pub no_bounds : Bounds
no_bounds = record { lower = None; upper = None }

-- Where there is no bound, what is said of bounds holds.
none_there : (L U : Fraction → Type 0) → OfBounds L U no_bounds
none_there L U = record { lower = λ f e. absurd cc; upper = λ f e. absurd cc }

-- The coefficient of a line on the upper side is positive.
positive_side_is : (c : ℕ) (line : Line) → side_of c line ≡ true → pos 0 <ℤ coefficient_at c line
positive_side_is c line e = omega (arith, ints)

-- A negative number passes the test.
is_negative_test : (a : ℤ) → a <ℤ pos 0 → int_lt a (pos 0) ≡ true
is_negative_test a h = sym (omega (arith, ints))

-- the pair of two lines was made, and holds
abbrev HasPair : ℕ → ℕ → RationalPoint → Line → Line → Type 0
HasPair n c point positive negative = (next : Line) × (paired_line c positive negative ≡ Some next) × MeetsLine n point next

-- a line's pairs with all lines that are negative at c hold
abbrev HasPairs : ℕ → ℕ → RationalPoint → List Line → Line → Type 0
HasPairs n c point lines positive = AllByRecursion (HasPair n c point positive) (negatives c lines)

-- Each line with a positive coefficient has its pairs with the negative ones.
have_pairs : (n c : ℕ) (point : RationalPoint) (lines pairs : List Line) → pairs_at c lines ≡ Some pairs → AllByRecursion (MeetsLine n point) pairs
    → AllByRecursion (HasPairs n c point lines) (positives c lines)
unfolding pairs_at
have_pairs n c point lines pairs e h =
    let Made : Option Line → Type 0 = λ o. (next : Line) × (o ≡ Some next) × MeetsLine n point next in
    all_from (λ positive. AllByRecursion Made (map (paired_line c positive) (negatives c lines))) (HasPairs n c point lines) (positives c lines)
    (λ positive k. all_unmap Made (paired_line c positive) (negatives c lines) k)
    (all_unflat Made (λ positive. map (paired_line c positive) (negatives c lines)) (positives c lines)
    (all_there (MeetsLine n point) (flat_map (λ positive. map (paired_line c positive) (negatives c lines)) (positives c lines)) pairs e h))

-- a negative line's bound is at most a positive line's
lower_has : (n c : ℕ) (point : RationalPoint) (positive : Line) (g : Fraction) → c < n → pos 0 <ℤ point.denominator → HasColumn c positive
    → side_of c positive ≡ true → bound_on n c point positive ≡ Some g
    → (negative : Line) → HasColumn c negative → (int_lt (coefficient_at c negative) (pos 0) ≡ true → HasPair n c point positive negative)
    → BoundHas (λ l. IsAtMost l g) (λ u. ⊤) n c point negative
lower_has n c point positive g l d z t e negative y h f k = at (side_of c negative) refl where
  at : (b : Bool) → side_of c negative ≡ b → OnSide (λ l. IsAtMost l g) (λ u. ⊤) b f
  at true s = tt
  at false s =
      let below = nonzero_negative (coefficient_at c negative) y s in
      let pair = h (is_negative_test (coefficient_at c negative) below) in
      paired_bounds n c point positive negative pair.0 g f l d (positive_side_is c positive t) below (bound_is n c point positive g z d e) (bound_is n c point negative f y d k) pair.1 pair.2

-- what is known of a kept line
pub record IsKept (n c : ℕ) (point : RationalPoint) (bounds : Bounds) (lines : List Line) (line : Line) : Type 0 where
  pub column : HasColumn c line
  pub inequality : line.equal ≡ false
  pub bounded : IsBoundedLine n c point bounds line
  pub pairs : side_of c line ≡ true → HasPairs n c point lines line

-- The greatest lower bound is at most each upper one.
lowest_upper : (n c : ℕ) (point : RationalPoint) (lines : List Line) (bounds : Bounds) → c < n → pos 0 <ℤ point.denominator
    → bounds_from n c point no_bounds (with_column c lines) ≡ Some bounds
    → (line : Line) (g : Fraction) → HasColumn c line → side_of c line ≡ true → bound_on n c point line ≡ Some g → HasPairs n c point lines line
    → IfThere (λ l. IsAtMost l g) bounds.lower
lowest_upper n c point lines bounds l d e line g z t k h =
    let Pair : Line → Type 0 = λ negative. int_lt (coefficient_at c negative) (pos 0) ≡ true → HasPair n c point line negative in
    let known : AllByRecursion (λ negative. Pair negative × HasColumn c negative) (with_column c lines) =
    all_kept Pair (λ negative. is_nonzero (coefficient_at c negative)) lines (all_unfilter (HasPair n c point line) (λ negative. int_lt (coefficient_at c negative) (pos 0)) lines h) in
    (keeps_over (λ m. IsAtMost m g) (λ u. ⊤) n c point no_bounds bounds (with_column c lines) d (filter_all (λ line. is_nonzero (coefficient_at c line)) lines) (none_there HasPositive HasPositive)
    (all_from (λ negative. Pair negative × HasColumn c negative) (BoundHas (λ m. IsAtMost m g) (λ u. ⊤) n c point) (with_column c lines)
    (λ negative p. lower_has n c point line g l d z t k negative p.1 p.0) known)
    (none_there (λ m. IsAtMost m g) (λ u. ⊤)) e).lower

-- A line that is kept holds at the next point.
kept_meets : (n c : ℕ) (point next : RationalPoint) (lines : List Line) (bounds : Bounds) → Moved c point (chosen_value bounds.lower bounds.upper) next
    → c < n → length point.numerators ≡ n → pos 0 <ℤ point.denominator
    → bounds_from n c point no_bounds (with_column c lines) ≡ Some bounds → (line : Line) → IsKept n c point bounds lines line → MeetsLine n next line
kept_meets n c point next lines bounds m l h d e line k = at (side_of c line) refl (k.bounded.2) where
  f : Fraction
  f = k.bounded.0

  is : bound_on n c point line ≡ Some f
  is = k.bounded.1

  at : (b : Bool) → side_of c line ≡ b → IsBounded bounds b f → MeetsLine n next line
  at true s u =
      upper_meets n c point (chosen_value bounds.lower bounds.upper) next line f m l h d k.inequality (positive_side_is c line s) (bound_is n c point line f k.column d is)
      (chosen_upper bounds.lower bounds.upper u.0 f u.1 u.2 (lowest_upper n c point lines bounds l d e line f k.column s is (k.pairs s)))
  at false s w =
      lower_meets n c point (chosen_value bounds.lower bounds.upper) next line f m l h d k.inequality (nonzero_negative (coefficient_at c line) k.column s) (bound_is n c point line f k.column d is)
      (chosen_lower bounds.lower bounds.upper w.0 f w.1 w.2)

-- The chosen value has a positive denominator.
pub chosen_has_positive : (n c : ℕ) (point : RationalPoint) (lines : List Line) (bounds : Bounds) → pos 0 <ℤ point.denominator
    → bounds_from n c point no_bounds (with_column c lines) ≡ Some bounds → pos 0 <ℤ (chosen_value bounds.lower bounds.upper).denominator
chosen_has_positive n c point lines bounds d e =
    let over = bounds_over n c point no_bounds bounds (with_column c lines) d (filter_all (λ line. is_nonzero (coefficient_at c line)) lines) (none_there HasPositive HasPositive) e in
    chosen_positive bounds.lower bounds.upper over.positive.lower over.positive.upper

-- All lines that are kept hold at the next point.
pub all_kept_meet : (n c : ℕ) (point next : RationalPoint) (lines pairs : List Line) (bounds : Bounds)
    → Moved c point (chosen_value bounds.lower bounds.upper) next → c < n → length point.numerators ≡ n → pos 0 <ℤ point.denominator
    → AllByRecursion (λ line. line.equal ≡ false) lines → pairs_at c lines ≡ Some pairs → AllByRecursion (MeetsLine n point) pairs
    → bounds_from n c point no_bounds (with_column c lines) ≡ Some bounds → AllByRecursion (MeetsLine n next) (with_column c lines)
all_kept_meet n c point next lines pairs bounds m l h d q p k e =
    let kept = with_column c lines in
    let columns : AllByRecursion (HasColumn c) kept = filter_all (λ line. is_nonzero (coefficient_at c line)) lines in
    let over = bounds_over n c point no_bounds bounds kept d columns (none_there HasPositive HasPositive) e in
    let Paired : Line → Type 0 = λ line. side_of c line ≡ true → HasPairs n c point lines line in
    let paired_lines : AllByRecursion Paired kept =
    all_filter Paired (λ line. is_nonzero (coefficient_at c line)) lines (all_unfilter (HasPairs n c point lines) (side_of c) lines (have_pairs n c point lines pairs p k)) in
    let inequalities = all_filter (λ line. line.equal ≡ false) (λ line. is_nonzero (coefficient_at c line)) lines q in
    all_from (λ line. (HasColumn c line × (line.equal ≡ false)) × (IsBoundedLine n c point bounds line × Paired line)) (MeetsLine n next) kept
    (λ line i. kept_meets n c point next lines bounds m l h d e line (record { column = i.0.0; inequality = i.0.1; bounded = i.1.0; pairs = i.1.1 }))
    (all_both (λ line. HasColumn c line × (line.equal ≡ false)) (λ line. IsBoundedLine n c point bounds line × Paired line) kept
    (all_both (HasColumn c) (λ line. line.equal ≡ false) kept columns inequalities)
    (all_both (IsBoundedLine n c point bounds) Paired kept over.bounded paired_lines))
