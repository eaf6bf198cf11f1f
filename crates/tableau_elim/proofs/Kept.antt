-- What pivots keep: each line says what the given rows say, has a positive divisor, and no variable stands twice.
use Rattle.std.proofs.Common.{◌≡◌, ℕ, zero, suc, ◌+◌, ◌<◌, refl, sym, ◌∙◌, ap, subst, arith, List, [], ◌∷◌, map, length, drop, get_or, Bool, false, Option, Some, None}
use Rattle.std.specs.Prelude.{ℤ, pos, neg_ℤ, ◌*ℤ◌, ◌≢◌, ◌==◌, slice_set, slice_get, unsigned_abs}
use Rattle.std.specs.Int.{int_signum}
use Rattle.std.specs.List.{AllByRecursion, range_with_len}
use Rattle.std.proofs.lemmas.Int.{ints}
use Rattle.std.proofs.lemmas.Bool.{ne_eqb}
use Rattle.std.proofs.lemmas.Bool.Decides.{nat_tests}
use Rattle.std.specs.Option.{option_map}
use Rattle.lin_rows.specs.Row.{Row, multiple_of}
use Rattle.lin_rows.specs.System.{System, HasWidths}
use Rattle.lin_rows.proofs.Lists.{AllByRecursion-at, AllByRecursion-set}
use Rattle.farkas_cert.specs.Line.{combination}
use Rattle.farkas_cert.specs.Elimination.{every}
use Rattle.farkas_cert.proofs.Lists.{all_every, all_map, all_both}
use Rattle.farkas_cert.proofs.Signs.{split_at}
use Rattle.farkas_cert.proofs.Lengths.{length-sum, length-divided}
use Rattle.tableau_elim.specs.Tableau.{Line, Tableau, Pivot, are_same, divisor_of, number_at, given_tableau, given_lines, pivot_at, solved_line, combined_line, line_after_pivot, pivoted_tableau}
use Rattle.tableau_elim.specs.declared.variable.Variable.{Variable}
use Rattle.tableau_elim.specs.declared.variable.Variable.TheVariants.{Column, Slack}
use Rattle.tableau_elim.proofs.Changed.{Front, substituted_is, by_change, changed_front}
use Rattle.tableau_elim.proofs.Identities.{Values, Holds, places_after, long_set, changed_holds}

-- ---- variables that stand once

abbrev pub Apart : Variable → Variable → Type 0
Apart x y = are_same x y ≡ false

abbrev pub NotAmong : Variable → List Variable → Type 0
NotAmong x xs = AllByRecursion (Apart x) xs

abbrev pub Distinct : List Variable → Type 0
Distinct [] = Unit {0}
Distinct (x ∷ xs) = NotAmong x xs × Distinct xs

eq_turned : (a b : ℕ) → (a == b) ≡ false → (b == a) ≡ false
eq_turned a b e = grind (arith, nat_tests)

pub apart_turned : (x y : Variable) → Apart x y → Apart y x
apart_turned (Column c) (Column e) h = eq_turned c e h
apart_turned (Column c) (Slack s) h = refl
apart_turned (Slack s) (Column c) h = refl
apart_turned (Slack s) (Slack q) h = eq_turned s.row q.row h

distinct_set : (xs : List Variable) (i : ℕ) (y : Variable) → Distinct xs → NotAmong y xs → Distinct (slice_set xs i y)
distinct_set [] i y d n = tt
distinct_set (x ∷ xs) zero y d n = (n.1, d.1)
distinct_set (x ∷ xs) (suc i) y d n = (AllByRecursion-set (Apart x) xs i y (apart_turned y x n.0) d.0, distinct_set xs i y d.1 n.1)

-- what stood at a place is not among the others once it is replaced
replaced_apart : (xs : List Variable) (i : ℕ) (y d : Variable) → i < length xs → Distinct xs → NotAmong y xs → NotAmong (get_or xs i d) (slice_set xs i y)
replaced_apart [] i y d h k n = absurd (omega arith)
replaced_apart (x ∷ xs) zero y d h k n = (apart_turned y x n.0, k.0)
replaced_apart (x ∷ xs) (suc i) y d h k n =
    (apart_turned x (get_or xs i d) (AllByRecursion-at (Apart x) xs i d k.0 (omega arith)), replaced_apart xs i y d (omega arith) k.1 n.1)

-- ---- variables of a system

-- The slack has what its row has.
pub record IsSlackOf (system : System) (row : ℕ) (equal : Bool) (bound : ℤ) : Type 0 where
  pub there : Row
  pub at : slice_get system.rows row ≡ Some there
  pub equal_is : there.equal ≡ equal
  pub bound_is : there.bound ≡ bound

abbrev pub IsOf : System → Variable → Type 0
IsOf system (Column c) = Unit {0}
IsOf system (Slack s) = IsSlackOf system s.row s.equal s.bound

-- ---- lines

pub record IsKeptLine (system : System) (places : List Variable) (line : Line) : Type 0 where
  pub wide : length line.numbers ≡ suc (length places)
  pub positive : Front line.numbers
  pub apart : NotAmong line.basic places
  pub known : IsOf system line.basic

-- ---- the lengths of what a pivot makes

long_map : (f : ℤ → ℤ) (xs : List ℤ) → length (map f xs) ≡ length xs
long_map f [] = refl
long_map f (x ∷ xs) = ap suc (long_map f xs)

long_combination : (a : ℤ) (xs : List ℤ) (b : ℤ) (ys : List ℤ) → length xs ≡ length ys → length (combination a xs b ys) ≡ length ys
long_combination a xs b ys e = length-sum (multiple_of a xs) (multiple_of b ys) (long_map _ xs ∙ e ∙ sym (long_map _ ys)) ∙ long_map _ ys

long_moved : (j : ℕ) (own : Line) (tableau : Tableau) → length (pivot_at j own tableau).moved ≡ length own.numbers
unfolding pivot_at
long_moved j own tableau = long_set (slice_set own.numbers (suc j) (neg_ℤ (divisor_of own))) 0 (pos 0) ∙ long_set own.numbers (suc j) (neg_ℤ (divisor_of own))

long_solved : (pivot : Pivot) → length (solved_line pivot).numbers ≡ length pivot.moved
unfolding solved_line
long_solved pivot =
    length-divided (slice_set (multiple_of (neg_ℤ (int_signum pivot.number)) pivot.moved) 0 (pos (unsigned_abs pivot.number)))
    ∙ long_set (multiple_of (neg_ℤ (int_signum pivot.number)) pivot.moved) 0 (pos (unsigned_abs pivot.number)) ∙ long_map _ pivot.moved

long_substituted : (pivot : Pivot) (line new : Line) → length line.numbers ≡ length pivot.moved → combined_line pivot line ≡ Some new → length new.numbers ≡ length pivot.moved
long_substituted pivot line new e m =
    let a = pos (unsigned_abs pivot.number) in
    let b = neg_ℤ (int_signum pivot.number) *ℤ number_at pivot.place line in
    let rest = slice_set line.numbers (suc pivot.place) (pos 0) in
    subst (λ (made : Line). length made.numbers ≡ length pivot.moved) (substituted_is pivot line new m).1
    (length-divided (combination a rest b pivot.moved) ∙ long_combination a rest b pivot.moved (long_set line.numbers (suc pivot.place) (pos 0) ∙ e))

front_moved : (j : ℕ) (own : Line) (tableau : Tableau) → get_or (pivot_at j own tableau).moved 0 (pos 0) ≡ pos 0
unfolding pivot_at
front_moved j own tableau = at (slice_set own.numbers (suc j) (neg_ℤ (divisor_of own))) where
  at : (xs : List ℤ) → get_or (slice_set xs 0 (pos 0)) 0 (pos 0) ≡ pos 0
  at [] = refl
  at (x ∷ xs) = refl

-- ---- the basics of what a pivot makes

-- A predicate of variables holds of the new basic where it holds of the entering variable and of the basics that stay.
basic_changed : (P : Variable → Type 0) (pivot : Pivot) (line new : Line) → line_after_pivot pivot line ≡ Some new → P pivot.entering
    → (are_same line.basic pivot.leaving ≡ false → P line.basic) → P new.basic
unfolding solved_line
basic_changed P pivot line new e entering stays =
    by_change (λ made. P made.basic) pivot line new e (λ s. entering)
    (λ s t m. subst (λ (made : Line). P made.basic) (substituted_is pivot line new m).1 (stays s)) (λ s t. stays s)

-- ---- a pivot

kept_line : (system : System) (tableau : Tableau) (j : ℕ) (own line new : Line) → j < length tableau.places → number_at j own ≢ pos 0 → Distinct tableau.places
    → AllByRecursion (IsOf system) tableau.places → IsKeptLine system tableau.places own → IsKeptLine system tableau.places line
    → line_after_pivot (pivot_at j own tableau) line ≡ Some new → IsKeptLine system (places_after j own tableau.places) new
unfolding pivot_at
kept_line system tableau j own line new h p d of ko kl e =
    let pivot = pivot_at j own tableau in
    let places = tableau.places in
    let more = long_set_places places j own.basic in
    record {
      wide = by_change (λ made. length made.numbers ≡ suc (length (places_after j own places))) pivot line new e
          (λ s. long_solved pivot ∙ long_moved j own tableau ∙ ko.wide ∙ ap suc (sym more))
          (λ s t m. long_substituted pivot line new (kl.wide ∙ sym (long_moved j own tableau ∙ ko.wide)) m ∙ long_moved j own tableau ∙ ko.wide ∙ ap suc (sym more))
          (λ s t. kl.wide ∙ ap suc (sym more));
      positive = changed_front pivot line new (pivot_some j own tableau p) (front_moved j own tableau) (omega (arith, kl.wide)) kl.positive e;
      apart = basic_changed (λ x. NotAmong x (places_after j own places)) pivot line new e
          (entering_apart j own tableau (replaced_apart places j own.basic (Column 0) h d ko.apart))
          (λ s. AllByRecursion-set (Apart line.basic) places j own.basic (leaving_is j own tableau line s) kl.apart);
      known = basic_changed (IsOf system) pivot line new e (entering_known system j own tableau h of) (λ s. kl.known);
    }
  where
    long_set_places : (xs : List Variable) (i : ℕ) (y : Variable) → length (slice_set xs i y) ≡ length xs
    long_set_places [] i y = refl
    long_set_places (x ∷ xs) zero y = refl
    long_set_places (x ∷ xs) (suc i) y = ap suc (long_set_places xs i y)

    pivot_some : (j : ℕ) (own : Line) (tableau : Tableau) → number_at j own ≢ pos 0 → (pivot_at j own tableau).number ≢ pos 0
    pivot_some j own tableau p = p

    entering_apart : (j : ℕ) (own : Line) (tableau : Tableau) → NotAmong (get_or tableau.places j (Column 0)) (places_after j own tableau.places)
        → NotAmong (pivot_at j own tableau).entering (places_after j own tableau.places)
    entering_apart j own tableau n = n

    leaving_is : (j : ℕ) (own : Line) (tableau : Tableau) (line : Line) → are_same line.basic (pivot_at j own tableau).leaving ≡ false → Apart line.basic own.basic
    leaving_is j own tableau line s = s

    entering_known : (system : System) (j : ℕ) (own : Line) (tableau : Tableau) → j < length tableau.places → AllByRecursion (IsOf system) tableau.places
        → IsOf system (pivot_at j own tableau).entering
    entering_known system j own tableau h of = AllByRecursion-at (IsOf system) tableau.places j (Column 0) of h

-- what is kept of the whole
pub record IsKept (system : System) (tableau : Tableau) : Type 0 where
  pub lines : AllByRecursion (IsKeptLine system tableau.places) tableau.lines
  pub distinct : Distinct tableau.places
  pub known : AllByRecursion (IsOf system) tableau.places
  -- values of which the given lines are so are ones of which these are
  pub says : (v : Values) → AllByRecursion (Holds v (given_tableau system).places) (given_tableau system).lines → AllByRecursion (Holds v tableau.places) tableau.lines

-- the lines and the places that a pivot makes
pub pivoted_parts : (j : ℕ) (own : Line) (tableau next : Tableau) → pivoted_tableau (pivot_at j own tableau) tableau ≡ Some next
    → Unit {0} × ((every (map (line_after_pivot (pivot_at j own tableau)) tableau.lines) ≡ Some next.lines) × (next.places ≡ places_after j own tableau.places))
unfolding pivoted_tableau pivot_at
pivoted_parts j own tableau next e = (tt, at (every (map (line_after_pivot (pivot_at j own tableau)) tableau.lines)) e) where
  at : (o : Option (List Line)) → option_map (λ lines. record { lines = lines; places = places_after j own tableau.places }) o ≡ Some next
      → (o ≡ Some next.lines) × (next.places ≡ places_after j own tableau.places)
  at None e = absurd cc
  at (Some lines) e =
      let same : record { lines = lines; places = places_after j own tableau.places } ≡ next = cc in
      (ap (λ (t : Tableau). Some t.lines) same, sym (ap (λ (t : Tableau). t.places) same))

pub kept_by_pivot : (system : System) (tableau next : Tableau) (j : ℕ) (own : Line) → j < length tableau.places → number_at j own ≢ pos 0
    → IsKept system tableau → IsKeptLine system tableau.places own → ((v : Values) → AllByRecursion (Holds v tableau.places) tableau.lines → Holds v tableau.places own)
    → pivoted_tableau (pivot_at j own tableau) tableau ≡ Some next → IsKept system next
kept_by_pivot system tableau next j own h p k ko eo e =
    let is = pivoted_parts j own tableau next e in
    let lines = is.1.0 in
    let places = is.1.1 in
    record {
      lines = rw places (all_every (IsKeptLine system (places_after j own tableau.places)) (map (line_after_pivot (pivot_at j own tableau)) tableau.lines) next.lines
          (all_map (IsKeptLine system tableau.places) (λ o. (new : Line) → o ≡ Some new → IsKeptLine system (places_after j own tableau.places) new) (line_after_pivot (pivot_at j own tableau)) tableau.lines
          (λ line kl new m. kept_line system tableau j own line new h p k.distinct k.known ko kl m) k.lines) lines);
      distinct = rw places (distinct_set tableau.places j own.basic k.distinct ko.apart);
      known = rw places (AllByRecursion-set (IsOf system) tableau.places j own.basic ko.known k.known);
      says = λ v g. rw places (all_every (Holds v (places_after j own tableau.places)) (map (line_after_pivot (pivot_at j own tableau)) tableau.lines) next.lines
          (all_map (λ line. IsKeptLine system tableau.places line × Holds v tableau.places line) (λ o. (new : Line) → o ≡ Some new → Holds v (places_after j own tableau.places) new) (line_after_pivot (pivot_at j own tableau)) tableau.lines
          (λ line both new m. changed_holds v tableau j own line new h ko.wide both.0.wide (eo v (k.says v g)) both.1 m)
          (all_both (IsKeptLine system tableau.places) (Holds v tableau.places) tableau.lines k.lines (k.says v g))) lines);
    }

-- ---- the given tableau

distinct_columns : (a n : ℕ) → Distinct (map Column (range_with_len a n))
distinct_columns a zero = tt
distinct_columns a (suc n) = (later a (a + 1) n (omega arith), distinct_columns (a + 1) n) where
  below_eqb : (a b : ℕ) → a < b → (a == b) ≡ false
  below_eqb a b h = ne_eqb a b (λ e. absurd (omega arith))

  later : (c a n : ℕ) → c < a → NotAmong (Column c) (map Column (range_with_len a n))
  later c a zero h = tt
  later c a (suc n) h = (below_eqb c a h, later c (a + 1) n (omega arith))

no_slack_is_column : (r : ℕ) (equal : Bool) (bound : ℤ) (cs : List ℕ) → NotAmong (Slack (record { row = r; equal = equal; bound = bound })) (map Column cs)
no_slack_is_column r equal bound [] = tt
no_slack_is_column r equal bound (c ∷ cs) = (refl, no_slack_is_column r equal bound cs)

columns_known : (system : System) (cs : List ℕ) → AllByRecursion (IsOf system) (map Column cs)
columns_known system [] = tt
columns_known system (c ∷ cs) = (tt, columns_known system cs)

long_range : (a n : ℕ) → length (map Column (range_with_len a n)) ≡ n
long_range a zero = refl
long_range a (suc n) = ap suc (long_range (a + 1) n)

given_kept : (system : System) (k : ℕ) (rows : List Row) → drop k system.rows ≡ rows → AllByRecursion (λ row. length row.coefficients ≡ system.columns) rows
    → AllByRecursion (IsKeptLine system (given_tableau system).places) (given_lines k rows)
unfolding given_lines
given_kept system k [] e w = tt
given_kept system k (row ∷ rows) e w =
    let at = split_at system.rows rows k row e in (
      record {
        wide = ap suc (w.0 ∙ sym (long_range 0 system.columns));
        positive = omega (arith, ints);
        apart = no_slack_is_column k row.equal row.bound (range_with_len 0 system.columns);
        known = record { there = row; at = at.0; equal_is = refl; bound_is = refl };
      },
      given_kept system (suc k) rows at.1 w.1,
    )

pub kept_given : (system : System) → HasWidths system → IsKept system (given_tableau system)
kept_given system w = record {
  lines = given_kept system 0 system.rows refl w;
  distinct = distinct_columns 0 system.columns;
  known = columns_known system (range_with_len 0 system.columns);
  says = λ v g. g;
}
