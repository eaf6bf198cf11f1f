-- The point with which the tableau ends is a rational point of the system.
use Rattle.std.proofs.Common.{◌≡◌, ℕ, zero, suc, ◌+◌, ◌*◌, ◌/◌, ◌%◌, ◌<◌, ◌≤◌, refl, sym, ◌∙◌, ap, ap₂, subst, arith, List, [], ◌∷◌, map, length, drop, Bool, true, false, cond, Option, Some, None, mul_comm, mul_assoc}
use Rattle.std.specs.Prelude.{ℤ, pos, negsuc, neg_ℤ, ◌*ℤ◌, ◌≤ℤ◌, ◌<ℤ◌, ◌&&◌, unsigned_abs, fold, MatchBool, is_none, unwrap_or}
use Rattle.std.specs.Int.{◌∣◌}
use Rattle.std.specs.List.{AllByRecursion, range_with_len}
use Rattle.std.specs.Option.{option_map}
use Rattle.std.proofs.Math.Nat.{div-add-mod, dvd-mul_right, mul-le-mul_right}
use Rattle.std.proofs.lemmas.Int.{ints}
use Rattle.std.proofs.lemmas.Nat.Gcd.{dvd_trans, dvd_refl, mod-eq-zero_of_dvd, le_of_dvd}
use Rattle.thr_base.specs.Number.{fits}
use Rattle.lin_rows.specs.Gcd.{gcd, lcm}
use Rattle.lin_rows.specs.Row.{Row, product_of, multiple_of, MeetsOver}
use Rattle.lin_rows.specs.Sum.{sum_in_order}
use Rattle.lin_rows.specs.System.{System, HasWidths, IsRationalPoint}
use Rattle.lin_rows.proofs.Divisors.{IsGcd-gcd}
use Rattle.lin_rows.proofs.Integers.{mul_comm_ℤ, mul-zero_ℤ, zero-mul_ℤ, one-mul_ℤ}
use Rattle.lin_rows.proofs.Sums.{sum_in_order-given}
use Rattle.lin_rows.proofs.Multiples.{lcm-second}
use Rattle.farkas_cert.specs.Cert.{Pairs}
use Rattle.farkas_cert.specs.Divided.{over, divided_numbers}
use Rattle.farkas_cert.specs.Elimination.{every}
use Rattle.farkas_cert.specs.Line.{all_fit, nonzero_pairs}
use Rattle.farkas_cert.specs.Proof.{overflow_of}
use Rattle.farkas_cert.specs.BackSubstitution.{Fraction, fraction, whole}
use Rattle.farkas_cert.proofs.Divisors.{over-exact}
use Rattle.farkas_cert.proofs.Eliminates.{positive_abs}
use Rattle.farkas_cert.proofs.Fractions.{IsFractionOf, fraction_is}
use Rattle.farkas_cert.proofs.Integers.{linear, factors, eq_of_mul_right_ℤ, le_of_mul_right_ℤ, mul_right_le_ℤ}
use Rattle.farkas_cert.proofs.Lists.{all_both, all_from}
use Rattle.farkas_cert.proofs.Signs.{split_at}
use Rattle.farkas_cert.proofs.Slack.{product-scaled_right}
use Rattle.tableau_elim.specs.Tableau.{Line, Tableau, divisor_of, value_at_place, given_tableau, given_lines, sum_of_line, pivot_at, pivoted_tableau}
use Rattle.tableau_elim.specs.Rounds.{Outcome, Refuted, Point, GaveUp, Found, Ends, Pivots, first_out, standing_of, chosen_place, multipliers, refuted_outcome, basic_value, column_value, common_denominator, point_over, point_of, or_gives_up, round_of, found_by_line, found_by_standing, found_by_place, at_end, after_pivot, goes_on, ended_within, most_pivots, outcome_of}
use Rattle.tableau_elim.specs.declared.variable.Variable.{Variable}
use Rattle.tableau_elim.specs.declared.variable.Variable.TheVariants.{Column, Slack}
use Rattle.tableau_elim.specs.declared.standing.Side.{Side}
use Rattle.tableau_elim.specs.declared.standing.Standing.{Standing}
use Rattle.tableau_elim.specs.declared.standing.Standing.TheVariants.{Within, Out, Unfit}
use Rattle.tableau_elim.proofs.Changed.{Front}
use Rattle.tableau_elim.proofs.Identities.{Holds}
use Rattle.tableau_elim.proofs.Kept.{NotAmong, IsKeptLine, IsKept, kept_given}
use Rattle.tableau_elim.proofs.Certificates.{IsSoundFound, found_sound, kept_after, first_among}
use Rattle.tableau_elim.proofs.Backwards.{every_parts, Among, all_among, IsBack, back_by_pivot, back_given}
use Rattle.tableau_elim.proofs.PointOf.{multiple, multiple_positive, IsShare, shares, share, share_is, line_sum, line_value, line_of, values_of, place_values, found_itself, line_holds, none_out, IsFine, row_keeps, line_found}

-- ---- the columns

lcm_first : (a b : ℕ) → a ∣ lcm a b
lcm_first a b =
    let g = gcd a b in
    let is = IsGcd-gcd a b in
    let a_is = div-add-mod a g in
    let b_is = div-add-mod b g in
    let ra : a % g ≡ 0 = mod-eq-zero_of_dvd g is.0 in
    let rb : b % g ≡ 0 = mod-eq-zero_of_dvd g is.1 in
    let whole_a : a ≡ g * (a / g) = omega arith in
    let whole_b : b ≡ g * (b / g) = omega arith in
    let same : a / g * b ≡ a * (b / g) = ap (λ n. a / g * n) whole_b ∙ turn (a / g) g (b / g) ∙ ap (λ n. n * (b / g)) (sym whole_a) in
    subst (λ (n : ℕ). a ∣ n) (sym same) (dvd-mul_right a (b / g))
  where
    turn : (x g y : ℕ) → x * (g * y) ≡ (g * x) * y
    turn x g y = sym (mul_assoc x g y) ∙ ap (λ n. n * y) (mul_comm x g)

denominators_from : (d : ℕ) (values : List Fraction)
    → (d ∣ fold (λ d value. lcm d (unsigned_abs value.denominator)) d values)
    × AllByRecursion (λ value. unsigned_abs value.denominator ∣ fold (λ d value. lcm d (unsigned_abs value.denominator)) d values) values
denominators_from d [] = (dvd_refl d, tt)
denominators_from d (value ∷ values) =
    let n = unsigned_abs value.denominator in
    let rest = denominators_from (lcm d n) values in
    (dvd_trans _ (lcm_first d n) rest.0, (dvd_trans _ (lcm-second d n) rest.0, rest.1))

denominators : (values : List Fraction) → AllByRecursion (λ value. unsigned_abs value.denominator ∣ common_denominator values) values
unfolding common_denominator
denominators values = (denominators_from 1 values).1

lcm_grows : (a b : ℕ) → 0 < b → a ≤ lcm a b
lcm_grows a b h =
    let g = gcd a b in
    let is = IsGcd-gcd a b in
    let exact = div-add-mod a g in
    let rest : a % g ≡ 0 = mod-eq-zero_of_dvd g is.0 in
    let below : g ≤ b = le_of_dvd h is.1 in
    let more : g * (a / g) ≤ b * (a / g) = mul-le-mul_right (a / g) below in
    omega arith

common_positive : (values : List Fraction) → AllByRecursion (λ value. pos 0 <ℤ value.denominator) values → 0 < common_denominator values
unfolding common_denominator
common_positive values h = from 1 values h (omega arith) where
  from : (d : ℕ) (values : List Fraction) → AllByRecursion (λ value. pos 0 <ℤ value.denominator) values → 0 < d
      → 0 < fold (λ d value. lcm d (unsigned_abs value.denominator)) d values
  from d [] h p = p
  from d (value ∷ values) h p =
      let grows = lcm_grows d (unsigned_abs value.denominator) (positive_abs value.denominator h.0) in
      from (lcm d (unsigned_abs value.denominator)) values h.1 (omega arith)

-- ---- one column

-- what is known of a column's value
pub record IsValueOf (m : ℤ) (v : ℤ) (value : Fraction) : Type 0 where
  pub positive : pos 0 <ℤ value.denominator
  pub claim : (d : ℕ) → unsigned_abs value.denominator ∣ d → m *ℤ (value.numerator *ℤ over (unsigned_abs value.denominator) (pos d)) ≡ pos d *ℤ v

column_algebra : (m n e d s q den div : ℤ) → n *ℤ div ≡ s *ℤ den → q *ℤ div ≡ m → den *ℤ e ≡ d → (m *ℤ (n *ℤ e)) *ℤ div ≡ (d *ℤ (s *ℤ q)) *ℤ div
column_algebra m n e d s q den div f g h =
    let left : (m *ℤ (n *ℤ e)) *ℤ div ≡ (m *ℤ e) *ℤ (n *ℤ div) = simp factors in
    let right : (d *ℤ (s *ℤ q)) *ℤ div ≡ (d *ℤ s) *ℤ (q *ℤ div) = simp factors in
    let middle : (m *ℤ e) *ℤ (s *ℤ den) ≡ ((den *ℤ e) *ℤ s) *ℤ m = simp factors in
    left ∙ ap (λ t. (m *ℤ e) *ℤ t) f ∙ middle ∙ ap (λ t. (t *ℤ s) *ℤ m) h ∙ ap (λ t. (d *ℤ s) *ℤ t) (sym g) ∙ sym right

abs_is : (z : ℤ) → pos 0 <ℤ z → pos (unsigned_abs z) ≡ z
abs_is (pos n) h = refl
abs_is (negsuc n) h = absurd (omega (arith, ints))

positive_not : (z : ℤ) → pos 0 <ℤ z → ¬ (z ≡ pos 0)
positive_not z h e = absurd (omega (arith, linear))

column_is : (system : System) (m : ℤ) (tableau : Tableau) (c : ℕ) (value : Fraction) → AllByRecursion (IsFine system m tableau) tableau.lines → column_value tableau c ≡ Some value
    → IsValueOf m (values_of m tableau (Column c)) value
unfolding column_value sum_of_line line_sum
column_is system m tableau c value h e = at (line_of tableau.lines (Column c)) refl e where
  sums : (line : Line) → IsFine system m tableau line → (o : Option ℤ) → sum_in_order (drop 1 line.numbers) (map value_at_place tableau.places) ≡ o
      → option_map (λ sum. fraction sum (divisor_of line)) o ≡ Some value
      → IsValueOf m (product_of (drop 1 line.numbers) (map value_at_place tableau.places) *ℤ share m line) value
  sums line fine None s e = absurd cc
  sums line fine (Some sum) s e =
      let d = divisor_of line in
      let is : IsFractionOf sum d value = let same : fraction sum d ≡ value = cc in subst (λ (f : Fraction). IsFractionOf sum d f) same (fraction_is sum d (positive_not d fine.0.positive)) in
      let sum_is = (sum_in_order-given (drop 1 line.numbers) (map value_at_place tableau.places) sum s).1 in
      record {
        positive = is.positive;
        claim = λ n divides.
            let e = over (unsigned_abs value.denominator) (pos n) in
            let exact : value.denominator *ℤ e ≡ pos n = ap (λ z. z *ℤ e) (sym (abs_is value.denominator is.positive)) ∙ over-exact (unsigned_abs value.denominator) (pos n) divides in
            eq_of_mul_right_ℤ (m *ℤ (value.numerator *ℤ e)) (pos n *ℤ (product_of (drop 1 line.numbers) (map value_at_place tableau.places) *ℤ share m line)) d fine.0.positive
            (column_algebra m value.numerator e (pos n) (product_of (drop 1 line.numbers) (map value_at_place tableau.places)) (share m line) value.denominator d
            (is.same ∙ ap (λ t. t *ℤ value.denominator) sum_is) fine.2 exact);
      }

  at : (o : Option Line) → line_of tableau.lines (Column c) ≡ o → basic_value tableau.places o ≡ Some value → IsValueOf m (line_value m tableau.places (Column c) o) value
  at None f e =
      let same : whole (pos 0) ≡ value = cc in
      subst (IsValueOf m (m *ℤ pos 0)) same (record {
        positive = omega (arith, ints);
        claim = λ n divides.
            ap (λ t. m *ℤ t) (zero-mul_ℤ (over 1 (pos n))) ∙ mul-zero_ℤ m ∙ sym (mul-zero_ℤ (pos n)) ∙ ap (λ t. pos n *ℤ t) (sym (mul-zero_ℤ m));
      })
  at (Some line) f e =
      let is = line_found (IsFine system m tableau) tableau.lines (Column c) line h f in
      sums line is.0 (sum_in_order (drop 1 line.numbers) (map value_at_place tableau.places)) refl e

-- ---- all columns

abbrev numerator_by : ℕ → Fraction → ℤ
numerator_by d value = value.numerator *ℤ over (unsigned_abs value.denominator) (pos d)

columns_positive : (system : System) (m : ℤ) (tableau : Tableau) (cs : List ℕ) (values : List Fraction) → AllByRecursion (IsFine system m tableau) tableau.lines
    → every (map (column_value tableau) cs) ≡ Some values → AllByRecursion (λ value. pos 0 <ℤ value.denominator) values
unfolding every
columns_positive system m tableau [] values h e = let same : [] ≡ values = cc in rw (← same) tt
columns_positive system m tableau (c ∷ cs) values h e =
    let parts = every_parts (column_value tableau) c cs values e in
    rw parts.4 ((column_is system m tableau c parts.0 h parts.2).positive, columns_positive system m tableau cs parts.1 h parts.3)

columns_are : (system : System) (m : ℤ) (tableau : Tableau) (d : ℕ) (cs : List ℕ) (values : List Fraction) → AllByRecursion (IsFine system m tableau) tableau.lines
    → every (map (column_value tableau) cs) ≡ Some values → AllByRecursion (λ value. unsigned_abs value.denominator ∣ d) values
    → multiple_of m (map (numerator_by d) values) ≡ multiple_of (pos d) (map (values_of m tableau) (map Column cs))
unfolding every
columns_are system m tableau d [] values h e k = let same : [] ≡ values = cc in rw (← same) refl
columns_are system m tableau d (c ∷ cs) values h e k =
    let parts = every_parts (column_value tableau) c cs values e in
    let divides : AllByRecursion (λ value. unsigned_abs value.denominator ∣ d) (parts.0 ∷ parts.1) = subst (λ (vs : List Fraction). AllByRecursion (λ value. unsigned_abs value.denominator ∣ d) vs) parts.4 k in
    let here = (column_is system m tableau c parts.0 h parts.2).claim d divides.0 in
    let rest = columns_are system m tableau d cs parts.1 h parts.3 divides.1 in
    ap (λ vs. multiple_of m (map (numerator_by d) vs)) parts.4 ∙ ap₂ (λ y ys. y ∷ ys) here rest

every_long : (f : ℕ → Option Fraction) (cs : List ℕ) (values : List Fraction) → every (map f cs) ≡ Some values → length values ≡ length cs
unfolding every
every_long f [] values e = let same : [] ≡ values = cc in ap length (sym same)
every_long f (c ∷ cs) values e = let parts = every_parts f c cs values e in ap length parts.4 ∙ ap suc (every_long f cs parts.1 parts.3)

long_map : (f : Fraction → ℤ) (values : List Fraction) → length (map f values) ≡ length values
long_map f [] = refl
long_map f (value ∷ values) = ap suc (long_map f values)

long_range : (a n : ℕ) → length (range_with_len a n) ≡ n
long_range a zero = refl
long_range a (suc n) = ap suc (long_range (a + 1) n)

-- ---- the rows

meets_by : (equal : Bool) (y s bound m d : ℤ) → pos 0 <ℤ m → pos 0 <ℤ d → m *ℤ y ≡ d *ℤ s → MatchBool equal (s ≡ bound *ℤ m) (s ≤ℤ (bound *ℤ m))
    → MatchBool equal (y ≡ bound *ℤ d) (y ≤ℤ (bound *ℤ d))
meets_by true y s bound m d p q e k =
    let same : d *ℤ (bound *ℤ m) ≡ (bound *ℤ d) *ℤ m = simp factors in
    eq_of_mul_right_ℤ y (bound *ℤ d) m p (mul_comm_ℤ y m ∙ e ∙ ap (λ t. d *ℤ t) k ∙ same)
meets_by false y s bound m d p q e k =
    let same : (bound *ℤ m) *ℤ d ≡ (bound *ℤ d) *ℤ m = simp factors in
    let more = mul_right_le_ℤ s (bound *ℤ m) d (omega (arith, linear)) k in
    le_of_mul_right_ℤ y (bound *ℤ d) m p (omega (arith, linear, mul_comm_ℤ y m, mul_comm_ℤ d s))

rows_meet : (system : System) (m : ℤ) (tableau : Tableau) (x : List ℤ) (d : ℕ) (k : ℕ) (rows : List Row) → pos 0 <ℤ m → 0 < d → AllByRecursion (IsFine system m tableau) tableau.lines
    → drop k system.rows ≡ rows → multiple_of m x ≡ multiple_of (pos d) (map (values_of m tableau) (given_tableau system).places)
    → AllByRecursion (Holds (values_of m tableau) (given_tableau system).places) (given_lines k rows) → AllByRecursion (λ row. MeetsOver row x (pos d)) rows
unfolding given_lines
rows_meet system m tableau x d k [] p q h e same g = tt
rows_meet system m tableau x d k (row ∷ rows) p q h e same g =
    let at = split_at system.rows rows k row e in
    let v = values_of m tableau in
    let s = v (Slack (record { row = k; equal = row.equal; bound = row.bound })) in
    let xs = map v (given_tableau system).places in
    let says : product_of row.coefficients xs ≡ s = omega (arith, linear, g.0, one-mul_ℤ (neg_ℤ s)) in
    let product : m *ℤ product_of row.coefficients x ≡ pos d *ℤ s =
    sym (product-scaled_right m row.coefficients x) ∙ ap (product_of row.coefficients) same ∙ product-scaled_right (pos d) row.coefficients xs ∙ ap (λ t. pos d *ℤ t) says in (
      meets_by row.equal (product_of row.coefficients x) s row.bound m (pos d) p (omega (arith, ints)) product (row_keeps system m tableau k row p h at.0),
      rows_meet system m tableau x d (suc k) rows p q h at.1 same g.1,
    )

-- ---- the point

all_fine : (system : System) (tableau : Tableau) → IsKept system tableau → first_out tableau ≡ None → AllByRecursion (IsFine system (multiple tableau.lines) tableau) tableau.lines
all_fine system tableau k e =
    let m = multiple tableau.lines in
    let fronts = all_from (IsKeptLine system tableau.places) (λ line. Front line.numbers) tableau.lines (λ line kl. kl.positive) k.lines in
    all_from (λ line. IsKeptLine system tableau.places line × ((standing_of tableau.places line ≡ Within) × IsShare m line)) (IsFine system m tableau) tableau.lines
    (λ line h. (h.0, h.1.0, share_is m line h.0.positive h.1.1))
    (all_both (IsKeptLine system tableau.places) (λ line. (standing_of tableau.places line ≡ Within) × IsShare m line) tableau.lines k.lines
    (all_both (λ line. standing_of tableau.places line ≡ Within) (IsShare m) tableau.lines (none_out tableau e) (shares tableau.lines fronts)))

all_hold : (system : System) (tableau : Tableau) → IsKept system tableau → IsBack system tableau → first_out tableau ≡ None
    → AllByRecursion (Holds (values_of (multiple tableau.lines) tableau) tableau.places) tableau.lines
all_hold system tableau k b e =
    let m = multiple tableau.lines in
    let places = place_values m tableau tableau.places (all_from (IsKeptLine system tableau.places) (λ line. NotAmong line.basic tableau.places) tableau.lines (λ line kl. kl.apart) k.lines) in
    all_from (λ line. IsFine system m tableau line × (line_of tableau.lines line.basic ≡ Some line)) (Holds (values_of m tableau) tableau.places) tableau.lines
    (λ line h. line_holds m tableau line (length tableau.places) h.0.0.wide h.1 places h.0.2)
    (all_both (IsFine system m tableau) (λ line. line_of tableau.lines line.basic ≡ Some line) tableau.lines (all_fine system tableau k e) (found_itself tableau.lines b.distinct))

values_point : (system : System) (tableau : Tableau) (values : List Fraction) (x : List ℤ) (d : ℤ) → IsKept system tableau → IsBack system tableau → first_out tableau ≡ None
    → every (map (column_value tableau) (range_with_len 0 system.columns)) ≡ Some values → point_over values ≡ Point x d → IsRationalPoint system x d
unfolding point_over
values_point system tableau values x d k b e all p =
    at (fits (pos (common_denominator values)) && all_fit (map (numerator_by (common_denominator values)) values)) p
  where
    at : (t : Bool) → cond t (Point (map (numerator_by (common_denominator values)) values) (pos (common_denominator values))) GaveUp ≡ Point x d → IsRationalPoint system x d
    at false p = absurd cc
    at true p =
        let n = common_denominator values in
        let x_is : map (numerator_by n) values ≡ x = cc in
        let d_is : pos n ≡ d = cc in
        let m = multiple tableau.lines in
        let fine = all_fine system tableau k e in
        let fronts = all_from (IsKeptLine system tableau.places) (λ line. Front line.numbers) tableau.lines (λ line kl. kl.positive) k.lines in
        let some = common_positive values (columns_positive system m tableau (range_with_len 0 system.columns) values fine all) in
        let same = columns_are system m tableau n (range_with_len 0 system.columns) values fine all (denominators values) in
        let hold = b.says (values_of m tableau) (all_hold system tableau k b e) in
        let point : IsRationalPoint system (map (numerator_by n) values) (pos n) = record {
          whole = long_map (numerator_by n) values ∙ every_long (column_value tableau) (range_with_len 0 system.columns) values all ∙ long_range 0 system.columns;
          positive = omega (arith, ints);
          meets = rows_meet system m tableau (map (numerator_by n) values) n 0 system.rows (multiple_positive tableau.lines fronts) some fine refl same hold;
        } in
        subst (λ (d : ℤ). IsRationalPoint system x d) d_is (subst (λ (x : List ℤ). IsRationalPoint system x (pos n)) x_is point)

point_is : (system : System) (tableau : Tableau) (x : List ℤ) (d : ℤ) → IsKept system tableau → IsBack system tableau → first_out tableau ≡ None
    → point_of system.columns tableau ≡ Point x d → IsRationalPoint system x d
unfolding point_of
point_is system tableau x d k b e p = at (every (map (column_value tableau) (range_with_len 0 system.columns))) refl p where
  at : (o : Option (List Fraction)) → every (map (column_value tableau) (range_with_len 0 system.columns)) ≡ o → or_gives_up point_over o ≡ Point x d → IsRationalPoint system x d
  at None all p = absurd cc
  at (Some values) all p = values_point system tableau values x d k b e all p

-- ---- what a round finds

-- whether what is found is a point
abbrev HasPoint : System → Tableau → Outcome → Type 0
HasPoint system tableau (Refuted pairs) = Unit {0}
HasPoint system tableau (Point x d) = IsRationalPoint system x d
HasPoint system tableau GaveUp = Unit {0}

abbrev IsFromTableau : System → Tableau → Found → Type 0
IsFromTableau system tableau (Ends outcome) = HasPoint system tableau outcome
IsFromTableau system tableau (Pivots j line) = first_out tableau ≡ Some line

refuted_none : (system : System) (tableau : Tableau) (side : Side) (places : List Variable) (line : Line) → HasPoint system tableau (refuted_outcome system side places line)
unfolding refuted_outcome
refuted_none system tableau side places line = at (nonzero_pairs 1 (divided_numbers (multipliers side (length system.rows) places line))) (overflow_of system.rows (nonzero_pairs 1 (divided_numbers (multipliers side (length system.rows) places line)))) where
  at : (pairs : Pairs) (o : Option (ℕ × ℕ)) → HasPoint system tableau (cond (is_none o) (Refuted pairs) GaveUp)
  at pairs None = tt
  at pairs (Some place) = tt

outcome_point : (system : System) (tableau : Tableau) → IsKept system tableau → IsBack system tableau → first_out tableau ≡ None → (o : Outcome) → point_of system.columns tableau ≡ o → HasPoint system tableau o
outcome_point system tableau k b e (Refuted pairs) p = tt
outcome_point system tableau k b e (Point x d) p = point_is system tableau x d k b e p
outcome_point system tableau k b e GaveUp p = tt

found_from : (system : System) (tableau : Tableau) → IsKept system tableau → IsBack system tableau → IsFromTableau system tableau (round_of system tableau)
unfolding round_of
found_from system tableau k b = by_line (first_out tableau) refl where
  by_place : (line : Line) (side : Side) (o : Option ℕ) → first_out tableau ≡ Some line → IsFromTableau system tableau (found_by_place system side tableau.places line o)
  by_place line side None e = refuted_none system tableau side tableau.places line
  by_place line side (Some j) e = e

  by_standing : (line : Line) (s : Standing) → first_out tableau ≡ Some line → IsFromTableau system tableau (found_by_standing system tableau.places line s)
  by_standing line Within e = tt
  by_standing line Unfit e = tt
  by_standing line (Out side) e = by_place line side (chosen_place side tableau.places (drop 1 line.numbers)) e

  by_line : (o : Option Line) → first_out tableau ≡ o → IsFromTableau system tableau (found_by_line system tableau o)
  by_line None e = outcome_point system tableau k b e (point_of system.columns tableau) refl
  by_line (Some line) e = by_standing line (standing_of tableau.places line) e

-- ---- all rounds

ended_point : (pivots : ℕ) (system : System) (tableau : Tableau) (outcome : Outcome) → HasWidths system → IsKept system tableau → IsBack system tableau
    → ended_within pivots system tableau ≡ Some outcome → HasPoint system tableau outcome
unfolding ended_within
ended_point zero system tableau outcome w k b e = at (round_of system tableau) (found_from system tableau k b) e where
  at : (f : Found) → IsFromTableau system tableau f → at_end f ≡ Some outcome → HasPoint system tableau outcome
  at (Ends o) h e = let same : o ≡ outcome = cc in subst (HasPoint system tableau) same h
  at (Pivots j line) h e = absurd cc
ended_point (suc pivots) system tableau outcome w k b e =
    at (λ next kept back. moved next outcome (ended_point pivots system next outcome w kept back)) (round_of system tableau) (found_sound system tableau w k) (found_from system tableau k b) e
  where
    moved : (next : Tableau) (o : Outcome) → (ended_within pivots system next ≡ Some outcome → HasPoint system next o) → ended_within pivots system next ≡ Some outcome → HasPoint system tableau o
    moved next (Refuted pairs) h e = tt
    moved next (Point x d) h e = h e
    moved next GaveUp h e = tt

    more : ((next : Tableau) → IsKept system next → IsBack system next → ended_within pivots system next ≡ Some outcome → HasPoint system tableau outcome) → (j : ℕ) (line : Line)
        → IsSoundFound system tableau (Pivots j line) → first_out tableau ≡ Some line → (o : Option Tableau) → pivoted_tableau (pivot_at j line tableau) tableau ≡ o
        → after_pivot (ended_within pivots system) o ≡ Some outcome → HasPoint system tableau outcome
    more rest j line h f None p e = let same : GaveUp ≡ outcome = cc in subst (HasPoint system tableau) same tt
    more rest j line h f (Some next) p e =
        rest next (kept_after system tableau next j line k h p)
        (back_by_pivot system tableau next j line h.0 h.1 k b (first_among (λ (l : Line). Among l tableau.lines) tableau line (all_among tableau.lines) f) p) e

    at : ((next : Tableau) → IsKept system next → IsBack system next → ended_within pivots system next ≡ Some outcome → HasPoint system tableau outcome) → (f : Found)
        → IsSoundFound system tableau f → IsFromTableau system tableau f → goes_on (ended_within pivots system) tableau f ≡ Some outcome → HasPoint system tableau outcome
    at rest (Ends o) h f e = let same : o ≡ outcome = cc in subst (HasPoint system tableau) same f
    at rest (Pivots j line) h f e = more rest j line h f (pivoted_tableau (pivot_at j line tableau) tableau) refl e

pub point_is_sound : (system : System) (x : List ℤ) (d : ℤ) → HasWidths system → outcome_of system ≡ Point x d → IsRationalPoint system x d
unfolding outcome_of
point_is_sound system x d w e = at (ended_within (most_pivots system) system (given_tableau system)) refl e where
  at : (o : Option Outcome) → ended_within (most_pivots system) system (given_tableau system) ≡ o → unwrap_or o GaveUp ≡ Point x d → IsRationalPoint system x d
  at None f e = absurd cc
  at (Some outcome) f e =
      let same : outcome ≡ Point x d = cc in
      subst (HasPoint system (given_tableau system)) same (ended_point (most_pivots system) system (given_tableau system) outcome w (kept_given system w) (back_given system) f)
