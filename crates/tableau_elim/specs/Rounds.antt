-- How the tableau is used: a line whose slack is out of its row's bound is looked for; where a place can mend it, the line's basic
-- and the variable there change places, and where none can, the line refutes. Where no line is out, the values are a point.
use Rattle.std.specs.Prelude.{ℕ, zero, suc, ◌+◌, ◌*◌, ℤ, pos, neg_ℤ, ◌*ℤ◌, unsigned_abs, Bool, true, false, cond, not, ◌&&◌, int_lt, List, [], ◌∷◌, map, drop, length, filter, find, fold, replicate, slice_set, if◌then◌else◌, Option, Some, None, is_none, unwrap_or}
use Rattle.std.specs.List.{range_with_len}
use Rattle.std.specs.Option.{option_map}
use Rattle.thr_base.specs.Number.{fits}
use Rattle.lin_rows.specs.Exact.{fitting}
use Rattle.lin_rows.specs.Gcd.{lcm}
use Rattle.lin_rows.specs.System.{System}
use Rattle.farkas_cert.specs.Cert.{Pairs}
use Rattle.farkas_cert.specs.Proof.{overflow_of}
use Rattle.farkas_cert.specs.Divided.{over, divided_numbers}
use Rattle.farkas_cert.specs.Line.{is_nonzero, all_fit, nonzero_pairs}
use Rattle.farkas_cert.specs.Elimination.{every}
use Rattle.farkas_cert.specs.BackSubstitution.{Fraction, whole, fraction}
use Rattle.tableau_elim.specs.Tableau.{Line, Tableau, divisor_of, given_tableau, sum_of_line, are_same, comes_before, pivot_at, pivoted_tableau}
use Rattle.tableau_elim.specs.declared.variable.Variable.{Variable}
use Rattle.tableau_elim.specs.declared.variable.Variable.TheVariants.{Column, Slack}
use Rattle.tableau_elim.specs.declared.standing.Side.{Side}
use Rattle.tableau_elim.specs.declared.standing.Side.TheVariants.{High, Low}
use Rattle.tableau_elim.specs.declared.standing.Standing.{Standing}
use Rattle.tableau_elim.specs.declared.standing.Standing.TheVariants.{Within, Out, Unfit}

pub data Outcome : Type 0 where
  -- a certificate
  Refuted : Pairs → Outcome
  -- numerators over a denominator
  Point : List ℤ → ℤ → Outcome
  GaveUp : Outcome

-- ---- the line that is looked at

-- A sum is high above its limit, and low below that of an equality.
abbrev pub standing_to_limit : Bool → ℤ → ℤ → Standing
standing_to_limit equal sum limit = cond (int_lt limit sum) (Out High) (cond (equal && int_lt sum limit) (Out Low) Within)

abbrev pub standing_by : Bool → Option ℤ → Option ℤ → Standing
standing_by equal None limit = Unfit
standing_by equal (Some sum) None = Unfit
standing_by equal (Some sum) (Some limit) = standing_to_limit equal sum limit

-- Where the basic is a slack, the line's sum is compared with the bound of its row times the divisor; both must fit.
abbrev pub standing_by_basic : List Variable → Line → Variable → Standing
standing_by_basic places line (Column c) = Within
standing_by_basic places line (Slack s) = standing_by s.equal (sum_of_line places line) (fitting (s.bound *ℤ divisor_of line))

unfoldable pub standing_of : List Variable → Line → Standing
standing_of places line = standing_by_basic places line line.basic

abbrev pub is_within : Standing → Bool
is_within Within = true
is_within (Out side) = false
is_within Unfit = false

-- the line whose basic comes first
abbrev pub earlier : Option Line → Line → Option Line
earlier None line = Some line
earlier (Some best) line = Some (cond (comes_before line.basic best.basic) line best)

-- of the lines that are not within, that of the lowest row
unfoldable pub first_out : Tableau → Option Line
first_out tableau = fold earlier None (filter (λ line. not (is_within (standing_of tableau.places line))) tableau.lines)

-- ---- the place that can mend it

-- A number other than 0 at a column, or one at the slack of an inequality that is positive in a high line, negative in a low one.
abbrev pub is_suitable : Side → Variable → ℤ → Bool
is_suitable side (Column c) t = is_nonzero t
is_suitable High (Slack s) t = not s.equal && int_lt (pos 0) t
is_suitable Low (Slack s) t = not s.equal && int_lt t (pos 0)

-- the suitable places from j on, with the variables there
unfoldable pub suitable_from : Side → ℕ → List Variable → List ℤ → List (ℕ × Variable)
suitable_from side j [] ts = []
suitable_from side j (x ∷ places) [] = []
suitable_from side j (x ∷ places) (t ∷ ts) =
    cond (is_suitable side x t) ((j, x) ∷ suitable_from side (suc j) places ts) (suitable_from side (suc j) places ts)

-- the place whose variable comes first
abbrev pub lower : Option (ℕ × Variable) → ℕ × Variable → Option (ℕ × Variable)
lower None place = Some place
lower (Some best) place = Some (cond (comes_before place.1 best.1) place best)

-- the suitable place with the lowest column, or else with the slack of the lowest row
unfoldable pub chosen_place : Side → List Variable → List ℤ → Option ℕ
chosen_place side places ts = option_map (λ place. place.0) (fold lower None (suitable_from side 0 places ts))

-- ---- a line that no place can mend

-- the multiplier of a slack's row; a column has none
abbrev pub with_multiplier : Variable → ℤ → List ℤ → List ℤ
with_multiplier (Column c) m ms = ms
with_multiplier (Slack s) m ms = slice_set ms s.row m

-- minus its number for the row of the slack at each place
unfoldable pub with_places : List Variable → List ℤ → List ℤ → List ℤ
with_places [] ts ms = ms
with_places (x ∷ places) [] ms = ms
with_places (x ∷ places) (t ∷ ts) ms = with_places places ts (with_multiplier x (neg_ℤ t) ms)

-- the divisor for the line's own row; in a low line all with the other sign
abbrev pub signed_multipliers : Side → List ℤ → List ℤ
signed_multipliers High ms = ms
signed_multipliers Low ms = map neg_ℤ ms

unfoldable pub multipliers : Side → ℕ → List Variable → Line → List ℤ
multipliers side rows places line =
    signed_multipliers side (with_places places (drop 1 line.numbers) (with_multiplier line.basic (divisor_of line) (replicate rows (pos 0))))

-- They are divided by their greatest common divisor and refute, where each product and partial sum of the check fits.
unfoldable pub refuted_outcome : System → Side → List Variable → Line → Outcome
refuted_outcome system side places line =
    let pairs = nonzero_pairs 1 (divided_numbers (multipliers side (length system.rows) places line)) in
    if is_none (overflow_of system.rows pairs) then Refuted pairs else GaveUp

-- ---- the point

-- a basic's sum over the divisor, reduced; 0 at a place
abbrev pub basic_value : List Variable → Option Line → Option Fraction
basic_value places None = Some (whole (pos 0))
basic_value places (Some line) = option_map (λ sum. fraction sum (divisor_of line)) (sum_of_line places line)

unfoldable pub column_value : Tableau → ℕ → Option Fraction
column_value tableau c = basic_value tableau.places (find (λ line. are_same line.basic (Column c)) tableau.lines)

-- the least common multiple of the denominators
unfoldable pub common_denominator : List Fraction → ℕ
common_denominator values = fold (λ d value. lcm d (unsigned_abs value.denominator)) 1 values

unfoldable pub point_over : List Fraction → Outcome
point_over values =
    let d = common_denominator values in
    let numerators = map (λ value. value.numerator *ℤ over (unsigned_abs value.denominator) (pos d)) values in
    if fits (pos d) && all_fit numerators then Point numerators (pos d) else GaveUp

abbrev pub or_gives_up : {X : Type 0} → (X → Outcome) → Option X → Outcome
or_gives_up more None = GaveUp
or_gives_up more (Some x) = more x

unfoldable pub point_of : ℕ → Tableau → Outcome
point_of columns tableau = or_gives_up point_over (every (map (column_value tableau) (range_with_len 0 columns)))

-- ---- rounds

-- what a round comes to: an end, or a place and a line for a pivot
pub data Found : Type 0 where
  Ends : Outcome → Found
  Pivots : ℕ → Line → Found

abbrev pub found_by_place : System → Side → List Variable → Line → Option ℕ → Found
found_by_place system side places line None = Ends (refuted_outcome system side places line)
found_by_place system side places line (Some j) = Pivots j line

abbrev pub found_by_standing : System → List Variable → Line → Standing → Found
found_by_standing system places line Within = Ends GaveUp
found_by_standing system places line (Out side) = found_by_place system side places line (chosen_place side places (drop 1 line.numbers))
found_by_standing system places line Unfit = Ends GaveUp

abbrev pub found_by_line : System → Tableau → Option Line → Found
found_by_line system tableau None = Ends (point_of system.columns tableau)
found_by_line system tableau (Some line) = found_by_standing system tableau.places line (standing_of tableau.places line)

unfoldable pub round_of : System → Tableau → Found
round_of system tableau = found_by_line system tableau (first_out tableau)

abbrev pub at_end : Found → Option Outcome
at_end (Ends outcome) = Some outcome
at_end (Pivots j line) = None

abbrev pub after_pivot : (Tableau → Option Outcome) → Option Tableau → Option Outcome
after_pivot more None = Some GaveUp
after_pivot more (Some tableau) = more tableau

abbrev pub goes_on : (Tableau → Option Outcome) → Tableau → Found → Option Outcome
goes_on more tableau (Ends outcome) = Some outcome
goes_on more tableau (Pivots j line) = after_pivot more (pivoted_tableau (pivot_at j line tableau) tableau)

-- what a tableau comes to where so many pivots may be made; nothing where one more is wanted
unfoldable pub ended_within : ℕ → System → Tableau → Option Outcome
ended_within zero system tableau = at_end (round_of system tableau)
ended_within (suc pivots) system tableau = goes_on (ended_within pivots system) tableau (round_of system tableau)

abbrev pub most_pivots : System → ℕ
most_pivots system = 4 * (length system.rows + system.columns)

-- what a tableau comes to where so many pivots may be made
abbrev pub outcome_after : ℕ → System → Tableau → Outcome
outcome_after pivots system tableau = unwrap_or (ended_within pivots system tableau) GaveUp

-- what the tableau of a system comes to
unfoldable pub outcome_of : System → Outcome
outcome_of system = outcome_after (most_pivots system) system (given_tableau system)
