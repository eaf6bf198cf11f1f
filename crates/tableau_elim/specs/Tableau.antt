-- The tableau of a system: lines that say what some variables are by others, which stand at places. It computes over unbounded
-- numbers, and looks at whether they fit only to give up.
use Rattle.std.specs.Prelude.{ℕ, suc, ℤ, pos, neg_ℤ, ◌*ℤ◌, unsigned_abs, Bool, true, false, cond, ◌==◌, nat_lt, List, [], ◌∷◌, map, drop, get_or, slice_set, Option, Some, None}
use Rattle.std.specs.Int.{int_signum}
use Rattle.std.specs.List.{range_with_len}
use Rattle.std.specs.Option.{option_map}
use Rattle.lin_rows.specs.Row.{Row, multiple_of}
use Rattle.lin_rows.specs.Sum.{sum_in_order}
use Rattle.lin_rows.specs.System.{System}
use Rattle.farkas_cert.specs.Divided.{divided_numbers}
use Rattle.farkas_cert.specs.Line.{is_nonzero, combination, combination_fits}
use Rattle.farkas_cert.specs.Elimination.{every}
use Rattle.tableau_elim.specs.declared.variable.Variable.{Variable}
use Rattle.tableau_elim.specs.declared.variable.Variable.TheVariants.{Column, Slack}

-- ---- variables: the columns, and for each row its slack, which stands for the row's left side

-- the same column, or slacks of the same row
abbrev pub are_same : Variable → Variable → Bool
are_same (Column c) (Column e) = c == e
are_same (Column c) (Slack s) = false
are_same (Slack s) (Column c) = false
are_same (Slack s) (Slack q) = s.row == q.row

-- Columns come before slacks, and both in their order.
abbrev pub comes_before : Variable → Variable → Bool
comes_before (Column c) (Column e) = nat_lt c e
comes_before (Column c) (Slack s) = true
comes_before (Slack s) (Column c) = false
comes_before (Slack s) (Slack q) = nat_lt s.row q.row

-- At a place a column has the value 0, and a slack that of its row's bound.
abbrev pub value_at_place : Variable → ℤ
value_at_place (Column c) = pos 0
value_at_place (Slack s) = s.bound

-- ---- lines

-- A line says: divisor * basic = the sum of its numbers times the variables at the places.
pub record Line : Type 0 where
  pub basic : Variable
  -- the divisor, and behind it a number for each place
  pub numbers : List ℤ

abbrev pub divisor_of : Line → ℤ
divisor_of line = get_or line.numbers 0 (pos 1)

abbrev pub number_at : ℕ → Line → ℤ
number_at j line = get_or line.numbers (suc j) (pos 0)

pub record Tableau : Type 0 where
  pub lines : List Line
  pub places : List Variable

-- At first the slack of each row is a basic: once the slack is the sum of the row's coefficients times the columns.
unfoldable pub given_lines : ℕ → List Row → List Line
given_lines k [] = []
given_lines k (row ∷ rows) =
    record { basic = Slack (record { row = k; equal = row.equal; bound = row.bound }); numbers = pos 1 ∷ row.coefficients } ∷ given_lines (suc k) rows

abbrev pub given_tableau : System → Tableau
given_tableau system = record { lines = given_lines 0 system.rows; places = map Column (range_with_len 0 system.columns) }

-- the sum of a line's numbers times the values at the places, in order; nothing where a product or a sum up to it does not fit
unfoldable pub sum_of_line : List Variable → Line → Option ℤ
sum_of_line places line = sum_in_order (drop 1 line.numbers) (map value_at_place places)

-- ---- pivots: the basic of a line and the variable at a place change places

pub record Pivot : Type 0 where
  pub place : ℕ
  -- the variable at the place, which becomes a basic
  pub entering : Variable
  -- the basic of the line, which goes to the place
  pub leaving : Variable
  -- the line's number at the place
  pub number : ℤ
  -- the line's numbers with the basic at the place: minus the divisor stands there, and 0 in front
  pub moved : List ℤ

abbrev pub variable_at : ℕ → Tableau → Variable
variable_at j tableau = get_or tableau.places j (Column 0)

-- the pivot of a line at place j
unfoldable pub pivot_at : ℕ → Line → Tableau → Pivot
pivot_at j line tableau = record {
  place = j;
  entering = variable_at j tableau;
  leaving = line.basic;
  number = number_at j line;
  moved = slice_set (slice_set line.numbers (suc j) (neg_ℤ (divisor_of line))) 0 (pos 0);
}

-- The line is solved for the entering variable. With p at the place, |p| is the divisor, sign(p) times the old divisor stands at the
-- place, and each other number t becomes -sign(p) t.
unfoldable pub solved_line : Pivot → Line
solved_line pivot = record {
  basic = pivot.entering;
  numbers = divided_numbers (slice_set (multiple_of (neg_ℤ (int_signum pivot.number)) pivot.moved) 0 (pos (unsigned_abs pivot.number)));
}

-- In another line, with u at the place, this is put in for the entering variable: the divisor is multiplied by |p|, sign(p) u times the
-- pivot's divisor stands at the place, and each other number t becomes |p| t less sign(p) u times that of the pivot's line. None is
-- made where a product or a difference does not fit.
unfoldable pub combined_line : Pivot → Line → Option Line
combined_line pivot line =
    let a = pos (unsigned_abs pivot.number) in
    let b = neg_ℤ (int_signum pivot.number) *ℤ number_at pivot.place line in
    let rest = slice_set line.numbers (suc pivot.place) (pos 0) in
    cond (combination_fits a rest b pivot.moved)
    (Some (record { basic = line.basic; numbers = divided_numbers (combination a rest b pivot.moved) })) None

-- Lines without a number at the place stay.
unfoldable pub line_after_pivot : Pivot → Line → Option Line
line_after_pivot pivot line =
    cond (are_same line.basic pivot.leaving) (Some (solved_line pivot))
    (cond (is_nonzero (number_at pivot.place line)) (combined_line pivot line) (Some line))

-- the tableau after a pivot
unfoldable pub pivoted_tableau : Pivot → Tableau → Option Tableau
pivoted_tableau pivot tableau =
    option_map (λ lines. record { lines = lines; places = slice_set tableau.places pivot.place pivot.leaving })
    (every (map (line_after_pivot pivot) tableau.lines))
