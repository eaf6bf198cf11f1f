-- The elimination: it takes the columns of a system one after another out of its rows, until a row without a variable is false or
-- no row is left. It computes over unbounded numbers, and looks at whether they fit only to leave.
use Rattle.std.specs.Prelude.{ℕ, zero, suc, ◌+◌, ◌*◌, ℤ, pos, neg_ℤ, ◌*ℤ◌, unsigned_abs, Bool, false, cond, not, nat_lt, int_lt, List, [], ◌∷◌, ◌++◌, map, length, filter, flat_map, find, replicate, if◌then◌else◌, Option, Some, None, is_none}
use Rattle.std.specs.Int.{int_signum}
use Rattle.std.specs.Option.{option_map}
use Rattle.thr_base.specs.Limits.{most_elimination_rows}
use Rattle.lin_rows.specs.System.{System}
use Rattle.farkas_cert.specs.Cert.{Pairs}
use Rattle.lin_rows.specs.Gcd.{gcd}
use Rattle.farkas_cert.specs.Divided.{over}
use Rattle.farkas_cert.specs.Line.{Line, given_lines, coefficient_at, lowest_column, lowest_of, has_variable, is_false, refuting_multipliers, nonzero_pairs, is_nonzero, made_line}
use Rattle.farkas_cert.specs.Proof.{overflow_of}
use Rattle.farkas_cert.specs.declared.answers.LeaveKind.{LeaveKind}
use Rattle.farkas_cert.specs.declared.answers.LeaveKind.TheVariants.{Overflow, Rows}
use Rattle.farkas_cert.specs.BackSubstitution.{RationalPoint, Kept, Solved, Bounded, set_column}

pub data Outcome : Type 0 where
  -- a certificate
  Refuted : Pairs → Outcome
  -- numerators over a denominator
  Point : List ℤ → ℤ → Outcome
  -- the stage, from 1, or 0 where no stage began
  Leaves : ℕ → LeaveKind → Outcome

-- what a stage starts from
pub record Work : Type 0 where
  pub lines : List Line
  -- what the stages so far kept, latest first
  pub kept : List Kept
  -- how many lines pair stages made so far
  pub made : ℕ

-- what a stage comes to
pub data Next : Type 0 where
  Goes : Work → Next
  Ends : Outcome → Next

-- the values, where each is there
unfoldable pub every : {X : Type 0} → List (Option X) → Option (List X)
every [] = Some []
every (None ∷ xs) = None
every (Some x ∷ xs) = option_map (λ ys. x ∷ ys) (every xs)

-- ---- the constant test

-- Multipliers refute, where each product and partial sum of the check fits.
abbrev pub refutation_outcome : System → ℕ → List ℤ → Outcome
refutation_outcome system number ms =
    let pairs = nonzero_pairs 1 ms in
    if is_none (overflow_of system.rows pairs) then Refuted pairs else Leaves number Overflow

-- The first false line without a variable ends the work as refuted; the other lines without a variable are removed.
abbrev pub constant_test_by : System → ℕ → Work → Option Line → Next
constant_test_by system number work (Some line) = Ends (refutation_outcome system number (refuting_multipliers system.columns line))
constant_test_by system number work None = Goes (record work { lines = filter (has_variable system.columns) work.lines })

unfoldable pub constant_test : System → ℕ → Work → Next
constant_test system number work = constant_test_by system number work (find (is_false system.columns) work.lines)

-- ---- a stage

-- the number of the stage that begins
abbrev pub stage_number : Work → ℕ
stage_number work = suc (length work.kept)

-- A stage keeps lines for its column and goes on with others; it leaves where one of those could not be made.
abbrev pub follows : Work → Kept → ℕ → Option (List Line) → Next
follows work kept made None = Ends (Leaves (stage_number work) Overflow)
follows work kept made (Some lines) = Goes (record { lines = lines; kept = kept ∷ work.kept; made = made })

-- ---- a stage with an equality

-- the lines without their first equality
unfoldable pub without_equality : List Line → List Line
without_equality [] = []
without_equality (line ∷ lines) = cond line.equal lines (line ∷ without_equality lines)

-- The equality with p at c takes the column out of a line with q there: |p| / g times the line less sign(p) q / g times the
-- equality, where g is the greatest common divisor of |p| and |q|. A line without the column stays.
unfoldable pub substituted_line : ℕ → Line → Line → Option Line
substituted_line c equality line =
    let p = coefficient_at c equality in
    let q = coefficient_at c line in
    let g = gcd (unsigned_abs p) (unsigned_abs q) in
    cond (is_nonzero q)
    (made_line line.equal (over g (pos (unsigned_abs p))) line.numbers (neg_ℤ (over g (int_signum p *ℤ q))) equality.numbers)
    (Some line)

-- The equality leaves the list and is kept for its lowest column; each other line is replaced in its place.
unfoldable pub equality_stage : System → Work → Line → Next
equality_stage system work equality =
    let c = lowest_column system.columns equality in
    follows work (Solved c equality) work.made (every (map (substituted_line c equality) (without_equality work.lines)))

-- ---- a stage without one

-- The inequalities with p and -q at c, added so that the column falls out: q / g times the one and p / g times the other, where g
-- is the greatest common divisor of p and q.
unfoldable pub paired_line : ℕ → Line → Line → Option Line
paired_line c positive negative =
    let p = coefficient_at c positive in
    let q = neg_ℤ (coefficient_at c negative) in
    let g = gcd (unsigned_abs p) (unsigned_abs q) in
    made_line false (over g q) positive.numbers (over g p) negative.numbers

-- the lines with a positive coefficient at c, with a negative one, and with one
abbrev pub positives : ℕ → List Line → List Line
positives c lines = filter (λ line. int_lt (pos 0) (coefficient_at c line)) lines

abbrev pub negatives : ℕ → List Line → List Line
negatives c lines = filter (λ line. int_lt (coefficient_at c line) (pos 0)) lines

abbrev pub with_column : ℕ → List Line → List Line
with_column c lines = filter (λ line. is_nonzero (coefficient_at c line)) lines

abbrev pub without_column : ℕ → List Line → List Line
without_column c lines = filter (λ line. not (is_nonzero (coefficient_at c line))) lines

-- each positive line with each negative one, both in order
unfoldable pub pairs_at : ℕ → List Line → Option (List Line)
pairs_at c lines = every (flat_map (λ positive. map (paired_line c positive) (negatives c lines)) (positives c lines))

-- The given rows, and those that pairs made so far and in this stage, are too many.
abbrev pub are_too_many : System → ℕ → Bool
are_too_many system made = nat_lt most_elimination_rows (length system.rows + made)

-- The lines with the lowest column of all leave the list and are kept for it; the pairs come after the others. Whether there are
-- too many is looked at before any pair is made.
unfoldable pub pair_stage : System → Work → Next
pair_stage system work =
    let c = lowest_of system.columns work.lines in
    let made = work.made + length (positives c work.lines) * length (negatives c work.lines) in
    if are_too_many system made then Ends (Leaves (stage_number work) Rows) else
    (follows work (Bounded c (with_column c work.lines)) made (option_map (λ pairs. without_column c work.lines ++ pairs) (pairs_at c work.lines)))

-- ---- the whole

-- A stage takes a column out, by the first equality where there is one,
abbrev pub take_column_out_by : System → Work → Option Line → Next
take_column_out_by system work (Some equality) = equality_stage system work equality
take_column_out_by system work None = pair_stage system work

unfoldable pub take_column_out : System → Work → Next
take_column_out system work = take_column_out_by system work (find (λ line. line.equal) work.lines)

-- and ends with the constant test.
abbrev pub then_constant_test : System → Next → Next
then_constant_test system (Goes work) = constant_test system (length work.kept) work
then_constant_test system (Ends outcome) = Ends outcome

unfoldable pub stage : System → Work → Next
stage system work = then_constant_test system (take_column_out system work)

-- The columns that stages took are set, the latest first. A number that does not fit is one of the column's stage.
abbrev pub or_leaves : ℕ → (RationalPoint → Outcome) → Option RationalPoint → Outcome
or_leaves number more None = Leaves number Overflow
or_leaves number more (Some point) = more point

unfoldable pub point_from : ℕ → List Kept → RationalPoint → Outcome
point_from n [] point = Point point.numerators point.denominator
point_from n (kept ∷ earlier) point = or_leaves (suc (length earlier)) (point_from n earlier) (set_column n point kept)

-- Columns that no stage took stay 0.
abbrev pub point_of : ℕ → List Kept → Outcome
point_of n kept = point_from n kept (record { numerators = replicate n (pos 0); denominator = pos 1 })

abbrev pub or_ends : (Work → Outcome) → Next → Outcome
or_ends more (Goes work) = more work
or_ends more (Ends outcome) = outcome

-- Stages follow until no line is left, which gives a point. Each takes another column, so the fuel can be the number of columns.
abbrev pub goes_on : System → Work → (Work → Outcome) → List Line → Outcome
goes_on system work more [] = point_of system.columns work.kept
goes_on system work more (line ∷ lines) = or_ends more (stage system work)

unfoldable pub stages : ℕ → System → Work → Outcome
stages zero system work = point_of system.columns work.kept
stages (suc fuel) system work = goes_on system work (stages fuel system) work.lines

-- what the given rows come to, after the constant test
unfoldable pub beginning : System → Next
beginning system = constant_test system 0 (record { lines = given_lines (length system.rows) 0 system.rows; kept = []; made = 0 })

-- what the elimination of a system comes to, where so many stages may follow one another
unfoldable pub outcome_within : ℕ → System → Outcome
outcome_within fuel system = or_ends (stages fuel system) (beginning system)

abbrev pub outcome_of : System → Outcome
outcome_of system = outcome_within system.columns system

-- the stage and the kind with which an outcome leaves, if it does
abbrev pub left_by : Outcome → Option (ℕ × LeaveKind)
left_by (Refuted pairs) = None
left_by (Point x d) = None
left_by (Leaves stage kind) = Some (stage, kind)
