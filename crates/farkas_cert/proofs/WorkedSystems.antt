-- What the elimination gives on small systems, worked by hand.
use Rattle.std.proofs.Common.{◌≡◌, ℕ, refl, ◌^◌, ◌+◌, true, false, [], ◌∷◌, List}
use Rattle.std.specs.Prelude.{ℤ, pos, neg_ℤ}
use Rattle.lin_rows.specs.Row.{Row}
use Rattle.lin_rows.specs.System.{System}
use Rattle.farkas_cert.specs.Divided.{divided_numbers}
use Rattle.farkas_cert.specs.Line.{given_lines, has_variable, lowest_column, lowest_of, is_false, refuting_multipliers, nonzero_pairs, made_line}
use Rattle.farkas_cert.specs.BackSubstitution.{fraction, bound_on, bounds_from, assigned_point, set_column}
use Rattle.farkas_cert.specs.Elimination.{Refuted, Point, Leaves, outcome_of, outcome_within, beginning, stages, stage, take_column_out, point_from, constant_test, equality_stage, pair_stage, pairs_at, paired_line, substituted_line, without_equality, every}
use Rattle.farkas_cert.specs.declared.answers.LeaveKind.TheVariants.{Overflow}

-- an inequality of these coefficients and this bound
abbrev at_most : List ℤ → ℤ → Row
at_most coefficients bound = record { equal = false; coefficients = coefficients; bound = bound }

-- an equality of these coefficients and this bound
abbrev equals : List ℤ → ℤ → Row
equals coefficients bound = record { equal = true; coefficients = coefficients; bound = bound }

-- a system of these rows
abbrev over_columns : ℕ → List Row → System
over_columns n rows = record { columns = n; rows = rows }

-- 2^126
abbrev large : ℕ
large = 85070591730234615865843651857942052864

worked :
    -- large x + y <= 0 with -(large + 1) x + y <= 0
    (outcome_of (over_columns 2 (at_most (pos large ∷ pos 1 ∷ []) (pos 0) ∷ at_most (neg_ℤ (pos (large + 1)) ∷ pos 1 ∷ []) (pos 0) ∷ []))
    ≡ Leaves 1 Overflow)
    -- x <= 0 with -x <= -1
    × (outcome_of (over_columns 1 (at_most (pos 1 ∷ []) (pos 0) ∷ at_most (neg_ℤ (pos 1) ∷ []) (neg_ℤ (pos 1)) ∷ []))
    ≡ Refuted ((1, pos 1) ∷ (2, pos 1) ∷ []))
    -- 2x = 1
    × (outcome_of (over_columns 1 (equals (pos 2 ∷ []) (pos 1) ∷ [])) ≡ Point (pos 1 ∷ []) (pos 2))
    -- no rows
    × (outcome_of (over_columns 1 []) ≡ Point (pos 0 ∷ []) (pos 1))
    -- -2x <= -3 with 2^126 x <= 2^126 + 2^125 + 1: no whole number lies between, and no product of the bounds is looked at
    × (outcome_of (over_columns 1 (at_most (neg_ℤ (pos 2) ∷ []) (neg_ℤ (pos 3)) ∷ at_most (pos (2 ^ 126) ∷ []) (pos (2 ^ 126 + 2 ^ 125 + 1)) ∷ []))
    ≡ Point (pos 3 ∷ []) (pos 2))
    -- x = 1 with x = 2: the multipliers are negated
    × (outcome_of (over_columns 1 (equals (pos 1 ∷ []) (pos 1) ∷ equals (pos 1 ∷ []) (pos 2) ∷ []))
    ≡ Refuted ((1, pos 1) ∷ (2, neg_ℤ (pos 1)) ∷ []))
    -- 2x + 3y = 7 with x - y = 1
    × (outcome_of (over_columns 2 (equals (pos 2 ∷ pos 3 ∷ []) (pos 7) ∷ equals (pos 1 ∷ neg_ℤ (pos 1) ∷ []) (pos 1) ∷ []))
    ≡ Point (pos 2 ∷ pos 1 ∷ []) (pos 1))
    -- 2x <= 5
    × (outcome_of (over_columns 1 (at_most (pos 2 ∷ []) (pos 5) ∷ [])) ≡ Point (pos 2 ∷ []) (pos 1))
    -- 0 <= -1
    × (outcome_of (over_columns 1 (at_most (pos 0 ∷ []) (neg_ℤ (pos 1)) ∷ [])) ≡ Refuted ((1, pos 1) ∷ []))
    -- x + y <= 1 with -x <= -1 and -2y <= 1: y is 0, the least whole number from -1/2 on, and then x is 1
    × (outcome_of (over_columns 2 (at_most (pos 1 ∷ pos 1 ∷ []) (pos 1) ∷ at_most (neg_ℤ (pos 1) ∷ pos 0 ∷ []) (neg_ℤ (pos 1)) ∷ at_most (pos 0 ∷ neg_ℤ (pos 2) ∷ []) (pos 1) ∷ []))
    ≡ Point (pos 1 ∷ pos 0 ∷ []) (pos 1))
    -- no columns, with 0 <= 0
    × (outcome_of (over_columns 0 (at_most [] (pos 0) ∷ [])) ≡ Point [] (pos 1))
unfolding outcome_within beginning stages stage take_column_out point_from constant_test equality_stage pair_stage pairs_at paired_line substituted_line without_equality every fraction bound_on bounds_from assigned_point set_column given_lines has_variable lowest_column lowest_of is_false refuting_multipliers nonzero_pairs made_line divided_numbers
worked = (refl, refl, refl, refl, refl, refl, refl, refl, refl, refl, refl)
