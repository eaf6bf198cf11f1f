-- The lines that the elimination works on: rows, each with a multiplier of every given row.
use Rattle.std.specs.Prelude.{ℕ, zero, suc, min, ℤ, pos, negsuc, neg_ℤ, Bool, true, false, cond, not, ◌&&◌, int_lt, List, [], ◌∷◌, ◌++◌, map, fold, take, drop, get_or, replicate, slice_set, Option, Some, None}
use Rattle.std.specs.List.{list_all, list_any, position_or_len}
use Rattle.thr_base.specs.Number.{fits}
use Rattle.lin_rows.specs.Row.{Row, multiple_of, sum_of}
use Rattle.farkas_cert.specs.Divided.{divided_numbers}
use Rattle.farkas_cert.specs.Cert.{Pairs}

pub record Line : Type 0 where
  pub equal : Bool
  -- the coefficients, the bound, and the multipliers of the given rows
  pub numbers : List ℤ

-- The given row numbered k, from 0, of so many has the multiplier 1 for itself, and 0 for the others.
abbrev pub given_line : ℕ → ℕ → Row → Line
given_line total k row = record {
  equal = row.equal;
  numbers = row.coefficients ++ (row.bound ∷ slice_set (replicate total (pos 0)) k (pos 1));
}

-- the given rows from the one numbered k on
unfoldable pub given_lines : ℕ → ℕ → List Row → List Line
given_lines total k [] = []
given_lines total k (row ∷ rows) = given_line total k row ∷ given_lines total (suc k) rows

-- the parts of a line over n columns
abbrev pub coefficient_at : ℕ → Line → ℤ
coefficient_at c line = get_or line.numbers c (pos 0)

abbrev pub bound_of : ℕ → Line → ℤ
bound_of n line = get_or line.numbers n (pos 0)

abbrev pub multipliers_of : ℕ → Line → List ℤ
multipliers_of n line = drop (suc n) line.numbers

abbrev pub is_nonzero : ℤ → Bool
is_nonzero (pos zero) = false
is_nonzero (pos (suc k)) = true
is_nonzero (negsuc k) = true

-- A coefficient is not 0.
unfoldable pub has_variable : ℕ → Line → Bool
has_variable n line = list_any is_nonzero (take n line.numbers)

-- the first column with a coefficient
unfoldable pub lowest_column : ℕ → Line → ℕ
lowest_column n line = position_or_len is_nonzero (take n line.numbers)

-- the lowest column of all lines
unfoldable pub lowest_of : ℕ → List Line → ℕ
lowest_of n lines = fold (λ c line. min c (lowest_column n line)) n lines

-- `0 <= b`, or `0 = b`, is false.
abbrev pub fails : Bool → ℤ → Bool
fails equal b = cond equal (is_nonzero b) (int_lt b (pos 0))

-- a line without a variable that is false
unfoldable pub is_false : ℕ → Line → Bool
is_false n line = not (has_variable n line) && fails line.equal (bound_of n line)

-- the multipliers by which a false line refutes: all negated where it is an equality with a positive bound
unfoldable pub refuting_multipliers : ℕ → Line → List ℤ
refuting_multipliers n line = cond (line.equal && int_lt (pos 0) (bound_of n line)) (map neg_ℤ (multipliers_of n line)) (multipliers_of n line)

-- the multipliers that are not 0, with the numbers of their rows, from k on
unfoldable pub nonzero_pairs : ℕ → List ℤ → Pairs
nonzero_pairs k [] = []
nonzero_pairs k (m ∷ ms) = cond (is_nonzero m) ((k, m) ∷ nonzero_pairs (suc k) ms) (nonzero_pairs (suc k) ms)

abbrev pub all_fit : List ℤ → Bool
all_fit xs = list_all fits xs

-- a times the one list plus b times the other: coefficients, bounds and multipliers alike
abbrev pub combination : ℤ → List ℤ → ℤ → List ℤ → List ℤ
combination a xs b ys = sum_of (multiple_of a xs) (multiple_of b ys)

-- Each product and each sum of a combination fits.
abbrev pub combination_fits : ℤ → List ℤ → ℤ → List ℤ → Bool
combination_fits a xs b ys = all_fit (multiple_of a xs) && (all_fit (multiple_of b ys) && all_fit (combination a xs b ys))

-- A made line is divided by the greatest common divisor of its numbers. None is made where a product or a sum does not fit.
unfoldable pub made_line : Bool → ℤ → List ℤ → ℤ → List ℤ → Option Line
made_line equal a xs b ys = cond (combination_fits a xs b ys) (Some (record { equal = equal; numbers = divided_numbers (combination a xs b ys) })) None
