-- Certificates: multipliers of a system's rows whose weighted sum is a contradiction.
use Rattle.std.specs.Prelude.{◌≡◌, ℕ, zero, suc, ◌<◌, ℤ, pos, ◌+ℤ◌, ◌*ℤ◌, ◌≤ℤ◌, ◌<ℤ◌, false, List, [], ◌∷◌, Option, Some, None, slice_get, MatchBool, ⊤}
use Rattle.std.specs.List.{AllByRecursion}
use Rattle.lin_rows.specs.Row.{Row, multiple_of, sum_of}
use Rattle.lin_rows.specs.System.{System}

-- the numbers of rows, from 1, each with its multiplier; rows that are not listed have 0
abbrev pub Pairs : Type 0
Pairs = List (ℕ × ℤ)

-- the row of a number from 1
abbrev pub row_numbered : List Row → ℕ → Option Row
row_numbered rows zero = None
row_numbered rows (suc k) = slice_get rows k

-- An inequality has no negative multiplier.
abbrev pub Allows : Row → ℤ → Type 0
Allows row m = MatchBool row.equal ⊤ (pos 0 ≤ℤ m)

-- The multiplier is that of a row that is there, and which allows it.
abbrev pub AllowsAt : Option Row → ℤ → Type 0
AllowsAt None m = ⊥
AllowsAt (Some row) m = Allows row m

-- The numbers rise strictly, from above `last`, and each row allows its multiplier.
abbrev pub InOrder : List Row → ℕ → Pairs → Type 0
InOrder rows last [] = Unit {0}
InOrder rows last ((k, m) ∷ pairs) = (last < k) × AllowsAt (row_numbered rows k) m × InOrder rows k pairs

-- m times a row, added to a sum
abbrev pub add_weighted : Option Row → ℤ → Row → Row
add_weighted None m total = total
add_weighted (Some row) m total = record {
  equal = false;
  coefficients = sum_of (multiple_of m row.coefficients) total.coefficients;
  bound = m *ℤ row.bound +ℤ total.bound;
}

-- the weighted sum of the rows, as one row
abbrev pub weighted_sum : List Row → Pairs → Row
weighted_sum rows [] = record { equal = false; coefficients = []; bound = pos 0 }
weighted_sum rows ((k, m) ∷ pairs) = add_weighted (row_numbered rows k) m (weighted_sum rows pairs)

-- The row says 0 <= c with a negative c.
pub record IsContradiction (row : Row) : Type 0 where
  pub cancels : AllByRecursion (λ a. a ≡ pos 0) row.coefficients
  pub negative : row.bound <ℤ pos 0

-- The pairs are in order, and the weighted rows sum to a contradiction.
pub record Refutes (system : System) (pairs : Pairs) : Type 0 where
  pub in_order : InOrder system.rows 0 pairs
  pub contradicts : IsContradiction (weighted_sum system.rows pairs)

-- Some certificate refutes the system.
abbrev pub IsRefuted : System → Type 0
IsRefuted system = (pairs : Pairs) × Refutes system pairs
