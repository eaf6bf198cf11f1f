-- Atoms: inequalities in their one form, and the negation of one.
use Rattle.std.specs.Prelude.{◌≡◌, ◌≢◌, ◌-◌, ◌^◌, List, ℤ, pos, ◌-ℤ◌, neg_ℤ, false, map}
use Rattle.lin_rows.specs.Row.{Row, RowFits}
use Rattle.lin_rows.specs.Gcd.{gcd_of}

-- the greatest number that fits
abbrev pub greatest : ℤ
greatest = pos (2 ^ 127 - 1)

-- An inequality whose coefficients have no common divisor above 1, so that one of them is not 0. Its bound has
-- room for one more, so that it has a negation.
pub record IsAtom (row : Row) : Type 0 where
  pub no_equality : row.equal ≡ false
  pub reduced : gcd_of row.coefficients ≡ 1
  pub fits : RowFits row
  pub has_room : row.bound ≢ greatest

-- a . z <= b
abbrev pub inequality : List ℤ → ℤ → Row
inequality coefficients bound = record { equal = false; coefficients = coefficients; bound = bound }

-- a . z > b, as -a . z <= -b - 1
abbrev pub negation : Row → Row
negation row = inequality (map neg_ℤ row.coefficients) (neg_ℤ row.bound -ℤ pos 1)
