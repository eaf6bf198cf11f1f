-- When a row holds at a rational point by products and sums that fit.
use Rattle.std.specs.Prelude.{◌≡◌, ℕ, ◌-◌, ℤ, ◌*ℤ◌, List, length, take, Option, Some, None, IsSomeAnd, if◌then◌else◌}
use Rattle.std.specs.Option.{option_or}
use Rattle.std.specs.List.{AllByRecursion}
use Rattle.thr_base.specs.Number.{fits}
use Rattle.lin_rows.specs.Row.{Row, MeetsOver}
use Rattle.lin_rows.specs.Sum.{sum_overflow}
use Rattle.farkas_cert.specs.Cert.{row_numbered}

-- The first column of a row at x / d at which a product or a sum does not fit. The bound times d comes last.
abbrev pub row_overflow : List ℤ → ℤ → Row → Option ℕ
row_overflow x d row =
    option_or (sum_overflow row.coefficients x) (if fits (row.bound *ℤ d) then None else Some (length row.coefficients))

-- The row holds at x / d, and every product and sum on the way fits.
pub record Passes (x : List ℤ) (d : ℤ) (row : Row) : Type 0 where
  pub fits : row_overflow x d row ≡ None
  pub meets : MeetsOver row x d

-- The row does not hold at x / d, and every product and sum on the way fits.
pub record Breaks (x : List ℤ) (d : ℤ) (row : Row) : Type 0 where
  pub fits : row_overflow x d row ≡ None
  pub breaks : ¬ MeetsOver row x d

-- All rows before number n pass, and row n is such.
pub record IsFirstRow (P : Row → Type 0) (x : List ℤ) (d : ℤ) (rows : List Row) (n : ℕ) : Type 0 where
  pub before : AllByRecursion (Passes x d) (take (n - 1) rows)
  pub there : IsSomeAnd (row_numbered rows n) P
