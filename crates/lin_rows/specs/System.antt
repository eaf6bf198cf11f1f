-- Systems: lists of rows over the same columns.
use Rattle.std.specs.Prelude.{◌≡◌, ◌<◌, ◌-◌, ◌^◌, ◌<ℤ◌, ℕ, ℤ, pos, List, [], ◌∷◌, ◌++◌, length, slice_range}
use Rattle.std.specs.List.{AllByRecursion}
use Rattle.lin_rows.specs.Row.{Row, RowFits, Meets, MeetsOver}

pub record System : Type 0 where
  pub columns : ℕ
  pub rows : List Row

-- the system with one more row, at its end
abbrev pub with_row : System → Row → System
with_row system row = record system { rows = system.rows ++ row ∷ [] }

-- the system with more rows, at its end
abbrev pub with_rows : System → List Row → System
with_rows system rows = record system { rows = system.rows ++ rows }

-- the rows from one place on up to another, as a system
abbrev pub part_of : ℕ → ℕ → System → System
part_of from to system = record system { rows = slice_range system.rows from to }

-- The row has one coefficient per column, and its numbers fit.
pub record IsRowOver (columns : ℕ) (row : Row) : Type 0 where
  pub width : length row.coefficients ≡ columns
  pub fits : RowFits row

-- Each row has one coefficient per column.
abbrev pub HasWidths : System → Type 0
HasWidths system = AllByRecursion (λ row. length row.coefficients ≡ system.columns) system.rows

-- What is known of each system that a program holds: its rows are over its columns, and no count is too great.
pub record IsWellFormed (system : System) : Type 0 where
  pub columns : system.columns < 2 ^ 32
  pub count : length system.rows < 2 ^ 32 - 1
  pub rows : AllByRecursion (IsRowOver system.columns) system.rows

-- z is a whole point of the system.
pub record IsPoint (system : System) (z : List ℤ) : Type 0 where
  pub whole : length z ≡ system.columns
  pub meets : AllByRecursion (λ row. Meets row z) system.rows

-- x / d is a rational point of the system.
pub record IsRationalPoint (system : System) (x : List ℤ) (d : ℤ) : Type 0 where
  pub whole : length x ≡ system.columns
  pub positive : pos 0 <ℤ d
  pub meets : AllByRecursion (λ row. MeetsOver row x d) system.rows
