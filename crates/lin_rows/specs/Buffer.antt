-- Rows in one list of numbers: what stands behind the coefficients of each, and the coefficients of all, one row behind the other.
use Rattle.std.specs.Prelude.{ℕ, ℤ, List, [], ◌∷◌, take, drop}
use Rattle.lin_rows.specs.Row.{Row}
use Rattle.lin_rows.specs.System.{System}
use Rattle.lin_rows.specs.declared.stored.RightSide.{RightSide}

-- a row of these coefficients
abbrev pub stored_row : List ℤ → RightSide → Row
stored_row coefficients side = record { equal = side.equal; coefficients = coefficients; bound = side.bound }

-- rows of which each has the next so many numbers of a list
abbrev pub rows_of : ℕ → List RightSide → List ℤ → List Row
rows_of columns [] numbers = []
rows_of columns (side ∷ sides) numbers = stored_row (take columns numbers) side ∷ rows_of columns sides (drop columns numbers)

-- the system of these rows
abbrev pub stored_system : ℕ → List RightSide → List ℤ → System
stored_system columns sides numbers = record { columns = columns; rows = rows_of columns sides numbers }
