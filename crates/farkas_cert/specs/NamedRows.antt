-- The rows that a certificate can name: those that a program holds of a system, and perhaps one more.
use Rattle.std.specs.Prelude.{◌<◌, ◌^◌, length}
use Rattle.std.specs.List.{AllByRecursion}
use Rattle.lin_rows.specs.System.{System, IsRowOver}

-- The rows are over the system's columns, and their numbers, from 1, are below 2^32.
pub record IsNamed (system : System) : Type 0 where
  pub columns : system.columns < 2 ^ 32
  pub count : length system.rows < 2 ^ 32
  pub rows : AllByRecursion (IsRowOver system.columns) system.rows
