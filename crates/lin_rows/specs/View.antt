-- What stands for rows in a program.
use Rattle.lin_rows.specs.Row.{Row}
use Rattle.lin_rows.specs.System.{System}
use Rattle.lin_rows.specs.Buffer.{stored_system}
use Rattle.lin_rows.specs.declared.row.RowView.{RowView}
use Rattle.lin_rows.specs.declared.rows_view.RowsView.{RowsView}

-- the row that is borrowed
abbrev pub row_of : RowView → Row
row_of view = record { equal = view.equal; coefficients = view.coefficients.now; bound = view.bound }

-- the system of the rows that are borrowed
unfoldable pub system_of : RowsView → System
system_of view = stored_system view.columns view.sides.now view.numbers.now
