-- What the check of a point finds of one row.
use Rattle.std.specs.Prelude.{◌≡◌, ℤ, List, Some}
use Rattle.lin_rows.specs.Row.{Row}
use Rattle.farkas_cert.specs.Point as point
use Rattle.farkas_cert.specs.declared.point.RowAnswer.{RowAnswer}
use Rattle.farkas_cert.specs.declared.point.RowAnswer.TheVariants as answer

abbrev pub IsRowAnswer : List ℤ → ℤ → Row → RowAnswer → Type 0
IsRowAnswer x d row answer.Passes = point.Passes x d row
IsRowAnswer x d row answer.Breaks = point.Breaks x d row
IsRowAnswer x d row (answer.Overflow column) = point.row_overflow x d row ≡ Some column
