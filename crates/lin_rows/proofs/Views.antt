-- Rows that are borrowed, as systems.
use Rattle.std.proofs.Common.{◌≡◌, ℕ, ◌+◌, ◌*◌, ◌<◌, ℤ, List, length, take, drop, get_or, refl, sym, ◌∙◌, ap, to_z, of_z}
use Rattle.std.specs.Prelude.{Some}
use Rattle.std.specs.Int.{w128}
use Rattle.std.specs.List.{slice_get, slice_range}
use Rattle.std.proofs.lemmas.Option.{slice_get-get_or}
use Rattle.thr_base.specs.Number.{Fits}
use Rattle.lin_rows.specs.Row.{Row}
use Rattle.lin_rows.specs.System.{IsRowOver, IsWellFormed, part_of}
use Rattle.lin_rows.specs.Buffer.{stored_row, rows_of, stored_system}
use Rattle.lin_rows.specs.inside.Stored.{BoundFits, IsStored}
use Rattle.lin_rows.specs.View.{row_of, system_of}
use Rattle.lin_rows.specs.declared.stored.RightSide.{RightSide}
use Rattle.lin_rows.specs.declared.row.RowView.{RowView}
use Rattle.lin_rows.specs.declared.rows_view.RowsView.{RowsView}
use Rattle.lin_rows.proofs.Lists.{AllByRecursion-at, AllByRecursion-slice_get}
use Rattle.lin_rows.proofs.Numbers.{read_back}
use Rattle.lin_rows.proofs.StoredRows.{length-rows_of, slice_get-rows_of, slice_range-row, rows_of-slice_range, IsWellFormed-stored}

-- what always holds of a view
pub IsStored-view : (view : RowsView) → IsStored view.columns view.sides.now view.numbers.now
IsStored-view view = record {
  count = view.count;
  size = view.size;
  numbers_fit = view.numbers_fit;
  bounds_fit = view.bounds_fit;
}

-- a view is of a system that a program holds
pub IsWellFormed-system_of : (view : RowsView) → IsWellFormed (system_of view)
unfolding system_of
IsWellFormed-system_of view = IsWellFormed-stored view.columns view.sides.now view.numbers.now view.columns_fit (IsStored-view view)

-- as many rows as sides
pub length-system_of : (view : RowsView) → length (system_of view).rows ≡ length view.sides.now
unfolding system_of
length-system_of view = length-rows_of view.columns view.sides.now view.numbers.now

-- its columns are the number that it keeps
pub columns-system_of : (view : RowsView) → view.columns ≡ (system_of view).columns
unfolding system_of
columns-system_of view = refl

-- the rows, cut as those of a system over as many columns
pub rows-system_of : (view : RowsView) (c : ℕ) → (system_of view).columns ≡ c → rows_of c view.sides.now view.numbers.now ≡ (system_of view).rows
unfolding system_of
rows-system_of view c e = ap (λ n. rows_of n view.sides.now view.numbers.now) (sym e)

-- the row at a place, by what is held of it
pub row_at : (view : RowsView) (n : ℕ) (d : RightSide) (row : RowView) → n < length view.sides.now → row.equal ≡ (get_or view.sides.now n d).equal
    → row.coefficients.now ≡ slice_range view.numbers.now (n * view.columns) ((n + 1) * view.columns) → row.bound ≡ to_z w128 (of_z w128 (get_or view.sides.now n d).bound)
    → slice_get (system_of view).rows n ≡ Some (row_of row)
unfolding system_of
row_at view n d row h equal coefficients bound =
    let side = get_or view.sides.now n d in
    let fits : Fits side.bound = AllByRecursion-at BoundFits view.sides.now n d view.bounds_fit h in
    let numbers = coefficients ∙ slice_range-row view.columns n view.numbers.now in
    slice_get-rows_of view.columns n view.sides.now view.numbers.now side (slice_get-get_or view.sides.now n d h)
    ∙ parts row side (take view.columns (drop (n * view.columns) view.numbers.now)) equal numbers (bound ∙ read_back side.bound fits)
  where
    parts : (row : RowView) (side : RightSide) (xs : List ℤ) → row.equal ≡ side.equal → row.coefficients.now ≡ xs → row.bound ≡ side.bound → Some (stored_row xs side) ≡ Some (row_of row)
    parts row side xs p q r = cc

-- each of its rows is over its columns
pub row_over : (view : RowsView) (n : ℕ) (row : Row) → slice_get (system_of view).rows n ≡ Some row → IsRowOver (system_of view).columns row
row_over view n row is = AllByRecursion-slice_get (IsRowOver (system_of view).columns) (system_of view).rows n row (IsWellFormed-system_of view).rows is

-- a part, by the parts of what is held
pub system_of-part : (view part : RowsView) (from to : ℕ) → part.columns ≡ view.columns → part.sides.now ≡ slice_range view.sides.now from to
    → part.numbers.now ≡ slice_range view.numbers.now (from * view.columns) (to * view.columns) → system_of part ≡ part_of from to (system_of view)
unfolding system_of
system_of-part view part from to columns sides numbers =
    is_stored part view.columns (slice_range view.sides.now from to) (slice_range view.numbers.now (from * view.columns) (to * view.columns)) columns sides numbers
    ∙ ap (λ rows. record { columns = view.columns; rows = rows }) (rows_of-slice_range view.columns from to view.sides.now view.numbers.now)
  where
    is_stored : (part : RowsView) (c : ℕ) (sides : List RightSide) (xs : List ℤ) → part.columns ≡ c → part.sides.now ≡ sides → part.numbers.now ≡ xs
        → stored_system part.columns part.sides.now part.numbers.now ≡ stored_system c sides xs
    is_stored part c sides xs p q r = cc
