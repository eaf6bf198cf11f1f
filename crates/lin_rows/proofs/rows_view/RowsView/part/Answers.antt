use Rattle.std.proofs.Common.{refl, arith}
use Rattle.lin_rows.proofs.StoredRows.{IsStored-part}
use Rattle.lin_rows.proofs.Views.{IsStored-view, length-system_of, system_of-part}
use Rattle.lin_rows.proofs.rows_view.RowsView.part.Goals as goal

pub slice_bounds-result-end : goal.slice_bounds-result-end
slice_bounds-result-end c = let same = length-system_of c.args.self.now in omega arith

pub numbers_between-requires-clause-within : goal.numbers_between-requires-clause-within
numbers_between-requires-clause-within c = let same = length-system_of c.args.self.now in omega arith

pub invariant_of-result : goal.invariant_of-result
invariant_of-result c =
    let view = c.args.self.now in
    let same = length-system_of view in
    let stored = IsStored-part view.columns c.args.from c.args.to view.sides.now view.numbers.now _ c.requires.order (omega arith) c.numbers_between.ensures (IsStored-view view) in
    record { columns_fit = view.columns_fit; count = stored.count; size = stored.size; numbers_fit = stored.numbers_fit; bounds_fit = stored.bounds_fit }

pub returns : goal.returns
returns c = system_of-part c.args.self.now _ c.args.from c.args.to refl refl c.numbers_between.ensures
