use Rattle.std.proofs.Common.{refl, arith}
use Rattle.lin_rows.proofs.Views.{length-system_of, row_at, row_over}
use Rattle.lin_rows.proofs.rows_view.RowsView.row.Goals as goal

pub bounds-self-n : goal.bounds-self-n
bounds-self-n c = let same = length-system_of c.args.self.now in omega arith

pub overflow_add-n : goal.overflow_add-n
overflow_add-n c = let same = length-system_of c.args.self.now in let few = c.args.self.now.count in omega arith

pub numbers_between-requires-clause-within : goal.numbers_between-requires-clause-within
numbers_between-requires-clause-within c = let same = length-system_of c.args.self.now in omega arith

pub returns-clause-row : goal.returns-clause-row
returns-clause-row c =
    let same = length-system_of c.args.self.now in
    row_at c.args.self.now c.args.n _ (record { equal = _; coefficients = c.numbers_between.result; bound = _ }) (omega arith) refl c.numbers_between.ensures refl

pub returns-clause-over : goal.returns-clause-over
returns-clause-over c =
    let same = length-system_of c.args.self.now in
    row_over c.args.self.now c.args.n _ (row_at c.args.self.now c.args.n _ (record { equal = _; coefficients = c.numbers_between.result; bound = _ }) (omega arith) refl c.numbers_between.ensures refl)
