use Rattle.std.proofs.Common.{◌≡◌, ◌≤◌, ◌++◌, drop, length}
use Rattle.transition_formula.specs.Rows.{start_rows, init_rows}
use Rattle.transition_formula.proofs.initial.init_rows.Given as goal

abbrev pub invariant-columns : goal.invariant-columns
invariant-columns l =
    let n = length l.program.columns in
    record {
      made : l.rows.rows ++ start_rows n l.column (drop l.column l.program.columns) ≡ init_rows l.program;
      width : l.rows.columns ≡ n;
      room : length l.rows.rows ≤ l.column;
    }
