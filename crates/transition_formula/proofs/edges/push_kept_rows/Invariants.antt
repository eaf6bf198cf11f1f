use Rattle.std.proofs.Common.{◌≡◌, ◌+◌, ◌-◌, ◌≤◌, ◌++◌, length, map, filter}
use Rattle.std.specs.List.{range_with_len}
use Rattle.transition_formula.specs.Rows.{kept_row, is_kept}
use Rattle.transition_formula.specs.Stored.{edge_of}
use Rattle.transition_formula.proofs.edges.push_kept_rows.Given as goal

abbrev pub invariant-columns : goal.invariant-columns
invariant-columns l =
    let row = kept_row l.shape.columns l.shape.inputs in
    let kept = is_kept l.counter (edge_of l.edge) in
    record {
      made : l.rows.rows ++ map row (filter kept (range_with_len l.column (l.shape.columns - l.column))) ≡ l.initial.rows.rows ++ map row (filter kept (range_with_len 0 l.shape.columns));
      width : l.rows.columns ≡ l.initial.rows.columns;
      room : length l.rows.rows ≤ length l.initial.rows.rows + l.column;
    }
