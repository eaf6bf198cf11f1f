use Rattle.std.proofs.Common.{length, ◌++◌, [], ap, ◌∙◌}
use Rattle.transition_formula.specs.Rows.{start_row}
use Rattle.transition_formula.specs.Stored.{column_of}
use Rattle.transition_formula.proofs.Pieces.{start-next, start-room}
use Rattle.transition_formula.proofs.initial.init_rows.Goals as goal

pub columns-preserved : goal.columns-preserved
columns-preserved c =
    let columns = c.args.program.now.columns in
    let column = column_of c.column.result.now in
    let more =
    ap (λ system. system.rows) c.in_ok-push_start.ensures
    ∙ ap (λ n. c.columns.rows.rows ++ start_row n c.columns.column column.start []) c.columns.invariant.width in
    record {
      made = start-next (length columns) columns c.columns.column column _ _ _ c.column.ensures more c.columns.invariant.made;
      width = ap (λ system. system.columns) c.in_ok-push_start.ensures ∙ c.columns.invariant.width;
      room = start-room (length columns) c.columns.column column.start _ _ more c.columns.invariant.room;
    }
