use Rattle.std.proofs.Common.{length, ap, ◌∙◌}
use Rattle.transition_formula.specs.Rows.{kept_row, is_kept}
use Rattle.transition_formula.specs.Stored.{edge_of}
use Rattle.transition_formula.proofs.Pieces.{kept-next, kept-room}
use Rattle.transition_formula.proofs.edges.push_kept_rows.Goals as goal

pub columns-preserved : goal.columns-preserved
columns-preserved c =
    let row = kept_row c.args.shape.columns c.args.shape.inputs in
    let kept = is_kept c.args.counter (edge_of c.args.edge.now) in
    let more = ap (λ system. system.rows) c.in_ok-push_if_kept.ensures in
    record {
      made = kept-next row kept _ _ _ c.columns.column c.args.shape.columns c.columns-test.true more c.columns.invariant.made;
      width = ap (λ system. system.columns) c.in_ok-push_if_kept.ensures ∙ c.columns.invariant.width;
      room = kept-room row kept _ _ c.columns.column (length c.args.rows.now.rows) more c.columns.invariant.room;
    }
