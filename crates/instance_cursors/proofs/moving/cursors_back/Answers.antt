use Rattle.std.proofs.Common.{◌<◌, ◌∙◌, length, set, ap, arith}
use Rattle.std.proofs.lemmas.List.{get_or_default}
use Rattle.std.proofs.lemmas.List.Edits.{map_over_more}
use Rattle.instance_cursors.specs.declared.turns.Cursor.{Cursor}
use Rattle.instance_cursors.specs.Cursors.{cursor_back}
use Rattle.instance_cursors.proofs.moving.cursors_back.Goals as goal

pub loop-cursor-preserved : goal.loop-cursor-preserved
loop-cursor-preserved c =
    let within : c.loop-cursor.cursor-index < length c.loop-cursor.cursors = omega arith in
    ap (λ (v : Cursor). set c.loop-cursor.cursors c.loop-cursor.cursor-index v) c.cursor_back.ensures
    ∙ map_over_more (cursor_back c.args.layout.now c.args.homes.now) c.args.cursors.now c.loop-cursor.cursors c.loop-cursor.cursor-index _ (omega arith) c.loop-cursor.invariant
    (get_or_default c.loop-cursor.cursors c.loop-cursor.cursor-index _ _ within)
