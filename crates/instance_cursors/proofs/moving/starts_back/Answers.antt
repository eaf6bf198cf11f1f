use Rattle.std.proofs.Common.{◌<◌, ◌∙◌, length, set, ap, arith}
use Rattle.std.proofs.lemmas.List.{get_or_default}
use Rattle.std.proofs.lemmas.List.Edits.{map_over_more}
use Rattle.instance_cursors.specs.declared.start.Start.{Start}
use Rattle.instance_cursors.specs.Cursors.{start_back}
use Rattle.instance_cursors.proofs.moving.starts_back.Goals as goal

pub loop-start-preserved : goal.loop-start-preserved
loop-start-preserved c =
    let within : c.loop-start.start-index < length c.loop-start.starts = omega arith in
    ap (λ (v : Start). set c.loop-start.starts c.loop-start.start-index v) c.start_back.ensures
    ∙ map_over_more (start_back c.args.homes.now) c.args.starts.now c.loop-start.starts c.loop-start.start-index _ (omega arith) c.loop-start.invariant
    (get_or_default c.loop-start.starts c.loop-start.start-index _ _ within)
