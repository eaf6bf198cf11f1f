use Rattle.std.proofs.Common.{◌<◌, ◌+◌, length, arith}
use Rattle.std.proofs.lemmas.List.{get_or_default}
use Rattle.std.proofs.lemmas.List.Edits.{map_over_more}
use Rattle.fact_table.proofs.home_ids.raise_all.Goals as goal

pub loop-end-preserved : goal.loop-end-preserved
loop-end-preserved c =
    let within : c.loop-end.end-index < length c.loop-end.ends = omega arith in
    map_over_more (λ end. end + 1) c.args.ends.now c.loop-end.ends c.loop-end.end-index _ (omega arith) c.loop-end.invariant
    (get_or_default c.loop-end.ends c.loop-end.end-index 0 _ within)
