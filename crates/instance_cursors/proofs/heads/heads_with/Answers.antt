use Rattle.instance_cursors.proofs.Follow.{AreLooked-more}
use Rattle.instance_cursors.proofs.heads.heads_with.Goals as goal

pub loop-place-preserved : goal.loop-place-preserved
loop-place-preserved c =
    AreLooked-more c.args.layout.now c.args.early.now c.args.facts.now c.args.fact c.args.cursors.now c.args.heads.now c.loop-place.heads c.loop-place.place c.head_with.result _ _
    c.loop-place.invariant c.loop-place-test.true c.head_with.ensures
