use Rattle.thr_base.proofs.Moves.{Appends-more}
use Rattle.thr_base.proofs.reading.write_all.Goals as goal

pub loop-written-preserved : goal.loop-written-preserved
loop-written-preserved g c =
    let more = Appends-more _ _ _ _ _ _ c.loop-written.invariant.within c.loop-written.invariant.appended c.in_ok-written.ensures.written in
    record { within = more.0; appended = more.2 }
