use Rattle.std.proofs.Common.{length, ◌-◌, ◌≤◌, take}
use Rattle.thr_base.specs.Outside.{Appends}
use Rattle.thr_base.proofs.reading.write_all.Given as goal

abbrev pub invariant-loop-written : goal.invariant-loop-written
invariant-loop-written g l = record {
  within : l.written ≤ length l.bytes;
  appended : Appends (g.K.Sink.meaning l.fn.sink) (take l.written l.bytes) (g.K.Sink.meaning l.sink);
}

abbrev pub decreases-loop-written : goal.decreases-loop-written
decreases-loop-written g l = length l.bytes - l.written
