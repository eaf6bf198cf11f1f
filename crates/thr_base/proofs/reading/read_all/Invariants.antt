use Rattle.std.proofs.Common.{◌≤◌, ◌-◌, ◌+◌, vec_len}
use Rattle.thr_base.proofs.Moves.{IsReading}
use Rattle.thr_base.proofs.reading.read_all.Given as goal

abbrev pub invariant-loop-n : goal.invariant-loop-n
invariant-loop-n g l = record {
  within : vec_len l.bytes ≤ l.limit;
  reading : IsReading (g.S.Store.meaning l.fn.store) l.name l.bytes.items (g.S.Store.meaning l.store);
}

abbrev pub decreases-loop-n : goal.decreases-loop-n
decreases-loop-n g l = l.limit + 1 - vec_len l.bytes
