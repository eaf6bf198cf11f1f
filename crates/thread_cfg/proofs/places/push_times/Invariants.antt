use Rattle.std.proofs.Common.{◌≡◌, ◌++◌, replicate}
use Rattle.thread_cfg.proofs.places.push_times.Given as goal

abbrev pub invariant-times : goal.invariant-times
invariant-times l = l.places.items ≡ l.fn.places.items ++ replicate l._time l.fn.place
