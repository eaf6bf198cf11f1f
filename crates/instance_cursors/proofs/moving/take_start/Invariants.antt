use Rattle.std.proofs.Common.{◌≡◌, ◌++◌, take, drop, map}
use Rattle.instance_cursors.specs.Cursors.{start_taken}
use Rattle.instance_cursors.proofs.moving.take_start.Given as goal

abbrev pub invariant-loop-start : goal.invariant-loop-start
invariant-loop-start l = l.starts ≡ map (start_taken l.thread) (take l.start-index l.fn.starts) ++ drop l.start-index l.fn.starts
