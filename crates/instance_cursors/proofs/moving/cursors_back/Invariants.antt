use Rattle.std.proofs.Common.{◌≡◌, ◌++◌, take, drop, map}
use Rattle.instance_cursors.specs.Cursors.{cursor_back}
use Rattle.instance_cursors.proofs.moving.cursors_back.Given as goal

abbrev pub invariant-loop-cursor : goal.invariant-loop-cursor
invariant-loop-cursor l = l.cursors ≡ map (cursor_back l.layout l.homes) (take l.cursor-index l.fn.cursors) ++ drop l.cursor-index l.fn.cursors
