use Rattle.instance_cursors.proofs.Best.{IsBest}
use Rattle.instance_cursors.proofs.choosing.best_head.Given as goal

abbrev pub invariant-loop-place : goal.invariant-loop-place
invariant-loop-place l = IsBest l.layout l.only l.cursors l.heads l.place l.best
