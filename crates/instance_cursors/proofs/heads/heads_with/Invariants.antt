use Rattle.instance_cursors.proofs.Follow.{AreLooked}
use Rattle.instance_cursors.proofs.heads.heads_with.Given as goal

abbrev pub invariant-loop-place : goal.invariant-loop-place
invariant-loop-place l = AreLooked l.layout l.early l.facts l.fact l.cursors l.fn.heads l.heads l.place
