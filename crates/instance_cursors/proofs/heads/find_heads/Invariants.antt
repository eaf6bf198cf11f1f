use Rattle.instance_cursors.proofs.Follow.{AreFound}
use Rattle.instance_cursors.proofs.heads.find_heads.Given as goal

abbrev pub invariant-loop-place : goal.invariant-loop-place
invariant-loop-place l = AreFound l.layout l.early l.facts l.cursors l.heads l.place
