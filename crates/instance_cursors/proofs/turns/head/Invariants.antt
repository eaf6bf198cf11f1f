use Rattle.instance_cursors.proofs.HeadSearch.{PassedBelow}
use Rattle.instance_cursors.proofs.turns.head.Given as goal

abbrev pub invariant-loop-place : goal.invariant-loop-place
invariant-loop-place l = PassedBelow l.layout l.early l.cursor l.facts l.place
