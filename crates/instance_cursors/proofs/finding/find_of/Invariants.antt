use Rattle.instance_cursors.proofs.Sought.{IsSought}
use Rattle.instance_cursors.proofs.finding.find_of.Given as goal

abbrev pub invariant-loop-place : goal.invariant-loop-place
invariant-loop-place l = IsSought l.layout l.facts l.cursors l.instance l.fact l.place
