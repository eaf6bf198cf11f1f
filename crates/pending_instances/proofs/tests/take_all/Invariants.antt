use Rattle.pending_instances.specs.inside.Together.{AreTogether}
use Rattle.pending_instances.proofs.tests.take_all.Given as goal

abbrev pub invariant-loop-instance : goal.invariant-loop-instance
invariant-loop-instance l = AreTogether l.program l.table l.waiting
