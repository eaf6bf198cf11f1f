use Rattle.serial_run.specs.inside.Steps.{Reaches}
use Rattle.serial_run.proofs.Steps.{left_over}
use Rattle.serial_run.proofs.run.run_serial.Given as goal

abbrev pub invariant-loop : goal.invariant-loop
invariant-loop g l = Reaches l.initial.core l.core

abbrev pub decreases-loop : goal.decreases-loop
decreases-loop g l = left_over l.core
