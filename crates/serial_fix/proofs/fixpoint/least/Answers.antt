use Rattle.std.proofs.Common.{subst, sym, length, arith}
use Rattle.serial_fix.specs.Least.{AreLeast}
use Rattle.serial_fix.proofs.AtEnd.{are-least}
use Rattle.serial_fix.proofs.fixpoint.least.Goals as goal

pub returns-in-Stopped : goal.returns-in-Stopped
returns-in-Stopped c = c.early.ensures c.args.program.now c.args.sets.now c.args.limits (rw c.in-Stopped.is at c.in_ok-started.ensures)

pub returns-in-Stopped-finished : goal.returns-in-Stopped-finished
returns-in-Stopped-finished c = c.early-in-Stopped-finished.ensures c.args.program.now c.args.sets.now c.args.limits (rw c.in-Stopped-finished.is at c.in_ok-finished.ensures)

pub returns-in-Done-finished : goal.returns-in-Done-finished
returns-in-Done-finished c =
    let done = rw c.in-Done-finished.is at c.in_ok-finished.ensures in
    subst (AreLeast c.args.program.now c.args.sets.now) (sym c.into_facts.ensures)
    (are-least c.args.program.now c.args.sets.now c.rounds.new.found (length c.rounds.new.found.facts) done.0 (omega arith) done.2)
