use Rattle.std.proofs.Common.{arith}
use Rattle.serial_fix.proofs.Looked.{looked-later}
use Rattle.serial_fix.proofs.Steps.{Extends-same}
use Rattle.serial_fix.proofs.Rounds.{Extends-trans, starts-none, starts-more, starts-all, thread-here}
use Rattle.serial_fix.proofs.fixpoint.starts.Goals as goal

pub loop-i-init : goal.loop-i-init
loop-i-init c = record {
  run = c.requires.run;
  on = Extends-same c.args.found.now.facts;
  done = starts-none c.args.program.now c.args.sets.now c.args.found.now.facts;
  looked = c.requires.looked;
}

pub start-requires-clause-run : goal.start-requires-clause-run
start-requires-clause-run c = c.loop-i.invariant.run

pub start-requires-clause-thread : goal.start-requires-clause-thread
start-requires-clause-thread c = thread-here c.args.program.now c.loop-i.i c.args.threads c.requires.threads c.loop-i-test.true

pub loop-i-preserved : goal.loop-i-preserved
loop-i-preserved c =
    let done = rw c.in-Done.is at c.in_ok-step.ensures in
    record {
      run = done.0;
      on = Extends-trans c.args.found.now.facts c.loop-i.found.facts c.start.new.found.facts c.loop-i.invariant.on done.1;
      done = starts-more c.args.program.now c.args.sets.now c.loop-i.i c.loop-i.found.facts c.start.new.found.facts done.1 c.loop-i.invariant.done done.2;
      looked = looked-later c.args.program.now c.args.sets.now c.start.new.found _ _ done.3 (omega arith);
    }

pub returns : goal.returns
returns c = (
  c.loop-i.invariant.run,
  c.loop-i.invariant.on,
  starts-all c.args.program.now c.args.sets.now c.loop-i.i c.args.threads c.loop-i.found.facts c.requires.threads c.loop-i-test.false c.loop-i.invariant.done,
  looked-later c.args.program.now c.args.sets.now c.loop-i.found _ _ c.loop-i.invariant.looked (omega arith),
)
