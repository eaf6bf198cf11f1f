use Rattle.std.proofs.Common.{◌<◌, length, ap, arith}
use Rattle.serial_fix.proofs.Looked.{looked-later}
use Rattle.serial_fix.proofs.Steps.{Extends-same}
use Rattle.serial_fix.proofs.Rounds.{Extends-trans, Extends-length, all-none, all-more, all-done}
use Rattle.serial_fix.proofs.fixpoint.rounds.Goals as goal

pub loop-next-init : goal.loop-next-init
loop-next-init c = record {
  run = c.requires.run;
  on = Extends-same c.args.found.now.facts;
  within = omega arith;
  done = all-none c.args.program.now c.args.sets.now c.args.found.now.facts c.requires.starts;
  looked = c.requires.looked;
}

pub look_at-requires-clause-run : goal.look_at-requires-clause-run
look_at-requires-clause-run c = c.loop-next.invariant.run

pub look_at-requires-clause-there : goal.look_at-requires-clause-there
look_at-requires-clause-there c = omega (arith, c.loop-next-test.true, ap length c.facts.ensures.facts)

pub loop-next-preserved : goal.loop-next-preserved
loop-next-preserved c =
    let done = rw c.in-Done.is at c.in_ok-step.ensures in
    let below : c.loop-next.next < length c.loop-next.found.facts = omega (arith, c.loop-next-test.true, ap length c.facts.ensures.facts) in
    record {
      run = done.0;
      on = Extends-trans c.args.found.now.facts c.loop-next.found.facts c.look_at.new.found.facts c.loop-next.invariant.on done.1;
      within = omega (arith, Extends-length c.loop-next.found.facts c.look_at.new.found.facts done.1);
      done = all-more c.args.program.now c.args.sets.now c.loop-next.next c.loop-next.found.facts c.look_at.new.found.facts below done.1 c.loop-next.invariant.done done.2;
      looked = looked-later c.args.program.now c.args.sets.now c.look_at.new.found _ _ done.3 (omega arith);
    }

pub returns : goal.returns
returns c = (
  c.loop-next.invariant.run,
  c.loop-next.invariant.on,
  all-done c.args.program.now c.args.sets.now c.loop-next.next c.loop-next.found.facts c.loop-next.invariant.within (omega (arith, c.loop-next-test.false, ap length c.facts.ensures.facts)) c.loop-next.invariant.done,
  looked-later c.args.program.now c.args.sets.now c.loop-next.found _ _ c.loop-next.invariant.looked (omega (arith, c.loop-next.invariant.within)),
)
