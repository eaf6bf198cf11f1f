use Rattle.std.proofs.Common.{arith}
use Rattle.horn_rules.specs.Stored.{fact_of}
use Rattle.serial_fix.proofs.Looked.{known-at, known-lasts, looked-later, run-homes, pair-place, told-place}
use Rattle.serial_fix.proofs.Steps.{Extends-same}
use Rattle.serial_fix.proofs.Rounds.{Extends-trans, Extends-length, pairs-none, pairs-more, pairs-upto}
use Rattle.serial_fix.proofs.fixpoint.pairs.Goals as goal

pub loop-m-init : goal.loop-m-init
loop-m-init c = record {
  run = c.requires.run;
  on = Extends-same c.args.found.now.facts;
  done = pairs-none c.args.program.now c.args.sets.now (fact_of c.args.program.now c.args.known.fact) c.args.found.now.facts c.args.found.now.facts;
  looked = looked-later c.args.program.now c.args.sets.now c.args.found.now _ _ c.requires.looked (omega arith);
}

pub nth-other-requires-clause-homes : goal.nth-other-requires-clause-homes
nth-other-requires-clause-homes c = run-homes c.args.program.now c.args.sets.now c.loop-m.found c.loop-m.invariant.run

pub nth-other-requires-clause-there : goal.nth-other-requires-clause-there
nth-other-requires-clause-there c = omega (arith, Extends-length c.args.found.now.facts c.loop-m.found.facts c.loop-m.invariant.on, c.requires.few, c.loop-m-test.true)

pub both_ways-requires-clause-run : goal.both_ways-requires-clause-run
both_ways-requires-clause-run c = c.loop-m.invariant.run

pub both_ways-requires-clause-one : goal.both_ways-requires-clause-one
both_ways-requires-clause-one c = known-lasts c.loop-m.invariant.on c.requires.known

pub both_ways-requires-clause-other : goal.both_ways-requires-clause-other
both_ways-requires-clause-other c = known-at c.args.program.now c.loop-m.found.facts c.loop-m.m c.nth-other.result c.nth-other.ensures.at c.nth-other.ensures.id c.nth-other.ensures.home

pub both_ways-requires-clause-before : goal.both_ways-requires-clause-before
both_ways-requires-clause-before c = omega (arith, c.requires.id, c.nth-other.ensures.id, c.loop-m-test.true)

pub both_ways-requires-clause-looked : goal.both_ways-requires-clause-looked
both_ways-requires-clause-looked c =
    looked-later c.args.program.now c.args.sets.now c.loop-m.found _ _ c.loop-m.invariant.looked
    (pair-place c.args.n c.loop-m.m c.args.known.id.0 c.nth-other.result.id.0 c.requires.id c.nth-other.ensures.id c.loop-m-test.true)

pub loop-m-preserved : goal.loop-m-preserved
loop-m-preserved c =
    let done = rw c.in-Done.is at c.in_ok-step.ensures in
    record {
      run = done.0;
      on = Extends-trans c.args.found.now.facts c.loop-m.found.facts c.both_ways.new.found.facts c.loop-m.invariant.on done.1;
      done = pairs-more c.args.program.now c.args.sets.now (fact_of c.args.program.now c.args.known.fact) c.loop-m.m c.nth-other.result.fact c.args.found.now.facts c.loop-m.found.facts c.both_ways.new.found.facts
          c.loop-m.invariant.on done.1 (omega (arith, c.requires.few, c.loop-m-test.true)) c.nth-other.ensures.at c.loop-m.invariant.done done.2;
      looked = looked-later c.args.program.now c.args.sets.now c.both_ways.new.found _ _ done.3
          (told-place c.args.n c.loop-m.m c.args.known.id.0 c.nth-other.result.id.0 c.requires.id c.nth-other.ensures.id c.loop-m-test.true);
    }

pub returns : goal.returns
returns c = (
  c.loop-m.invariant.run,
  c.loop-m.invariant.on,
  pairs-upto c.args.program.now c.args.sets.now (fact_of c.args.program.now c.args.known.fact) c.args.n c.loop-m.m c.args.found.now.facts c.loop-m.found.facts c.loop-m-test.false c.loop-m.invariant.done,
  looked-later c.args.program.now c.args.sets.now c.loop-m.found _ _ c.loop-m.invariant.looked (omega arith),
)
