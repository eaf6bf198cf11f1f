use Rattle.std.proofs.Common.{refl, arith}
use Rattle.horn_rules.specs.Stored.{fact_of}
use Rattle.serial_fix.proofs.Looked.{known-lasts, looked-later}
use Rattle.serial_fix.proofs.Steps.{Extends-same}
use Rattle.serial_fix.proofs.Rounds.{edges-few, edge-there, done-none, done-more, done-all, Extends-trans}
use Rattle.serial_fix.proofs.run.steps_from.Goals as goal

pub overflow_cast-edges : goal.overflow_cast-edges
overflow_cast-edges c = omega (arith, edges-few c.args.program.now c.args.at.0.0 c.edges.result.now c.requires.run.program_is c.requires.thread c.edges.ensures)

pub loop-e-init : goal.loop-e-init
loop-e-init c = record {
  run = c.requires.run;
  on = Extends-same c.args.found.now.facts;
  done = done-none c.args.program.now c.args.sets.now c.args.at.0.0 (fact_of c.args.program.now c.args.known.fact) c.args.found.now.facts;
  looked = looked-later c.args.program.now c.args.sets.now c.args.found.now _ _ c.requires.looked (omega arith);
}

pub edge_steps-requires-clause-run : goal.edge_steps-requires-clause-run
edge_steps-requires-clause-run c = c.loop-e.invariant.run

pub edge_steps-requires-clause-known : goal.edge_steps-requires-clause-known
edge_steps-requires-clause-known c = known-lasts c.loop-e.invariant.on c.requires.known

pub edge_steps-requires-clause-looked : goal.edge_steps-requires-clause-looked
edge_steps-requires-clause-looked c = looked-later c.args.program.now c.args.sets.now c.loop-e.found _ _ c.loop-e.invariant.looked (omega arith)

pub edge_steps-requires-clause-edge : goal.edge_steps-requires-clause-edge
edge_steps-requires-clause-edge c = edge-there c.args.program.now c.args.at.0.0 c.loop-e.e _ c.edges.result.now c.requires.thread c.edges.ensures refl c.loop-e-test.true

pub loop-e-preserved : goal.loop-e-preserved
loop-e-preserved c =
    let done = rw c.in-Done.is at c.in_ok-step.ensures in
    record {
      run = done.0;
      on = Extends-trans c.args.found.now.facts c.loop-e.found.facts c.edge_steps.new.found.facts c.loop-e.invariant.on done.1;
      done = done-more c.args.program.now c.args.sets.now c.args.at.0.0 (fact_of c.args.program.now c.args.known.fact) c.loop-e.e c.loop-e.found.facts c.edge_steps.new.found.facts done.1 c.loop-e.invariant.done done.2;
      looked = looked-later c.args.program.now c.args.sets.now c.edge_steps.new.found _ _ done.3 (omega arith);
    }

pub returns : goal.returns
returns c = (
  c.loop-e.invariant.run,
  c.loop-e.invariant.on,
  done-all c.args.program.now c.args.sets.now c.args.at.0.0 c.args.at.1.0 c.loop-e.e _ (fact_of c.args.program.now c.args.known.fact) c.edges.result.now c.loop-e.found.facts
      c.requires.at c.edges.ensures refl c.loop-e-test.false c.loop-e.invariant.done,
  looked-later c.args.program.now c.args.sets.now c.loop-e.found _ _ c.loop-e.invariant.looked
      (omega (arith, edges-few c.args.program.now c.args.at.0.0 c.edges.result.now c.requires.run.program_is c.requires.thread c.edges.ensures)),
)
