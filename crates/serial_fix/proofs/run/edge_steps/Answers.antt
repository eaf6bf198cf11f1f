use Rattle.std.proofs.Common.{arith}
use Rattle.horn_rules.specs.Stored.{fact_of}
use Rattle.serial_fix.specs.inside.Run.{OwnIsSettled, GuarIsSettled, EdgeIsSettled}
use Rattle.serial_fix.proofs.Looked.{known-lasts, looked-later}
use Rattle.serial_fix.proofs.Steps.{Extends-same}
use Rattle.serial_fix.proofs.Rounds.{edge-elsewhere, from-here, if-both, own-lasts}
use Rattle.serial_fix.proofs.run.edge_steps.Goals as goal

pub returns-then-ne : goal.returns-then-ne
returns-then-ne c = (
  c.requires.run,
  Extends-same c.args.found.now.facts,
  edge-elsewhere c.args.program.now c.args.sets.now c.args.found.now.facts c.args.at.0.0 c.args.at.1.0 c.args.e.0 (fact_of c.args.program.now c.args.known.fact) c.edge_at.result.now c.ne.result
      c.requires.at c.edge_at.ensures c.if-ne.true c.ne.ensures,
  looked-later c.args.program.now c.args.sets.now c.args.found.now _ _ c.requires.looked (omega arith),
)

pub own_step-requires-clause-from : goal.own_step-requires-clause-from
own_step-requires-clause-from c =
    from-here c.args.program.now c.args.at.0.0 c.args.at.1.0 c.args.e.0 (fact_of c.args.program.now c.args.known.fact) c.edge_at.result.now c.ne.result
    c.requires.edge c.requires.at c.edge_at.ensures c.if-ne.false c.ne.ensures

pub guarantee-requires-clause-from : goal.guarantee-requires-clause-from
guarantee-requires-clause-from c =
    from-here c.args.program.now c.args.at.0.0 c.args.at.1.0 c.args.e.0 (fact_of c.args.program.now c.args.known.fact) c.edge_at.result.now c.ne.result
    c.requires.edge c.requires.at c.edge_at.ensures c.if-ne.false c.ne.ensures

pub guarantee-requires-clause-known : goal.guarantee-requires-clause-known
guarantee-requires-clause-known c = let done = rw c.in-Done.is at c.in_ok-own.ensures in known-lasts done.1 c.requires.known

pub guarantee-requires-clause-looked : goal.guarantee-requires-clause-looked
guarantee-requires-clause-looked c =
    let done = rw c.in-Done.is at c.in_ok-own.ensures in
    looked-later c.args.program.now c.args.sets.now c.own_step.new.found _ _ done.3 (omega arith)

pub returns-in-Done : goal.returns-in-Done
returns-in-Done c =
    let f = fact_of c.args.program.now c.args.known.fact in
    let done = rw c.in-Done.is at c.in_ok-own.ensures in
    if-both c.args.program.now c.args.sets.now c.args.limits c.args.found.now c.own_step.new.found c.guarantee.new.found _ _
    (OwnIsSettled c.args.program.now c.args.sets.now c.args.at.0.0 c.args.e.0 f) (GuarIsSettled c.args.program.now c.args.sets.now c.args.at.0.0 c.args.e.0 f)
    (EdgeIsSettled c.args.program.now c.args.sets.now c.args.at.0.0 c.args.e.0 f) c.guarantee.result done c.guarantee.ensures
    (λ on one two. (own-lasts c.args.program.now c.args.sets.now c.args.at.0.0 c.args.e.0 f c.own_step.new.found.facts c.guarantee.new.found.facts on one, two))
