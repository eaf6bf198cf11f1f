use Rattle.std.proofs.Common.{arith}
use Rattle.horn_rules.specs.Home.{State, Env}
use Rattle.horn_rules.specs.Stored.{fact_of}
use Rattle.serial_fix.proofs.Looked.{known-there, at-home, looked-later}
use Rattle.serial_fix.proofs.Steps.{Extends-same}
use Rattle.serial_fix.proofs.Rounds.{own-vacuous, thread-there, home-is}
use Rattle.serial_fix.proofs.run.own_steps.Goals as goal

pub steps_from-requires-clause-at : goal.steps_from-requires-clause-at
steps_from-requires-clause-at c =
    home-is c.args.program.now c.args.sets.now c.args.found.now c.args.known.fact (State c.in-State.i.0 c.in-State.l.0) c.requires.run (known-there c.requires.known) (at-home c.requires.known c.in-State.is)

pub steps_from-requires-clause-thread : goal.steps_from-requires-clause-thread
steps_from-requires-clause-thread c =
    thread-there c.args.program.now c.args.sets.now c.args.found.now c.args.known.fact c.in-State.i.0 c.in-State.l.0 c.requires.run (known-there c.requires.known) (at-home c.requires.known c.in-State.is)

pub returns-in-Env : goal.returns-in-Env
returns-in-Env c = (
  c.requires.run,
  Extends-same c.args.found.now.facts,
  own-vacuous c.args.program.now c.args.sets.now c.args.found.now.facts (fact_of c.args.program.now c.args.known.fact) c.in-Env.field-0.0 c.in-Env.field-1.0
      (home-is c.args.program.now c.args.sets.now c.args.found.now c.args.known.fact (Env c.in-Env.field-0.0 c.in-Env.field-1.0) c.requires.run (known-there c.requires.known) (at-home c.requires.known c.in-Env.is)),
  looked-later c.args.program.now c.args.sets.now c.args.found.now _ _ c.requires.looked (omega arith),
)
