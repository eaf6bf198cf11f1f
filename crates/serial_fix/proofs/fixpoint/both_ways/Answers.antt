use Rattle.serial_fix.proofs.Looked.{known-lasts, looked-later, both-places}
use Rattle.horn_rules.specs.Stored.{fact_of}
use Rattle.serial_fix.specs.inside.Run.{PairIsSettled, BothAreSettled}
use Rattle.serial_fix.proofs.Rounds.{if-both, pair-lasts}
use Rattle.serial_fix.proofs.fixpoint.both_ways.Goals as goal

pub environment_step-requires-in-Done-clause-one : goal.environment_step-requires-in-Done-clause-one
environment_step-requires-in-Done-clause-one c = let done = rw c.in-Done.is at c.in_ok-step.ensures in known-lasts done.1 c.requires.other

pub environment_step-requires-in-Done-clause-told : goal.environment_step-requires-in-Done-clause-told
environment_step-requires-in-Done-clause-told c = let done = rw c.in-Done.is at c.in_ok-step.ensures in known-lasts done.1 c.requires.one

pub environment_step-requires-in-Done-clause-looked : goal.environment_step-requires-in-Done-clause-looked
environment_step-requires-in-Done-clause-looked c =
    let done = rw c.in-Done.is at c.in_ok-step.ensures in
    looked-later c.args.program.now c.args.sets.now c.environment_step.new.found _ _ done.3 (both-places c.args.other.id.0 c.args.one.id.0 c.requires.before)

pub returns-in-Done : goal.returns-in-Done
returns-in-Done c =
    let f = fact_of c.args.program.now c.args.one.fact in
    let g = fact_of c.args.program.now c.args.other.fact in
    let done = rw c.in-Done.is at c.in_ok-step.ensures in
    if-both c.args.program.now c.args.sets.now c.args.limits c.args.found.now c.environment_step.new.found c.environment_step-in-Done.new.found _ _
    (PairIsSettled c.args.program.now c.args.sets.now f g) (PairIsSettled c.args.program.now c.args.sets.now g f)
    (BothAreSettled c.args.program.now c.args.sets.now f g) c.environment_step-in-Done.result done c.environment_step-in-Done.ensures
    (λ on one two. (pair-lasts c.args.program.now c.args.sets.now f g c.environment_step.new.found.facts c.environment_step-in-Done.new.found.facts on one, two))
