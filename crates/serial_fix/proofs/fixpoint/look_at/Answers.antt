use Rattle.std.proofs.Common.{arith}
use Rattle.horn_rules.specs.Stored.{fact_of}
use Rattle.serial_fix.specs.inside.Run.{OwnAreSettled, PairsAreSettled, IsLookedAt}
use Rattle.serial_fix.proofs.Looked.{known-at, known-lasts, looked-later, run-homes}
use Rattle.serial_fix.proofs.Rounds.{if-both, looked-at, Extends-length}
use Rattle.serial_fix.proofs.fixpoint.look_at.Goals as goal

pub nth-known-requires-clause-homes : goal.nth-known-requires-clause-homes
nth-known-requires-clause-homes c = run-homes c.args.program.now c.args.sets.now c.args.found.now c.requires.run

pub own_steps-requires-clause-known : goal.own_steps-requires-clause-known
own_steps-requires-clause-known c = known-at c.args.program.now c.args.found.now.facts c.args.n c.nth-known.result c.nth-known.ensures.at c.nth-known.ensures.id c.nth-known.ensures.home

pub own_steps-requires-clause-looked : goal.own_steps-requires-clause-looked
own_steps-requires-clause-looked c = looked-later c.args.program.now c.args.sets.now c.args.found.now _ _ c.requires.looked (omega (arith, c.nth-known.ensures.id))

pub pairs-requires-clause-run : goal.pairs-requires-clause-run
pairs-requires-clause-run c = let done = rw c.in-Done.is at c.in_ok-own.ensures in done.0

pub pairs-requires-clause-known : goal.pairs-requires-clause-known
pairs-requires-clause-known c =
    let done = rw c.in-Done.is at c.in_ok-own.ensures in
    known-lasts done.1 (known-at c.args.program.now c.args.found.now.facts c.args.n c.nth-known.result c.nth-known.ensures.at c.nth-known.ensures.id c.nth-known.ensures.home)

pub pairs-requires-clause-few : goal.pairs-requires-clause-few
pairs-requires-clause-few c =
    let done = rw c.in-Done.is at c.in_ok-own.ensures in
    omega (arith, Extends-length c.args.found.now.facts c.own_steps.new.found.facts done.1, c.requires.there)

pub pairs-requires-clause-looked : goal.pairs-requires-clause-looked
pairs-requires-clause-looked c =
    let done = rw c.in-Done.is at c.in_ok-own.ensures in
    looked-later c.args.program.now c.args.sets.now c.own_steps.new.found _ _ done.3 (omega (arith, c.nth-known.ensures.id))

pub returns-in-Done : goal.returns-in-Done
returns-in-Done c =
    let f = fact_of c.args.program.now c.nth-known.result.fact in
    let done = rw c.in-Done.is at c.in_ok-own.ensures in
    if-both c.args.program.now c.args.sets.now c.args.limits c.args.found.now c.own_steps.new.found c.pairs.new.found _ _
    (OwnAreSettled c.args.program.now c.args.sets.now f) (PairsAreSettled c.args.program.now c.args.sets.now f c.args.n c.own_steps.new.found.facts)
    (IsLookedAt c.args.program.now c.args.sets.now c.args.n c.args.found.now.facts) c.pairs.result done c.pairs.ensures
    (λ on one two. looked-at c.args.program.now c.args.sets.now c.args.n c.nth-known.result.fact c.args.found.now.facts c.own_steps.new.found.facts c.pairs.new.found.facts c.nth-known.ensures.at done.1 on one two)
