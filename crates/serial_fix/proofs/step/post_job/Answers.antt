use Rattle.std.proofs.Common.{◌≡◌, ◌^◌, ◌<◌, [], rules, refl, sym, subst, ◌∙◌, arith}
use Rattle.std.specs.Option.{ForSome}
use Rattle.predicate_sets.specs.Sets.{set_at}
use Rattle.horn_rules.specs.Home.{homes}
use Rattle.horn_rules.specs.Job.{IsOutcome}
use Rattle.serial_fix.proofs.Jobs.{job-comes, outcome-is, left-is}
use Rattle.serial_fix.proofs.Steps.{skipped, if-added, leaves, Extends-same, numbered-within, length-zero}
use Rattle.serial_fix.proofs.step.post_job.Goals as goal

pub returns-then-stands_at : goal.returns-then-stands_at
returns-then-stands_at c =
    let none : set_at c.args.sets.now c.args.home.0 ≡ [] =
    sym c.in_ok-target.ensures.set ∙ sym c.deref.ensures ∙ sym c.atoms.ensures.atoms ∙ length-zero c.atoms.result.now c.is_empty.result c.if-is_empty.true c.is_empty.ensures in (
      c.requires.run,
      Extends-same c.args.found.now.facts,
      λ premises given of at. skipped c.args.program.now c.args.sets.now c.args.found.now c.args.home given c.requires.run at none (c.stands_at.ensures.0 c.if-stands_at.true),
      refl,
    )

pub post-requires-clause-fits : goal.post-requires-clause-fits
post-requires-clause-fits c =
    let is = c.requires.instance in
    (is.given, job-comes c.args.program.now c.args.sets.now _ is.premises is.given c.requires.run.lists_are c.in_ok-target.ensures.set is.first_is is.second_is is.is_case is.home_is)

pub insert-requires-clause-to_last : goal.insert-requires-clause-to_last
insert-requires-clause-to_last c = omega (arith, c.requires.run.homes_are, numbered-within (homes c.args.program.now) c.args.home.0 c.requires.instance.given.target c.requires.instance.home_is)

pub returns-in-Posted : goal.returns-in-Posted
returns-in-Posted c =
    let is = c.requires.instance in
    let says = rw c.in-Posted.is at c.in_ok-answer.ensures in
    let small : ForSome c.held.result (λ h. h < 2 ^ 128) = search (rules, c.held.type_inv) in
    if-added c.args.program.now c.args.sets.now c.args.limits c.args.found.now c.insert.new.found c.args.instance c.args.premises.0 c.args.premises.1 c.args.home c.held.result c.insert.result
    c.requires.run is small
    (outcome-is c.args.program.now c.args.sets.now _ c.held.result c.requires.run.lists_are c.in_ok-target.ensures.set is.first_is is.second_is
    (subst (IsOutcome c.args.program.now _) (sym c.held.ensures.held) says.1)) c.insert.ensures

pub returns : goal.returns
returns c =
    let is = c.requires.instance in
    let says = rw c.in-Left.is at c.in_ok-answer.ensures in
    leaves c.args.program.now c.args.sets.now c.args.found.now c.args.instance c.args.premises.0 c.args.premises.1 c.args.home.0 c.in_ok-target.target.value c.in-Left.field-1
    c.requires.run is c.in_ok-target.ensures.set
    (left-is c.args.program.now _ is.given c.in-Left.field-1 says.1
    (job-comes c.args.program.now c.args.sets.now _ is.premises is.given c.requires.run.lists_are c.in_ok-target.ensures.set is.first_is is.second_is is.is_case is.home_is))
