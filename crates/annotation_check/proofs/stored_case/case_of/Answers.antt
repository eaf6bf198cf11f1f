use Rattle.std.proofs.Common.{length, ap, ◌∙◌, arith}
use Rattle.predicate_sets.specs.Sets.{set_at}
use Rattle.horn_rules.specs.Case.{in_front}
use Rattle.horn_rules.specs.Stored.{instance_of}
use Rattle.annotation_check.proofs.Cases.{listed-has-case, premises-there, first-has_home, second-has_home, leads-to, job-comes, stored-case}
use Rattle.annotation_check.proofs.Groups.{has-list}
use Rattle.annotation_check.proofs.stored_case.case_of.Goals as goal

pub premises-requires-clause-there : goal.premises-requires-clause-there
premises-requires-clause-there c =
    premises-there c.args.program.now c.args.annotation.now (instance_of c.args.instance)
    (listed-has-case c.args.program.now c.args.annotation.now (instance_of c.args.instance) c.requires.whole c.requires.instance)

pub target_home-home-requires-clause-first : goal.target_home-home-requires-clause-first
target_home-home-requires-clause-first c =
    first-has_home c.args.program.now c.args.annotation.now (instance_of c.args.instance) c.in_ok-first.first c.in_ok-first.second c.requires.whole c.in_ok-first.ensures

pub target_home-home-requires-clause-second : goal.target_home-home-requires-clause-second
target_home-home-requires-clause-second c =
    second-has_home c.args.program.now c.args.annotation.now (instance_of c.args.instance) c.in_ok-first.first c.in_ok-first.second c.requires.whole c.in_ok-first.ensures

pub target_home-home-requires-clause-leads : goal.target_home-home-requires-clause-leads
target_home-home-requires-clause-leads c =
    let (given, comes) = listed-has-case c.args.program.now c.args.annotation.now (instance_of c.args.instance) c.requires.whole c.requires.instance in (
      given.target,
      leads-to c.args.program.now c.args.annotation.now (instance_of c.args.instance) c.in_ok-first.first c.in_ok-first.second given c.threads.ensures.program c.requires.whole c.in_ok-first.ensures comes,
    )

pub at-requires : goal.at-requires
at-requires c =
    let (given, comes) = listed-has-case c.args.program.now c.args.annotation.now (instance_of c.args.instance) c.requires.whole c.requires.instance in
    let leads = leads-to c.args.program.now c.args.annotation.now (instance_of c.args.instance) c.in_ok-first.first c.in_ok-first.second given c.threads.ensures.program c.requires.whole c.in_ok-first.ensures comes in
    let list = has-list c.args.program.now c.args.annotation.now c.target_home-home.result.0 given.target c.requires.whole (c.target_home-home.ensures given.target leads) in
    (list.0, omega (arith, list.1, ap length c.sets.ensures))

pub instance_rows-requires : goal.instance_rows-requires
instance_rows-requires c =
    let (given, comes) = listed-has-case c.args.program.now c.args.annotation.now (instance_of c.args.instance) c.requires.whole c.requires.instance in
    let leads = leads-to c.args.program.now c.args.annotation.now (instance_of c.args.instance) c.in_ok-first.first c.in_ok-first.second given c.threads.ensures.program c.requires.whole c.in_ok-first.ensures comes in (
      given,
      job-comes c.args.program.now c.args.annotation.now _ given c.requires.whole c.in_ok-first.ensures comes (c.target_home-home.ensures given.target leads)
          (c.in_ok-target.ensures.set ∙ ap (λ sets. set_at sets c.target_home-home.result.0) c.sets.ensures),
    )

pub returns : goal.returns
returns c given comes =
    let leads = leads-to c.args.program.now c.args.annotation.now (instance_of c.args.instance) c.in_ok-first.first c.in_ok-first.second given c.threads.ensures.program c.requires.whole c.in_ok-first.ensures comes in
    let home = c.target_home-home.ensures given.target leads in
    let job = job-comes c.args.program.now c.args.annotation.now _ given c.requires.whole c.in_ok-first.ensures comes home
    (c.in_ok-target.ensures.set ∙ ap (λ sets. set_at sets c.target_home-home.result.0) c.sets.ensures) in
    stored-case c.args.program.now c.args.annotation.now (instance_of c.args.instance) given _ comes (c.in_ok-rows.ensures given job)
    (c.in_front-before.ensures ∙ ap (λ n. in_front n (instance_of c.args.instance)) c.columns.ensures.columns) home
