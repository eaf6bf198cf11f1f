use Rattle.std.proofs.Common.{Some, sym, ◌∙◌, arith}
use Rattle.thr_base.specs.declared.names.Instance.TheVariants.{Env}
use Rattle.horn_rules.specs.Stored.{home_of, fact_of}
use Rattle.serial_fix.specs.inside.Run.{InstanceIsSettled, PairIsSettled}
use Rattle.serial_fix.proofs.Steps.{Extends-same}
use Rattle.serial_fix.proofs.Looked.{known-there, looked-later}
use Rattle.serial_fix.proofs.Instances.{found-home, env-instance, pair-settled, pair-vacuous, same-test, if-step}
use Rattle.serial_fix.proofs.run.environment_step.Goals as goal

pub returns-then-not-tells_another : goal.returns-then-not-tells_another
returns-then-not-tells_another c = (
  c.requires.run,
  Extends-same c.args.found.now.facts,
  pair-vacuous c.args.program.now c.args.sets.now c.args.found.now.facts (fact_of c.args.program.now c.args.one.fact) (fact_of c.args.program.now c.args.told.fact)
      (sym (same-test c.args.program.now c.args.sets.now c.args.found.now c.args.one.fact c.args.told.fact (home_of c.args.one.home) (home_of c.args.told.home) c.tells_another.result
      c.requires.run (known-there c.requires.one) (known-there c.requires.told) c.requires.one.home_is c.requires.told.home_is c.tells_another.ensures) ∙ c.if-not-tells_another.true),
  looked-later c.args.program.now c.args.sets.now c.args.found.now _ _ c.requires.looked (omega arith),
)

pub as_premise-requires : goal.as_premise-requires
as_premise-requires c = found-home c.args.program.now c.args.sets.now c.args.found.now c.args.one.fact c.requires.run (known-there c.requires.one)

pub as_premise-requires-2 : goal.as_premise-requires-2
as_premise-requires-2 c = found-home c.args.program.now c.args.sets.now c.args.found.now c.args.told.fact c.requires.run (known-there c.requires.told)

pub add-requires-clause-instance : goal.add-requires-clause-instance
add-requires-clause-instance c =
    env-instance c.args.program.now c.args.sets.now c.args.found.now c.args.one.fact c.args.told.fact c.args.one.id c.args.told.id c.in_ok-first.first c.in_ok-second.second
    c.requires.run (known-there c.requires.one) (known-there c.requires.told) c.requires.one.at c.requires.told.at (record { id_is = c.in_ok-first.ensures.id; fact_is = c.in_ok-first.ensures.fact; set_is = c.in_ok-first.ensures.set }) (record { id_is = c.in_ok-second.ensures.id; fact_is = c.in_ok-second.ensures.fact; set_is = c.in_ok-second.ensures.set })
    (sym (same-test c.args.program.now c.args.sets.now c.args.found.now c.args.one.fact c.args.told.fact (home_of c.args.one.home) (home_of c.args.told.home) c.tells_another.result
    c.requires.run (known-there c.requires.one) (known-there c.requires.told) c.requires.one.home_is c.requires.told.home_is c.tells_another.ensures) ∙ c.if-not-tells_another.false)

pub returns : goal.returns
returns c =
    if-step c.args.program.now c.args.sets.now c.args.limits c.args.found.now c.add.new.found _
    (InstanceIsSettled c.args.program.now c.args.sets.now (Env c.args.one.id c.args.told.id) (Some c.in_ok-first.first) (Some c.in_ok-second.second) c.args.one.fact.home.0)
    (PairIsSettled c.args.program.now c.args.sets.now (fact_of c.args.program.now c.args.one.fact) (fact_of c.args.program.now c.args.told.fact)) c.add.result c.add.ensures
    (pair-settled c.args.program.now c.args.sets.now c.args.found.now c.add.new.found c.args.one.fact c.args.told.fact c.args.one.id c.args.told.id c.in_ok-first.first c.in_ok-second.second
    c.requires.run (known-there c.requires.one) (known-there c.requires.told) (record { id_is = c.in_ok-first.ensures.id; fact_is = c.in_ok-first.ensures.fact; set_is = c.in_ok-first.ensures.set }) (record { id_is = c.in_ok-second.ensures.id; fact_is = c.in_ok-second.ensures.fact; set_is = c.in_ok-second.ensures.set }))
