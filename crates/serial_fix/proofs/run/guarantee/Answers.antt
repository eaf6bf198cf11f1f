use Rattle.std.proofs.Common.{Some, None}
use Rattle.thr_base.specs.declared.names.Instance.TheVariants.{Guar}
use Rattle.horn_rules.specs.Stored.{fact_of}
use Rattle.serial_fix.specs.inside.Run.{InstanceIsSettled, GuarIsSettled}
use Rattle.horn_rules.proofs.HomesThere.{edge-home}
use Rattle.serial_fix.proofs.Looked.{known-there}
use Rattle.serial_fix.proofs.Instances.{found-home, guar-instance, guar-settled, if-step}
use Rattle.serial_fix.proofs.run.guarantee.Goals as goal

pub number-home-requires : goal.number-home-requires
number-home-requires c = edge-home c.args.program.now c.args.i.0 c.args.e.0 c.requires.from.thread c.requires.from.edge c.requires.from.edge_is

pub as_premise-requires : goal.as_premise-requires
as_premise-requires c = found-home c.args.program.now c.args.sets.now c.args.found.now c.args.known.fact c.requires.run (known-there c.requires.known)

pub add-requires-clause-instance : goal.add-requires-clause-instance
add-requires-clause-instance c =
    guar-instance c.args.program.now c.args.sets.now c.args.found.now c.args.known.fact c.args.known.id c.args.i.0 c.args.e c.in_ok-first.first c.number-home.result.0
    c.requires.run (known-there c.requires.known) c.requires.known.at (record { id_is = c.in_ok-first.ensures.id; fact_is = c.in_ok-first.ensures.fact; set_is = c.in_ok-first.ensures.set }) c.requires.from c.number-home.ensures

pub returns : goal.returns
returns c =
    if-step c.args.program.now c.args.sets.now c.args.limits c.args.found.now c.add.new.found _
    (InstanceIsSettled c.args.program.now c.args.sets.now (Guar c.args.known.id c.args.e) (Some c.in_ok-first.first) None c.number-home.result.0)
    (GuarIsSettled c.args.program.now c.args.sets.now c.args.i.0 c.args.e.0 (fact_of c.args.program.now c.args.known.fact)) c.add.result c.add.ensures
    (guar-settled c.args.program.now c.args.sets.now c.args.found.now c.add.new.found c.args.known.fact c.args.known.id c.args.i.0 c.args.e c.in_ok-first.first c.number-home.result.0
    c.requires.run (known-there c.requires.known) (record { id_is = c.in_ok-first.ensures.id; fact_is = c.in_ok-first.ensures.fact; set_is = c.in_ok-first.ensures.set }) c.number-home.ensures)
