use Rattle.serial_fix.specs.inside.Run.{InstanceIsSettled, StartIsSettled}
use Rattle.thr_base.specs.declared.names.Instance.TheVariants.{Init}
use Rattle.std.proofs.Common.{None}
use Rattle.serial_fix.proofs.Instances.{start-home, start-instance, start-settled, if-step}
use Rattle.serial_fix.proofs.run.start.Goals as goal

pub number-home-requires : goal.number-home-requires
number-home-requires c = start-home c.args.program.now c.args.i.0 c.requires.run.program_is c.requires.thread

pub add-requires-clause-instance : goal.add-requires-clause-instance
add-requires-clause-instance c = start-instance c.args.program.now c.args.sets.now c.args.found.now.facts c.args.i c.number-home.result.0 c.requires.thread c.number-home.ensures

pub returns : goal.returns
returns c =
    if-step c.args.program.now c.args.sets.now c.args.limits c.args.found.now c.add.new.found _
    (InstanceIsSettled c.args.program.now c.args.sets.now (Init c.args.i) None None c.number-home.result.0) (StartIsSettled c.args.program.now c.args.sets.now c.args.i.0) c.add.result c.add.ensures
    (start-settled c.args.program.now c.args.sets.now c.add.new.found.facts c.args.i c.number-home.result.0 c.requires.thread c.number-home.ensures)
