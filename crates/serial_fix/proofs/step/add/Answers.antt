use Rattle.std.proofs.Common.{arith}
use Rattle.serial_fix.specs.inside.Run.{InstanceIsSettled}
use Rattle.serial_fix.proofs.Looked.{counted, run-counted, instance-counted, more-instances}
use Rattle.serial_fix.proofs.step.add.Goals as goal

pub returns-then-jobs-limits : goal.returns-then-jobs-limits
returns-then-jobs-limits c =
    more-instances c.args.program.now c.args.sets.now c.args.found.now c.args.instance c.args.premises.0 c.args.premises.1 c.args.home.0 c.args.limits.jobs
    c.requires.run c.requires.instance c.requires.looked (omega (arith, c.jobs.ensures, c.if-jobs-limits.true))

pub post_job-requires-clause-run : goal.post_job-requires-clause-run
post_job-requires-clause-run c = run-counted c.args.program.now c.args.sets.now c.args.found.now c.count_job.new.self c.requires.run c.count_job.ensures

pub post_job-requires-clause-instance : goal.post_job-requires-clause-instance
post_job-requires-clause-instance c =
    instance-counted c.args.program.now c.args.sets.now c.args.found.now c.count_job.new.self c.args.instance c.args.premises.0 c.args.premises.1 c.args.home.0 c.requires.instance c.count_job.ensures

pub returns : goal.returns
returns c =
    counted c.args.program.now c.args.sets.now c.args.limits c.args.found.now c.count_job.new.self c.post_job.new.found c.args.instance c.args.premises.0 c.args.premises.1 c.args.home.0
    (InstanceIsSettled c.args.program.now c.args.sets.now c.args.instance c.args.premises.0 c.args.premises.1 c.args.home.0) c.post_job.result c.requires.instance c.requires.looked c.count_job.ensures c.post_job.ensures
