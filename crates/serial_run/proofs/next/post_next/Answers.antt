use Rattle.std.proofs.Common.{◌≡◌, None, subst}
use Rattle.core_steps.specs.declared.answers.Taken.{Taken}
use Rattle.core_steps.specs.Jobs.{Takes}
use Rattle.serial_run.proofs.Steps.{took-job, took-stop, behind-take}
use Rattle.serial_run.proofs.next.post_next.Goals as goal

pub post_job-requires : goal.post_job-requires
post_job-requires g c =
    (took-job c.args.core.now c.take.new.self c.in-Job.job c.requires (subst (λ (told : Taken). Takes c.args.core.now 1 None told c.take.new.self) c.in-Job.is c.in-Ok.ensures.answer)).has_job

pub returns-in-Job : goal.returns-in-Job
returns-in-Job g c =
    behind-take c.args.core.now c.take.new.self c.post_job.new.core c.in-Job.job c.post_job.result
    (took-job c.args.core.now c.take.new.self c.in-Job.job c.requires (subst (λ (told : Taken). Takes c.args.core.now 1 None told c.take.new.self) c.in-Job.is c.in-Ok.ensures.answer)) c.post_job.ensures

pub returns-in-Stopped : goal.returns-in-Stopped
returns-in-Stopped g c = took-stop c.args.core.now c.take.new.self c.requires (subst (λ (told : Taken). Takes c.args.core.now 1 None told c.take.new.self) c.in-Stopped.is c.in-Ok.ensures.answer)
