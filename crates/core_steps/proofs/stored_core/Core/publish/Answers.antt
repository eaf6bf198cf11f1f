use Rattle.std.proofs.Common.{◌≡◌, Some, sym, subst}
use Rattle.horn_rules.specs.declared.job.Job.{Job}
use Rattle.core_steps.specs.State.{held_by}
use Rattle.core_steps.specs.Course.{state_of}
use Rattle.core_steps.specs.Publishes.{job_task}
use Rattle.core_steps.specs.inside.Publishing.{DropsAny}
use Rattle.core_steps.proofs.Tests.{true-false}
use Rattle.core_steps.proofs.WhatLooksTell.{no-stop}
use Rattle.core_steps.proofs.PublishAnswers as answers
use Rattle.core_steps.proofs.stored_core.Core.publish.Goals as goal

pub returns-then-is_stopped : goal.returns-then-is_stopped
returns-then-is_stopped c =
    let old = c.args.self.now in
    answers.publish-dropped old c.args.posted c.drop_any_job.new.self (c.is_stopped.ensures.0 c.if-is_stopped.true)
    (subst (λ (j : Job). DropsAny old j.worker c.drop_any_job.new.self) c.job-job.ensures.job c.drop_any_job.ensures)

pub returns-then-not-holds_job : goal.returns-then-not-holds_job
returns-then-not-holds_job c =
    let old = c.args.self.now in
    let S = state_of old in
    answers.publish-other old c.args.posted (no-stop S c.is_stopped.result c.if-is_stopped.false c.is_stopped.ensures.1)
    (λ e. true-false c.holds_job.result (c.holds_job.ensures.1 (subst (λ (j : Job). held_by S.holds j.worker ≡ Some (job_task old.program j)) (sym c.job-job.ensures.job) e)) c.if-not-holds_job.true)
