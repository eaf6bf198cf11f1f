use Rattle.std.proofs.Common.{◌≡◌, [], ◌∷◌, true, false, sym, ap, subst, ◌∙◌}
use Rattle.horn_rules.specs.declared.job.Job.{Job}
use Rattle.horn_rules.specs.Job.{IsOutcome}
use Rattle.core_steps.specs.Allowed.{Allows}
use Rattle.core_steps.specs.Course.{Course, opening_of, state_of, with_events}
use Rattle.core_steps.specs.Event.{StalePublish}
use Rattle.core_steps.specs.Jobs.{JobAgrees}
use Rattle.core_steps.specs.Pending.{is_present}
use Rattle.core_steps.specs.Publishes.{job_task}
use Rattle.core_steps.specs.inside.Kept.{seen}
use Rattle.core_steps.proofs.Tests.{true-false}
use Rattle.core_steps.proofs.Counts.{Counts, counts-legal}
use Rattle.core_steps.proofs.PublishAnswers as answers
use Rattle.core_steps.proofs.stored_core.Core.publish_held.Goals as goal

pub drop_job-requires : goal.drop_job-requires
drop_job-requires c =
    let old = c.args.self.now in
    let O = opening_of old in
    let S = state_of old in
    let posted = c.args.posted.now in
    let same = c.job-job.ensures.job in
    let outcome = subst (λ p. IsOutcome p posted.job posted.held) c.requires.program c.job-job.ensures.outcome in
    let Count : Course → Type 0 = λ s. Counts (opening_of s) (state_of s) in
    let counts = subst Count c.self.view_is (counts-legal (opening_of (seen c.self.inside)) (seen c.self.inside).history c.self.invariant.legal) in
    let gone : is_present S (job_task old.program posted.job) ≡ false = ap (λ (j : Job). is_present S (job_task old.program j)) (sym same) ∙ sym c.is_present.ensures ∙ c.if-not-is_present.true in
    subst (λ (j : Job). Allows O S (StalePublish j.worker)) (sym same) (answers.drop-allowed O S posted.job.worker (job_task old.program posted.job) counts c.requires.held (λ none. gone))

pub returns-then-not-is_present : goal.returns-then-not-is_present
returns-then-not-is_present c =
    let old = c.args.self.now in
    let O = opening_of old in
    let S = state_of old in
    let posted = c.args.posted.now in
    let same = c.job-job.ensures.job in
    let outcome = subst (λ p. IsOutcome p posted.job posted.held) c.requires.program c.job-job.ensures.outcome in
    let gone : is_present S (job_task old.program posted.job) ≡ false = ap (λ (j : Job). is_present S (job_task old.program j)) (sym same) ∙ sym c.is_present.ensures ∙ c.if-not-is_present.true in
    answers.publish-stale old posted c.drop_job.new.self c.requires.no_stop c.requires.held gone
    (c.drop_job.ensures ∙ ap (λ (j : Job). with_events old (StalePublish j.worker ∷ [])) same)

pub returns-then-not-agrees : goal.returns-then-not-agrees
returns-then-not-agrees c =
    let old = c.args.self.now in
    let O = opening_of old in
    let S = state_of old in
    let posted = c.args.posted.now in
    let same = c.job-job.ensures.job in
    let outcome = subst (λ p. IsOutcome p posted.job posted.held) c.requires.program c.job-job.ensures.outcome in
    let present : is_present S (job_task old.program posted.job) ≡ true = ap (λ (j : Job). is_present S (job_task old.program j)) (sym same) ∙ sym c.is_present.ensures ∙ c.if-not-is_present.false in
    answers.publish-disagrees old posted c.requires.no_stop c.requires.held present
    (λ agrees. true-false c.agrees.result (c.agrees.ensures.1 (subst (JobAgrees O S) (sym same) agrees)) c.if-not-agrees.true)
