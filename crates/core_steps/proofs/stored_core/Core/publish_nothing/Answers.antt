use Rattle.std.proofs.Common.{[], ◌∷◌, sym, ap, subst, ◌∙◌}
use Rattle.horn_rules.specs.declared.job.Job.{Job}
use Rattle.horn_rules.specs.Job.{IsOutcome}
use Rattle.core_steps.specs.Allowed.{Allows}
use Rattle.core_steps.specs.Course.{Course, opening_of, state_of, with_events}
use Rattle.core_steps.specs.Event.{Nothing}
use Rattle.core_steps.specs.inside.Kept.{seen}
use Rattle.core_steps.proofs.Counts.{Counts, counts-legal}
use Rattle.core_steps.proofs.PublishAnswers as answers
use Rattle.core_steps.proofs.stored_core.Core.publish_nothing.Goals as goal

pub add_nothing-requires : goal.add_nothing-requires
add_nothing-requires c =
    let old = c.args.self.now in
    let O = opening_of old in
    let S = state_of old in
    let posted = c.args.posted.now in
    let same = c.job-job.ensures.job in
    let outcome = subst (λ p. IsOutcome p posted.job posted.held) c.requires.program c.job-job.ensures.outcome in
    let Count : Course → Type 0 = λ s. Counts (opening_of s) (state_of s) in
    let counts = subst Count c.self.view_is (counts-legal (opening_of (seen c.self.inside)) (seen c.self.inside).history c.self.invariant.legal) in
    subst (λ (j : Job). Allows O S (Nothing j.worker)) (sym same)
    (answers.nothing-allowed O S posted.job posted.held counts c.requires.no_stop c.requires.held c.requires.present c.requires.agrees outcome c.requires.nothing)

pub returns : goal.returns
returns c =
    let old = c.args.self.now in
    let O = opening_of old in
    let S = state_of old in
    let posted = c.args.posted.now in
    let same = c.job-job.ensures.job in
    let outcome = subst (λ p. IsOutcome p posted.job posted.held) c.requires.program c.job-job.ensures.outcome in
    let Count : Course → Type 0 = λ s. Counts (opening_of s) (state_of s) in
    let counts = subst Count c.self.view_is (counts-legal (opening_of (seen c.self.inside)) (seen c.self.inside).history c.self.invariant.legal) in
    let allowed = answers.nothing-allowed O S posted.job posted.held counts c.requires.no_stop c.requires.held c.requires.present c.requires.agrees outcome c.requires.nothing in
    answers.publish-nothing old posted c.add_nothing.new.self c.requires.no_stop c.requires.held c.requires.agrees c.requires.nothing allowed
    (c.add_nothing.ensures ∙ ap (λ (j : Job). with_events old (Nothing j.worker ∷ [])) same)
