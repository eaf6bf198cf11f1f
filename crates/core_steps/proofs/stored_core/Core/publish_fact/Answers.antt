use Rattle.std.proofs.Common.{ℕ, ◌≡◌, ◌<◌, ◌^◌, [], ◌∷◌, Some, sym, ap, subst, ◌∙◌, arith}
use Rattle.horn_rules.specs.declared.job.Job.{Job}
use Rattle.horn_rules.specs.Job.{IsOutcome}
use Rattle.horn_rules.specs.Stored.{fact_of}
use Rattle.derivation_tree.specs.Facts.{fact_at}
use Rattle.core_steps.specs.State.{Facts}
use Rattle.core_steps.specs.Allowed.{Allows, IsFull, IsNewPublish, IsSamePublish}
use Rattle.core_steps.specs.Course.{Course, opening_of, state_of, with_events}
use Rattle.core_steps.specs.Event.{New, Same, Stop}
use Rattle.core_steps.specs.inside.Kept.{seen}
use Rattle.core_steps.specs.inside.Publishing.{IsToPublish}
use Rattle.core_steps.proofs.Counts.{Counts, counts-legal}
use Rattle.core_steps.proofs.PublishAnswers as answers
use Rattle.core_steps.proofs.stored_core.Core.publish_fact.Goals as goal

pub add_fact-added-requires : goal.add_fact-added-requires
add_fact-added-requires c =
    let old = c.args.self.now in
    let O = opening_of old in
    let S = state_of old in
    let posted = c.args.posted.now in
    let same = c.job-job.ensures.job in
    let outcome = subst (λ p. IsOutcome p posted.job posted.held) c.requires.program c.job-job.ensures.outcome in
    let small : c.args.held < 2 ^ 128 = omega (arith, c.ranges.held.fits) in
    subst (λ (j : Job). IsToPublish O S j (record { home = j.home; held = c.args.held })) (sym same)
    (answers.fact-to-publish O S posted.job posted.held c.args.held c.requires.no_stop c.requires.held c.requires.present c.requires.agrees outcome c.requires.posted small)

pub returns-in-New : goal.returns-in-New
returns-in-New c =
    let old = c.args.self.now in
    let O = opening_of old in
    let S = state_of old in
    let posted = c.args.posted.now in
    let same = c.job-job.ensures.job in
    let outcome = subst (λ p. IsOutcome p posted.job posted.held) c.requires.program c.job-job.ensures.outcome in
    answers.publish-new old posted c.args.held c.in-New.id c.add_fact-added.new.self c.requires.no_stop c.requires.held c.requires.agrees c.requires.posted
    (subst (λ (j : Job). IsNewPublish O S j.worker c.in-New.id.0 (fact_of old.program (record { home = j.home; held = c.args.held }))) same c.in-New.ensures.answer)
    (c.in-New.ensures.course ∙ ap (λ (j : Job). with_events old (New j.worker c.in-New.id.0 (fact_of old.program (record { home = j.home; held = c.args.held })) ∷ [])) same)

pub returns-in-Same : goal.returns-in-Same
returns-in-Same c =
    let old = c.args.self.now in
    let O = opening_of old in
    let S = state_of old in
    let posted = c.args.posted.now in
    let same = c.job-job.ensures.job in
    let outcome = subst (λ p. IsOutcome p posted.job posted.held) c.requires.program c.job-job.ensures.outcome in
    answers.publish-same old posted c.args.held c.in-Same.id c.add_fact-added.new.self c.requires.no_stop c.requires.held c.requires.agrees c.requires.posted
    (subst (λ (j : Job). IsSamePublish O S j.worker c.in-Same.id.0) same c.in-Same.ensures.answer.0)
    (subst (λ (j : Job). fact_at S.live c.in-Same.id.0 ≡ Some (fact_of old.program (record { home = j.home; held = c.args.held }))) same c.in-Same.ensures.answer.1)
    (c.in-Same.ensures.course ∙ ap (λ (j : Job). with_events old (Same j.worker c.in-Same.id.0 ∷ [])) same)

pub record_stop-requires : goal.record_stop-requires
record_stop-requires c =
    let old = c.args.self.now in
    let O = opening_of old in
    let S = state_of old in
    let posted = c.args.posted.now in
    let same = c.job-job.ensures.job in
    let outcome = subst (λ p. IsOutcome p posted.job posted.held) c.requires.program c.job-job.ensures.outcome in
    let Count : Course → Type 0 = λ s. Counts (opening_of s) (state_of s) in
    let counts = subst Count c.self.view_is (counts-legal (opening_of (seen c.self.inside)) (seen c.self.inside).history c.self.invariant.legal) in
    let Allow : Course → Type 0 = λ s. Allows (opening_of s) (state_of s) (Stop c.job-job.result.now.worker (Facts c.self.inside.limits.facts)) in
    let limit = ap (λ (s : Course). s.limits.facts) c.self.view_is in
    subst Allow (sym c.in-Full.ensures.course)
    (subst (λ n. Allows O S (Stop c.job-job.result.now.worker (Facts n))) (sym limit) (answers.full-allowed O S c.job-job.result.now.worker counts c.requires.no_stop c.in-Full.ensures.answer))

pub returns-in-Full : goal.returns-in-Full
returns-in-Full c =
    let old = c.args.self.now in
    let O = opening_of old in
    let S = state_of old in
    let posted = c.args.posted.now in
    let same = c.job-job.ensures.job in
    let outcome = subst (λ p. IsOutcome p posted.job posted.held) c.requires.program c.job-job.ensures.outcome in
    let limit = ap (λ (s : Course). s.limits.facts) c.self.view_is in
    answers.publish-full old posted c.args.held c.record_stop.new.self c.requires.no_stop c.requires.held c.requires.agrees c.requires.posted
    (subst (λ (j : Job). IsFull O S j.worker) same c.in-Full.ensures.answer)
    (c.record_stop.ensures ∙ ap (λ (s : Course). with_events s (Stop c.job-job.result.now.worker (Facts c.self.inside.limits.facts) ∷ [])) c.in-Full.ensures.course
    ∙ ap (λ (n : ℕ). with_events old (Stop c.job-job.result.now.worker (Facts n) ∷ [])) limit ∙ ap (λ (j : Job). with_events old (Stop j.worker (Facts old.limits.facts) ∷ [])) same)
