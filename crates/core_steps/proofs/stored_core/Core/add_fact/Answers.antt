use Rattle.std.proofs.Common.{◌≡◌, ◌<◌, ◌≤◌, ◌+◌, ◌-◌, ◌^◌, refl, sym, ap, subst, ◌∙◌, arith}
use Rattle.core_steps.specs.declared.event.Event.TheVariants as stored_event
use Rattle.horn_rules.specs.Stored.{fact_of}
use Rattle.core_steps.specs.Allowed.{IsNewPublish, IsSamePublish, IsFull}
use Rattle.core_steps.specs.Course.{Course, opening_of, state_of}
use Rattle.core_steps.specs.Event.{New, Same}
use Rattle.core_steps.specs.Publishes.{job_task}
use Rattle.core_steps.specs.inside.Kept.{IsKept, seen}
use Rattle.fact_table.specs.declared.table.Inserted.TheVariants as inserted
use Rattle.core_steps.specs.inside.Publishing.{AddsAs, IsToPublish}
use Rattle.core_steps.proofs.Counts.{counts-legal}
use Rattle.core_steps.proofs.Refines.{keeps-legal}
use Rattle.core_steps.proofs.KeptEvents.{has-room}
use Rattle.core_steps.proofs.KeptPublishes.{kept-new, kept-published}
use Rattle.core_steps.proofs.PublishAnswers.{published-fits}
use Rattle.core_steps.proofs.Agreements.{has-live, held-worker}
use Rattle.core_steps.proofs.FactsAdded.{at-homes, has-home, premises-live, ids-left, new-publish, new-allowed, same-publish, same-allowed, full-publish, place-there}
use Rattle.core_steps.proofs.stored_core.Core.add_fact.Goals as goal

pub overflow_sub-place : goal.overflow_sub-place
overflow_sub-place c =
    let o = opening_of (seen c.self.inside) in
    let s = state_of (seen c.self.inside) in
    let kept = c.self.invariant in
    let counts = counts-legal o (seen c.self.inside).history kept.legal in
    let keeps = keeps-legal o (seen c.self.inside).history kept.legal in
    let To : Course → Type 0 = λ course. IsToPublish (opening_of course) (state_of course) c.args.job.now c.args.fact in
    let to = subst To (sym c.self.view_is) c.requires in
    (place-there o s c.self.inside.holds.items c.args.job.now.worker (job_task o.program c.args.job.now) counts kept.holds.holds to.posts.held).0

pub insert-inserted-requires-clause-home : goal.insert-inserted-requires-clause-home
insert-inserted-requires-clause-home c =
    let o = opening_of (seen c.self.inside) in
    let s = state_of (seen c.self.inside) in
    let kept = c.self.invariant in
    let counts = counts-legal o (seen c.self.inside).history kept.legal in
    let keeps = keeps-legal o (seen c.self.inside).history kept.legal in
    let To : Course → Type 0 = λ course. IsToPublish (opening_of course) (state_of course) c.args.job.now c.args.fact in
    let to = subst To (sym c.self.view_is) c.requires in
    has-home o.program c.self.inside.table c.args.fact kept.holds.table.table_is.homes_are to.home

pub insert-inserted-requires-clause-premises : goal.insert-inserted-requires-clause-premises
insert-inserted-requires-clause-premises c =
    let o = opening_of (seen c.self.inside) in
    let s = state_of (seen c.self.inside) in
    let kept = c.self.invariant in
    let counts = counts-legal o (seen c.self.inside).history kept.legal in
    let keeps = keeps-legal o (seen c.self.inside).history kept.legal in
    let To : Course → Type 0 = λ course. IsToPublish (opening_of course) (state_of course) c.args.job.now c.args.fact in
    let to = subst To (sym c.self.view_is) c.requires in
    premises-live o s c.self.inside.table c.args.job.now c.args.fact kept.holds.table to

pub insert-inserted-requires-clause-ids : goal.insert-inserted-requires-clause-ids
insert-inserted-requires-clause-ids c =
    let o = opening_of (seen c.self.inside) in
    let s = state_of (seen c.self.inside) in
    let kept = c.self.invariant in
    let counts = counts-legal o (seen c.self.inside).history kept.legal in
    let keeps = keeps-legal o (seen c.self.inside).history kept.legal in
    let To : Course → Type 0 = λ course. IsToPublish (opening_of course) (state_of course) c.args.job.now c.args.fact in
    let to = subst To (sym c.self.view_is) c.requires in
    ids-left o s c.self.inside.table kept.opening counts kept.holds.table

pub put_at-requires : goal.put_at-requires
put_at-requires c =
    let o = opening_of (seen c.self.inside) in
    let s = state_of (seen c.self.inside) in
    let kept = c.self.invariant in
    let counts = counts-legal o (seen c.self.inside).history kept.legal in
    let keeps = keeps-legal o (seen c.self.inside).history kept.legal in
    let To : Course → Type 0 = λ course. IsToPublish (opening_of course) (state_of course) c.args.job.now c.args.fact in
    let to = subst To (sym c.self.view_is) c.requires in
    (place-there o s c.self.inside.holds.items c.args.job.now.worker (job_task o.program c.args.job.now) counts kept.holds.holds to.posts.held).1

pub put_at-requires-in-Same : goal.put_at-requires-in-Same
put_at-requires-in-Same c =
    let o = opening_of (seen c.self.inside) in
    let s = state_of (seen c.self.inside) in
    let kept = c.self.invariant in
    let counts = counts-legal o (seen c.self.inside).history kept.legal in
    let keeps = keeps-legal o (seen c.self.inside).history kept.legal in
    let To : Course → Type 0 = λ course. IsToPublish (opening_of course) (state_of course) c.args.job.now c.args.fact in
    let to = subst To (sym c.self.view_is) c.requires in
    (place-there o s c.self.inside.holds.items c.args.job.now.worker (job_task o.program c.args.job.now) counts kept.holds.holds to.posts.held).1

pub overflow_add-self : goal.overflow_add-self
overflow_add-self c =
    let o = opening_of (seen c.self.inside) in
    let s = state_of (seen c.self.inside) in
    let kept = c.self.invariant in
    let counts = counts-legal o (seen c.self.inside).history kept.legal in
    let keeps = keeps-legal o (seen c.self.inside).history kept.legal in
    let To : Course → Type 0 = λ course. IsToPublish (opening_of course) (state_of course) c.args.job.now c.args.fact in
    let to = subst To (sym c.self.view_is) c.requires in
    let fits : c.self.inside.published + 1 < 2 ^ 32 = published-fits o s c.self.inside.published kept.opening counts kept.holds.published in
    omega (arith, fits)

pub overflow_add-self-in-Same : goal.overflow_add-self-in-Same
overflow_add-self-in-Same c =
    let o = opening_of (seen c.self.inside) in
    let s = state_of (seen c.self.inside) in
    let kept = c.self.invariant in
    let counts = counts-legal o (seen c.self.inside).history kept.legal in
    let keeps = keeps-legal o (seen c.self.inside).history kept.legal in
    let To : Course → Type 0 = λ course. IsToPublish (opening_of course) (state_of course) c.args.job.now c.args.fact in
    let to = subst To (sym c.self.view_is) c.requires in
    let fits : c.self.inside.published + 1 < 2 ^ 32 = published-fits o s c.self.inside.published kept.opening counts kept.holds.published in
    omega (arith, fits)

pub add_event-requires : goal.add_event-requires
add_event-requires c =
    let o = opening_of (seen c.self.inside) in
    let s = state_of (seen c.self.inside) in
    let kept = c.self.invariant in
    let counts = counts-legal o (seen c.self.inside).history kept.legal in
    let keeps = keeps-legal o (seen c.self.inside).history kept.legal in
    let To : Course → Type 0 = λ course. IsToPublish (opening_of course) (state_of course) c.args.job.now c.args.fact in
    let to = subst To (sym c.self.view_is) c.requires in
    has-room c.self.inside (New c.args.job.now.worker c.in-New.id.0 (fact_of o.program c.args.fact)) kept
    (new-allowed o s c.self.inside.table c.insert-inserted.new.self c.args.job.now c.args.fact c.in-New.id counts kept.holds.table to c.in-New.ensures.answer)

pub add_event-requires-in-Same : goal.add_event-requires-in-Same
add_event-requires-in-Same c =
    let o = opening_of (seen c.self.inside) in
    let s = state_of (seen c.self.inside) in
    let kept = c.self.invariant in
    let counts = counts-legal o (seen c.self.inside).history kept.legal in
    let keeps = keeps-legal o (seen c.self.inside).history kept.legal in
    let To : Course → Type 0 = λ course. IsToPublish (opening_of course) (state_of course) c.args.job.now c.args.fact in
    let to = subst To (sym c.self.view_is) c.requires in
    has-room c.self.inside (Same c.args.job.now.worker c.in-Same.id.0) kept
    (same-allowed o s c.self.inside.table c.insert-inserted.new.self c.args.job.now c.args.fact c.in-Same.id counts keeps kept.holds.table to c.in-Same.ensures.answer)

pub invariant_of-self : goal.invariant_of-self
invariant_of-self c =
    let o = opening_of (seen c.self.inside) in
    let s = state_of (seen c.self.inside) in
    let kept = c.self.invariant in
    let counts = counts-legal o (seen c.self.inside).history kept.legal in
    let keeps = keeps-legal o (seen c.self.inside).history kept.legal in
    let To : Course → Type 0 = λ course. IsToPublish (opening_of course) (state_of course) c.args.job.now c.args.fact in
    let to = subst To (sym c.self.view_is) c.requires in
    kept-new c.self.inside _ c.args.job.now.worker (job_task o.program c.args.job.now) c.in-New.id c.args.fact c.args.job.now.instance kept
    (new-allowed o s c.self.inside.table c.insert-inserted.new.self c.args.job.now c.args.fact c.in-New.id counts kept.holds.table to c.in-New.ensures.answer)
    to.posts.held refl (premises-live o s c.self.inside.table c.args.job.now c.args.fact kept.holds.table to) c.in-New.ensures.answer c.facts-facts.ensures.table c.in-New.ensures.unmarked to.word
    (c.came.ensures o.program kept.holds.waiting.is_for
    (at-homes o.program c.insert-inserted.new.self c.facts-facts.ensures.table (c.in-New.ensures.homes ∙ kept.holds.table.table_is.homes_are))) c.put_at.ensures refl c.add_event.ensures.events c.add_event.ensures.capacity refl

pub invariant_of-self-in-Same : goal.invariant_of-self-in-Same
invariant_of-self-in-Same c =
    let o = opening_of (seen c.self.inside) in
    let s = state_of (seen c.self.inside) in
    let kept = c.self.invariant in
    let counts = counts-legal o (seen c.self.inside).history kept.legal in
    let keeps = keeps-legal o (seen c.self.inside).history kept.legal in
    let To : Course → Type 0 = λ course. IsToPublish (opening_of course) (state_of course) c.args.job.now c.args.fact in
    let to = subst To (sym c.self.view_is) c.requires in
    let allowed = same-allowed o s c.self.inside.table c.insert-inserted.new.self c.args.job.now c.args.fact c.in-Same.id counts keeps kept.holds.table to c.in-Same.ensures.answer in
    let later = record c.self.inside { holds = c.put_at-in-Same.new.items; published = c.self.inside.published + 1; journal = c.add_event-in-Same.new.journal } in
    let made : IsKept later = kept-published c.self.inside later c.args.job.now.worker (job_task o.program c.args.job.now) (stored_event.Same c.args.job.now.worker c.in-Same.id) kept
    allowed allowed.worker to.no_stop to.posts.held refl c.put_at-in-Same.ensures refl c.add_event-in-Same.ensures.events c.add_event-in-Same.ensures.capacity refl in
    subst (λ t. IsKept (record later { table = t })) (sym c.in-Same.ensures.answer.1) made

pub returns-in-New-clause-answer : goal.returns-in-New-clause-answer
returns-in-New-clause-answer c =
    let o = opening_of (seen c.self.inside) in
    let s = state_of (seen c.self.inside) in
    let kept = c.self.invariant in
    let counts = counts-legal o (seen c.self.inside).history kept.legal in
    let keeps = keeps-legal o (seen c.self.inside).history kept.legal in
    let To : Course → Type 0 = λ course. IsToPublish (opening_of course) (state_of course) c.args.job.now c.args.fact in
    let to = subst To (sym c.self.view_is) c.requires in
    let New_is : Course → Type 0 = λ course. IsNewPublish (opening_of course) (state_of course) c.args.job.now.worker c.in-New.id.0 (fact_of course.program c.args.fact) in
    subst New_is c.self.view_is (new-publish o s c.self.inside.table c.insert-inserted.new.self c.args.job.now c.args.fact c.in-New.id kept.holds.table to c.in-New.ensures.answer)

pub returns-in-Same-clause-answer : goal.returns-in-Same-clause-answer
returns-in-Same-clause-answer c =
    let o = opening_of (seen c.self.inside) in
    let s = state_of (seen c.self.inside) in
    let kept = c.self.invariant in
    let counts = counts-legal o (seen c.self.inside).history kept.legal in
    let keeps = keeps-legal o (seen c.self.inside).history kept.legal in
    let To : Course → Type 0 = λ course. IsToPublish (opening_of course) (state_of course) c.args.job.now c.args.fact in
    let to = subst To (sym c.self.view_is) c.requires in
    let Same_is : Course → Type 0 = λ course. AddsAs (opening_of course) (state_of course) c.args.job.now c.args.fact (inserted.Same c.in-Same.id) in
    subst Same_is c.self.view_is (
      same-publish o s c.self.inside.table c.insert-inserted.new.self c.args.job.now c.args.fact c.in-Same.id keeps kept.holds.table to c.in-Same.ensures.answer,
      has-live o.program o.limits.facts s c.self.inside.table c.in-Same.id c.args.fact kept.holds.table keeps.falls c.in-Same.ensures.answer.0,
    )

pub returns-in-Full-clause-answer : goal.returns-in-Full-clause-answer
returns-in-Full-clause-answer c =
    let o = opening_of (seen c.self.inside) in
    let s = state_of (seen c.self.inside) in
    let kept = c.self.invariant in
    let counts = counts-legal o (seen c.self.inside).history kept.legal in
    let keeps = keeps-legal o (seen c.self.inside).history kept.legal in
    let To : Course → Type 0 = λ course. IsToPublish (opening_of course) (state_of course) c.args.job.now c.args.fact in
    let to = subst To (sym c.self.view_is) c.requires in
    let Full_is : Course → Type 0 = λ course. IsFull (opening_of course) (state_of course) c.args.job.now.worker in
    subst Full_is c.self.view_is (full-publish o s c.self.inside.table c.insert-inserted.new.self c.args.job.now c.args.fact kept.holds.table to c.in-Full.ensures.answer)
