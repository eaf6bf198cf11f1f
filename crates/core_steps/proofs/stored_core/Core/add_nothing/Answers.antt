use Rattle.std.proofs.Common.{◌<◌, ◌+◌, ◌^◌, refl, sym, subst, arith}
use Rattle.core_steps.specs.declared.event.Event.TheVariants as stored_event
use Rattle.core_steps.specs.Allowed.{Allows}
use Rattle.core_steps.specs.Course.{Course, opening_of, state_of}
use Rattle.core_steps.specs.Event.{Nothing}
use Rattle.core_steps.specs.inside.Kept.{seen}
use Rattle.core_steps.proofs.Counts.{counts-legal}
use Rattle.core_steps.proofs.KeptEvents.{has-room}
use Rattle.core_steps.proofs.KeptPublishes.{kept-published}
use Rattle.core_steps.proofs.PublishAnswers.{published-fits}
use Rattle.core_steps.proofs.stored_core.Core.add_nothing.Goals as goal

pub add_event-requires : goal.add_event-requires
add_event-requires c =
    let Allowed : Course → Type 0 = λ s. Allows (opening_of s) (state_of s) (Nothing c.args.w) in
    has-room c.self.inside (Nothing c.args.w) c.self.invariant (subst Allowed (sym c.self.view_is) c.requires)

pub invariant_of-self : goal.invariant_of-self
invariant_of-self c =
    let Allowed : Course → Type 0 = λ s. Allows (opening_of s) (state_of s) (Nothing c.args.w) in
    let allowed = subst Allowed (sym c.self.view_is) c.requires in
    let publish = allowed.suits.1 in
    kept-published c.self.inside _ c.args.w publish.task (stored_event.Nothing c.args.w) c.self.invariant allowed allowed.worker allowed.suits.0 publish.posts.held refl
    c.put_at.ensures refl c.add_event.ensures.events c.add_event.ensures.capacity refl

pub overflow_add-self : goal.overflow_add-self
overflow_add-self c =
    let kept = c.self.invariant in
    let counts = counts-legal (opening_of (seen c.self.inside)) (seen c.self.inside).history kept.legal in
    let fits : c.self.inside.published + 1 < 2 ^ 32 = published-fits (opening_of (seen c.self.inside)) (state_of (seen c.self.inside)) c.self.inside.published kept.opening counts kept.holds.published in
    omega (arith, fits)
