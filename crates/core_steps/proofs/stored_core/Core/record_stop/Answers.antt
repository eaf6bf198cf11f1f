use Rattle.std.proofs.Common.{Some, refl, sym, ap, subst, ◌∙◌}
use Rattle.core_steps.specs.Allowed.{Allows}
use Rattle.core_steps.specs.Course.{Course, opening_of, state_of}
use Rattle.core_steps.specs.Event.{Stop}
use Rattle.core_steps.specs.Stored.{reason_of}
use Rattle.core_steps.proofs.KeptEvents.{has-room, kept-stop}
use Rattle.core_steps.proofs.stored_core.Core.record_stop.Goals as goal

pub add_event-requires : goal.add_event-requires
add_event-requires c =
    let Allowed : Course → Type 0 = λ s. Allows (opening_of s) (state_of s) (Stop c.args.w (reason_of c.args.reason)) in
    has-room c.self.inside (Stop c.args.w (reason_of c.args.reason)) c.self.invariant (subst Allowed (sym c.self.view_is) c.requires)

pub invariant_of-self : goal.invariant_of-self
invariant_of-self c =
    let Allowed : Course → Type 0 = λ s. Allows (opening_of s) (state_of s) (Stop c.args.w (reason_of c.args.reason)) in
    kept-stop c.self.inside _ c.args.w c.args.reason c.self.invariant (subst Allowed (sym c.self.view_is) c.requires)
    c.put_at.ensures c.put_at-2.ensures (ap (λ n. Some n) (c.len.ensures ∙ c.self.inside.journal.ok.0)) c.add_event.ensures.events c.add_event.ensures.capacity refl
