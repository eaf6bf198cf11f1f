use Rattle.std.proofs.Common.{refl, sym, subst}
use Rattle.core_steps.specs.Allowed.{Allows}
use Rattle.core_steps.specs.Course.{Course, opening_of, state_of}
use Rattle.core_steps.specs.Event.{Claim}
use Rattle.core_steps.proofs.KeptEvents.{has-room}
use Rattle.core_steps.proofs.ClaimAnswers.{kept-claimed}
use Rattle.core_steps.proofs.stored_core.Core.add_claim.Goals as goal

pub add_event-requires : goal.add_event-requires
add_event-requires c =
    let Allowed : Course → Type 0 = λ s. Allows (opening_of s) (state_of s) (Claim c.args.w c.args.root.0) in
    has-room c.self.inside (Claim c.args.w c.args.root.0) c.self.invariant (subst Allowed (sym c.self.view_is) c.requires)

pub invariant_of-self : goal.invariant_of-self
invariant_of-self c =
    let Allowed : Course → Type 0 = λ s. Allows (opening_of s) (state_of s) (Claim c.args.w c.args.root.0) in
    kept-claimed c.self.inside _ c.args.w c.args.root c.self.invariant (subst Allowed (sym c.self.view_is) c.requires)
    c.put_at.ensures c.add_event.ensures.events c.add_event.ensures.capacity refl
