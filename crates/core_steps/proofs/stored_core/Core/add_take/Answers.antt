use Rattle.std.proofs.Common.{◌-◌, refl, sym, ap, subst, arith}
use Rattle.std.proofs.lemmas.List.{get_or_read}
use Rattle.horn_rules.specs.Home.{homes}
use Rattle.horn_rules.specs.Stored.{instance_of}
use Rattle.core_steps.specs.declared.held.Held.{Held}
use Rattle.core_steps.specs.Allowed.{Allows}
use Rattle.core_steps.specs.Course.{Course, opening_of, state_of}
use Rattle.core_steps.specs.Event.{Take}
use Rattle.core_steps.specs.State.{Task}
use Rattle.core_steps.specs.inside.Taking.{IsNextOf}
use Rattle.core_steps.proofs.PremiseFacts.{number-within}
use Rattle.core_steps.proofs.KeptEvents.{has-room, kept-take}
use Rattle.core_steps.proofs.stored_core.Core.add_take.Goals as goal

pub take-requires : goal.take-requires
take-requires c =
    let Allowed : Course → Type 0 = λ s. Allows (opening_of s) (state_of s) (Take c.args.w (instance_of c.args.next.instance)) in
    let Next : Course → Type 0 = λ s. (task : Task) × IsNextOf (opening_of s) (state_of s) c.args.next task in
    let (task, of) = subst Next (sym c.self.view_is) c.requires.next in
    let allowed = subst Allowed (sym c.self.view_is) c.requires.allowed in
    (c.self.invariant.holds.waiting.opens allowed.suits.0 c.args.next.instance).1 (task, of.instance_is, of.pending)

pub add_event-requires : goal.add_event-requires
add_event-requires c =
    let Allowed : Course → Type 0 = λ s. Allows (opening_of s) (state_of s) (Take c.args.w (instance_of c.args.next.instance)) in
    has-room c.self.inside (Take c.args.w (instance_of c.args.next.instance)) c.self.invariant (subst Allowed (sym c.self.view_is) c.requires.allowed)

pub invariant_of-self-2 : goal.invariant_of-self-2
invariant_of-self-2 c =
    let Allowed : Course → Type 0 = λ s. Allows (opening_of s) (state_of s) (Take c.args.w (instance_of c.args.next.instance)) in
    let Next : Course → Type 0 = λ s. (task : Task) × IsNextOf (opening_of s) (state_of s) c.args.next task in
    let (task, of) = subst Next (sym c.self.view_is) c.requires.next in
    let kept = c.self.invariant in
    let within = number-within (homes c.self.inside.program.now) c.args.next.home.0 task.home of.home_is in
    let epoch = get_or_read c.self.inside.epochs.items (c.args.next.home.0 - 1) c.index.result.now (omega (arith, within.0, within.1, kept.holds.epochs.one_each)) c.index.ensures 0 in
    let held : Held = record { instance = c.args.next.instance; home = c.args.next.home; epoch = record { 0 = c.index.result.now } } in
    kept-take c.self.inside _ c.args.w c.args.next task held kept (subst Allowed (sym c.self.view_is) c.requires.allowed) of
    (c.in_ok-take.ensures.closes c.self.inside.program.now kept.holds.waiting.is_for)
    (ap (λ n. let one : Held = record { instance = c.args.next.instance; home = c.args.next.home; epoch = record { 0 = n } } in one) epoch)
    c.put_at.ensures c.add_event.ensures.events c.add_event.ensures.capacity refl
