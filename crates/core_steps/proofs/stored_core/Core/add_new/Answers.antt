use Rattle.std.proofs.Common.{◌≡◌, ◌++◌, refl, sym, ap, ap₂, subst, ◌∙◌}
use Rattle.std.specs.List.{AllByRecursion}
use Rattle.withdraw.specs.Withdrawal.{IsWithout, IsWithdrawn}
use Rattle.derivation_tree.specs.Kept.{predicates_of_stored}
use Rattle.core_steps.specs.declared.event.Event.TheVariants as stored_event
use Rattle.core_steps.specs.Allowed.{Allows}
use Rattle.core_steps.specs.Event.{Refine}
use Rattle.core_steps.specs.Course.{Course, opening_of, state_of}
use Rattle.core_steps.specs.inside.Changing.{AreListsWith, HasItsNumber, homes_of, lost_homes, raised, gone_with}
use Rattle.core_steps.proofs.KeptEvents.{has-room}
use Rattle.core_steps.proofs.KeptRefines.{table-left, is-left, epochs-few, epochs-low, kept-refined, gone-count}
use Rattle.core_steps.proofs.stored_core.Core.add_new.Goals as goal

pub changed-requires : goal.changed-requires
changed-requires c =
    let inside = c.self.inside in
    let new = c.args.new.items in
    let Numbers : Course → Type 0 = λ s. AllByRecursion (HasItsNumber s.program) new in
    let numbers = subst Numbers (sym c.self.view_is) c.requires.homes in
    let homes = c.deref-4.ensures.value ∙ c.in_ok-homes.ensures ∙ ap homes_of c.deref.ensures.value in
    let left = c.withdraw-gone.new.table.live in
    let are = table-left inside new left c.self.invariant numbers
    (subst (λ l. IsWithout (IsWithdrawn l inside.table.live) inside.table.live left) homes c.withdraw-gone.ensures.exactly) in
    is-left inside new c.withdraw-gone.new.table c.self.invariant are c.withdraw-gone.ensures.same

pub raise_epochs-requires-clause-few : goal.raise_epochs-requires-clause-few
raise_epochs-requires-clause-few c = epochs-few c.self.inside c.home_count.result c.self.invariant c.home_count.ensures c.home_count.type_inv

pub raise_epochs-requires-clause-low : goal.raise_epochs-requires-clause-low
raise_epochs-requires-clause-low c =
    let Allowed : Course → Type 0 = λ s. Allows (opening_of s) (state_of s) (Refine c.args.w c.args.scope (predicates_of_stored s.program c.args.new.items)) in
    let allowed = subst Allowed (sym c.self.view_is) c.requires.allowed in
    epochs-low c.self.inside c.args.scope c.self.invariant allowed.suits.1.left_over

pub add_event-requires : goal.add_event-requires
add_event-requires c =
    let Allowed : Course → Type 0 = λ s. Allows (opening_of s) (state_of s) (Refine c.args.w c.args.scope (predicates_of_stored s.program c.args.new.items)) in
    let allowed = subst Allowed (sym c.self.view_is) c.requires.allowed in
    has-room c.self.inside (Refine c.args.w c.args.scope (predicates_of_stored c.self.inside.program.now c.args.new.items)) c.self.invariant allowed

pub invariant_of-self : goal.invariant_of-self
invariant_of-self c =
    let inside = c.self.inside in
    let new = c.args.new.items in
    let Numbers : Course → Type 0 = λ s. AllByRecursion (HasItsNumber s.program) new in
    let numbers = subst Numbers (sym c.self.view_is) c.requires.homes in
    let Allowed : Course → Type 0 = λ s. Allows (opening_of s) (state_of s) (Refine c.args.w c.args.scope (predicates_of_stored s.program c.args.new.items)) in
    let allowed = subst Allowed (sym c.self.view_is) c.requires.allowed in
    let homes = c.deref-4.ensures.value ∙ c.in_ok-homes.ensures ∙ ap homes_of c.deref.ensures.value in
    let left = c.withdraw-gone.new.table.live in
    let are = table-left inside new left c.self.invariant numbers
    (subst (λ l. IsWithout (IsWithdrawn l inside.table.live) inside.table.live left) homes c.withdraw-gone.ensures.exactly) in
    let Lists : Course → Type 0 = λ s. AreListsWith s.program (state_of s) (predicates_of_stored s.program new) c.args.sets in
    let lists = subst Lists (sym c.self.view_is) c.requires.lists in
    let before = c.deref-5.ensures.value ∙ c.in_ok-before.ensures ∙ c.facts.ensures.facts in
    let renewed = c.deref-6.ensures.value ∙ c.add_lost.ensures
    ∙ ap₂ (λ l m. l ++ lost_homes left m) (c.in_ok-renewed.ensures.items ∙ c.deref-2.ensures.value ∙ c.in_ok-homes.ensures ∙ ap homes_of c.deref.ensures.value) before in
    let epochs = c.raise_epochs.ensures ∙ ap (λ l. raised l 1 inside.epochs.items) (c.deref-7.ensures.value ∙ sym c.deref-6.ensures.value) in
    kept-refined inside _ c.args.w c.args.scope (stored_event.Refine c.args.w c.args.scope c.args.new) new c.deref-6.result.now c.self.invariant refl allowed lists numbers c.in_ok-lists.ensures
    are c.withdraw-gone.ensures.same c.facts-left.ensures.table c.withdraw-gone.ensures.unmarked c.withdraw-gone.ensures.rest renewed epochs
    (c.changed.ensures inside.program.now c.self.invariant.holds.waiting.is_for) c.put_at.ensures c.add_event.ensures.events c.add_event.ensures.capacity refl

pub returns-clause-gone : goal.returns-clause-gone
returns-clause-gone c =
    let inside = c.self.inside in
    let new = c.args.new.items in
    let Numbers : Course → Type 0 = λ s. AllByRecursion (HasItsNumber s.program) new in
    let numbers = subst Numbers (sym c.self.view_is) c.requires.homes in
    let homes = c.deref-4.ensures.value ∙ c.in_ok-homes.ensures ∙ ap homes_of c.deref.ensures.value in
    let left = c.withdraw-gone.new.table.live in
    let are = table-left inside new left c.self.invariant numbers
    (subst (λ l. IsWithout (IsWithdrawn l inside.table.live) inside.table.live left) homes c.withdraw-gone.ensures.exactly) in
    let Gone : Course → Type 0 = λ s. c.withdraw-gone.result ≡ gone_with (state_of s) (predicates_of_stored s.program new) in
    subst Gone c.self.view_is (gone-count inside new left c.withdraw-gone.result c.self.invariant are c.withdraw-gone.ensures.count)
