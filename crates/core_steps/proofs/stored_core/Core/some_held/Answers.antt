use Rattle.std.proofs.Common.{◌≡◌, [], sym, ap, subst, ◌∙◌}
use Rattle.std.specs.Prelude.{IsTrue, is_some, List, Option, Bool}
use Rattle.std.specs.List.{list_any}
use Rattle.core_steps.specs.declared.held.Held.{Held}
use Rattle.core_steps.specs.Course.{Course, opening_of, state_of}
use Rattle.core_steps.specs.inside.Kept.{seen}
use Rattle.core_steps.proofs.Counts.{counts-legal}
use Rattle.core_steps.proofs.QuietFacts.{held-some, some-held}
use Rattle.core_steps.proofs.stored_core.Core.some_held.Goals as goal

pub returns : goal.returns
returns c =
    let o = opening_of (seen c.self.inside) in
    let s = state_of (seen c.self.inside) in
    let counts = counts-legal o (seen c.self.inside).history c.self.invariant.legal in
    let holds = c.self.invariant.holds.holds in
    let any : List (Option Held) → Bool = λ holds. list_any (λ (hold : Option Held). is_some hold) holds in
    let Told : Course → Type 0 = λ course. (IsTrue c.any_held.result → ¬ ((state_of course).holds ≡ [])) × ((¬ ((state_of course).holds ≡ [])) → IsTrue c.any_held.result) in
    subst Told c.self.view_is (
      λ t. some-held o s c.self.inside.holds.items holds (sym (ap any c.deref.ensures.value) ∙ sym c.any_held.ensures ∙ t),
      λ some. c.any_held.ensures ∙ ap any c.deref.ensures.value ∙ held-some o s c.self.inside.holds.items counts holds some,
    )
