use Rattle.std.proofs.Common.{◌≡◌, ℕ, List, IfOk, ap, subst, ◌∙◌}
use Rattle.thread_cfg.specs.inside.Sizes.{places_from}
use Rattle.thread_cfg.proofs.PlaceLemmas.{places-code}
use Rattle.thread_cfg.proofs.located.function_places.Goals as goal

pub returns : goal.returns
returns c t is =
    subst (λ (l : List ℕ). IfOk c.places_of_code.result (λ places. places.items ≡ l))
    (ap (places_from 0) (c.as_slice.ensures ∙ ap (λ x. x.body) is) ∙ places-code t) c.places_of_code.ensures
