use Rattle.std.proofs.Common.{Some, sym, ap, ◌∙◌}
use Rattle.std.specs.Prelude.{unwrap_or}
use Rattle.horn_rules.specs.Home.{State as AtLocation}
use Rattle.horn_rules.specs.Stored.{home_of}
use Rattle.horn_rules.proofs.InstanceLists.{eq-is, is-eq}
use Rattle.core_steps.proofs.QuietFacts.{place_at}
use Rattle.core_steps.proofs.failing.is_failing.Goals as goal

pub returns-in-State : goal.returns-in-State
returns-in-State c =
    let named = ap (λ o. unwrap_or o (AtLocation 0 0)) (c.named.ensures ∙ ap (λ h. Some (home_of h)) c.in-State.is) in (
      λ t. (c.in-State.field-0.0, named ∙ ap (AtLocation c.in-State.field-0.0) (eq-is c.in-State.location.0 0 t)),
      λ fails. is-eq c.in-State.location.0 0 (ap place_at (sym named ∙ fails.1)),
    )
