use Rattle.std.proofs.Common.{false, refl}
use Rattle.core_steps.proofs.Tests.{true-false}
use Rattle.core_steps.proofs.stored_core.Core.none_pending.Goals as goal

pub returns-in-None : goal.returns-in-None
returns-in-None c = (λ t. c.in-None.ensures, λ none. refl)

pub returns-in-Some : goal.returns-in-Some
returns-in-Some c = (λ t. true-false false t refl, λ none. absurd (none c.in-Some.ensures.0 c.in-Some.ensures.1.pending))
