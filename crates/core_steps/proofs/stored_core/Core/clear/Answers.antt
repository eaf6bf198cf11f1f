use Rattle.std.proofs.Common.{◌≡◌, true, false, refl}
use Rattle.core_steps.proofs.Tests.{true-false}
use Rattle.core_steps.proofs.stored_core.Core.clear.Goals as goal

pub returns-then-not-quiet : goal.returns-then-not-quiet
returns-then-not-quiet c =
    let fails : c.quiet.result ≡ false = c.if-not-quiet.true in
    (λ t. true-false false t refl, λ clear. true-false c.quiet.result (c.quiet.ensures.1 clear.quiet) fails)

pub returns : goal.returns
returns c =
    let passes : c.quiet.result ≡ true = c.if-not-quiet.false in
    (λ t. record { quiet = c.quiet.ensures.0 passes; none_failing = c.none_fails.ensures.0 t }, λ clear. c.none_fails.ensures.1 clear.none_failing)
