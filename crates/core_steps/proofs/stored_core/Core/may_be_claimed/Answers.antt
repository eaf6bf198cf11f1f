use Rattle.std.proofs.Common.{subst}
use Rattle.horn_rules.specs.Stored.{home_numbered}
use Rattle.core_steps.specs.Course.{Course}
use Rattle.core_steps.specs.inside.Quiet.{IsFailing}
use Rattle.core_steps.proofs.stored_core.Core.may_be_claimed.Goals as goal

pub returns : goal.returns
returns c =
    let Fails : Course → Type 0 = λ x. IsFailing (home_numbered x.program c.args.f.now.fact.home.0) in
    (λ t. (subst Fails c.self.view_is (c.is_failing.ensures.0 c.if-not-is_failing.false), c.is_unclaimed.ensures.0 t), λ may. c.is_unclaimed.ensures.1 may.1)
