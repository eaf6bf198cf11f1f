use Rattle.std.proofs.Common.{refl, subst}
use Rattle.std.specs.List.{AllByRecursion}
use Rattle.horn_rules.specs.Stored.{home_numbered}
use Rattle.thr_base.specs.declared.names.Fact.{Fact}
use Rattle.annotation_check.specs.inside.Proving.{IsFailure}
use Rattle.annotation_check.proofs.Lists.{take-whole}
use Rattle.annotation_check.proofs.facts.none_fails.Goals as goal

pub returns : goal.returns
returns c = (
  (λ t. subst (AllByRecursion (λ (fact : Fact). ¬ IsFailure (home_numbered c.args.program.now fact.home.0))) (take-whole c.args.facts.now c.loop-fact.fact-index c.loop-fact-test.false) c.loop-fact.invariant),
  (λ all. refl),
)
