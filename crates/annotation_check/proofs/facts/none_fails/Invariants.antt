use Rattle.std.proofs.Common.{take}
use Rattle.std.specs.List.{AllByRecursion}
use Rattle.horn_rules.specs.Stored.{home_numbered}
use Rattle.annotation_check.specs.inside.Proving.{IsFailure}
use Rattle.annotation_check.proofs.facts.none_fails.Given as goal

abbrev pub invariant-loop-fact : goal.invariant-loop-fact
invariant-loop-fact l = AllByRecursion (λ fact. ¬ IsFailure (home_numbered l.program fact.home.0)) (take l.fact-index l.facts)
