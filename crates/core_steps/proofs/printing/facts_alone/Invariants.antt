use Rattle.std.proofs.Common.{◌≡◌, map, take}
use Rattle.core_steps.proofs.printing.facts_alone.Given as goal

abbrev pub invariant-loop-f : goal.invariant-loop-f
invariant-loop-f l = l.facts.items ≡ map (λ f. f.fact) (take l.f-index l.live)
