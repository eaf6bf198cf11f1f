use Rattle.std.proofs.Common.{take}
use Rattle.std.specs.List.{AllByRecursion, Contains}
use Rattle.derivation_tree.specs.Kept.{kept_fact_of}
use Rattle.core_steps.specs.Course.{state_of}
use Rattle.core_steps.proofs.stored_core.Core.are_all_kept.Given as goal

abbrev pub invariant-loop-fact : goal.invariant-loop-fact
invariant-loop-fact l = AllByRecursion (λ f. Contains (state_of l.self).live (kept_fact_of l.self.program f)) (take l.fact-index l.facts)
