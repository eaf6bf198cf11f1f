use Rattle.std.proofs.Common.{drop}
use Rattle.std.specs.List.{AllByRecursion}
use Rattle.derivation_tree.specs.Kept.{predicates_of_stored}
use Rattle.core_steps.specs.Course.{state_of}
use Rattle.core_steps.specs.inside.Changing.{IsGrown, HasItsNumber}
use Rattle.core_steps.proofs.stored_core.Core.grow.Given as goal

abbrev pub invariant-loop-pair : goal.invariant-loop-pair
invariant-loop-pair l =
    IsGrown l.self.program (state_of l.self) (predicates_of_stored l.self.program l.predicates) (predicates_of_stored l.self.program (drop l.pair-index l.predicates)) (predicates_of_stored l.self.program l.new.items) l.sets
    × AllByRecursion (HasItsNumber l.self.program) l.new.items
