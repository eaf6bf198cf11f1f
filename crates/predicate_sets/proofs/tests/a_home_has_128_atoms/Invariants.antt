use Rattle.std.proofs.Common.{◌≡◌, length}
use Rattle.predicate_sets.proofs.tests.a_home_has_128_atoms.Given as goal

abbrev pub invariant-loop-bound : goal.invariant-loop-bound
invariant-loop-bound g l = length l.sets ≡ 1
