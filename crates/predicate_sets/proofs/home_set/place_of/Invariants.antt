use Rattle.std.proofs.Common.{take}
use Rattle.predicate_sets.specs.HomeSet.{Lacks}
use Rattle.predicate_sets.proofs.home_set.place_of.Given as goal

abbrev pub invariant-loop-place : goal.invariant-loop-place
invariant-loop-place l = Lacks (take l.place l.atoms) l.atom
