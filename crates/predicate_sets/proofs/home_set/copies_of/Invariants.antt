use Rattle.std.proofs.Common.{◌≡◌, take}
use Rattle.predicate_sets.proofs.home_set.copies_of.Given as goal

abbrev pub invariant-loop-atom : goal.invariant-loop-atom
invariant-loop-atom l = l.copies.items ≡ take l.atom-index l.atoms
