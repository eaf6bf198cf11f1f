use Rattle.std.proofs.Common.{◌≡◌, [], map, replicate}
use Rattle.predicate_sets.proofs.sets.Sets.new.Given as goal

abbrev pub invariant-loop-home : goal.invariant-loop-home
invariant-loop-home l = map (λ set. set.value) l.sets.items ≡ replicate l._home []
