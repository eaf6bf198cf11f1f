use Rattle.std.proofs.Common.{◌≡◌, map, take}
use Rattle.core_steps.proofs.opening.lists_of.Given as goal

abbrev pub invariant-loop-place : goal.invariant-loop-place
invariant-loop-place l = map (λ list. list.value) l.lists.items ≡ take l.place l.sets
