use Rattle.std.proofs.Common.{◌≡◌, length, take}
use Rattle.core_steps.proofs.opening.copy_of.Given as goal

abbrev pub invariant-loop-place : goal.invariant-loop-place
invariant-loop-place l = (length l.copy ≡ l.homes) × (take l.place l.copy ≡ take l.place l.sets)
