use Rattle.std.proofs.Common.{◌≡◌, ◌+◌, ◌++◌, length, take, drop}
use Rattle.core_steps.specs.inside.Changing.{raised}
use Rattle.core_steps.proofs.changing.raise_epochs.Given as goal

abbrev pub invariant-loop-place : goal.invariant-loop-place
invariant-loop-place l =
    (take l.place l.epochs.items ++ raised l.renewed (l.place + 1) (drop l.place l.epochs.items) ≡ raised l.renewed 1 l.initial.epochs.items)
    × (length l.epochs.items ≡ length l.initial.epochs.items) × (drop l.place l.epochs.items ≡ drop l.place l.initial.epochs.items)
