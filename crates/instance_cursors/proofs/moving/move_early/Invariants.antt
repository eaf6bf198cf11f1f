use Rattle.std.proofs.lemmas.List.Filters.{FiltersInPlace}
use Rattle.instance_cursors.specs.Cursors.{stays_early}
use Rattle.instance_cursors.proofs.moving.move_early.Given as goal

abbrev pub invariant-loop-place : goal.invariant-loop-place
invariant-loop-place l = FiltersInPlace (stays_early l.layout l.homes) l.fn.early l.early l.kept l.place
