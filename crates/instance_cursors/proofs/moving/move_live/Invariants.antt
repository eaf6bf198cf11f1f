use Rattle.std.proofs.lemmas.List.Filters.{FiltersInPlace}
use Rattle.instance_cursors.specs.Cursors.{is_of_live}
use Rattle.instance_cursors.proofs.moving.move_live.Given as goal

abbrev pub invariant-loop-place : goal.invariant-loop-place
invariant-loop-place l = FiltersInPlace (is_of_live l.facts) l.fn.cursors l.cursors l.kept l.place
