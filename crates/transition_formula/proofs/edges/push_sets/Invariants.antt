use Rattle.std.proofs.Common.{◌≡◌, map, take}
use Rattle.lin_rows.specs.System.{with_rows}
use Rattle.transition_formula.specs.Rows.{set_row}
use Rattle.transition_formula.specs.Stored.{set_of}
use Rattle.transition_formula.proofs.edges.push_sets.Given as goal

abbrev pub invariant-sets : goal.invariant-sets
invariant-sets l = l.rows ≡ with_rows l.initial.rows (map (set_row l.shape.columns) (map set_of (take l.set-index l.sets)))
