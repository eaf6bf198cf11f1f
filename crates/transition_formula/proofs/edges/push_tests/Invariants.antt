use Rattle.std.proofs.Common.{◌≡◌, map, take}
use Rattle.lin_rows.specs.System.{with_rows}
use Rattle.lin_rows.specs.View.{system_of}
use Rattle.transition_formula.specs.Rows.{test_row}
use Rattle.transition_formula.proofs.edges.push_tests.Given as goal

abbrev pub invariant-tests : goal.invariant-tests
invariant-tests l = l.rows ≡ with_rows l.initial.rows (map (test_row l.shape.columns) (take l.place (system_of l.tests).rows))
