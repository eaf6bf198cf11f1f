use Rattle.lin_rows.specs.View.{row_of, system_of}
use Rattle.transition_formula.specs.Rows.{test_row}
use Rattle.transition_formula.proofs.Pieces.{test-next}
use Rattle.transition_formula.proofs.edges.push_tests.Goals as goal

pub tests-preserved : goal.tests-preserved
tests-preserved c = test-next (test_row c.args.shape.columns) _ _ _ (system_of c.args.tests.now).rows c.tests.place (row_of c.row.result) c.row.ensures.row c.tests.invariant c.in_ok-push_test.ensures
