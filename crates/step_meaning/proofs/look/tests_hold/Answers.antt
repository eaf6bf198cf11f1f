use Rattle.std.proofs.Common.{◌≡◌, ◌++◌, true, false, Some, None, sym, ◌∙◌}
use Rattle.lin_rows.specs.View.{row_of, system_of}
use Rattle.step_meaning.specs.Outcome.{test_holds}
use Rattle.step_meaning.proofs.Loops.{stop_from-here, stop_from-next}
use Rattle.step_meaning.proofs.look.tests_hold.Goals as goal

pub returns-in-Some-false : goal.returns-in-Some-false
returns-in-Some-false c =
    let z = c.args.state.now ++ c.args.inputs.now in
    let told = c.test_holds.ensures in
    let is = c.in-Some-false.is in
    let value = c.in-Some-false.field-0-test in
    let found : Some false ≡ test_holds z (row_of c.row.result) = cc in
    sym (stop_from-here (test_holds z) (system_of c.args.tests.now).rows c.tests.place (row_of c.row.result) (Some false) c.row.ensures.row found) ∙ c.tests.invariant

pub returns-in-None : goal.returns-in-None
returns-in-None c =
    let z = c.args.state.now ++ c.args.inputs.now in
    let told = c.test_holds.ensures in
    let is = c.in-None.is in
    let found : None ≡ test_holds z (row_of c.row.result) = cc in
    sym (stop_from-here (test_holds z) (system_of c.args.tests.now).rows c.tests.place (row_of c.row.result) None c.row.ensures.row found) ∙ c.tests.invariant

pub tests-preserved : goal.tests-preserved
tests-preserved c =
    let z = c.args.state.now ++ c.args.inputs.now in
    let told = c.test_holds.ensures in
    let is = c.in-Some-true.is in
    let value = c.in-Some-true.field-0-test in
    let found : Some true ≡ test_holds z (row_of c.row.result) = cc in
    stop_from-next (test_holds z) (system_of c.args.tests.now).rows c.tests.place (row_of c.row.result) c.row.ensures.row found c.tests.invariant
