use Rattle.std.proofs.Common.{◌≡◌, ◌++◌, map}
use Rattle.lin_rows.specs.View.{system_of}
use Rattle.step_meaning.specs.Outcome.{test_holds, first_stop}
use Rattle.step_meaning.proofs.Loops.{stop_from}
use Rattle.step_meaning.proofs.look.tests_hold.Given as goal

abbrev pub invariant-tests : goal.invariant-tests
invariant-tests l =
    let z = l.state ++ l.inputs in
    stop_from (test_holds z) (system_of l.tests).rows l.place ≡ first_stop (map (test_holds z) (system_of l.tests).rows)
