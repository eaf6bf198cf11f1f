use Rattle.std.proofs.Common.{◌≡◌, ◌++◌, map, true, false, Some, None, sym, ◌∙◌, rules}
use Rattle.transition_formula.specs.Stored.{edge_of}
use Rattle.step_meaning.specs.Outcome.{source_holds, test_holds, set_holds, first_stop}
use Rattle.step_meaning.proofs.Stops.{first_stop-behind, first_stop-false, first_stop-none}
use Rattle.step_meaning.proofs.Loops.{past_source}
use Rattle.step_meaning.proofs.look.first_stop.Goals as goal

pub returns-in-Some-true : goal.returns-in-Some-true
returns-in-Some-true c =
    let z = c.args.state.now ++ c.args.inputs.now in
    let edge = edge_of c.args.edge.now in
    let at : source_holds c.args.counter edge c.args.state.now ≡ Some true = search rules in
    let tests : first_stop (map (test_holds z) edge.tests) ≡ Some true = search rules in
    let sets : c.sets_hold.result ≡ first_stop (map (set_holds z) edge.sets) = search rules in
    sets ∙ sym (past_source c.args.counter edge c.args.state.now c.args.inputs.now at ∙ first_stop-behind (map (test_holds z) edge.tests) (map (set_holds z) edge.sets) tests)

pub returns-in-Some-false : goal.returns-in-Some-false
returns-in-Some-false c =
    let z = c.args.state.now ++ c.args.inputs.now in
    let edge = edge_of c.args.edge.now in
    let at : source_holds c.args.counter edge c.args.state.now ≡ Some true = search rules in
    let tests : first_stop (map (test_holds z) edge.tests) ≡ Some false = search rules in
    sym (past_source c.args.counter edge c.args.state.now c.args.inputs.now at ∙ first_stop-false (map (test_holds z) edge.tests) (map (set_holds z) edge.sets) tests)

pub returns-in-None : goal.returns-in-None
returns-in-None c =
    let z = c.args.state.now ++ c.args.inputs.now in
    let edge = edge_of c.args.edge.now in
    let at : source_holds c.args.counter edge c.args.state.now ≡ Some true = search rules in
    let tests : first_stop (map (test_holds z) edge.tests) ≡ None = search rules in
    sym (past_source c.args.counter edge c.args.state.now c.args.inputs.now at ∙ first_stop-none (map (test_holds z) edge.tests) (map (set_holds z) edge.sets) tests)
