use Rattle.std.proofs.Common.{◌≡◌, true, Some, length}
use Rattle.transition_formula.specs.Stored.{edge_of}
use Rattle.step_meaning.specs.Outcome.{looked_at, first_stop}
use Rattle.step_meaning.proofs.Stops.{first_stop-none_stops}
use Rattle.step_meaning.proofs.Outcomes.{looked-all}
use Rattle.step_meaning.proofs.KnownEdges.{known, known-over}
use Rattle.step_meaning.proofs.steps.step.Goals as goal

pub first_stop-requires-clause-tests : goal.first_stop-requires-clause-tests
first_stop-requires-clause-tests c =
    let program = c.args.program.now in
    let edge = edge_of c.edge-by_edge.result.now in
    let found = known program c.args.thread.0 c.args.edge.0 c.counter-counter.result edge c.counter-counter.ensures.counter c.edge-by_edge.ensures in
    (known-over program c.args.thread.0 c.args.edge.0 c.counter-counter.result edge (length c.args.state.now) (length c.args.inputs.now) c.columns-columns.ensures.program c.requires.state c.requires.inputs found).tests

pub first_stop-requires-clause-sets : goal.first_stop-requires-clause-sets
first_stop-requires-clause-sets c =
    let program = c.args.program.now in
    let edge = edge_of c.edge-by_edge.result.now in
    let found = known program c.args.thread.0 c.args.edge.0 c.counter-counter.result edge c.counter-counter.ensures.counter c.edge-by_edge.ensures in
    (known-over program c.args.thread.0 c.args.edge.0 c.counter-counter.result edge (length c.args.state.now) (length c.args.inputs.now) c.columns-columns.ensures.program c.requires.state c.requires.inputs found).forms

pub write_after-requires-clause-within : goal.write_after-requires-clause-within
write_after-requires-clause-within c =
    let program = c.args.program.now in
    let edge = edge_of c.edge-by_edge.result.now in
    let found = known program c.args.thread.0 c.args.edge.0 c.counter-counter.result edge c.counter-counter.ensures.counter c.edge-by_edge.ensures in
    (known-over program c.args.thread.0 c.args.edge.0 c.counter-counter.result edge (length c.args.state.now) (length c.args.inputs.now) c.columns-columns.ensures.program c.requires.state c.requires.inputs found).within

pub write_after-requires-clause-over : goal.write_after-requires-clause-over
write_after-requires-clause-over c =
    let program = c.args.program.now in
    let edge = edge_of c.edge-by_edge.result.now in
    let found = known program c.args.thread.0 c.args.edge.0 c.counter-counter.result edge c.counter-counter.ensures.counter c.edge-by_edge.ensures in
    (known-over program c.args.thread.0 c.args.edge.0 c.counter-counter.result edge (length c.args.state.now) (length c.args.inputs.now) c.columns-columns.ensures.program c.requires.state c.requires.inputs found).forms

pub write_after-requires-clause-fit : goal.write_after-requires-clause-fit
write_after-requires-clause-fit c =
    let edge = edge_of c.edge-by_edge.result.now in
    let is = c.in-Some-true.is in
    let value = c.in-Some-true.field-0-test in
    let told = c.first_stop.ensures in
    let all : first_stop (looked_at c.counter-counter.result edge c.args.state.now c.args.inputs.now) ≡ Some true = cc in
    (looked-all c.counter-counter.result edge c.args.state.now c.args.inputs.now (first_stop-none_stops (looked_at c.counter-counter.result edge c.args.state.now c.args.inputs.now) all)).sets_fit
