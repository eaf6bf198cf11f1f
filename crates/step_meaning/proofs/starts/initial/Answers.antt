use Rattle.std.proofs.Common.{◌≡◌, ◌<◌, length, true, false, add-one, arith, rules}
use Rattle.transition_formula.specs.Stored.{column_of}
use Rattle.step_meaning.proofs.InitialStates.{initial-next, initial-not, told_not, answers_not}
use Rattle.step_meaning.proofs.starts.initial.Goals as goal

pub returns-then-not-may_start : goal.returns-then-not-may_start
returns-then-not-may_start c =
    let columns = c.args.program.now.columns in
    let column = column_of c.column.result.now in
    let within : c.columns.column < length c.args.state.now = omega (arith, c.requires, c.columns-test.true, c.columns-column-end.ensures.columns) in
    let failed : c.may_start.result ≡ false = search rules in
    answers_not (initial-not columns c.args.state.now c.columns.column column c.column.ensures within (told_not c.may_start.result failed c.may_start.ensures) c.columns.invariant)

pub columns-preserved : goal.columns-preserved
columns-preserved c =
    let columns = c.args.program.now.columns in
    let column = column_of c.column.result.now in
    let within : c.columns.column < length c.args.state.now = omega (arith, c.requires, c.columns-test.true, c.columns-column-end.ensures.columns) in
    let held : c.may_start.result ≡ true = search rules in
    initial-next columns c.args.state.now c.columns.column _ column (add-one c.columns.column) c.column.ensures within (c.may_start.ensures.0 held) c.columns.invariant
