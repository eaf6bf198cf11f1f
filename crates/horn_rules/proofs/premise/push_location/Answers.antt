use Rattle.std.proofs.Common.{◌≡◌, pos, ap, ◌∙◌, rules}
use Rattle.lin_rows.specs.System.{with_row}
use Rattle.transition_formula.specs.Rows.{column_is}
use Rattle.horn_rules.proofs.Premises.{counter-is}
use Rattle.horn_rules.proofs.premise.push_location.Goals as goal
use Rattle.lin_rows.proofs.Systems.{length-with_row}

pub returns-clause-count : goal.returns-clause-count
returns-clause-count c = length-with_row _ _ _ c.in_ok-push_column_is.ensures.ok

pub returns-clause-row : goal.returns-clause-row
returns-clause-row c thread at =
    let old = c.args.rows.now in
    let made : c.push_column_is.new.rows ≡ with_row old (column_is old.columns c.counter-column.result (pos c.args.l.0)) = search rules in
    made ∙ ap (λ column. with_row old (column_is old.columns column (pos c.args.l.0))) (counter-is c.args.program.now c.args.i.0 thread c.counter-column.result c.counter-column.ensures.counter at)
