use Rattle.transition_formula.proofs.StepRows.{edge_rows-exact}
use Rattle.transition_formula.proofs.laws.edge_rows_are_exact.Goals as goal

pub returns : goal.returns
returns c = edge_rows-exact
