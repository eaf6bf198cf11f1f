use Rattle.transition_formula.proofs.InitialRows.{init_rows-exact}
use Rattle.transition_formula.proofs.laws.init_rows_are_exact.Goals as goal

pub returns : goal.returns
returns c = init_rows-exact
