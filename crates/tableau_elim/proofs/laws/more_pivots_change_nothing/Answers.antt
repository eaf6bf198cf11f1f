use Rattle.tableau_elim.specs.Tableau.{given_tableau}
use Rattle.tableau_elim.proofs.Certificates.{more_change_nothing}
use Rattle.tableau_elim.proofs.laws.more_pivots_change_nothing.Goals as goal

pub returns : goal.returns
returns c = λ system pivots more outcome l e. more_change_nothing system pivots more (given_tableau system) outcome l e
