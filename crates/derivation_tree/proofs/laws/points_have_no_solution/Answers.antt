use Rattle.derivation_tree.proofs.Modular.{cut-points, full-points-none}
use Rattle.derivation_tree.proofs.laws.points_have_no_solution.Goals as goal

pub returns-clause-cut : goal.returns-clause-cut
returns-clause-cut c = cut-points

pub returns-clause-full : goal.returns-clause-full
returns-clause-full c = full-points-none
