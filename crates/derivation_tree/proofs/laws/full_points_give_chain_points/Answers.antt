use Rattle.derivation_tree.proofs.ChainPoints.{full-points}
use Rattle.derivation_tree.proofs.laws.full_points_give_chain_points.Goals as goal

pub returns : goal.returns
returns c = full-points
