use Rattle.derivation_tree.proofs.ChainRuns.{chain-points}
use Rattle.derivation_tree.proofs.laws.chain_points_are_runs.Goals as goal

pub returns : goal.returns
returns c = chain-points
