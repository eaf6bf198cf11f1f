use Rattle.derivation_tree.proofs.FactTrees.{facts-have-trees}
use Rattle.derivation_tree.proofs.laws.facts_have_trees.Goals as goal

pub returns : goal.returns
returns c = facts-have-trees
