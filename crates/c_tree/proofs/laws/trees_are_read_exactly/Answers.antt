use Rattle.c_tree.proofs.Trees.{one_tree}
use Rattle.c_tree.proofs.Refusals.{tree_not_refused, tree_or_refusal}
use Rattle.c_tree.proofs.OneRefusal.{one_refusal}
use Rattle.c_tree.proofs.laws.trees_are_read_exactly.Goals as goal

pub returns-clause-one : goal.returns-clause-one
returns-clause-one c = one_tree

pub returns-clause-one_refusal : goal.returns-clause-one_refusal
returns-clause-one_refusal c = one_refusal

pub returns-clause-not_both : goal.returns-clause-not_both
returns-clause-not_both c = tree_not_refused

pub returns-clause-either : goal.returns-clause-either
returns-clause-either c = tree_or_refusal
