use Rattle.c_tree.proofs.Refusals.{tree_opens_none}
use Rattle.c_tree.proofs.SittingText.{tree_fits, tree_rises}
use Rattle.c_tree.proofs.laws.trees_follow_their_texts.Goals as goal

pub returns-clause-levels : goal.returns-clause-levels
returns-clause-levels c = λ text tree is. tree_opens_none tree.items is.0 is.2

pub returns-clause-numbers : goal.returns-clause-numbers
returns-clause-numbers c = λ text tree is. tree_fits tree.items is.0 is.2

pub returns-clause-places : goal.returns-clause-places
returns-clause-places c = λ text tree is. tree_rises text is.0 tree.items is.1 is.2
