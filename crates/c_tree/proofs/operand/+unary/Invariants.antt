use Rattle.c_tree.proofs.operand.+unary.Given as goal

abbrev pub decreases-unary : goal.decreases-unary
decreases-unary l = l.levels
