use Rattle.c_tree.proofs.heads.+stmt.Given as goal

abbrev pub decreases-stmt : goal.decreases-stmt
decreases-stmt l = l.levels
