use Rattle.std.proofs.Common.{length}
use Rattle.c_tree.proofs.Quals.{IsReadTo}
use Rattle.c_tree.proofs.lists.quals.Given as goal

abbrev pub invariant-loop-mark : goal.invariant-loop-mark
invariant-loop-mark l = IsReadTo l.fn.tokens l.all l.tokens

abbrev pub decreases-loop-mark : goal.decreases-loop-mark
decreases-loop-mark l = length l.tokens.tokens
