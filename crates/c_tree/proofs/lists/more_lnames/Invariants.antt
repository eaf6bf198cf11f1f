use Rattle.std.proofs.Common.{length}
use Rattle.c_tree.specs.inside.Simple as spec
use Rattle.c_tree.proofs.Chains.{IsReadTo}
use Rattle.c_tree.proofs.lists.more_lnames.Given as goal

abbrev pub invariant-loop-mark : goal.invariant-loop-mark
invariant-loop-mark l = IsReadTo spec.comma_mark (spec.lname l.levels) l.fn.tokens l.more l.tokens

abbrev pub decreases-loop-mark : goal.decreases-loop-mark
decreases-loop-mark l = length l.tokens.tokens
