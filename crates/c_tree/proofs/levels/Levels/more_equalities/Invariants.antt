use Rattle.std.proofs.Common.{length}
use Rattle.c_tree.specs.inside.Expr as spec
use Rattle.c_tree.proofs.Chains.{IsReadTo}
use Rattle.c_tree.proofs.levels.Levels.more_equalities.Given as goal

abbrev pub invariant-loop-mark : goal.invariant-loop-mark
invariant-loop-mark g l = IsReadTo spec.equality_mark (spec.relation (spec.unary l.self.levels)) l.fn.tokens l.more l.tokens

abbrev pub decreases-loop-mark : goal.decreases-loop-mark
decreases-loop-mark g l = length l.tokens.tokens
