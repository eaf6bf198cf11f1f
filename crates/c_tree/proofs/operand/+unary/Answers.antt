use Rattle.std.proofs.Common.{arith}
use Rattle.c_tree.specs.inside.Expr.{unary}
use Rattle.c_tree.proofs.Deeper.{deeper}
use Rattle.c_tree.proofs.operand.+unary.Goals as goal

pub returns-then-levels-eq0 : goal.returns-then-levels-eq0
unfolding unary
returns-then-levels-eq0 t c = rw c.if-levels-eq0.true c.leaf.ensures

pub returns : goal.returns
unfolding unary
returns t c = rw (deeper (λ n. unary n c.args.tokens.now) c.args.levels (omega arith)) c.operand.ensures
