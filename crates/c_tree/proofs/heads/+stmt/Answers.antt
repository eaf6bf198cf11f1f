use Rattle.c_tree.specs.inside.Stmt.{stmt}
use Rattle.std.proofs.Common.{arith}
use Rattle.c_tree.proofs.Deeper.{deeper}
use Rattle.c_tree.proofs.heads.+stmt.Goals as goal

pub returns-then-levels-eq0 : goal.returns-then-levels-eq0
unfolding stmt
returns-then-levels-eq0 t c = rw c.if-levels-eq0.true c.no_stmt.ensures

pub returns : goal.returns
unfolding stmt
returns t c = rw (deeper (λ n. stmt n c.args.around c.args.tokens.now) c.args.levels (omega arith)) c.stmt.ensures
