use Rattle.std.proofs.Common.{length}
use Rattle.c_tree.specs.inside.Stmt.{stmt}
use Rattle.c_tree.proofs.ManyLoop.{IsReadTo}
use Rattle.c_tree.proofs.statements.Statements.stmts.Given as goal

abbrev pub invariant-loop-end : goal.invariant-loop-end
invariant-loop-end g l = IsReadTo l.end (stmt l.self.levels l.around) l.fn.tokens l.all l.tokens

abbrev pub decreases-loop-end : goal.decreases-loop-end
decreases-loop-end g l = length l.tokens.tokens
