use Rattle.std.proofs.Common.{sym}
use Rattle.std.proofs.lemmas.Result.{err_from_is_err_and}
use Rattle.c_tree.specs.inside.Stmt.{stmt}
use Rattle.c_tree.proofs.StmtSizes.{stmt_shrinks}
use Rattle.c_tree.proofs.ManyLoop.{at_start, goes_on, stops, all_read}
use Rattle.c_tree.proofs.statements.Statements.stmts.Goals as goal

pub loop-end-init : goal.loop-end-init
loop-end-init g c = rw c.new-all.ensures (at_start c.args.end (stmt c.args.self.now.levels c.args.around) c.args.tokens.now)

pub returns-in_err-item : goal.returns-in_err-item
returns-in_err-item g c =
    let p = err_from_is_err_and c.from_residual.result c.from_residual.ensures.1 in
    rw (p.1, p.2) (stops c.args.end (stmt c.args.self.now.levels c.args.around) c.args.tokens.now c.loop-end.all c.loop-end.tokens c.in_err-item.field-0.0 c.inner.new.tokens (sym c.loop-end-test.ensures) c.in_err-item.ensures c.loop-end.invariant)

pub loop-end-preserved : goal.loop-end-preserved
loop-end-preserved g c =
    goes_on c.args.end (stmt c.args.self.now.levels c.args.around) (stmt_shrinks c.args.self.now.levels c.args.around) c.args.tokens.now c.loop-end.all c.push.new.self c.loop-end.tokens c.in_ok-item.item c.inner.new.tokens (sym c.loop-end-test.ensures) c.in_ok-item.ensures c.in_ok-push.ensures.ok c.loop-end.invariant

pub loop-end-smaller : goal.loop-end-smaller
loop-end-smaller g c = stmt_shrinks c.args.self.now.levels c.args.around c.loop-end.tokens c.in_ok-item.item c.inner.new.tokens c.in_ok-item.ensures

pub returns : goal.returns
returns g c = all_read c.args.end (stmt c.args.self.now.levels c.args.around) c.args.tokens.now c.loop-end.all c.loop-end.tokens (sym c.loop-end-test.ensures) c.loop-end.invariant
