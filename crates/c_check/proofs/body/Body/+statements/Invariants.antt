use Rattle.std.proofs.Common.{◌≡◌, length, drop}
use Rattle.c_tree.specs.Seen.{plain_stmts}
use Rattle.c_check.specs.Resolve.{behind_all}
use Rattle.c_check.specs.inside.Found.{stmts_found, together}
use Rattle.c_check.proofs.body.Body.+statements.Given as goal

abbrev pub invariant-statements-loop-s : goal.invariant-statements-loop-s
invariant-statements-loop-s l =
    let left = plain_stmts (drop l.s-index l.ss) in
    let all = plain_stmts l.ss in
    (behind_all l.scopes (length l.self.locals) left ≡ behind_all l.fn.scopes (length l.fn.self.locals) all)
    × (together l.self (stmts_found l.place l.scopes (length l.self.locals) left) ≡ together l.fn.self (stmts_found l.place l.fn.scopes (length l.fn.self.locals) all))
