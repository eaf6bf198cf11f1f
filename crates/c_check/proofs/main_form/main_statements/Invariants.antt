use Rattle.std.proofs.Common.{◌≡◌, ◌++◌, length, map, drop}
use Rattle.c_tree.specs.Seen.{plain_stmts}
use Rattle.c_check.specs.Program.{created_from}
use Rattle.c_check.specs.Resolve.{behind_all}
use Rattle.c_check.specs.inside.Found.{stmts_found, together}
use Rattle.c_check.specs.inside.Main.{stored_creation}
use Rattle.c_check.proofs.main_form.main_statements.Given as goal

abbrev pub invariant-loop-s : goal.invariant-loop-s
invariant-loop-s l =
    let left = plain_stmts (drop l.s-index l.ss) in
    let all = plain_stmts l.ss in
    (behind_all l.scopes (length l.body.locals) left ≡ behind_all l.fn.scopes (length l.fn.body.locals) all)
    × (together l.body (stmts_found l.place l.scopes (length l.body.locals) left) ≡ together l.fn.body (stmts_found l.place l.fn.scopes (length l.fn.body.locals) all))
    × (l.created ++ map stored_creation (created_from l.scopes (length l.body.locals) left) ≡ l.fn.created ++ map stored_creation (created_from l.fn.scopes (length l.fn.body.locals) all))
