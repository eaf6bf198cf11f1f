use Rattle.std.proofs.Common.{◌≡◌, ◌+◌, ◌++◌, ◌∷◌, length, drop, map, sym, ap, ◌∙◌, arith, append_assoc, append-nil}
use Rattle.std.proofs.lemmas.List.{drop_more, drop_all, map-append}
use Rattle.c_tree.specs.Plain as plain
use Rattle.c_tree.specs.Seen.{plain_stmt, plain_stmts}
use Rattle.c_check.specs.Resolve as resolve
use Rattle.c_check.specs.Program.{created_from}
use Rattle.c_check.specs.inside.Found.{stmts_found, together}
use Rattle.c_check.specs.inside.Main.{creation_in, stored_creation}
use Rattle.c_check.proofs.Arms.{stmts_body, stmts_scopes, together-no_stmts}
use Rattle.c_check.proofs.Creations.{created_step}
use Rattle.c_check.proofs.main_form.main_statements.Goals as goal

pub loop-s-preserved : goal.loop-s-preserved
loop-s-preserved c =
    let at = c.loop-s in
    let p = c.args.place in
    let xs = c.args.ss.now in
    let s = plain_stmt c.s-item.result in
    let left = plain_stmts (drop (at.s-index + 1) xs) in
    let n = length at.body.locals in
    let later = created_from c.statement.new.scopes (length c.statement.new.self.locals) left in
    let here : plain_stmts (drop at.s-index xs) ≡ plain.Stmts.Then s left =
    ap plain_stmts (drop_more xs at.s-index c.s-item.result (omega arith) ∙ ap (λ x. x ∷ drop (at.s-index + 1) xs) (sym c.s-item.is)) in
    let scopes_is = c.in_ok-statement.ensures.scopes in
    let body_is = c.in_ok-statement.ensures.body in (
      stmts_scopes p at.body at.scopes s left scopes_is body_is ∙ ap (resolve.behind_all at.scopes n) (sym here) ∙ at.invariant.0,
      stmts_body p at.body at.scopes s left scopes_is body_is ∙ ap (λ ls. together at.body (stmts_found p at.scopes n ls)) (sym here) ∙ at.invariant.1,
      ap (λ cs. cs ++ map stored_creation later) c.in_ok-push_creation.ensures ∙ append_assoc at.created _ _
          ∙ ap (λ cs. at.created ++ cs) (sym (map-append stored_creation (creation_in at.scopes s) later))
          ∙ ap (λ cs. at.created ++ map stored_creation cs) (created_step p at.body at.scopes s left scopes_is body_is ∙ ap (created_from at.scopes n) (sym here)) ∙ at.invariant.2,
    )

pub returns-clause-scopes : goal.returns-clause-scopes
returns-clause-scopes c =
    let at = c.loop-s in
    ap (λ xs. resolve.behind_all at.scopes (length at.body.locals) (plain_stmts xs)) (sym (drop_all at.s-index c.args.ss.now (omega arith))) ∙ at.invariant.0

pub returns-clause-body : goal.returns-clause-body
returns-clause-body c =
    let at = c.loop-s in
    sym (together-no_stmts c.args.place at.body at.scopes)
    ∙ ap (λ xs. together at.body (stmts_found c.args.place at.scopes (length at.body.locals) (plain_stmts xs))) (sym (drop_all at.s-index c.args.ss.now (omega arith))) ∙ at.invariant.1

pub returns-clause-created : goal.returns-clause-created
returns-clause-created c =
    let at = c.loop-s in
    sym (append-nil at.created)
    ∙ ap (λ xs. at.created ++ map stored_creation (created_from at.scopes (length at.body.locals) (plain_stmts xs))) (sym (drop_all at.s-index c.args.ss.now (omega arith))) ∙ at.invariant.2
