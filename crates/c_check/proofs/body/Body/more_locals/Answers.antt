use Rattle.std.proofs.Common.{◌≡◌, ◌+◌, ◌∷◌, length, map, drop, sym, ap, ◌∙◌, arith}
use Rattle.std.proofs.lemmas.List.{drop_more, drop_all}
use Rattle.c_tree.specs.Seen.{plain_lname}
use Rattle.c_check.specs.Resolve.{with_locals}
use Rattle.c_check.specs.inside.Found.{locals_found, together}
use Rattle.c_check.proofs.Declarations.{body_step, scopes_step, together-no_locals}
use Rattle.c_check.proofs.body.Body.more_locals.Goals as goal

pub loop-m-preserved : goal.loop-m-preserved
loop-m-preserved c =
    let at = c.loop-m in
    let xs = c.args.more.now in
    let m = c.m-item.result in
    let left = map (λ x. plain_lname x.1) (drop (at.m-index + 1) xs) in
    let here : map (λ x. plain_lname x.1) (drop at.m-index xs) ≡ plain_lname m.1 ∷ left =
    ap (map (λ x. plain_lname x.1)) (drop_more xs at.m-index m (omega arith) ∙ ap (λ x. x ∷ drop (at.m-index + 1) xs) (sym c.m-item.is)) in (
      scopes_step at.self at.scopes (plain_lname m.1) left c.in_ok-local.ensures.scopes c.in_ok-local.ensures.body
          ∙ ap (with_locals at.scopes (length at.self.locals)) (sym here) ∙ at.invariant.0,
      body_step at.self at.scopes (plain_lname m.1) left c.in_ok-local.ensures.scopes c.in_ok-local.ensures.body
          ∙ ap (λ ls. together at.self (locals_found at.scopes (length at.self.locals) ls)) (sym here) ∙ at.invariant.1,
    )

pub returns-clause-scopes : goal.returns-clause-scopes
returns-clause-scopes c =
    let at = c.loop-m in
    ap (λ xs. with_locals at.scopes (length at.self.locals) (map (λ x. plain_lname x.1) xs)) (sym (drop_all at.m-index c.args.more.now (omega arith))) ∙ at.invariant.0

pub returns-clause-body : goal.returns-clause-body
returns-clause-body c =
    let at = c.loop-m in
    sym (together-no_locals at.self at.scopes)
    ∙ ap (λ xs. together at.self (locals_found at.scopes (length at.self.locals) (map (λ x. plain_lname x.1) xs))) (sym (drop_all at.m-index c.args.more.now (omega arith))) ∙ at.invariant.1
