use Rattle.std.proofs.Common.{length, map, ap, ◌∙◌}
use Rattle.std.proofs.lemmas.Result.{on_ok_weaker}
use Rattle.c_tree.specs.Seen.{plain_lname}
use Rattle.c_check.specs.Resolve.{with_locals}
use Rattle.c_check.specs.inside.Found.{locals_found, together}
use Rattle.c_check.proofs.Declarations.{body_step, scopes_step}
use Rattle.c_check.proofs.body.Body.locals.Goals as goal

pub returns-clause-scopes : goal.returns-clause-scopes
returns-clause-scopes c =
    let l = c.args.l.now in
    on_ok_weaker c.more_locals.result (λ e. e ∙ ap (λ xs. with_locals c.local.new.scopes (length c.local.new.self.locals) (map (λ x. plain_lname x.1) xs)) c.as_slice.ensures
    ∙ scopes_step c.args.self.now c.args.scopes.now (plain_lname l.first) (map (λ x. plain_lname x.1) l.more) c.in_ok-local.ensures.scopes c.in_ok-local.ensures.body) c.more_locals.ensures.scopes

pub returns-clause-body : goal.returns-clause-body
returns-clause-body c =
    let l = c.args.l.now in
    on_ok_weaker c.more_locals.result (λ e. e ∙ ap (λ xs. together c.local.new.self (locals_found c.local.new.scopes (length c.local.new.self.locals) (map (λ x. plain_lname x.1) xs))) c.as_slice.ensures
    ∙ body_step c.args.self.now c.args.scopes.now (plain_lname l.first) (map (λ x. plain_lname x.1) l.more) c.in_ok-local.ensures.scopes c.in_ok-local.ensures.body) c.more_locals.ensures.body
