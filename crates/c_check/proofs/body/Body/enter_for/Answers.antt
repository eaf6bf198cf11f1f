use Rattle.std.proofs.Common.{◌≡◌, length, ap, ap₂, ◌∙◌}
use Rattle.std.proofs.lemmas.Result.{on_ok_weaker}
use Rattle.c_tree.specs.Seen.{plain_first}
use Rattle.c_check.specs.Scope.{open_scope}
use Rattle.c_check.specs.Resolve.{with_first}
use Rattle.c_check.specs.inside.Found.{first_found, refused, together}
use Rattle.c_check.proofs.Found.{length-refused}
use Rattle.c_check.proofs.body.Body.enter_for.Goals as goal

pub returns-clause-scopes : goal.returns-clause-scopes
returns-clause-scopes c =
    let same : length c.note.new.self.locals ≡ length c.args.self.now.locals = ap (λ b. length b.locals) c.note.ensures ∙ length-refused c.args.self.now _ in
    on_ok_weaker c.first.result (λ e. e ∙ ap₂ (λ ss n. with_first ss n (plain_first c.args.first.now)) c.in_ok-open.ensures same) c.first.ensures.scopes

pub returns-clause-body : goal.returns-clause-body
returns-clause-body c =
    let f = plain_first c.args.first.now in
    let same : length c.note.new.self.locals ≡ length c.args.self.now.locals = ap (λ b. length b.locals) c.note.ensures ∙ length-refused c.args.self.now _ in
    let noted = c.note.ensures ∙ ap (λ d. together c.args.self.now (refused d)) c.not_in_atomic.ensures in
    on_ok_weaker c.first.result (λ e. e ∙ ap₂ (λ ss n. together c.note.new.self (first_found ss n f)) c.in_ok-open.ensures same
    ∙ ap (λ b. together b (first_found (open_scope c.args.scopes.now) (length c.args.self.now.locals) f)) noted) c.first.ensures.body
