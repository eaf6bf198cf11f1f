use Rattle.std.proofs.Common.{◌≡◌, [], ◌∷◌, ◌++◌, sym, ap, ◌∙◌, rules}
use Rattle.std.proofs.lemmas.Result.{on_ok_weaker}
use Rattle.c_check.proofs.Found.{together-named}
use Rattle.c_check.proofs.body.Body.push_name.Goals as goal

pub returns : goal.returns
returns c =
    let old = c.args.self.now in
    let same : c.in_ok-text.text ≡ c.args.x.now.text = search rules in
    on_ok_weaker c.push.result (λ e. ap (λ locals. record old { locals = locals }) (e ∙ ap (λ text. old.locals ++ text ∷ []) same) ∙ sym (together-named old c.args.x.now)) c.push.ensures.ok
