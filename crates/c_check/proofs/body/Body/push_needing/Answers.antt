use Rattle.std.proofs.Common.{◌≡◌, max, [], ◌∷◌, sym, ap₂, ◌∙◌, rules}
use Rattle.std.proofs.lemmas.Result.{on_ok_weaker}
use Rattle.c_check.proofs.Found.{together-written}
use Rattle.c_check.proofs.body.Body.push_needing.Goals as goal

pub returns : goal.returns
returns c =
    let old = c.args.self.now in
    let most : c.max-self.result ≡ max old.temporaries c.args.temporaries = search rules in
    on_ok_weaker c.push.result (λ e. ap₂ (λ count code. record old { temporaries = count; code = code }) most e ∙ sym (together-written old c.args.temporaries (c.args.instruction ∷ []))) c.push.ensures.ok
