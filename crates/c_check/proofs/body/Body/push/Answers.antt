use Rattle.std.proofs.Common.{sym, ap, ◌∙◌, [], ◌∷◌}
use Rattle.std.proofs.lemmas.Result.{on_ok_weaker}
use Rattle.c_check.proofs.Found.{together-written_0}
use Rattle.c_check.proofs.body.Body.push.Goals as goal

pub returns : goal.returns
returns c = on_ok_weaker c.push.result (λ e. ap (λ code. record c.args.self.now { code = code }) e ∙ sym (together-written_0 c.args.self.now (c.args.instruction ∷ []))) c.push.ensures.ok
