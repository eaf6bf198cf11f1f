use Rattle.std.proofs.Common.{ap, ◌∙◌}
use Rattle.std.proofs.lemmas.Result.{on_ok_weaker}
use Rattle.c_check.specs.inside.Found.{refused, together}
use Rattle.c_check.proofs.Compound.{outside_atomic_found}
use Rattle.c_check.proofs.Found.{after_two}
use Rattle.c_check.proofs.body.Body.push_outside_atomic.Goals as goal

pub returns : goal.returns
returns c =
    on_ok_weaker c.push.result (λ e. after_two _ _ _ (c.note.ensures ∙ ap (λ d. together c.args.self.now (refused d)) c.not_in_atomic.ensures) e
    ∙ ap (together c.args.self.now) (outside_atomic_found c.args.place c.args.from c.args.instruction)) c.push.ensures
