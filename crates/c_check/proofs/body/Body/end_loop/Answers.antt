use Rattle.std.proofs.Common.{ap, ◌∙◌, option_map}
use Rattle.std.proofs.lemmas.Result.{on_ok_weaker}
use Rattle.c_tree.specs.Seen.{plain_assign}
use Rattle.c_check.specs.inside.Found.{together}
use Rattle.c_check.proofs.Compound.{loop_end_found}
use Rattle.c_check.proofs.Found.{after_three}
use Rattle.c_check.proofs.body.Body.end_loop.Goals as goal

pub returns : goal.returns
returns c =
    on_ok_weaker c.push-2.result (λ e. after_three _ _ _ _ c.in_ok-push.ensures c.in_ok-assign_if.ensures e
    ∙ ap (together c.args.self.now) (loop_end_found c.args.scopes.now (option_map plain_assign c.args.last.now))) c.push-2.ensures
