use Rattle.std.proofs.Common.{[], ◌∷◌, ap₂, ◌∙◌}
use Rattle.std.proofs.lemmas.Result.{on_ok_weaker}
use Rattle.c_check.specs.declared.instruction.Instruction.TheVariants as instruction
use Rattle.c_check.specs.inside.Found.{tested, together, written}
use Rattle.c_check.proofs.body.Body.push_loop.Goals as goal

pub returns : goal.returns
unfolding tested
returns c k is =
    on_ok_weaker c.push_needing.result (λ e. e ∙ ap₂ (λ count condition. together c.args.self.now (written count (instruction.Loop c.args.from condition ∷ []))) (c.condition_need.ensures k is) is) c.push_needing.ensures
