use Rattle.std.proofs.Common.{[], ◌∷◌, ap₂, ◌∙◌}
use Rattle.std.proofs.lemmas.Result.{on_ok_weaker}
use Rattle.c_check.specs.declared.instruction.Instruction.TheVariants as instruction
use Rattle.c_check.specs.Plan.{Stmt}
use Rattle.c_check.specs.inside.Found.{together, written}
use Rattle.c_check.proofs.Found.{wrote}
use Rattle.c_check.proofs.body.Body.suppose.Goals as goal

pub returns : goal.returns
returns c t is =
    let old = c.args.self.now in
    let needs = c.test_need.ensures t (c.as_slice.ensures ∙ is) in
    on_ok_weaker c.push_needing.result (λ e. wrote c.args.self.now (Stmt.Assume c.args.from t) (e ∙ ap₂ (λ count test. together old (written count (instruction.Assume c.args.from test ∷ []))) needs is)) c.push_needing.ensures
