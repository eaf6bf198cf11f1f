use Rattle.std.proofs.Common.{[], ◌∷◌, ap, ◌∙◌}
use Rattle.std.proofs.lemmas.Result.{on_ok_weaker}
use Rattle.c_check.specs.declared.instruction.Instruction.TheVariants as instruction
use Rattle.c_check.specs.Plan.{Stmt}
use Rattle.c_check.specs.Scope.{variable_of}
use Rattle.c_check.specs.inside.Found.{together, written}
use Rattle.c_check.proofs.Found.{wrote}
use Rattle.c_check.proofs.body.Body.set.Goals as goal

pub returns-in-Nondet : goal.returns-in-Nondet
returns-in-Nondet c =
    let x = c.args.x.now in
    rw c.in-Nondet.is (on_ok_weaker c.push.result (λ r. wrote c.args.self.now (Stmt.AssignAny x.from (variable_of c.args.scopes.now x))
    (r ∙ ap (λ v. together c.args.self.now (written 0 (instruction.AssignAny x.from v ∷ []))) c.variable-variable.ensures)) c.push.ensures)
