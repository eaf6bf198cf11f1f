use Rattle.std.proofs.Common.{◌≡◌, IfOk, subst}
use Rattle.c_check.specs.Plan.{Arithmetic, postfix}
use Rattle.c_check.proofs.Postfix.{arithmetic-first_sum}
use Rattle.c_check.proofs.arithmetic.arithmetic.Goals as goal

pub returns : goal.returns
returns c =
    let P : Arithmetic → Type 0 = λ a. IfOk c.of_sum.result (λ r. r ≡ postfix a) in
    subst P (arithmetic-first_sum c.args.scopes.now c.args.e.now) c.of_sum.ensures
