use Rattle.std.proofs.Common.{refl}
use Rattle.c_tree.specs.Seen.{plain_expr}
use Rattle.c_check.specs.Plan.{Arithmetic}
use Rattle.c_check.specs.Resolve as resolve
use Rattle.c_check.proofs.body.Body.assign.Goals as goal

pub returns-in_ok-operand-in-Add : goal.returns-in_ok-operand-in-Add
returns-in_ok-operand-in-Add c =
    rw c.in-Add.is (c.change.ensures Arithmetic.Sum (resolve.arithmetic c.args.scopes.now (plain_expr c.in-Add.e)) (λ l r. refl) c.in_ok-operand-in-Add.ensures)

pub returns-in_ok-operand-in-Subtract : goal.returns-in_ok-operand-in-Subtract
returns-in_ok-operand-in-Subtract c =
    rw c.in-Subtract.is (c.change-in-Subtract.ensures Arithmetic.Difference (resolve.arithmetic c.args.scopes.now (plain_expr c.in-Subtract.e)) (λ l r. refl) c.in_ok-operand-in-Subtract.ensures)

pub returns-in-Increment : goal.returns-in-Increment
returns-in-Increment c = rw c.in-Increment.is (c.step.ensures Arithmetic.Sum (λ l r. refl))

pub returns-in-Decrement : goal.returns-in-Decrement
returns-in-Decrement c = rw c.in-Decrement.is (c.step-in-Decrement.ensures Arithmetic.Difference (λ l r. refl))

pub returns-in-IncrementFirst : goal.returns-in-IncrementFirst
returns-in-IncrementFirst c = rw c.in-IncrementFirst.is (c.step-in-IncrementFirst.ensures Arithmetic.Sum (λ l r. refl))

pub returns-in-DecrementFirst : goal.returns-in-DecrementFirst
returns-in-DecrementFirst c = rw c.in-DecrementFirst.is (c.step-in-DecrementFirst.ensures Arithmetic.Difference (λ l r. refl))
