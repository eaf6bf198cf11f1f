use Rattle.std.proofs.Common.{◌≡◌, ◌++◌}
use Rattle.c_tree.specs.declared.expr.Conjunction.{out-Conjunction}
use Rattle.c_tree.specs.declared.expr.Expr.{out-Expr}
use Rattle.c_tree.specs.Seen.{and_mark, or_mark, plain_conjunction, plain_equality}
use Rattle.c_check.specs.Plan.{test_postfix}
use Rattle.c_check.specs.Resolve.{test}
use Rattle.c_check.proofs.Front.{front}
use Rattle.c_check.proofs.conditions.+push.Given as goal

abbrev pub invariant-push_expr-loop-part : goal.invariant-push_expr-loop-part
invariant-push_expr-loop-part l =
    l.tests ≡ l.fn.tests ++ test_postfix (test l.scopes (front or_mark plain_conjunction (plain_conjunction (out-Expr l.e).first) l.part-items l.part-index))

abbrev pub invariant-push_conjunction-loop-part : goal.invariant-push_conjunction-loop-part
invariant-push_conjunction-loop-part l =
    l.tests ≡ l.fn.tests ++ test_postfix (test l.scopes (front and_mark plain_equality (plain_equality (out-Conjunction l.c).first) l.part-items l.part-index))
