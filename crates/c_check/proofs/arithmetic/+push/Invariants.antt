use Rattle.std.proofs.Common.{◌≡◌, ◌++◌}
use Rattle.c_tree.specs.declared.expr.Product.{out-Product}
use Rattle.c_tree.specs.declared.expr.Sum.{out-Sum}
use Rattle.c_tree.specs.Seen.{plain_product, plain_unary, product_mark, sum_mark}
use Rattle.c_check.specs.Plan.{postfix}
use Rattle.c_check.specs.Resolve.{arithmetic}
use Rattle.c_check.proofs.Front.{front}
use Rattle.c_check.proofs.arithmetic.+push.Given as goal

abbrev pub invariant-push_sum-loop-mark : goal.invariant-push_sum-loop-mark
invariant-push_sum-loop-mark l =
    l.operations ≡ l.fn.operations ++ postfix (arithmetic l.scopes (front sum_mark plain_product (plain_product (out-Sum l.s).first) l.mark-items l.mark-index))

abbrev pub invariant-push_product-loop-part : goal.invariant-push_product-loop-part
invariant-push_product-loop-part l =
    l.operations ≡ l.fn.operations ++ postfix (arithmetic l.scopes (front product_mark plain_unary (plain_unary (out-Product l.p).first) l.part-items l.part-index))
