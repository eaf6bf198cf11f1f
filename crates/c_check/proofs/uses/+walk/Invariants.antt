use Rattle.std.proofs.Common.{◌≡◌, ◌-◌, length}
use Rattle.c_tree.specs.Seen.{and_mark, equality_mark, or_mark, plain_conjunction, plain_equality, plain_product, plain_relation, plain_sum, plain_unary, product_mark, relation_mark, sum_mark}
use Rattle.c_tree.specs.declared.expr.Conjunction.{out-Conjunction}
use Rattle.c_tree.specs.declared.expr.Equality.{out-Equality}
use Rattle.c_tree.specs.declared.expr.Expr.{out-Expr}
use Rattle.c_tree.specs.declared.expr.Product.{out-Product}
use Rattle.c_tree.specs.declared.expr.Relation.{out-Relation}
use Rattle.c_tree.specs.declared.expr.Sum.{out-Sum}
use Rattle.c_check.specs.declared.uses.Use.TheVariants as use_as
use Rattle.c_check.specs.inside.Used.{found_in, use_before}
use Rattle.c_check.proofs.Front.{front}
use Rattle.c_check.proofs.uses.+walk.Given as goal

abbrev pub invariant-in_expr-loop-i : goal.invariant-in_expr-loop-i
invariant-in_expr-loop-i l =
    l.found ≡ found_in l.scopes (use_before use_as.Condition l.fn.used (length l.more - l.i)) (front or_mark plain_conjunction (plain_conjunction (out-Expr l.e).first) l.more l.i)

abbrev pub invariant-in_conjunction-loop-i : goal.invariant-in_conjunction-loop-i
invariant-in_conjunction-loop-i l =
    l.found ≡ found_in l.scopes (use_before use_as.Condition l.fn.used (length l.more - l.i)) (front and_mark plain_equality (plain_equality (out-Conjunction l.c).first) l.more l.i)

abbrev pub invariant-in_equality-loop-i : goal.invariant-in_equality-loop-i
invariant-in_equality-loop-i l =
    l.found ≡ found_in l.scopes (use_before use_as.Number l.fn.used (length l.more - l.i)) (front equality_mark plain_relation (plain_relation (out-Equality l.e).first) l.more l.i)

abbrev pub invariant-in_relation-loop-i : goal.invariant-in_relation-loop-i
invariant-in_relation-loop-i l =
    l.found ≡ found_in l.scopes (use_before use_as.Number l.fn.used (length l.more - l.i)) (front relation_mark plain_sum (plain_sum (out-Relation l.r).first) l.more l.i)

abbrev pub invariant-in_sum-loop-part : goal.invariant-in_sum-loop-part
invariant-in_sum-loop-part l =
    l.found ≡ found_in l.scopes (use_before use_as.Number l.fn.used (length l.more - l.part-index)) (front sum_mark plain_product (plain_product (out-Sum l.s).first) l.more l.part-index)

abbrev pub invariant-in_product-loop-from : goal.invariant-in_product-loop-from
invariant-in_product-loop-from l =
    l.found ≡ found_in l.scopes (use_before use_as.Number l.fn.used (length l.more - l.from-index)) (front product_mark plain_unary (plain_unary (out-Product l.p).first) l.more l.from-index)
