use Rattle.std.proofs.Common.{true, ◌&&◌, [], None, refl, sym, ap, ◌∙◌, arith}
use Rattle.thr_base.specs.Refusals.{not_linear}
use Rattle.c_tree.specs.Seen.{and_mark, equality_mark, or_mark, plain_conjunction, plain_equality, plain_expr, plain_product, plain_relation, plain_sum, plain_unary, product_mark, relation_mark, sum_mark}
use Rattle.c_tree.specs.declared.expr.Conjunction.{out-Conjunction}
use Rattle.c_tree.specs.declared.expr.Equality.{out-Equality}
use Rattle.c_tree.specs.declared.expr.Expr.{out-Expr}
use Rattle.c_tree.specs.declared.expr.Product.{out-Product}
use Rattle.c_tree.specs.declared.expr.Relation.{out-Relation}
use Rattle.c_tree.specs.declared.expr.Sum.{out-Sum}
use Rattle.c_tree.proofs.View.{conjunction_out, equality_out, expr_out, product_out, relation_out, sum_out, operator_is, paren_is, number_is, name_is}
use Rattle.c_check.specs.declared.uses.Use.TheVariants as use_as
use Rattle.c_check.specs.declared.uses.Found.{Found}
use Rattle.c_check.specs.Broken.{broken_if, has_name, no_number, sign_broken, sign_use}
use Rattle.c_check.specs.First.{first_of}
use Rattle.c_check.specs.inside.Used.{beside, found_in}
use Rattle.c_check.proofs.Front.{front}
use Rattle.c_check.proofs.FoundIn.{found_in-next, found_in-all, found_in-or, found_in-and, found_in-equality, found_in-relation, found_in-sum, found_in-product, found_in-prefixed, nothing}
use Rattle.c_check.proofs.uses.+walk.Goals as goal

pub in_expr-loop-i-preserved : goal.in_expr-loop-i-preserved
in_expr-loop-i-preserved t c =
    c.beside-found.ensures
    ∙ found_in-next c.args.scopes.now use_as.Condition c.args.used or_mark plain_conjunction (λ u from l r. no_number u from) (λ u from l r. found_in-or c.args.scopes.now u from l r)
    (plain_conjunction (out-Expr c.args.e.now).first) c.as_slice-more.result.now c.loop-i.i c.index-more-i.result c.loop-i.found c.in_conjunction.result c.no_number-mark.result
    c.loop-i-test.true (sym c.index-more-i.is) c.loop-i.invariant c.in_conjunction.ensures
    (c.no_number-mark.ensures ∙ ap (λ u. first_of (no_number u c.index-more-i.result.0)) c.use_before-in-loop-i.ensures)

pub in_expr-returns : goal.in_expr-returns
in_expr-returns t c =
    found_in-all c.args.scopes.now use_as.Condition c.args.used or_mark plain_conjunction (plain_conjunction (out-Expr c.args.e.now).first) c.as_slice-more.result.now (out-Expr c.args.e.now).more c.loop-i.i c.loop-i.found (plain_expr c.args.e.now)
    c.loop-i-test.false (omega arith) c.as_slice-more.ensures (expr_out c.args.e.now) c.loop-i.invariant

pub in_conjunction-loop-i-preserved : goal.in_conjunction-loop-i-preserved
in_conjunction-loop-i-preserved t c =
    c.beside-found.ensures
    ∙ found_in-next c.args.scopes.now use_as.Condition c.args.used and_mark plain_equality (λ u from l r. no_number u from) (λ u from l r. found_in-and c.args.scopes.now u from l r)
    (plain_equality (out-Conjunction c.args.c.now).first) c.as_slice-more.result.now c.loop-i.i c.index-more-i.result c.loop-i.found c.in_equality.result c.no_number-mark.result
    c.loop-i-test.true (sym c.index-more-i.is) c.loop-i.invariant c.in_equality.ensures
    (c.no_number-mark.ensures ∙ ap (λ u. first_of (no_number u c.index-more-i.result.0)) c.use_before-in-loop-i.ensures)

pub in_conjunction-returns : goal.in_conjunction-returns
in_conjunction-returns t c =
    found_in-all c.args.scopes.now use_as.Condition c.args.used and_mark plain_equality (plain_equality (out-Conjunction c.args.c.now).first) c.as_slice-more.result.now (out-Conjunction c.args.c.now).more c.loop-i.i c.loop-i.found (plain_conjunction c.args.c.now)
    c.loop-i-test.false (omega arith) c.as_slice-more.ensures (conjunction_out c.args.c.now) c.loop-i.invariant

pub in_equality-loop-i-preserved : goal.in_equality-loop-i-preserved
in_equality-loop-i-preserved t c =
    c.beside-found.ensures
    ∙ found_in-next c.args.scopes.now use_as.Number c.args.used equality_mark plain_relation (λ u m l r. no_number u m.from) (λ u m l r. found_in-equality c.args.scopes.now u m l r)
    (plain_relation (out-Equality c.args.e.now).first) c.as_slice-more.result.now c.loop-i.i c.index-more-i.result c.loop-i.found c.in_relation.result c.no_number-mark.result
    c.loop-i-test.true (sym c.index-more-i.is) c.loop-i.invariant c.in_relation.ensures
    (c.no_number-mark.ensures ∙ ap (λ u. first_of (no_number u c.index-more-i.result.0.from)) c.use_before-in-loop-i.ensures)

pub in_equality-returns : goal.in_equality-returns
in_equality-returns t c =
    found_in-all c.args.scopes.now use_as.Number c.args.used equality_mark plain_relation (plain_relation (out-Equality c.args.e.now).first) c.as_slice-more.result.now (out-Equality c.args.e.now).more c.loop-i.i c.loop-i.found (plain_equality c.args.e.now)
    c.loop-i-test.false (omega arith) c.as_slice-more.ensures (equality_out c.args.e.now) c.loop-i.invariant

pub in_relation-loop-i-preserved : goal.in_relation-loop-i-preserved
in_relation-loop-i-preserved t c =
    c.beside-found.ensures
    ∙ found_in-next c.args.scopes.now use_as.Number c.args.used relation_mark plain_sum (λ u m l r. no_number u m.from) (λ u m l r. found_in-relation c.args.scopes.now u m l r)
    (plain_sum (out-Relation c.args.r.now).first) c.as_slice-more.result.now c.loop-i.i c.index-more-i.result c.loop-i.found c.in_sum.result c.no_number-mark.result
    c.loop-i-test.true (sym c.index-more-i.is) c.loop-i.invariant c.in_sum.ensures
    (c.no_number-mark.ensures ∙ ap (λ u. first_of (no_number u c.index-more-i.result.0.from)) c.use_before-in-loop-i.ensures)

pub in_relation-returns : goal.in_relation-returns
in_relation-returns t c =
    found_in-all c.args.scopes.now use_as.Number c.args.used relation_mark plain_sum (plain_sum (out-Relation c.args.r.now).first) c.as_slice-more.result.now (out-Relation c.args.r.now).more c.loop-i.i c.loop-i.found (plain_relation c.args.r.now)
    c.loop-i-test.false (omega arith) c.as_slice-more.ensures (relation_out c.args.r.now) c.loop-i.invariant

pub in_sum-loop-part-preserved : goal.in_sum-loop-part-preserved
in_sum-loop-part-preserved t c =
    c.beside-found.ensures
    ∙ found_in-next c.args.scopes.now use_as.Number c.args.used sum_mark plain_product (λ u m l r. []) (λ u m l r. found_in-sum c.args.scopes.now u m l r)
    (plain_product (out-Sum c.args.s.now).first) c.as_slice-more.result.now c.loop-part.part-index c.loop-part-item.result c.loop-part.found c.in_product.result None
    c.loop-part-test.true (sym c.loop-part-item.is) c.loop-part.invariant c.in_product.ensures refl

pub in_sum-returns : goal.in_sum-returns
in_sum-returns t c =
    found_in-all c.args.scopes.now use_as.Number c.args.used sum_mark plain_product (plain_product (out-Sum c.args.s.now).first) c.as_slice-more.result.now (out-Sum c.args.s.now).more c.loop-part.part-index c.loop-part.found (plain_sum c.args.s.now)
    c.loop-part-test.false (omega arith) c.as_slice-more.ensures (sum_out c.args.s.now) c.loop-part.invariant

pub in_product-loop-from-preserved : goal.in_product-loop-from-preserved
in_product-loop-from-preserved t c =
    c.beside-found.ensures
    ∙ found_in-next c.args.scopes.now use_as.Number c.args.used product_mark plain_unary (λ u from l r. broken_if (has_name l && has_name r) not_linear from) (λ u from l r. found_in-product c.args.scopes.now u from l r)
    (plain_unary (out-Product c.args.p.now).first) c.as_slice-more.result.now c.loop-from.from-index c.loop-from-item.result c.loop-from.found c.in_unary-right.result c.product_mark.result
    c.loop-from-test.true (sym c.loop-from-item.is) c.loop-from.invariant c.in_unary-right.ensures
    (c.product_mark.ensures
    ∙ ap (λ (x : Found). first_of (broken_if (x.has_name && c.in_unary-right.result.has_name) not_linear c.loop-from-item.result.0)) c.loop-from.invariant
    ∙ ap (λ (x : Found). first_of (broken_if (has_name (front product_mark plain_unary (plain_unary (out-Product c.args.p.now).first) c.as_slice-more.result.now c.loop-from.from-index) && x.has_name) not_linear c.loop-from-item.result.0)) c.in_unary-right.ensures)

pub in_product-returns : goal.in_product-returns
in_product-returns t c =
    found_in-all c.args.scopes.now use_as.Number c.args.used product_mark plain_unary (plain_unary (out-Product c.args.p.now).first) c.as_slice-more.result.now (out-Product c.args.p.now).more c.loop-from.from-index c.loop-from.found (plain_product c.args.p.now)
    c.loop-from-test.false (omega arith) c.as_slice-more.ensures (product_out c.args.p.now) c.loop-from.invariant

pub in_unary-returns-in-Operator : goal.in_unary-returns-in-Operator
in_unary-returns-in-Operator t c =
    c.beside.ensures ∙ ap (λ o. beside nothing o c.in_unary-operand.result) c.sign_refusal.ensures
    ∙ ap (beside nothing (first_of (sign_broken c.args.used c.in-Operator.kind c.in-Operator.from)))
    (c.in_unary-operand.ensures ∙ ap (λ u. found_in c.args.scopes.now u (plain_unary c.get.result.now)) c.sign_use.ensures
    ∙ ap (λ y. found_in c.args.scopes.now (sign_use c.in-Operator.kind) (plain_unary y)) c.get.ensures)
    ∙ sym (found_in-prefixed c.args.scopes.now c.args.used c.in-Operator.from c.in-Operator.kind (plain_unary c.in-Operator.operand))
    ∙ ap (found_in c.args.scopes.now c.args.used) (sym (ap plain_unary c.in-Operator.is ∙ operator_is c.in-Operator.from c.in-Operator.kind c.in-Operator.operand))

pub in_unary-returns-in-Paren : goal.in_unary-returns-in-Paren
in_unary-returns-in-Paren t c =
    c.in_expr.ensures ∙ ap (λ e. found_in c.args.scopes.now c.args.used (plain_expr e)) c.get-in-Paren.ensures
    ∙ ap (found_in c.args.scopes.now c.args.used) (sym (ap plain_unary c.in-Paren.is ∙ paren_is c.in-Paren.field-0 c.in-Paren.inner))

pub in_unary-returns-in-Number : goal.in_unary-returns-in-Number
in_unary-returns-in-Number t c = ap (found_in c.args.scopes.now c.args.used) (sym (ap plain_unary c.in-Number.is ∙ number_is c.in-Number.field-0 c.in-Number.field-1))

pub in_unary-returns-in-Name : goal.in_unary-returns-in-Name
in_unary-returns-in-Name t c =
    ap (λ o. let r : Found = record { refusal = o; has_name = true } in r) c.name.ensures
    ∙ ap (found_in c.args.scopes.now c.args.used) (sym (ap plain_unary c.in-Name.is ∙ name_is c.in-Name.x))
