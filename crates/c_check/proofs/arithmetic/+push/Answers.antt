use Rattle.std.proofs.Common.{rules, ◌≡◌, ◌++◌, append_assoc, ◌∷◌, [], OnOk, sym, ap, ◌∙◌, arith}
use Rattle.std.proofs.lemmas.Result.{on_ok_weaker}
use Rattle.c_tree.specs.declared.expr.Product.{out-Product}
use Rattle.c_tree.specs.declared.expr.Sum.{out-Sum}
use Rattle.c_tree.specs.Plain as plain
use Rattle.c_tree.specs.Seen.{plain_expr, plain_product, plain_sum, plain_unary, product_mark, sum_mark}
use Rattle.c_tree.proofs.View.{name_is, number_is, operator_is, paren_is, product_out, sum_out}
use Rattle.c_check.specs.declared.operation.Operation.TheVariants as operation
use Rattle.c_check.specs.Plan.{postfix}
use Rattle.c_check.specs.Resolve.{arithmetic}
use Rattle.c_check.specs.inside.Operations.{sign_operations, sum_operation}
use Rattle.c_check.proofs.Front.{front-end}
use Rattle.c_check.proofs.Postfix.{arithmetic-first_sum, postfix-next_product, postfix-next_sum, postfix-prefixed, pushed}
use Rattle.c_check.proofs.arithmetic.+push.Goals as goal

pub push_sum-loop-mark-preserved : goal.push_sum-loop-mark-preserved
push_sum-loop-mark-preserved t c =
    c.in_ok-push.ensures.ok ∙ ap (λ o. c.push_product-in-loop-mark.new.operations ++ o ∷ []) c.sum_operation.ensures
    ∙ pushed c.args.operations.now _ _ c.loop-mark.operations c.push_product-in-loop-mark.new.operations (sum_operation c.loop-mark-item.result.0.kind) c.loop-mark.invariant c.in_ok-push_product-2.ensures
    ∙ ap (λ x. c.args.operations.now ++ x)
    (postfix-next_sum c.args.scopes.now plain_product (plain_product (out-Sum c.args.s.now).first) c.as_slice-mark-items.result.now c.loop-mark.mark-index c.loop-mark-item.result
    c.loop-mark-test.true (sym c.loop-mark-item.is))

pub push_sum-returns : goal.push_sum-returns
push_sum-returns t c =
    c.loop-mark.invariant
    ∙ ap (λ e. c.args.operations.now ++ postfix (arithmetic c.args.scopes.now e))
    (front-end sum_mark plain_product (plain_product (out-Sum c.args.s.now).first) c.as_slice-mark-items.result.now (out-Sum c.args.s.now).more c.loop-mark.mark-index (plain_sum c.args.s.now)
    c.loop-mark-test.false (omega arith) c.as_slice-mark-items.ensures (sum_out c.args.s.now))

pub push_product-loop-part-preserved : goal.push_product-loop-part-preserved
push_product-loop-part-preserved t c =
    c.in_ok-push.ensures.ok
    ∙ pushed c.args.operations.now _ _ c.loop-part.operations c.push_unary-in-loop-part.new.operations operation.Multiply c.loop-part.invariant c.in_ok-push_unary-2.ensures
    ∙ ap (λ x. c.args.operations.now ++ x)
    (postfix-next_product c.args.scopes.now plain_unary (plain_unary (out-Product c.args.p.now).first) c.as_slice-part-items.result.now c.loop-part.part-index c.loop-part-item.result
    c.loop-part-test.true (sym c.loop-part-item.is))

pub push_product-returns : goal.push_product-returns
push_product-returns t c =
    c.loop-part.invariant
    ∙ ap (λ e. c.args.operations.now ++ postfix (arithmetic c.args.scopes.now e))
    (front-end product_mark plain_unary (plain_unary (out-Product c.args.p.now).first) c.as_slice-part-items.result.now (out-Product c.args.p.now).more c.loop-part.part-index (plain_product c.args.p.now)
    c.loop-part-test.false (omega arith) c.as_slice-part-items.ensures (product_out c.args.p.now))

pub push_unary-returns-in_ok-push_unary-in-Operator : goal.push_unary-returns-in_ok-push_unary-in-Operator
push_unary-returns-in_ok-push_unary-in-Operator t c =
    let e : plain_unary c.args.u.now ≡ plain.Expr.Prefixed c.in-Operator.field-0 c.in-Operator.kind (plain_unary c.in-Operator.operand) =
    ap plain_unary c.in-Operator.is ∙ operator_is c.in-Operator.field-0 c.in-Operator.kind c.in-Operator.operand in
    on_ok_weaker c.push_sign.result
    (λ pushed_is. pushed_is
    ∙ ap (λ xs. xs ++ sign_operations c.in-Operator.kind)
    (c.in_ok-push_unary-in-Operator.ensures ∙ ap (λ y. c.args.operations.now ++ postfix (arithmetic c.args.scopes.now (plain_unary y))) c.get.ensures)
    ∙ append_assoc c.args.operations.now (postfix (arithmetic c.args.scopes.now (plain_unary c.in-Operator.operand))) (sign_operations c.in-Operator.kind)
    ∙ ap (λ xs. c.args.operations.now ++ xs) (sym (postfix-prefixed c.in-Operator.kind (arithmetic c.args.scopes.now (plain_unary c.in-Operator.operand))))
    ∙ ap (λ x. c.args.operations.now ++ postfix (arithmetic c.args.scopes.now x)) (sym e))
    c.push_sign.ensures

pub push_unary-returns-in-Paren : goal.push_unary-returns-in-Paren
push_unary-returns-in-Paren t c =
    on_ok_weaker c.push_sum.result
    (λ pushed_is. pushed_is
    ∙ ap (λ a. c.args.operations.now ++ postfix a)
    (arithmetic-first_sum c.args.scopes.now c.get-in-Paren.result.now ∙ ap (λ y. arithmetic c.args.scopes.now (plain_expr y)) c.get-in-Paren.ensures
    ∙ ap (arithmetic c.args.scopes.now) (sym (ap plain_unary c.in-Paren.is ∙ paren_is c.in-Paren.field-0 c.in-Paren.inner))))
    c.push_sum.ensures

pub push_unary-returns-in-Number : goal.push_unary-returns-in-Number
push_unary-returns-in-Number t c =
    let pushed_ok : OnOk c.push.result (c.push.new.self ≡ c.args.operations.now ++ operation.Number c.in-Number.value ∷ []) = search rules in
    on_ok_weaker c.push.result
    (λ pushed_is. pushed_is ∙ ap (λ e. c.args.operations.now ++ postfix (arithmetic c.args.scopes.now e)) (sym (ap plain_unary c.in-Number.is ∙ number_is c.in-Number.field-0 c.in-Number.value)))
    pushed_ok

pub push_unary-returns-in-Name : goal.push_unary-returns-in-Name
push_unary-returns-in-Name t c =
    on_ok_weaker c.push-in-Name.result
    (λ pushed_is. pushed_is ∙ ap (λ v. c.args.operations.now ++ operation.Value v ∷ []) c.variable.ensures
    ∙ ap (λ e. c.args.operations.now ++ postfix (arithmetic c.args.scopes.now e)) (sym (ap plain_unary c.in-Name.is ∙ name_is c.in-Name.name)))
    c.push-in-Name.ensures.ok
