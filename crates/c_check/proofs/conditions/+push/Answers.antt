use Rattle.std.proofs.Common.{rules, ℕ, subst, ◌≡◌, ◌-◌, ◌++◌, ◌∷◌, [], length, slice_get, Some, None, append_assoc, refl, sym, ap, ◌∙◌, arith}
use Rattle.std.proofs.lemmas.Result.{on_ok_weaker}
use Rattle.c_tree.specs.declared.expr.Conjunction.{out-Conjunction}
use Rattle.c_tree.specs.declared.expr.Equality.{Equality, out-Equality}
use Rattle.c_tree.specs.declared.expr.Expr.{out-Expr}
use Rattle.c_tree.specs.declared.expr.Product.{out-Product}
use Rattle.c_tree.specs.declared.expr.Relation.{Relation, out-Relation}
use Rattle.c_tree.specs.declared.expr.Sum.{Sum, out-Sum}
use Rattle.c_tree.specs.declared.expr.Unary.{Unary}
use Rattle.c_tree.specs.declared.expr.UnaryKind.TheVariants as unary
use Rattle.c_tree.specs.Plain as plain
use Rattle.c_tree.specs.Plain.{expr_place}
use Rattle.c_tree.specs.Seen.{and_mark, or_mark, plain_conjunction, plain_equality, plain_expr, plain_relation, plain_sum, plain_unary}
use Rattle.c_tree.proofs.View.{conjunction_out, expr_out, name_is, number_is, operator_is, paren_is}
use Rattle.c_check.specs.declared.test.TestOperation.TheVariants as test_operation
use Rattle.c_check.specs.Plan.{Arithmetic, Test, test_postfix}
use Rattle.c_check.specs.Resolve.{arithmetic, not_zero, test}
use Rattle.c_check.proofs.Front.{front-end}
use Rattle.c_check.proofs.Postfix.{pushed}
use Rattle.c_check.proofs.TestPostfix.{equality-alone, IsNumberTest, number-sum, operand-alone, relation-alone, test-equality, test-relation, tests-same, test_postfix-next_and, test_postfix-next_or}
use Rattle.c_check.proofs.conditions.+push.Goals as goal

pub push_expr-loop-part-preserved : goal.push_expr-loop-part-preserved
push_expr-loop-part-preserved t c =
    c.in_ok-push.ensures.ok
    ∙ pushed c.args.tests.now _ _ c.loop-part.tests c.push_conjunction-in-loop-part.new.tests test_operation.Or c.loop-part.invariant c.in_ok-push_conjunction-2.ensures
    ∙ ap (λ x. c.args.tests.now ++ x)
    (test_postfix-next_or c.args.scopes.now plain_conjunction (plain_conjunction (out-Expr c.args.e.now).first) c.as_slice-part-items.result.now c.loop-part.part-index c.loop-part-item.result
    c.loop-part-test.true (sym c.loop-part-item.is))

pub push_expr-returns : goal.push_expr-returns
push_expr-returns t c =
    c.loop-part.invariant
    ∙ ap (λ e. c.args.tests.now ++ test_postfix (test c.args.scopes.now e))
    (front-end or_mark plain_conjunction (plain_conjunction (out-Expr c.args.e.now).first) c.as_slice-part-items.result.now (out-Expr c.args.e.now).more c.loop-part.part-index (plain_expr c.args.e.now)
    c.loop-part-test.false (omega arith) c.as_slice-part-items.ensures (expr_out c.args.e.now))

pub push_conjunction-loop-part-preserved : goal.push_conjunction-loop-part-preserved
push_conjunction-loop-part-preserved t c =
    c.in_ok-push.ensures.ok
    ∙ pushed c.args.tests.now _ _ c.loop-part.tests c.push_equality-in-loop-part.new.tests test_operation.And c.loop-part.invariant c.in_ok-push_equality-2.ensures
    ∙ ap (λ x. c.args.tests.now ++ x)
    (test_postfix-next_and c.args.scopes.now plain_equality (plain_equality (out-Conjunction c.args.c.now).first) c.as_slice-part-items.result.now c.loop-part.part-index c.loop-part-item.result
    c.loop-part-test.true (sym c.loop-part-item.is))

pub push_conjunction-returns : goal.push_conjunction-returns
push_conjunction-returns t c =
    c.loop-part.invariant
    ∙ ap (λ e. c.args.tests.now ++ test_postfix (test c.args.scopes.now e))
    (front-end and_mark plain_equality (plain_equality (out-Conjunction c.args.c.now).first) c.as_slice-part-items.result.now (out-Conjunction c.args.c.now).more c.loop-part.part-index (plain_conjunction c.args.c.now)
    c.loop-part-test.false (omega arith) c.as_slice-part-items.ensures (conjunction_out c.args.c.now))

pub push_equality-returns-in-None : goal.push_equality-returns-in-None
push_equality-returns-in-None t c =
    let e : Equality = c.args.e.now in
    let last : slice_get (out-Equality e).more (length (out-Equality e).more - 1) ≡ None = ap (λ xs. slice_get xs (length xs - 1)) (sym c.as_slice.ensures) ∙ sym c.in-None.ensures.value in
    tests-same c.push_relation.result c.push_relation.new.tests c.args.tests.now (test c.args.scopes.now (plain_relation (out-Equality e).first)) (test c.args.scopes.now (plain_equality e))
    (ap (test c.args.scopes.now) (sym (equality-alone e last))) c.push_relation.ensures

pub push_equality-returns-in-Some : goal.push_equality-returns-in-Some
push_equality-returns-in-Some t c =
    let e : Equality = c.args.e.now in
    let last : slice_get (out-Equality e).more (length (out-Equality e).more - 1) ≡ Some c.in-Some.field-0.now = ap (λ xs. slice_get xs (length xs - 1)) (sym c.as_slice.ensures) ∙ sym c.in-Some.ensures.value in
    let left : plain.Expr = plain_sum (out-Relation (out-Equality e).first).first in
    let right : Arithmetic = arithmetic c.args.scopes.now (plain_sum (out-Relation c.in-Some.field-0.now.1).first) in
    tests-same c.push_comparison.result c.push_comparison.new.tests c.args.tests.now (Test.Compare (expr_place left) c.equality_comparison-mark.result (arithmetic c.args.scopes.now left) right)
    (test c.args.scopes.now (plain_equality e))
    (ap (λ k. Test.Compare (expr_place left) k (arithmetic c.args.scopes.now left) right) c.equality_comparison-mark.ensures ∙ sym (test-equality c.args.scopes.now e c.in-Some.field-0.now last))
    c.push_comparison.ensures

pub push_relation-returns-in-None : goal.push_relation-returns-in-None
push_relation-returns-in-None t c =
    let e : Relation = c.args.r.now in
    let last : slice_get (out-Relation e).more (length (out-Relation e).more - 1) ≡ None = ap (λ xs. slice_get xs (length xs - 1)) (sym c.as_slice.ensures) ∙ sym c.in-None.ensures.value in
    tests-same c.push_sum.result c.push_sum.new.tests c.args.tests.now (test c.args.scopes.now (plain_sum (out-Relation e).first)) (test c.args.scopes.now (plain_relation e))
    (ap (test c.args.scopes.now) (sym (relation-alone e last))) c.push_sum.ensures

pub push_relation-returns-in-Some : goal.push_relation-returns-in-Some
push_relation-returns-in-Some t c =
    let e : Relation = c.args.r.now in
    let last : slice_get (out-Relation e).more (length (out-Relation e).more - 1) ≡ Some c.in-Some.field-0.now = ap (λ xs. slice_get xs (length xs - 1)) (sym c.as_slice.ensures) ∙ sym c.in-Some.ensures.value in
    let left : plain.Expr = plain_sum (out-Relation e).first in
    let right : Arithmetic = arithmetic c.args.scopes.now (plain_sum c.in-Some.field-0.now.1) in
    tests-same c.push_comparison.result c.push_comparison.new.tests c.args.tests.now (Test.Compare (expr_place left) c.relation_comparison-mark.result (arithmetic c.args.scopes.now left) right)
    (test c.args.scopes.now (plain_relation e))
    (ap (λ k. Test.Compare (expr_place left) k (arithmetic c.args.scopes.now left) right) c.relation_comparison-mark.ensures ∙ sym (test-relation c.args.scopes.now e c.in-Some.field-0.now last))
    c.push_comparison.ensures

pub push_sum-returns-then-is_operand : goal.push_sum-returns-then-is_operand
push_sum-returns-then-is_operand t c =
    let s : Sum = c.args.s.now in
    let alone : ((out-Product (out-Sum s).first).more ≡ []) × ((out-Sum s).more ≡ []) = search rules in
    tests-same c.push_unary.result c.push_unary.new.tests c.args.tests.now (test c.args.scopes.now (plain_unary (out-Product (out-Sum s).first).first)) (test c.args.scopes.now (plain_sum s))
    (ap (test c.args.scopes.now) (sym (operand-alone s alone.0 alone.1))) c.push_unary.ensures

pub push_sum-returns-else-is_operand : goal.push_sum-returns-else-is_operand
push_sum-returns-else-is_operand t c =
    let s : Sum = c.args.s.now in
    let more : ¬ (((out-Product (out-Sum s).first).more ≡ []) × ((out-Sum s).more ≡ [])) = search rules in
    tests-same c.push_sum_test.result c.push_sum_test.new.tests c.args.tests.now (not_zero (expr_place (plain_sum s)) (arithmetic c.args.scopes.now (plain_sum s))) (test c.args.scopes.now (plain_sum s))
    (sym (number-sum c.args.scopes.now s more)) c.push_sum_test.ensures

pub push_unary-returns-in_ok-push_unary-in-Not : goal.push_unary-returns-in_ok-push_unary-in-Not
push_unary-returns-in_ok-push_unary-in-Not t c =
    let operand : Unary = c.in-Operator.operand in
    let from : ℕ = c.in-Operator.field-0 in
    let inner : Test = test c.args.scopes.now (plain_unary operand) in
    let whole : test c.args.scopes.now (plain_unary c.args.u.now) ≡ Test.Not inner =
    ap (λ u. test c.args.scopes.now (plain_unary u)) c.in-Operator.is
    ∙ ap (test c.args.scopes.now) (operator_is from c.in-Operator.kind operand)
    ∙ ap (λ k. test c.args.scopes.now (plain.Expr.Prefixed from k (plain_unary operand))) c.in-Not.is in
    on_ok_weaker c.push.result
    (λ is. is
    ∙ ap (λ xs. xs ++ test_operation.Not ∷ [])
    (c.in_ok-push_unary-in-Not.ensures ∙ ap (λ y. c.args.tests.now ++ test_postfix (test c.args.scopes.now (plain_unary y))) c.get.ensures)
    ∙ append_assoc c.args.tests.now (test_postfix inner) (test_operation.Not ∷ [])
    ∙ ap (λ x. c.args.tests.now ++ test_postfix x) (sym whole))
    c.push.ensures.ok

pub push_unary-returns-in-Minus : goal.push_unary-returns-in-Minus
push_unary-returns-in-Minus t c =
    let form : plain_unary c.args.u.now ≡ plain.Expr.Prefixed c.in-Operator.field-0 unary.Minus (plain_unary c.in-Operator.operand) =
    ap plain_unary c.in-Operator.is ∙ operator_is c.in-Operator.field-0 c.in-Operator.kind c.in-Operator.operand ∙ ap (λ k. plain.Expr.Prefixed c.in-Operator.field-0 k (plain_unary c.in-Operator.operand)) c.in-Minus.is in
    tests-same c.push_unary_test.result c.push_unary_test.new.tests c.args.tests.now (not_zero (expr_place (plain_unary c.args.u.now)) (arithmetic c.args.scopes.now (plain_unary c.args.u.now))) (test c.args.scopes.now (plain_unary c.args.u.now))
    (sym (subst (IsNumberTest c.args.scopes.now) (sym form) refl)) c.push_unary_test.ensures

pub push_unary-returns-in-Plus : goal.push_unary-returns-in-Plus
push_unary-returns-in-Plus t c =
    let form : plain_unary c.args.u.now ≡ plain.Expr.Prefixed c.in-Operator.field-0 unary.Plus (plain_unary c.in-Operator.operand) =
    ap plain_unary c.in-Operator.is ∙ operator_is c.in-Operator.field-0 c.in-Operator.kind c.in-Operator.operand ∙ ap (λ k. plain.Expr.Prefixed c.in-Operator.field-0 k (plain_unary c.in-Operator.operand)) c.in-Plus.is in
    tests-same c.push_unary_test-in-Plus.result c.push_unary_test-in-Plus.new.tests c.args.tests.now (not_zero (expr_place (plain_unary c.args.u.now)) (arithmetic c.args.scopes.now (plain_unary c.args.u.now))) (test c.args.scopes.now (plain_unary c.args.u.now))
    (sym (subst (IsNumberTest c.args.scopes.now) (sym form) refl)) c.push_unary_test-in-Plus.ensures

pub push_unary-returns-in-Number : goal.push_unary-returns-in-Number
push_unary-returns-in-Number t c =
    let form : plain_unary c.args.u.now ≡ plain.Expr.Number c.in-Number.field-0 c.in-Number.field-1 = ap plain_unary c.in-Number.is ∙ number_is c.in-Number.field-0 c.in-Number.field-1 in
    tests-same c.push_unary_test-in-Number.result c.push_unary_test-in-Number.new.tests c.args.tests.now (not_zero (expr_place (plain_unary c.args.u.now)) (arithmetic c.args.scopes.now (plain_unary c.args.u.now))) (test c.args.scopes.now (plain_unary c.args.u.now))
    (sym (subst (IsNumberTest c.args.scopes.now) (sym form) refl)) c.push_unary_test-in-Number.ensures

pub push_unary-returns-in-Name : goal.push_unary-returns-in-Name
push_unary-returns-in-Name t c =
    let form : plain_unary c.args.u.now ≡ plain.Expr.Named c.in-Name.field-0 = ap plain_unary c.in-Name.is ∙ name_is c.in-Name.field-0 in
    tests-same c.push_unary_test-in-Name.result c.push_unary_test-in-Name.new.tests c.args.tests.now (not_zero (expr_place (plain_unary c.args.u.now)) (arithmetic c.args.scopes.now (plain_unary c.args.u.now))) (test c.args.scopes.now (plain_unary c.args.u.now))
    (sym (subst (IsNumberTest c.args.scopes.now) (sym form) refl)) c.push_unary_test-in-Name.ensures

pub push_unary-returns-in-Paren : goal.push_unary-returns-in-Paren
push_unary-returns-in-Paren t c =
    tests-same c.push_expr.result c.push_expr.new.tests c.args.tests.now (test c.args.scopes.now (plain_expr c.get-in-Paren.result.now)) (test c.args.scopes.now (plain_unary c.args.u.now))
    (ap (λ y. test c.args.scopes.now (plain_expr y)) c.get-in-Paren.ensures
    ∙ ap (test c.args.scopes.now) (sym (ap plain_unary c.in-Paren.is ∙ paren_is c.in-Paren.field-0 c.in-Paren.inner)))
    c.push_expr.ensures
