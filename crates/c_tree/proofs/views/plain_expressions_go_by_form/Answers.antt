use Rattle.c_tree.proofs.View.{operator_is, paren_is, number_is, name_is, product_out, sum_out, relation_out, equality_out, conjunction_out, expr_out}
use Rattle.c_tree.proofs.views.plain_expressions_go_by_form.Goals as goal

pub returns-clause-operator : goal.returns-clause-operator
returns-clause-operator c = operator_is

pub returns-clause-paren : goal.returns-clause-paren
returns-clause-paren c = paren_is

pub returns-clause-number : goal.returns-clause-number
returns-clause-number c = number_is

pub returns-clause-name : goal.returns-clause-name
returns-clause-name c = name_is

pub returns-clause-product : goal.returns-clause-product
returns-clause-product c = product_out

pub returns-clause-sum : goal.returns-clause-sum
returns-clause-sum c = sum_out

pub returns-clause-relation : goal.returns-clause-relation
returns-clause-relation c = relation_out

pub returns-clause-equality : goal.returns-clause-equality
returns-clause-equality c = equality_out

pub returns-clause-conjunction : goal.returns-clause-conjunction
returns-clause-conjunction c = conjunction_out

pub returns-clause-expr : goal.returns-clause-expr
returns-clause-expr c = expr_out
