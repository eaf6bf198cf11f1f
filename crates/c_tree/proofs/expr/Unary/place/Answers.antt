use Rattle.std.proofs.Common.{rules}
use Rattle.c_tree.proofs.View.{operator_is, paren_is, number_is, name_is}
use Rattle.c_tree.proofs.expr.Unary.place.Goals as goal

pub returns-in-Operator : goal.returns-in-Operator
returns-in-Operator c = rw (c.in-Operator.is, operator_is _ _ _) (search rules)

pub returns-in-Paren : goal.returns-in-Paren
returns-in-Paren c = rw (c.in-Paren.is, paren_is _ _) (search rules)

pub returns-in-Number : goal.returns-in-Number
returns-in-Number c = rw (c.in-Number.is, number_is _ _) (search rules)

pub returns-in-Name : goal.returns-in-Name
returns-in-Name c = rw (c.in-Name.is, name_is _) (search rules)
