use Rattle.farkas_cert.proofs.Orders.{renumbered-refutes, renumbered-sum, renumbered-reduced}
use Rattle.farkas_cert.proofs.laws.refutes_in_any_order.Goals as goal

pub returns-clause-refutes : goal.returns-clause-refutes
returns-clause-refutes c = renumbered-refutes

pub returns-clause-sums : goal.returns-clause-sums
returns-clause-sums c = λ rows others order pairs o in_order. renumbered-sum rows others order 0 pairs o in_order

pub returns-clause-reduced : goal.returns-clause-reduced
returns-clause-reduced c = renumbered-reduced
