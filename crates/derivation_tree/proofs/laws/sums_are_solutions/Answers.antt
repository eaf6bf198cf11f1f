use Rattle.derivation_tree.proofs.SumLaws.{sums-are-solutions, cut-sums-are-modular}
use Rattle.derivation_tree.proofs.laws.sums_are_solutions.Goals as goal

pub returns-clause-full : goal.returns-clause-full
returns-clause-full c = sums-are-solutions

pub returns-clause-cut : goal.returns-clause-cut
returns-clause-cut c = cut-sums-are-modular
