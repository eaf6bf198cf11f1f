use Rattle.derivation_tree.proofs.SumLaws.{modular-lessons, full-lessons}
use Rattle.derivation_tree.proofs.laws.lessons_are_of_solutions.Goals as goal

pub returns-clause-modular : goal.returns-clause-modular
returns-clause-modular c = modular-lessons

pub returns-clause-full : goal.returns-clause-full
returns-clause-full c = full-lessons
