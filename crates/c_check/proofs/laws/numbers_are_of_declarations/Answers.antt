use Rattle.c_check.proofs.Numbered.{numbers_of_declarations}
use Rattle.c_check.proofs.laws.numbers_are_of_declarations.Goals as goal

pub returns : goal.returns
returns c = numbers_of_declarations
