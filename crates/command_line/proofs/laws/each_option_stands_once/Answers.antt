use Rattle.command_line.proofs.StandsOnce.{given_by-said}
use Rattle.command_line.proofs.AllIsGiven.{said-given_by}
use Rattle.command_line.proofs.laws.each_option_stands_once.Goals as goal

pub returns : goal.returns
returns c = λ words given. (given_by-said words given, said-given_by words given)
