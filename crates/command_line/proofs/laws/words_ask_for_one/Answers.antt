use Rattle.command_line.proofs.One.{one_request}
use Rattle.command_line.proofs.laws.words_ask_for_one.Goals as goal

pub returns : goal.returns
returns c = one_request
