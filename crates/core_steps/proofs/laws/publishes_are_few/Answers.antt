use Rattle.core_steps.proofs.Reserve.{publishes-few}
use Rattle.core_steps.proofs.laws.publishes_are_few.Goals as goal

pub returns : goal.returns
returns c = publishes-few
