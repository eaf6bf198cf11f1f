use Rattle.core_steps.proofs.Reserve.{histories-short}
use Rattle.core_steps.proofs.laws.histories_are_short.Goals as goal

pub returns : goal.returns
returns c = histories-short
