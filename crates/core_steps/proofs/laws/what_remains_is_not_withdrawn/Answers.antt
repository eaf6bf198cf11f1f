use Rattle.core_steps.proofs.Withdrawals.{remaining-withdrawn}
use Rattle.core_steps.proofs.laws.what_remains_is_not_withdrawn.Goals as goal

pub returns : goal.returns
returns c = remaining-withdrawn
