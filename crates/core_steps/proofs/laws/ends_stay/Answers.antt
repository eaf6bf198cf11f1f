use Rattle.core_steps.proofs.Endings.{ends-stay}
use Rattle.core_steps.proofs.laws.ends_stay.Goals as goal

pub returns : goal.returns
returns c = ends-stay
