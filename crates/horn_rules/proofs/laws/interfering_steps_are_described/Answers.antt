use Rattle.horn_rules.proofs.OtherSteps.{interfering-steps-described}
use Rattle.horn_rules.proofs.laws.interfering_steps_are_described.Goals as goal

pub returns : goal.returns
returns c = interfering-steps-described
