use Rattle.horn_rules.proofs.OtherSteps.{told-steps-described}
use Rattle.horn_rules.proofs.laws.told_steps_are_described.Goals as goal

pub returns : goal.returns
returns c = told-steps-described
