use Rattle.horn_rules.proofs.OwnSteps.{own-steps-described}
use Rattle.horn_rules.proofs.laws.own_steps_are_described.Goals as goal

pub returns : goal.returns
returns c = own-steps-described
