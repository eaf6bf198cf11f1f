use Rattle.horn_rules.proofs.OwnSteps.{own-steps-told}
use Rattle.horn_rules.proofs.laws.own_steps_are_told.Goals as goal

pub returns : goal.returns
returns c = own-steps-told
