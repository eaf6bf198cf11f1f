use Rattle.horn_rules.proofs.OwnSteps.{starts-described}
use Rattle.horn_rules.proofs.laws.starts_are_described.Goals as goal

pub returns : goal.returns
returns c = starts-described
