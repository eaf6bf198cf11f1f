use Rattle.horn_rules.proofs.Targets.{cases-have-their-target, targets-have-cases}
use Rattle.horn_rules.proofs.laws.targets_are_by_homes.Goals as goal

pub returns-clause-targets : goal.returns-clause-targets
returns-clause-targets c = cases-have-their-target

pub returns-clause-cases : goal.returns-clause-cases
returns-clause-cases c = targets-have-cases
