use Rattle.horn_rules.proofs.GivenAtoms.{facts-given}
use Rattle.horn_rules.proofs.laws.facts_are_given.Goals as goal

pub returns : goal.returns
returns c = facts-given
