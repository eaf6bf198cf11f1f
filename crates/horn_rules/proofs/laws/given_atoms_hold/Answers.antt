use Rattle.horn_rules.proofs.GivenAtoms.{given-atoms-hold}
use Rattle.horn_rules.proofs.laws.given_atoms_hold.Goals as goal

pub returns : goal.returns
returns c = given-atoms-hold
