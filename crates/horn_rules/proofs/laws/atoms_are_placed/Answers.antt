use Rattle.horn_rules.proofs.Cases.{atoms-placed}
use Rattle.horn_rules.proofs.laws.atoms_are_placed.Goals as goal

pub returns : goal.returns
returns c = atoms-placed
