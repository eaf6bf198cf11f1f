use Rattle.horn_rules.proofs.PremiseHomes.{premises-have-homes}
use Rattle.horn_rules.proofs.laws.premises_have_homes.Goals as goal

pub returns : goal.returns
returns c = premises-have-homes
