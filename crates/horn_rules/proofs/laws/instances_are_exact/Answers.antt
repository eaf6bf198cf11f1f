use Rattle.horn_rules.proofs.InstancesExact.{instances-exact}
use Rattle.horn_rules.proofs.laws.instances_are_exact.Goals as goal

pub returns : goal.returns
returns c = instances-exact
