use Rattle.c_check.proofs.PlanLemmas.{plans-well_formed}
use Rattle.c_check.proofs.laws.accepted_plans_are_well_formed.Goals as goal

pub returns : goal.returns
returns c = plans-well_formed
