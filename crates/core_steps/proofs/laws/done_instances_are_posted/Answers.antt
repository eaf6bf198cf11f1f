use Rattle.core_steps.proofs.Histories.{instances-posted}
use Rattle.core_steps.proofs.laws.done_instances_are_posted.Goals as goal

pub returns : goal.returns
returns c = instances-posted
