use Rattle.core_steps.proofs.LeastLaw.{stops-tell}
use Rattle.core_steps.proofs.bounds.stops_tell_of_the_least_set.Goals as goal

pub returns : goal.returns
returns c = stops-tell
