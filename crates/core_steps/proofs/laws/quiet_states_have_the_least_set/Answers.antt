use Rattle.core_steps.proofs.Histories.{quiet-least}
use Rattle.core_steps.proofs.Safe.{quiet-covers, clear-safe}
use Rattle.core_steps.proofs.laws.quiet_states_have_the_least_set.Goals as goal

pub returns-clause-least : goal.returns-clause-least
returns-clause-least c = quiet-least

pub returns-clause-covers : goal.returns-clause-covers
returns-clause-covers c = quiet-covers

pub returns-clause-safe : goal.returns-clause-safe
returns-clause-safe c = clear-safe
