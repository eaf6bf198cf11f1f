use Rattle.horn_rules.proofs.Derivations.{least-closed, given-least, least-smallest}
use Rattle.horn_rules.proofs.laws.the_least_set_is_closed.Goals as goal

pub returns-clause-closed : goal.returns-clause-closed
returns-clause-closed c = least-closed

pub returns-clause-gives : goal.returns-clause-gives
returns-clause-gives c = given-least

pub returns-clause-smallest : goal.returns-clause-smallest
returns-clause-smallest c = least-smallest
