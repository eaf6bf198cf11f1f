use Rattle.pending_instances.proofs.Opening.{turns_lead}
use Rattle.pending_instances.proofs.laws.turns_are_instances_that_lead.Goals as goal

pub returns : goal.returns
returns c = turns_lead c.stored_values_tell_what_they_stand_for.ensures.homes
