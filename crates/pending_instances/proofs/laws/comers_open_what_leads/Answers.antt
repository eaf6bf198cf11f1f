use Rattle.pending_instances.proofs.Opening.{comers_open}
use Rattle.pending_instances.proofs.laws.comers_open_what_leads.Goals as goal

pub returns : goal.returns
returns c = comers_open c.stored_values_tell_what_they_stand_for.ensures.homes
