use Rattle.pending_instances.proofs.Opening.{begun_lead}
use Rattle.pending_instances.proofs.laws.begun_cursors_have_what_leads.Goals as goal

pub returns : goal.returns
returns c = begun_lead c.stored_values_tell_what_they_stand_for.ensures.homes
