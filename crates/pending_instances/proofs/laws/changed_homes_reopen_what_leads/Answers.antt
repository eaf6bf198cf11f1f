use Rattle.pending_instances.proofs.Opening.{changes_reopen}
use Rattle.pending_instances.proofs.laws.changed_homes_reopen_what_leads.Goals as goal

pub returns : goal.returns
returns c = changes_reopen c.stored_values_tell_what_they_stand_for.ensures.homes
