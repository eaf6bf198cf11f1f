use Rattle.pending_instances.proofs.Opening.{stays_for}
use Rattle.pending_instances.proofs.laws.cursors_stay_for_their_program.Goals as goal

pub returns : goal.returns
returns c = stays_for
