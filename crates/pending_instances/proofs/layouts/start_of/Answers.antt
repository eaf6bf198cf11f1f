use Rattle.pending_instances.proofs.Starts.{start_home}
use Rattle.pending_instances.proofs.layouts.start_of.Goals as goal

pub number-home-requires : goal.number-home-requires
number-home-requires c = start_home c.locations_and_edges_are_homes.ensures.locations c.args.program.now c.args.thread.0 c.threads-threads.ensures.program c.requires
