use Rattle.pending_instances.proofs.Edges.{edges_apart}
use Rattle.pending_instances.proofs.layouts.layout_of.Goals as goal

pub new-requires-clause-apart : goal.new-requires-clause-apart
new-requires-clause-apart c = edges_apart c.stored_values_tell_what_they_stand_for.ensures.homes c.args.program.now c.in_ok-edges.edges.items c.in_ok-edges.ensures.edges
