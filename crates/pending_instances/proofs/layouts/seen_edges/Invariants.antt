use Rattle.pending_instances.proofs.Edges.{AreEdgesUpTo}
use Rattle.pending_instances.proofs.layouts.seen_edges.Given as goal

abbrev pub invariant-loop-place : goal.invariant-loop-place
invariant-loop-place l = AreEdgesUpTo l.program l.place l.made.items
