use Rattle.pending_instances.proofs.Starts.{AreStartsUpTo}
use Rattle.pending_instances.proofs.layouts.starts_of.Given as goal

abbrev pub invariant-loop-place : goal.invariant-loop-place
invariant-loop-place l = AreStartsUpTo l.program l.place l.starts.items
