use Rattle.std.proofs.Common.{◌≡◌}
use Rattle.instance_cursors.specs.Cursors.{edge_cursors}
use Rattle.instance_cursors.proofs.moving.edge_cursors.Given as goal

abbrev pub invariant-loop-edge : goal.invariant-loop-edge
invariant-loop-edge l = l.cursors.items ≡ edge_cursors l.edge
