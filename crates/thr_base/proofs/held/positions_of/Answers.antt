use Rattle.std.proofs.Common.{arith}
use Rattle.thr_base.proofs.Positions.{positions-start, positions-next}
use Rattle.thr_base.proofs.held.positions_of.Goals as goal

pub positions-init : goal.positions-init
positions-init c = (positions-start c.args.held _ c.new-list.ensures.items, omega arith)

pub positions-preserved : goal.positions-preserved
positions-preserved c =
    (positions-next c.args.held _ _ c.positions.position c.positions-test.true c.in_ok-push_if_held.ensures c.positions.invariant.0, omega arith)
