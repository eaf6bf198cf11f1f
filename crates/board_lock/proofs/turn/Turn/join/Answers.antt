use Rattle.std.proofs.Common.{rules}
use Rattle.board_lock.proofs.Kept.{at_rest}
use Rattle.board_lock.proofs.Steps.{joins, compares}
use Rattle.board_lock.proofs.turn.Turn.join.Goals as goal

pub join_seat-requires : goal.join_seat-requires
join_seat-requires g c = (
  search rules,
  search rules,
  search rules,
  search rules,
  joins g.M.Recorded.history _ _ _ _ (at_rest c.one.inside.badge.views c.into_seat-place.result.me.0 c.one.invariant (search rules)) (at_rest c.other.inside.badge.views c.into_seat.result.me.0 c.other.invariant (search rules)),
)

pub load-requires : goal.load-requires
load-requires g c = (search rules, search rules, compares g.M.Recorded.history _ _ _)
