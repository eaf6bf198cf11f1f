use Rattle.std.proofs.Common.{rules}
use Rattle.board_lock.proofs.Kept.{at_rest}
use Rattle.board_lock.proofs.Steps.{splits}
use Rattle.board_lock.proofs.turn.Turn.split.Goals as goal

pub split_seat-other-requires : goal.split_seat-other-requires
split_seat-other-requires g c = (search rules, search rules, splits g.M.Recorded.history _ _ (at_rest c.seat.inside.badge.views c.into_seat-place.result.me.0 c.seat.invariant (search rules)))
