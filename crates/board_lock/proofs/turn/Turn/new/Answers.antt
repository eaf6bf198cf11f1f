use Rattle.std.proofs.Common.{rules}
use Rattle.board_lock.proofs.Steps.{opens}
use Rattle.board_lock.proofs.turn.Turn.new.Goals as goal

pub new-made-requires : goal.new-made-requires
new-made-requires g c = rw (c.push_reserved.ensures.items, c.in_ok-slots.ensures.items, c.of-about.ensures) (opens g.M.Recorded.history c.args.value _ (search rules))
