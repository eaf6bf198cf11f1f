use Rattle.std.proofs.Common.{rules}
use Rattle.board_lock.proofs.Appended.{next_there}
use Rattle.board_lock.proofs.tests.append_all.Goals as goal

pub loop-number-preserved : goal.loop-number-preserved
loop-number-preserved g c = record {
  board = search rules;
  has = next_there c.args.from c.loop-number.number c.loop-number.seat.seen c.in_ok-seat.seat.seen c.in_ok-seat.ensures.begins c.loop-number.invariant.has c.in_ok-seat.ensures.has;
}
