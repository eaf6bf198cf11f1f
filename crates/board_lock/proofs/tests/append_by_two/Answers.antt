use Rattle.std.proofs.Common.{rules}
use Rattle.board_lock.proofs.Appended.{both_there}
use Rattle.board_lock.proofs.tests.append_by_two.Goals as goal

pub returns : goal.returns
returns g c =
    let one = c.in_ok-one.field-0.seen in
    let other = c.in_ok-other.field-0.seen in
    both_there c.args.count one other c.join-seat.result.seen c.close.result.numbers.items c.join-seat.ensures.one c.join-seat.ensures.other c.close.ensures (search rules) (search rules)
