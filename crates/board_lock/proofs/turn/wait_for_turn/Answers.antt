use Rattle.std.proofs.Common.{rules}
use Rattle.board_lock.specs.inside.Steps.{Takes}
use Rattle.board_lock.proofs.Steps.{tries, took, took_slot}
use Rattle.board_lock.proofs.turn.wait_for_turn.Goals as goal

pub compare_exchange-found-requires : goal.compare_exchange-found-requires
compare_exchange-found-requires g c = (search rules, search rules, tries g.M.Recorded.history _ _ _ _ (search rules) (search rules))

pub exchange-requires : goal.exchange-requires
exchange-requires g c =
    let before = c.loop.place.me in
    let after = c.compare_exchange-found.new.seat.me in
    let won : Takes g.M.Recorded.history before after =
    took g.M.Recorded.history c.args.shared.now.table_id.slots c.peek-word.result c.compare_exchange-found.result before after c.compare_exchange-found.ensures.2 (search rules) in
    (search rules, took_slot g.M.Recorded.history before after won)
