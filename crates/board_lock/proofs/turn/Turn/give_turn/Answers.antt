use Rattle.std.proofs.Common.{rules}
use Rattle.board_lock.proofs.Steps.{gives_back}
use Rattle.board_lock.proofs.turn.Turn.give_turn.Goals as goal

pub store-requires : goal.store-requires
store-requires g c = (search rules, search rules, gives_back g.M.Recorded.history _ _ _ _ c.args.held.value (search rules) (search rules) (search rules) (search rules) (search rules))
