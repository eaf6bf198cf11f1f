use Rattle.std.proofs.Common.{◌≡◌}
use Rattle.board_lock.proofs.turn.wait_for_turn.Given as goal

abbrev pub invariant-loop : goal.invariant-loop
invariant-loop g l = record { table : l.place.table_id ≡ l.initial.place.table_id; me : l.place.me ≡ l.initial.place.me }
