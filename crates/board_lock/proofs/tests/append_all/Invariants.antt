use Rattle.std.proofs.Common.{◌≡◌, ℕ, ◌<◌, ◌≤◌}
use Rattle.std.specs.List.{Contains}
use Rattle.board_lock.proofs.tests.append_all.Given as goal

abbrev pub invariant-loop-number : goal.invariant-loop-number
invariant-loop-number g l = record {
  board : l.seat.board ≡ l.fn.turn;
  has : (n : ℕ) → l.fn.from ≤ n → n < l.number → Contains l.seat.seen n;
}
