use Rattle.std.proofs.Common.{◌≡◌, ◌-◌, ◌≤◌, ◌++◌, filter}
use Rattle.std.specs.List.{range_with_len}
use Rattle.thr_base.specs.Held.{holds, positions}
use Rattle.thr_base.proofs.held.positions_of.Given as goal

abbrev pub invariant-positions : goal.invariant-positions
invariant-positions l =
    (l.list.items ++ filter (holds l.held) (range_with_len l.position (129 - l.position)) ≡ positions l.held) × (1 ≤ l.position)
