use Rattle.std.proofs.Common.{◌≡◌, ◌+◌, ◌≤◌}
use Rattle.fact_table.specs.Live.{NoneIsMarked}
use Rattle.fact_table.proofs.tests.fill.Given as goal

abbrev pub invariant-loop-n : goal.invariant-loop-n
invariant-loop-n l = record { homes : l.table.homes ≡ 8; unmarked : NoneIsMarked l.table.live; ids : l.table.given ≤ l.fn.table.given + l.n }
