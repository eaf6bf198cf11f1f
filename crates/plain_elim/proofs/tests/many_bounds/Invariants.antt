use Rattle.std.proofs.Common.{◌≡◌, ◌+◌, length}
use Rattle.plain_elim.proofs.tests.many_bounds.Given as goal

abbrev pub invariant-rows : goal.invariant-rows
invariant-rows l = (l.rows.columns ≡ 1) × (length l.rows.rows ≡ l.pushed + 2)
