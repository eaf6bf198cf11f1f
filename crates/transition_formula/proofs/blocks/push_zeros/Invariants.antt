use Rattle.std.proofs.Common.{◌≡◌, ◌++◌}
use Rattle.transition_formula.specs.Rows.{zeros}
use Rattle.transition_formula.proofs.blocks.push_zeros.Given as goal

abbrev pub invariant-zeros : goal.invariant-zeros
invariant-zeros l = l.row.items ≡ l.initial.row.items ++ zeros l.counter
