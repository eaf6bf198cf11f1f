use Rattle.std.proofs.Common.{◌≡◌, ◌-◌, ◌++◌}
use Rattle.c_check.specs.Columns.{temporary_columns}
use Rattle.c_check.proofs.columns.push_temporaries.Given as goal

abbrev pub invariant-loop-earlier : goal.invariant-loop-earlier
invariant-loop-earlier l = l.columns.items ++ temporary_columns l.i l.earlier (l.count - l.earlier) ≡ l.fn.columns.items ++ temporary_columns l.i 0 l.count
