use Rattle.std.proofs.Common.{◌≡◌, ◌++◌, [], take, drop}
use Rattle.c_check.specs.Columns.{local_columns}
use Rattle.c_check.proofs.columns.push_locals.Given as goal

abbrev pub invariant-loop-at : goal.invariant-loop-at
invariant-loop-at l = l.columns.items ++ local_columns l.i (take l.at l.locals) (drop l.at l.locals) ≡ l.fn.columns.items ++ local_columns l.i [] l.locals
