use Rattle.std.proofs.Common.{◌≡◌, ◌+◌, ◌++◌, drop}
use Rattle.c_check.specs.Columns.{own_columns_from}
use Rattle.c_check.proofs.columns.push_threads.Given as goal

abbrev pub invariant-loop-function : goal.invariant-loop-function
invariant-loop-function l = record {
  number : l.i ≡ l.function-index + 1;
  made : l.columns.items ++ own_columns_from l.owns l.i (drop l.function-index l.created) ≡ l.fn.columns.items ++ own_columns_from l.owns 1 l.created;
}
