use Rattle.std.proofs.Common.{◌≡◌, ◌≤◌, ◌+◌, ◌++◌, length, drop}
use Rattle.thr_base.specs.Limits.{most_columns}
use Rattle.c_check.specs.Columns.{own_columns_from, threads_from}
use Rattle.c_check.proofs.columns.threads.Given as goal

abbrev pub invariant-loop-function : goal.invariant-loop-function
invariant-loop-function l = record {
  few : l.first + length (own_columns_from l.owns (l.function-index + 1) (drop l.function-index l.created)) ≤ most_columns;
  made : l.threads.items ++ threads_from l.owns l.first (drop l.function-index l.created) ≡ threads_from l.owns l.fn.first l.created;
}
