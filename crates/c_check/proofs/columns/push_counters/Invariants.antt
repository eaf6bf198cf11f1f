use Rattle.std.proofs.Common.{◌≡◌, ◌+◌, ◌++◌, drop}
use Rattle.c_check.specs.Columns.{counters_from}
use Rattle.c_check.proofs.columns.push_counters.Given as goal

abbrev pub invariant-loop-function : goal.invariant-loop-function
invariant-loop-function l = record {
  number : l.i ≡ l._function-index + 1;
  made : l.columns.items ++ counters_from l.i (drop l._function-index l.created) ≡ l.fn.columns.items ++ counters_from 1 l.created;
}
