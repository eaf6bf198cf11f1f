use Rattle.std.proofs.Common.{◌≡◌, ◌≤◌, ◌+◌, ◌-◌, ◌^◌, min, length, drop}
use Rattle.c_check.specs.Columns.{own_columns_from}
use Rattle.c_check.proofs.columns.count_columns.Given as goal

abbrev pub invariant-loop-function : goal.invariant-loop-function
invariant-loop-function l = record {
  small : l.count ≤ 2 ^ 64 - 1;
  counted : min (l.count + length (own_columns_from l.owns (l.function-index + 1) (drop l.function-index l.created))) (2 ^ 64 - 1)
      ≡ min (l.shared + (length (own_columns_from l.owns 1 l.created) + length l.created)) (2 ^ 64 - 1);
}
