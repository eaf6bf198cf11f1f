use Rattle.std.proofs.Common.{◌≡◌}
use Rattle.withdraw.specs.Withdrawal.{IsWithdrawn}
use Rattle.withdraw.specs.inside.Stage.{IsStage}
use Rattle.withdraw.proofs.withdrawal.withdraw.Given as goal

abbrev pub invariant-loop-place : goal.invariant-loop-place
invariant-loop-place l = record {
  stage : IsStage (IsWithdrawn l.homes l.fn.table.live) l.place l.fn.table.live l.table.live;
  same : l.table ≡ record l.fn.table { live = l.table.live };
}
