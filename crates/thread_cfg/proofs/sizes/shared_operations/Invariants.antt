use Rattle.std.proofs.Common.{◌≡◌, ◌≤◌, take}
use Rattle.thread_cfg.specs.inside.Sizes.{shared_operations}
use Rattle.thread_cfg.proofs.sizes.shared_operations.Given as goal

abbrev pub invariant-loop-operation : goal.invariant-loop-operation
invariant-loop-operation l = record { counted : l.count ≡ shared_operations (take l.operation-index l.operations); low : l.count ≤ l.operation-index }
