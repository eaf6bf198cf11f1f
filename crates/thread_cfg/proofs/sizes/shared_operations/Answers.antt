use Rattle.std.proofs.Common.{◌+◌, take, if◌then◌else◌, arith, ap, sym, ◌∙◌}
use Rattle.std.proofs.Math.Nat.{add-zero}
use Rattle.thread_cfg.specs.inside.Sizes.{shared_operations}
use Rattle.thread_cfg.proofs.SizeLemmas.{shared_operations-next}
use Rattle.thread_cfg.proofs.sizes.shared_operations.Goals as goal
use Rattle.thread_cfg.proofs.sizes.shared_operations.Goals.{then-is_shared, else-is_shared}

pub loop-operation-preserved : goal.loop-operation-preserved
loop-operation-preserved c =
    elim c.if-is_shared.branch [
      | then-is_shared w ↦ record {
        counted = w.count-is ∙ ap (λ n. n + 1) c.loop-operation.invariant.counted
            ∙ ap (λ t. shared_operations (take c.loop-operation.operation-index c.args.operations.now) + (if t then 1 else 0)) (sym w.if-is_shared.true ∙ c.is_shared.ensures)
            ∙ sym (shared_operations-next c.args.operations.now c.loop-operation.operation-index _ c.loop-operation-test.true);
        low = omega (arith, w.count-is);
      }
      | else-is_shared w ↦ record {
        counted = w.count-is ∙ c.loop-operation.invariant.counted ∙ sym (add-zero (shared_operations (take c.loop-operation.operation-index c.args.operations.now)))
            ∙ ap (λ t. shared_operations (take c.loop-operation.operation-index c.args.operations.now) + (if t then 1 else 0)) (sym w.if-is_shared.false ∙ c.is_shared.ensures)
            ∙ sym (shared_operations-next c.args.operations.now c.loop-operation.operation-index _ c.loop-operation-test.true);
        low = omega (arith, w.count-is);
      }
    ]
