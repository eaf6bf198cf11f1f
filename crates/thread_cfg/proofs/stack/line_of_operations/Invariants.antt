use Rattle.std.proofs.Common.{◌≡◌, [], drop}
use Rattle.std.specs.List.{AllByRecursion}
use Rattle.transition_formula.specs.Program.{IsFormOver}
use Rattle.thread_cfg.specs.inside.Machine.{OperationWithin, relabelled, stack_behind, stack_of}
use Rattle.thread_cfg.specs.inside.Meant.{frame_of}
use Rattle.thread_cfg.proofs.stack.line_of_operations.Given as goal

-- the operations that are left, behind what is on the stack, leave what all of them leave
abbrev pub invariant-operations : goal.invariant-operations
invariant-operations l = record {
  over : AllByRecursion (IsFormOver l.columns) (stack_of l.stack.items);
  within : AllByRecursion (OperationWithin l.columns (frame_of l.frame)) (relabelled l.next (drop l.operation-index l.operations));
  left : stack_behind l.columns (frame_of l.frame) (relabelled l.next (drop l.operation-index l.operations)) (stack_of l.stack.items)
      ≡ stack_behind l.columns (frame_of l.frame) (relabelled l.fn.first_temporary l.operations) [];
}
