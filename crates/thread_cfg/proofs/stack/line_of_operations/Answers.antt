use Rattle.std.proofs.Common.{◌≡◌, ◌+◌, ◌∷◌, ◌++◌, [], pos, Some, option_map, drop, get_or, drop-cons, add-one, ap, subst, sym, ◌∙◌, rules}
use Rattle.std.specs.List.{AllByRecursion}
use Rattle.c_check.specs.declared.operation.Operation.TheVariants as operation
use Rattle.transition_formula.specs.Stored.{form_of}
use Rattle.thread_cfg.specs.inside.Machine.{OperationWithin, next_temporary, on_top, relabelled, replaced, stack_after, stack_behind, stack_of}
use Rattle.thread_cfg.specs.inside.Meant.{frame_of}
use Rattle.thread_cfg.proofs.StackLemmas.{stack_of-append, stack_after-over, relabelled-next, stack_behind-next}
use Rattle.thread_cfg.proofs.stack.line_of_operations.Goals as goal

pub operations-preserved : goal.operations-preserved
operations-preserved c =
    let n = c.args.columns in
    let frame = frame_of c.args.frame.now in
    let i = c.operations.operation-index in
    let o = get_or c.args.operations.now i (operation.Number (pos 0)) in
    let next = c.operations.next in
    let stack = stack_of c.operations.stack.items in
    let rest = drop (i + 1) c.args.operations.now in
    let front : drop i c.args.operations.now ≡ o ∷ rest =
    drop-cons c.args.operations.now i (operation.Number (pos 0)) c.operations-test.true ∙ ap (λ k. o ∷ drop k c.args.operations.now) (sym (add-one i)) in
    let after : c.next_temporary-next.result ≡ next_temporary next o = search rules in
    let pushed : c.push.new.self.items ≡ c.line_after.new.stack.items ++ c.in-Some.line ∷ [] = search rules in
    let more = stack_of c.push.new.self.items in
    let top : form_of c.in-Some.line ∷ stack_of c.line_after.new.stack.items ≡ more =
    sym (ap stack_of pushed ∙ stack_of-append c.line_after.new.stack.items c.in-Some.line) in
    let made : Some more ≡ stack_after n frame stack (replaced next o) =
    ap Some (sym top) ∙ ap (λ l. on_top (stack_of c.line_after.new.stack.items) (option_map form_of l)) (sym c.in-Some.is) ∙ c.in_ok-made.ensures
    ∙ ap (stack_after n frame stack) c.over_temporary-here.ensures in
    let within = relabelled-next (OperationWithin n frame) next (drop i c.args.operations.now) rest o front c.operations.invariant.within in
    record {
      over = stack_after-over n frame stack more (replaced next o) (sym made) c.operations.invariant.over;
      within = subst (λ t. AllByRecursion (OperationWithin n frame) (relabelled t rest)) (sym after) within.1;
      left = ap (λ t. stack_behind n frame (relabelled t rest) more) after
          ∙ stack_behind-next n frame next (drop i c.args.operations.now) rest o stack more _ front made c.operations.invariant.left;
    }
