-- The thread that is asked for is one of the plan, and runs one of its functions.
use Rattle.std.proofs.Common.{◌≡◌, ◌<◌, ◌-◌, length, IfOk, sym, ap, subst, arith, slice_index_or, ◌∙◌}
use Rattle.std.proofs.lemmas.Result.{IfOk-weaker}
use Rattle.c_tree.specs.Seen.{plain_tree}
use Rattle.c_check.specs.Check.{stored_function}
use Rattle.c_check.specs.declared.plan.Thread.{Thread}
use Rattle.thread_cfg.specs.Places.{ArePlacesOf, location_places}
use Rattle.thread_cfg.proofs.LocatedLemmas.{located, places-are}
use Rattle.thread_cfg.proofs.Steps.{index-get}
use Rattle.thread_cfg.proofs.located.location_places.Goals as goal

bounds : (c : goal.After-as_slice-2) → (slice_index_or c.as_slice.result.now (c.args.thread.0 - 1) (record { function = 0; first = 0 })).function < length c.as_slice-2.result.now
bounds c =
    let l = located c.requires.of_text.0 c.requires.of_text.1 c.args.plan.now c.args.thread.0 c.requires.of_text.2 c.requires.there.0 c.requires.there.1 in
    let found = ap (λ ts. slice_index_or ts (c.args.thread.0 - 1) (record { function = 0; first = 0 })) c.as_slice.ensures
    ∙ index-get c.args.plan.now.threads (c.args.thread.0 - 1) l.thread (record { function = 0; first = 0 }) l.thread_is in
    subst (λ fs. (slice_index_or c.as_slice.result.now (c.args.thread.0 - 1) (record { function = 0; first = 0 })).function < length fs) (sym c.as_slice-2.ensures)
    (subst (λ (t : Thread). t.function < length c.args.plan.now.functions) (sym found) l.step.function_in)

pub offset_bounds-as_slice-running : goal.offset_bounds-as_slice-running
offset_bounds-as_slice-running c = omega (arith, bounds c, c.as_slice-2.type_inv.1)

pub bounds-as_slice-running : goal.bounds-as_slice-running
bounds-as_slice-running c = bounds c

pub returns : goal.returns
returns c = λ text tree is.
    let l = located text tree c.args.plan.now c.args.thread.0 is c.requires.there.0 c.requires.there.1 in
    let found = ap (λ ts. slice_index_or ts (c.args.thread.0 - 1) (record { function = 0; first = 0 })) c.as_slice.ensures
    ∙ index-get c.args.plan.now.threads (c.args.thread.0 - 1) l.thread (record { function = 0; first = 0 }) l.thread_is in
    let function = c.index-as_slice-running.is ∙ ap (λ fs. slice_index_or fs (slice_index_or c.as_slice.result.now (c.args.thread.0 - 1) (record { function = 0; first = 0 })).function c.index-as_slice-running.result) c.as_slice-2.ensures
    ∙ ap (λ (t : Thread). slice_index_or c.args.plan.now.functions t.function c.index-as_slice-running.result) found
    ∙ index-get c.args.plan.now.functions l.thread.function (stored_function l.step.running.function) c.index-as_slice-running.result l.step.function_is in
    IfOk-weaker c.function_places.result (λ found. found.items ≡ location_places l.step.running) (λ found. ArePlacesOf (plain_tree tree) c.args.thread.0 found.items)
    (λ found e. places-are tree c.args.thread.0 l.step.running found.items c.requires.there.0 l.step.running_is e) (c.function_places.ensures l.step.running function)
