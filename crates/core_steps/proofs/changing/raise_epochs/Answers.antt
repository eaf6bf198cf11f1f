use Rattle.std.proofs.Common.{◌≡◌, ◌+◌, ◌<◌, ◌^◌, get_or, sym, ap, subst, ◌∙◌, arith}
use Rattle.core_steps.proofs.Growths.{get-drop}
use Rattle.core_steps.proofs.changing.raise_epochs.Goals as goal

pub raise_at-requires-clause-low : goal.raise_at-requires-clause-low
raise_at-requires-clause-low c =
    let i = c.loop-place.place in
    let same : get_or c.loop-place.epochs.items i 0 ≡ get_or c.args.epochs.now.items i 0 =
    sym (get-drop c.loop-place.epochs.items i) ∙ ap (λ l. get_or l 0 0) c.loop-place.invariant.2 ∙ get-drop c.args.epochs.now.items i in
    let lt = c.loop-place-test.true in
    let end = c.len-place-end.ensures in
    let low = c.requires.low i (omega (arith, lt, end)) in
    subst (λ e. e + 1 < 2 ^ 32) (sym same) low
