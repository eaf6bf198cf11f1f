use Rattle.std.proofs.Common.{◌≡◌, ◌∙◌, ◌<◌, length, get_or, sym, arith}
use Rattle.std.proofs.lemmas.List.{get_or_default}
use Rattle.std.proofs.lemmas.List.Filters.{FiltersInPlace-more_no, FiltersInPlace-more_set}
use Rattle.instance_cursors.specs.declared.early.Early.{Early}
use Rattle.instance_cursors.proofs.moving.move_early.Goals as goal
use Rattle.instance_cursors.proofs.moving.move_early.Goals.{then-stays_early, else-stays_early}

pub loop-place-preserved : goal.loop-place-preserved
loop-place-preserved c =
    let d : Early = _ in
    let x : Early = get_or c.loop-place.early c.loop-place.place d in
    let lt : c.loop-place.place < length c.loop-place.early = omega (arith, c.loop-place.invariant.long, c.loop-place-test.true) in
    let here : x ≡ get_or c.loop-place.early c.loop-place.place x = get_or_default c.loop-place.early c.loop-place.place d x lt in
    elim c.if-stays_early.branch [
      | then-stays_early w ↦ rw (w.early-is, w.kept-is) (FiltersInPlace-more_set {x = x} c.loop-place.invariant lt (sym c.stays_early.ensures ∙ w.if-stays_early.true) here)
      | else-stays_early w ↦ rw (w.early-is, w.kept-is) (FiltersInPlace-more_no {x = x} c.loop-place.invariant lt (sym c.stays_early.ensures ∙ w.if-stays_early.false) here)
    ]
