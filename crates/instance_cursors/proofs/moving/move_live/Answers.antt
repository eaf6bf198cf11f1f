use Rattle.std.proofs.Common.{◌≡◌, ◌∙◌, ◌<◌, length, get_or, sym, arith}
use Rattle.std.proofs.lemmas.List.{get_or_default}
use Rattle.std.proofs.lemmas.List.Filters.{FiltersInPlace-more_no, FiltersInPlace-more_set}
use Rattle.instance_cursors.specs.declared.turns.Cursor.{Cursor}
use Rattle.instance_cursors.proofs.moving.move_live.Goals as goal
use Rattle.instance_cursors.proofs.moving.move_live.Goals.{then-is_of_live, else-is_of_live}

pub loop-place-preserved : goal.loop-place-preserved
loop-place-preserved c =
    let d : Cursor = _ in
    let x : Cursor = get_or c.loop-place.cursors c.loop-place.place d in
    let lt : c.loop-place.place < length c.loop-place.cursors = omega (arith, c.loop-place.invariant.long, c.loop-place-test.true) in
    let here : x ≡ get_or c.loop-place.cursors c.loop-place.place x = get_or_default c.loop-place.cursors c.loop-place.place d x lt in
    elim c.if-is_of_live.branch [
      | then-is_of_live w ↦ rw (w.cursors-is, w.kept-is) (FiltersInPlace-more_set {x = x} c.loop-place.invariant lt (sym c.is_of_live.ensures ∙ w.if-is_of_live.true) here)
      | else-is_of_live w ↦ rw (w.cursors-is, w.kept-is) (FiltersInPlace-more_no {x = x} c.loop-place.invariant lt (sym c.is_of_live.ensures ∙ w.if-is_of_live.false) here)
    ]
