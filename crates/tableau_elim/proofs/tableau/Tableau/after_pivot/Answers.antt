use Rattle.std.proofs.Common.{◌≡◌, ◌∙◌, ap, sym, length}
use Rattle.std.specs.Prelude.{slice_set}
use Rattle.std.proofs.lemmas.List.{with_items_is}
use Rattle.tableau_elim.specs.inside.Held.{tableau_of}
use Rattle.tableau_elim.specs.inside.Lines.{pivot_of, line_at}
use Rattle.tableau_elim.specs.Tableau.{Pivot}
use Rattle.tableau_elim.proofs.Moves.{pivoted_by_none, pivoted_by_some, held_by, pivot_place}
use Rattle.tableau_elim.proofs.tableau.Tableau.after_pivot.Goals as goal

pub returns-then-not-change_all-clause-tableau : goal.returns-then-not-change_all-clause-tableau
returns-then-not-change_all-clause-tableau c =
    pivoted_by_none c.args.self (pivot_of c.in_ok-pivot.pivot) _ c.width-width.result c.deref_mut.result.now c.deref_mut-2.result.now
    c.in_ok-pivot.ensures.pivot c.width-width.ensures c.deref_mut.ensures.value c.deref_mut-2.ensures.value c.if-not-change_all.ensures

pub returns-clause-tableau : goal.returns-clause-tableau
returns-clause-tableau c =
    let held = c.args.self in
    let long : length c.change_all.new.basics ≡ held.basics.len = c.change_all.auto.basics ∙ c.deref_mut.ensures.len in
    let longer : length c.change_all.new.numbers ≡ held.numbers.len = c.change_all.auto.numbers ∙ c.deref_mut-2.ensures.len in
    let place = ap (λ (p : Pivot). p.place) c.in_ok-pivot.ensures.pivot ∙ pivot_place c.args.place (line_at c.args.line (tableau_of held)) (tableau_of held) in
    let places = ap (λ j. slice_set held.places.items j c.in_ok-pivot.pivot.leaving) (sym place) in
    pivoted_by_some held (pivot_of c.in_ok-pivot.pivot) _ c.width-width.result c.deref_mut.result.now c.change_all.new.basics _ _ c.deref_mut-2.result.now c.change_all.new.numbers _
    c.in_ok-pivot.ensures.pivot c.width-width.ensures c.deref_mut.ensures.value c.deref_mut-2.ensures.value c.if-not-change_all.ensures
    (with_items_is held.basics c.change_all.new.basics long) (with_items_is held.numbers c.change_all.new.numbers longer) places

pub invariant_of-result : goal.invariant_of-result
invariant_of-result c =
    let held = c.args.self in
    let long : length c.change_all.new.basics ≡ held.basics.len = c.change_all.auto.basics ∙ c.deref_mut.ensures.len in
    let longer : length c.change_all.new.numbers ≡ held.numbers.len = c.change_all.auto.numbers ∙ c.deref_mut-2.ensures.len in
    let place = ap (λ (p : Pivot). p.place) c.in_ok-pivot.ensures.pivot ∙ pivot_place c.args.place (line_at c.args.line (tableau_of held)) (tableau_of held) in
    let places = ap (λ j. slice_set held.places.items j c.in_ok-pivot.pivot.leaving) (sym place) in
    let next = held_by held (pivot_of c.in_ok-pivot.pivot) c.width-width.result c.deref_mut.result.now c.change_all.new.basics _ _ c.deref_mut-2.result.now c.change_all.new.numbers _
    c.in_ok-pivot.ensures.known c.width-width.ensures c.deref_mut.ensures.value c.deref_mut-2.ensures.value c.if-not-change_all.ensures c.change_all.auto.basics c.change_all.auto.numbers
    (with_items_is held.basics c.change_all.new.basics long) (with_items_is held.numbers c.change_all.new.numbers longer) places in
    record { size = next.size; sound = next.sound; few = next.few }
