use Rattle.std.proofs.Common.{rules, refl, Some, ◌≡◌, ◌+◌, ◌∙◌, [], map, sym, ap}
use Rattle.std.specs.Prelude.{option_map}
use Rattle.std.specs.List.{slice_get}
use Rattle.std.proofs.lemmas.Option.{slice_get-map, slice_get-get_or}
use Rattle.transition_formula.specs.Stored.{edge_of}
use Rattle.horn_rules.specs.Instances.{number_from}
use Rattle.annotation_form.proofs.Listed.{so_far-step}
use Rattle.annotation_form.proofs.listing.edges_on.Goals as goal

pub loop-place-preserved : goal.loop-place-preserved
loop-place-preserved c =
    let at : slice_get c.args.edges.now c.loop-place.place ≡ Some c.index-edges-place.result =
    slice_get-get_or c.args.edges.now c.loop-place.place c.index-edges-place.result (search rules) ∙ ap Some (sym c.index-edges-place.is) in
    so_far-step (number_from c.args.l.0) (map edge_of c.args.edges.now) [] (map (λ e. e.0) c.loop-place.found.items) (map (λ e. e.0) c.push_if_from.new.found.items) c.loop-place.place (c.loop-place.place + 1) (edge_of c.index-edges-place.result) refl
    (slice_get-map edge_of c.args.edges.now c.loop-place.place ∙ ap (option_map edge_of) at) c.in_ok-push_if_from.ensures c.loop-place.invariant
