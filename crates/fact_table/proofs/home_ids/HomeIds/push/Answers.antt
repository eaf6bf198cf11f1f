use Rattle.std.proofs.Common.{ℕ, ◌-◌, ◌∙◌, List, get_or, ap, arith}
use Rattle.fact_table.specs.inside.HomeIds.{HomeIds}
use Rattle.fact_table.proofs.Parts.{ends_below, place_within, fits-push, seen-push}
use Rattle.fact_table.proofs.home_ids.HomeIds.push.Goals as goal

pub end_at-end-requires : goal.end_at-end-requires
end_at-end-requires c =
    rw c.deref.ensures.value
    (place_within c.self.inside.room c.self.inside.ids.items c.self.inside.ends.items c.args.self.now c.args.home.0 c.self.view_is c.requires.there.0 c.requires.there.1)

pub insert_within-requires-clause-place : goal.insert_within-requires-clause-place
insert_within-requires-clause-place c =
    let lt = place_within c.self.inside.room c.self.inside.ids.items c.self.inside.ends.items c.args.self.now c.args.home.0 c.self.view_is c.requires.there.0 c.requires.there.1 in
    let below = ends_below _ 0 c.self.inside.ends.items c.self.invariant.3 (c.args.home.0 - 1) lt in
    let at = c.end_at-end.ensures ∙ ap (λ (xs : List ℕ). get_or xs (c.args.home.0 - 1) 0) c.deref.ensures.value in
    omega (arith, below, at)

pub insert_within-requires-clause-room : goal.insert_within-requires-clause-room
insert_within-requires-clause-room c =
    let count = ap (λ (w : HomeIds). w.count) c.self.view_is in
    let room = ap (λ (w : HomeIds). w.room) c.self.view_is in
    omega (arith, count, room, c.requires.room, c.self.invariant.0)

pub raise-requires-clause-place : goal.raise-requires-clause-place
raise-requires-clause-place c =
    let lt = place_within c.self.inside.room c.self.inside.ids.items c.self.inside.ends.items c.args.self.now c.args.home.0 c.self.view_is c.requires.there.0 c.requires.there.1 in
    omega (arith, lt)

pub raise-requires-clause-room : goal.raise-requires-clause-room
raise-requires-clause-room c i lt =
    let below = ends_below _ 0 c.self.inside.ends.items c.self.invariant.3 i lt in
    let count = ap (λ (w : HomeIds). w.count) c.self.view_is in
    let room = ap (λ (w : HomeIds). w.room) c.self.view_is in
    omega (arith, below, count, room, c.requires.room, c.self.invariant.1, c.self.invariant.2)

pub invariant_of-self : goal.invariant_of-self
invariant_of-self c =
    let lt = place_within c.self.inside.room c.self.inside.ids.items c.self.inside.ends.items c.args.self.now c.args.home.0 c.self.view_is c.requires.there.0 c.requires.there.1 in
    let at = c.end_at-end.ensures ∙ ap (λ (xs : List ℕ). get_or xs (c.args.home.0 - 1) 0) c.deref.ensures.value in
    let count = ap (λ (w : HomeIds). w.count) c.self.view_is in
    let room = ap (λ (w : HomeIds). w.room) c.self.view_is in
    let fits = fits-push c.self.inside.ids.items c.insert_within.new.ids.items c.self.inside.ends.items c.raise.new.ends.items (c.args.home.0 - 1) c.end_at-end.result c.args.id
    c.self.invariant.3 lt at c.insert_within.ensures.items c.raise.ensures in
    (omega (arith, c.self.invariant.0, c.insert_within.ensures.capacity), c.self.invariant.1, omega (arith, fits.0, count, room, c.requires.room), fits.1)

pub returns : goal.returns
returns c =
    let lt = place_within c.self.inside.room c.self.inside.ids.items c.self.inside.ends.items c.args.self.now c.args.home.0 c.self.view_is c.requires.there.0 c.requires.there.1 in
    let at = c.end_at-end.ensures ∙ ap (λ (xs : List ℕ). get_or xs (c.args.home.0 - 1) 0) c.deref.ensures.value in
    seen-push c.self.inside.room c.self.inside.ids.items c.insert_within.new.ids.items c.self.inside.ends.items c.raise.new.ends.items (c.args.home.0 - 1) c.end_at-end.result
    c.args.id c.args.self.now c.self.view_is c.self.invariant.3 lt at c.insert_within.ensures.items c.raise.ensures
