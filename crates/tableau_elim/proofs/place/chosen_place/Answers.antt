use Rattle.std.proofs.Common.{◌≡◌, ◌∙◌, ℕ, refl, sym, ap, cond, arith, rules, get_or, pos, to_z, of_z}
use Rattle.std.specs.Int.{w128}
use Rattle.std.specs.Option.{option_map}
use Rattle.tableau_elim.specs.Rounds.{is_suitable, lower}
use Rattle.tableau_elim.specs.declared.variable.Variable.{Variable}
use Rattle.tableau_elim.specs.declared.variable.Variable.TheVariants.{Column}
use Rattle.tableau_elim.proofs.Firsts.{lowest_goes_on, lowest_ends}
use Rattle.tableau_elim.proofs.place.chosen_place.Goals as goal

pub places-init : goal.places-init
places-init c = refl

pub places-preserved : goal.places-preserved
places-preserved c =
    let k = c.places.place in
    let x = get_or c.args.places.now k (Column 0) in
    let read : to_z w128 (of_z w128 (get_or c.args.numbers.now k (pos 0))) ≡ get_or c.args.numbers.now k (pos 0) = search rules in
    lowest_goes_on c.args.side c.places.best _ k c.args.places.now c.args.numbers.now _ (Column 0) c.places-test.true c.requires
    (c.better-best.ensures ∙ ap (λ t. cond (is_suitable c.args.side x t) (lower c.places.best (k, x)) c.places.best) read) c.places.invariant

pub returns-in-Some : goal.returns-in-Some
returns-in-Some c =
    ap (option_map (λ (place : ℕ × Variable). place.0)) (sym c.in-Some.is) ∙ lowest_ends c.args.side c.places.best c.places.place c.args.places.now c.args.numbers.now (omega arith) c.places.invariant

pub returns-in-None : goal.returns-in-None
returns-in-None c =
    ap (option_map (λ (place : ℕ × Variable). place.0)) (sym c.in-None.is) ∙ lowest_ends c.args.side c.places.best c.places.place c.args.places.now c.args.numbers.now (omega arith) c.places.invariant
