use Rattle.std.proofs.Common.{◌≡◌, Some, None, get_or, ap₂, ◌∙◌, sym, arith, to_z, of_z, to_z-of_z, rules, pos}
use Rattle.std.specs.Int.{w128}
use Rattle.lin_rows.proofs.Numbers.{read_back}
use Rattle.farkas_cert.specs.Combination.{combined_number, combined_numbers}
use Rattle.tableau_elim.proofs.Combinations.{combining_begins, combining_goes_on, combining_stops, combining_ends}
use Rattle.farkas_cert.proofs.Combinations.{number_fits}
use Rattle.tableau_elim.proofs.numbers.combine.Goals as goal

pub places-init : goal.places-init
places-init c = combining_begins _ _ _ _

pub places-preserved : goal.places-preserved
places-preserved c =
    let a = to_z w128 (of_z w128 c.args.a) in
    let b = to_z w128 (of_z w128 c.args.b) in
    let z = c.in-Some.number in
    let left = get_or c.places.numbers c.places.place (pos 0) in
    let right = get_or c.args.others.now c.places.place (pos 0) in
    let e : Some z ≡ combined_number a left b right = search rules in
    rw (read_back z (number_fits a left b right z e))
    (combining_goes_on a c.args.numbers.now b c.args.others.now c.places.numbers c.places.place z c.places-test.true c.requires c.places.auto.numbers e c.places.invariant)

pub returns-in-None : goal.returns-in-None
returns-in-None c =
    let a = to_z w128 (of_z w128 c.args.a) in
    let b = to_z w128 (of_z w128 c.args.b) in
    let left = get_or c.places.numbers c.places.place (pos 0) in
    let right = get_or c.args.others.now c.places.place (pos 0) in
    let e : None ≡ combined_number a left b right = search rules in
    ap₂ (λ a b. combined_numbers a c.args.numbers.now b c.args.others.now) (sym (to_z-of_z c.ranges.a)) (sym (to_z-of_z c.ranges.b))
    ∙ combining_stops a c.args.numbers.now b c.args.others.now c.places.numbers c.places.place c.places-test.true c.requires c.places.auto.numbers e c.places.invariant

pub returns : goal.returns
returns c =
    let a = to_z w128 (of_z w128 c.args.a) in
    let b = to_z w128 (of_z w128 c.args.b) in
    ap₂ (λ a b. combined_numbers a c.args.numbers.now b c.args.others.now) (sym (to_z-of_z c.ranges.a)) (sym (to_z-of_z c.ranges.b))
    ∙ combining_ends a c.args.numbers.now b c.args.others.now c.places.numbers c.places.place (omega arith) c.requires c.places.auto.numbers c.places.invariant
