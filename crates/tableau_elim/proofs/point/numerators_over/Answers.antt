use Rattle.std.proofs.Common.{◌≡◌, ◌∙◌, ◌<◌, sym, ap, map, get_or, length, to_z, of_z, to_z-of_z, pos, Some, None, arith}
use Rattle.std.specs.Prelude.{◌*ℤ◌, unsigned_abs}
use Rattle.farkas_cert.specs.Divided.{over}
use Rattle.std.specs.Int.{w128}
use Rattle.std.proofs.lemmas.List.{length-map}
use Rattle.farkas_cert.specs.Elimination.{every}
use Rattle.farkas_cert.proofs.Reduced.{fitting_is}
use Rattle.lin_rows.proofs.Lists.{AllByRecursion-at}
use Rattle.lin_rows.proofs.Numbers.{read_back}
use Rattle.tableau_elim.specs.declared.point.Value.{Value}
use Rattle.tableau_elim.specs.inside.Held.{fraction_in, IsValue}
use Rattle.tableau_elim.specs.inside.Combined.{numerator_over}
use Rattle.tableau_elim.proofs.Every.{making_begins, making_goes_on, making_stops, making_ends}
use Rattle.tableau_elim.proofs.Multiples.{get_map}
use Rattle.tableau_elim.proofs.point.numerators_over.Goals as goal

abbrev zero_value : Value
zero_value = record { numerator = pos 0; denominator = pos 0 }

pub values-init : goal.values-init
values-init c = making_begins _ _ _ c.in_ok-numerators.ensures.items

pub numerator_over-requires : goal.numerator_over-requires
numerator_over-requires c = AllByRecursion-at IsValue c.args.values.now c.values.place zero_value c.requires c.values-test.true

pub values-preserved : goal.values-preserved
values-preserved c =
    let d = to_z w128 (of_z w128 c.args.denominator) in
    let k = c.values.place in
    let z = c.in-Some.numerator in
    let values = c.args.values.now in
    let f = numerator_over d in
    let e : Some z ≡ f (fraction_in (get_or values k zero_value)) = c.in-Some.ensures in
    let value = get_or values k zero_value in
    let is = fitting_is (value.numerator *ℤ over (unsigned_abs value.denominator) d) z e in
    let within : k < length (map fraction_in values) = omega (arith, length-map values fraction_in, c.values-test.true) in
    making_goes_on f (map fraction_in values) c.values.numerators.items c.push.new.self.items k (fraction_in zero_value) (to_z w128 (of_z w128 z)) within
    (ap f (get_map values k zero_value) ∙ sym e ∙ ap Some (sym (read_back z is.1))) c.in_ok-push-in-Some.ensures.items c.values.invariant

pub returns-in-None : goal.returns-in-None
returns-in-None c =
    let d = to_z w128 (of_z w128 c.args.denominator) in
    let read : d ≡ c.args.denominator = to_z-of_z c.ranges.denominator in
    let k = c.values.place in
    let values = c.args.values.now in
    let f = numerator_over d in
    let e : None ≡ f (fraction_in (get_or values k zero_value)) = c.in-None.ensures in
    let within : k < length (map fraction_in values) = omega (arith, length-map values fraction_in, c.values-test.true) in
    sym (making_stops f (map fraction_in values) c.values.numerators.items k (fraction_in zero_value) within (ap f (get_map values k zero_value) ∙ sym e) c.values.invariant)
    ∙ ap (λ d. every (map (numerator_over d) (map fraction_in values))) read

pub returns : goal.returns
returns c =
    let d = to_z w128 (of_z w128 c.args.denominator) in
    let read : d ≡ c.args.denominator = to_z-of_z c.ranges.denominator in
    let values = c.args.values.now in
    sym (making_ends (numerator_over d) (map fraction_in values) c.values.numerators.items c.values.place (omega (arith, length-map values fraction_in, c.values-test.false)) c.values.invariant)
    ∙ ap (λ d. every (map (numerator_over d) (map fraction_in values))) read
