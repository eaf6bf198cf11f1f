use Rattle.std.proofs.Common.{◌≡◌, ◌∙◌, pos, Some, None, get_or, to_z, ap, arith}
use Rattle.std.specs.Prelude.{unsigned_abs}
use Rattle.std.specs.Int.{w128}
use Rattle.lin_rows.specs.Exact.{fitting}
use Rattle.lin_rows.specs.Gcd.{lcm}
use Rattle.lin_rows.proofs.Lists.{AllByRecursion-at}
use Rattle.lin_rows.proofs.Numbers.{read_back}
use Rattle.tableau_elim.specs.inside.Held.{IsValue}
use Rattle.tableau_elim.specs.declared.point.Value.{Value}
use Rattle.tableau_elim.proofs.Multiples.{multiple_of_none, multiple_goes_on, multiple_stops, multiple_ends}
use Rattle.tableau_elim.proofs.Multipliers.{get_default}
use Rattle.tableau_elim.proofs.point.common_denominator.Goals as goal
use Rattle.farkas_cert.proofs.Reduced.{fitting_is}

abbrev zero_value : Value
zero_value = record { numerator = pos 0; denominator = pos 0 }

pub values-init : goal.values-init
values-init c = multiple_of_none c.args.values.now

pub multiple_if_fits-requires-clause-first : goal.multiple_if_fits-requires-clause-first
multiple_if_fits-requires-clause-first c = c.values.invariant.positive

pub multiple_if_fits-requires-clause-second : goal.multiple_if_fits-requires-clause-second
multiple_if_fits-requires-clause-second c =
    let k = c.values.place in
    let value = get_or c.args.values.now k zero_value in
    let known = AllByRecursion-at IsValue c.args.values.now k zero_value c.requires c.values-test.true in
    rw (read_back value.denominator known.denominator_fits) known.positive

pub values-preserved : goal.values-preserved
values-preserved c =
    let d = to_z w128 c.values.denominator-bits in
    let k = c.values.place in
    let z = c.in-Some.multiple in
    let value = get_or c.args.values.now k zero_value in
    let known = AllByRecursion-at IsValue c.args.values.now k zero_value c.requires c.values-test.true in
    let read = read_back value.denominator known.denominator_fits in
    let e : Some z ≡ fitting (pos (lcm (unsigned_abs d) (unsigned_abs value.denominator))) =
    c.in-Some.ensures ∙ ap (λ x. fitting (pos (lcm (unsigned_abs d) (unsigned_abs x)))) read in
    let is = fitting_is (pos (lcm (unsigned_abs d) (unsigned_abs value.denominator))) z e in
    rw (read_back z is.1) (multiple_goes_on d z c.args.values.now k value c.values-test.true (get_default c.args.values.now k value zero_value c.values-test.true) known e c.values.invariant)

pub returns-in-None : goal.returns-in-None
returns-in-None c =
    let d = to_z w128 c.values.denominator-bits in
    let k = c.values.place in
    let value = get_or c.args.values.now k zero_value in
    let known = AllByRecursion-at IsValue c.args.values.now k zero_value c.requires c.values-test.true in
    let read = read_back value.denominator known.denominator_fits in
    let e : None ≡ fitting (pos (lcm (unsigned_abs d) (unsigned_abs value.denominator))) =
    c.in-None.ensures ∙ ap (λ x. fitting (pos (lcm (unsigned_abs d) (unsigned_abs x)))) read in
    multiple_stops d c.args.values.now k value c.values-test.true (get_default c.args.values.now k value zero_value c.values-test.true) c.requires e c.values.invariant

pub returns : goal.returns
returns c = multiple_ends _ c.args.values.now c.values.place (omega arith) c.values.invariant
