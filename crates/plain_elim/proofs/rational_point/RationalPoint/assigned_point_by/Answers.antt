use Rattle.std.proofs.Common.{◌≡◌, ◌*ℤ◌, ◌<ℤ◌, pos, ◌∙◌, rules, length, Some, true, arith}
use Rattle.std.specs.Prelude.{slice_set}
use Rattle.std.specs.Vec.{with_items}
use Rattle.std.proofs.lemmas.List.{with_items_is}
use Rattle.lin_rows.specs.Exact.{fitting}
use Rattle.lin_rows.specs.Row.{multiple_of}
use Rattle.lin_rows.proofs.Numbers.{read_back}
use Rattle.farkas_cert.specs.Line.{all_fit}
use Rattle.farkas_cert.proofs.Reduced.{fitting_is}
use Rattle.plain_elim.proofs.PointColumns.{assigned_point_by-steps, assigned_point_by-made, IsPoint-set}
use Rattle.plain_elim.proofs.rational_point.RationalPoint.assigned_point_by.Goals as goal

pub returns-in_err-number-clause-point : goal.returns-in_err-number-clause-point
returns-in_err-number-clause-point c = search (rules, assigned_point_by-steps c.args.column c.args.self c.args.value c.args.share c.args.scale c.requires.within)

pub returns-then-not-set_over-clause-point : goal.returns-then-not-set_over-clause-point
returns-then-not-set_over-clause-point c = search (rules, assigned_point_by-steps c.args.column c.args.self c.args.value c.args.share c.args.scale c.requires.within)

pub invariant_of-result : goal.invariant_of-result
invariant_of-result c =
    let point = c.args.self in
    let denominator : Some c.in_ok-denominator.denominator ≡ fitting (point.denominator *ℤ c.args.scale) = search rules in
    let product = fitting_is (point.denominator *ℤ c.args.scale) c.in_ok-denominator.denominator denominator in
    let made : c.set_over.new.numbers ≡ slice_set (multiple_of c.args.scale point.numerators) c.args.column c.in_ok-number.number = search rules in
    let fit : all_fit (slice_set (multiple_of c.args.scale point.numerators) c.args.column c.in_ok-number.number) ≡ true = search rules in
    let whole : length c.set_over.new.numbers ≡ c.self.inside.numerators.len = omega (arith, c.self.inside.numerators.ok.0) in
    let items = with_items_is c.self.inside.numerators c.set_over.new.numbers whole in
    let positive : pos 0 <ℤ point.denominator = search rules in
    rw (read_back c.in_ok-denominator.denominator product.1)
    (IsPoint-set (slice_set (multiple_of c.args.scale point.numerators) c.args.column c.in_ok-number.number) (with_items c.self.inside.numerators c.set_over.new.numbers).items c.in_ok-denominator.denominator point.denominator c.args.scale
    (items ∙ made) fit positive c.requires.positive denominator)

pub returns-clause-point : goal.returns-clause-point
returns-clause-point c =
    let point = c.args.self in
    let number : Some c.in_ok-number.number ≡ fitting (c.args.value *ℤ c.args.share) = search rules in
    let denominator : Some c.in_ok-denominator.denominator ≡ fitting (point.denominator *ℤ c.args.scale) = search rules in
    let product = fitting_is (point.denominator *ℤ c.args.scale) c.in_ok-denominator.denominator denominator in
    let made : c.set_over.new.numbers ≡ slice_set (multiple_of c.args.scale point.numerators) c.args.column c.in_ok-number.number = search rules in
    let fit : all_fit (slice_set (multiple_of c.args.scale point.numerators) c.args.column c.in_ok-number.number) ≡ true = search rules in
    let whole : length c.set_over.new.numbers ≡ c.self.inside.numerators.len = omega (arith, c.self.inside.numerators.ok.0) in
    let items = with_items_is c.self.inside.numerators c.set_over.new.numbers whole in
    rw (read_back c.in_ok-denominator.denominator product.1)
    (assigned_point_by-made c.args.column point c.args.value c.args.share c.args.scale c.in_ok-number.number c.in_ok-denominator.denominator (with_items c.self.inside.numerators c.set_over.new.numbers).items
    c.requires.within number denominator fit (items ∙ made))
