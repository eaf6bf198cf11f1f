use Rattle.std.proofs.Common.{◌≡◌, ◌<◌, ◌∙◌, sym, Some, None, length, get_or, pos, add-one, to_z, rules, arith}
use Rattle.std.specs.Int.{w128}
use Rattle.lin_rows.proofs.Numbers.{read_back}
use Rattle.plain_elim.specs.inside.PointParts.{minus_product}
use Rattle.plain_elim.proofs.PointBounds.{others, length-others, minus_products-stops, minus_products-goes}
use Rattle.plain_elim.proofs.bounds.minus_products.Goals as goal

pub returns-in_err-left-clause-difference : goal.returns-in_err-left-clause-difference
returns-in_err-left-clause-difference c =
    let ns = c.args.numerators.now in
    let xs = others (length ns) c.args.column c.args.numbers.now in
    let n = c.places.place in
    let left = to_z w128 c.places.left-bits in
    let wide : n < length xs = omega (arith, length-others (length ns) c.args.column c.args.numbers.now c.requires.width) in
    let none : None ≡ minus_product left (get_or xs n (pos 0)) (get_or ns n (pos 0)) = search rules in
    let stopped = minus_products-stops left xs ns n wide c.places-test.true none in
    search (rules, sym stopped ∙ c.places.invariant.rest)

pub places-preserved : goal.places-preserved
places-preserved c =
    let ns = c.args.numerators.now in
    let xs = others (length ns) c.args.column c.args.numbers.now in
    let n = c.places.place in
    let left = to_z w128 c.places.left-bits in
    let wide : n < length xs = omega (arith, length-others (length ns) c.args.column c.args.numbers.now c.requires.width) in
    let some : Some c.in_ok-left.left ≡ minus_product left (get_or xs n (pos 0)) (get_or ns n (pos 0)) = search rules in
    let gone = minus_products-goes left c.in_ok-left.left xs ns n wide c.places-test.true some in
    rw (read_back c.in_ok-left.left c.in_ok-left.ensures.fits, add-one n)
    record { fits = c.in_ok-left.ensures.fits; rest = sym gone ∙ c.places.invariant.rest }
