use Rattle.std.proofs.Common.{pos, ◌*ℤ◌, get_or, sym, ◌∙◌, to_z}
use Rattle.std.specs.Int.{w128}
use Rattle.thr_base.specs.Number.{Fits}
use Rattle.lin_rows.proofs.Numbers.{read_back}
use Rattle.lin_rows.proofs.Sums.{sum_in_order-end, overflow-here, overflow-later, product_of-later, summed-some}
use Rattle.lin_rows.proofs.sum.sum_of_products.Goals as goal

pub returns-in-None-clause-overflow : goal.returns-in-None-clause-overflow
returns-in-None-clause-overflow c =
    overflow-here c.args.coefficients.now c.args.x.now _ c.places.place c.places-test.true c.requires.lengths (sym c.in-None.is ∙ c.add_product.ensures) c.places.invariant.overflow

pub places-preserved : goal.places-preserved
places-preserved c =
    let xs = c.args.coefficients.now in
    let ys = c.args.x.now in
    let n = c.places.place in
    let is = sym c.in-Some.is ∙ c.add_product.ensures in
    let fits : Fits c.in-Some.more = (summed-some (to_z w128 c.places.sum-bits) (get_or xs n (pos 0) *ℤ get_or ys n (pos 0)) c.in-Some.more is).1 in
    record {
      sum = rw (read_back c.in-Some.more fits) (product_of-later xs ys _ c.in-Some.more n c.places-test.true c.requires.lengths is c.places.invariant.sum);
      overflow = rw (read_back c.in-Some.more fits) (overflow-later xs ys _ c.in-Some.more n c.places-test.true c.requires.lengths is c.places.invariant.overflow);
    }

pub returns-clause-sum : goal.returns-clause-sum
returns-clause-sum c =
    sum_in_order-end c.args.coefficients.now c.args.x.now _ c.places.place c.places-test.false c.places.invariant.overflow c.places.invariant.sum
