use Rattle.std.proofs.Common.{◌≡◌, pos, ◌*ℤ◌, get_or, sym, to_z, Some, None, rules}
use Rattle.std.specs.Int.{w128}
use Rattle.thr_base.specs.Number.{Fits}
use Rattle.lin_rows.specs.Sum.{sum_with_product}
use Rattle.lin_rows.proofs.Numbers.{read_back}
use Rattle.lin_rows.proofs.Sums.{sum_in_order-end, overflow-here, overflow-later, product_of-later, summed-some}
use Rattle.tableau_elim.proofs.Sums.{sum_in_order-none}
use Rattle.tableau_elim.proofs.sum.sum_of_products.Goals as goal

pub returns-in-None : goal.returns-in-None
returns-in-None c =
    let xs = c.args.numbers.now in
    let ys = c.args.values.now in
    let n = c.places.place in
    let sum = to_z w128 c.places.sum-bits in
    let is : None ≡ sum_with_product sum (get_or xs n (pos 0) *ℤ get_or ys n (pos 0)) = search rules in
    sym (sum_in_order-none xs ys n (overflow-here xs ys sum n c.places-test.true c.requires is c.places.invariant.overflow))

pub places-preserved : goal.places-preserved
places-preserved c =
    let xs = c.args.numbers.now in
    let ys = c.args.values.now in
    let n = c.places.place in
    let sum = to_z w128 c.places.sum-bits in
    let more = c.in-Some.more in
    let is : Some more ≡ sum_with_product sum (get_or xs n (pos 0) *ℤ get_or ys n (pos 0)) = search rules in
    let fits : Fits more = (summed-some sum (get_or xs n (pos 0) *ℤ get_or ys n (pos 0)) more is).1 in
    record {
      fits = rw (read_back more fits) fits;
      sum = rw (read_back more fits) (product_of-later xs ys sum more n c.places-test.true c.requires is c.places.invariant.sum);
      overflow = rw (read_back more fits) (overflow-later xs ys sum more n c.places-test.true c.requires is c.places.invariant.overflow);
    }

pub returns : goal.returns
returns c =
    sym (sum_in_order-end c.args.numbers.now c.args.values.now _ c.places.place c.places-test.false c.places.invariant.overflow c.places.invariant.sum)
