use Rattle.std.proofs.Common.{pos, ◌*ℤ◌, ◌++◌, get_or, sym, ◌∙◌, to_z}
use Rattle.std.specs.Int.{w128}
use Rattle.thr_base.specs.Number.{Fits}
use Rattle.lin_rows.proofs.Numbers.{read_back}
use Rattle.lin_rows.proofs.Sums.{sum_in_order-end, overflow-here, overflow-later, product_of-later, summed-some}
use Rattle.transition_formula.proofs.FormSteps.{none-given, both-lengths}
use Rattle.transition_formula.proofs.lines.sum_at.Goals as goal

pub returns-in-None : goal.returns-in-None
returns-in-None c =
    let xs = c.args.coefficients.now in
    let ys = c.args.state.now ++ c.args.inputs.now in
    none-given xs ys c.places.place
    (overflow-here xs ys _ c.places.place c.places-test.true (both-lengths xs c.args.state.now c.args.inputs.now c.requires) (sym c.in-None.is ∙ c.plus_product.ensures) c.places.invariant.overflow)

pub places-preserved : goal.places-preserved
places-preserved c =
    let xs = c.args.coefficients.now in
    let ys = c.args.state.now ++ c.args.inputs.now in
    let n = c.places.place in
    let lengths = both-lengths xs c.args.state.now c.args.inputs.now c.requires in
    let is = sym c.in-Some.is ∙ c.plus_product.ensures in
    let fits : Fits c.in-Some.more = (summed-some (to_z w128 c.places.sum-bits) (get_or xs n (pos 0) *ℤ get_or ys n (pos 0)) c.in-Some.more is).1 in
    record {
      sum = rw (read_back c.in-Some.more fits) (product_of-later xs ys _ c.in-Some.more n c.places-test.true lengths is c.places.invariant.sum);
      overflow = rw (read_back c.in-Some.more fits) (overflow-later xs ys _ c.in-Some.more n c.places-test.true lengths is c.places.invariant.overflow);
    }

pub returns : goal.returns
returns c =
    sym (sum_in_order-end c.args.coefficients.now (c.args.state.now ++ c.args.inputs.now) _ c.places.place c.places-test.false c.places.invariant.overflow c.places.invariant.sum)
