use Rattle.std.proofs.Common.{List, ℤ, ◌++◌, sym, subst, ap, ◌∙◌}
use Rattle.std.specs.List.{AllByRecursion}
use Rattle.thr_base.specs.Number.{Fits}
use Rattle.transition_formula.proofs.Numbers.{test_row_fits}
use Rattle.transition_formula.proofs.edges.push_test.Goals as goal

pub push-requires-clause-coefficients : goal.push-requires-clause-coefficients
push-requires-clause-coefficients c =
    let xs = c.args.test.now.coefficients.now in
    let n = c.args.shape.columns in
    let before = c.in_ok-extend_from_slice.ensures.items ∙ ap (λ (l : List ℤ). c.clear.new.self.items ++ l) c.split_at.ensures.front in
    let inputs = c.in_ok-extend_from_slice-2.ensures.items ∙ ap (λ (l : List ℤ). c.push_zeros.new.row.items ++ l) c.split_at.ensures.back in
    subst (λ (l : List ℤ). AllByRecursion Fits l) (sym c.as_slice.ensures.value) (test_row_fits _ _ _ _ xs n c.requires.over.fits.coefficients c.clear.ensures.items before c.in_ok-push_zeros.ensures inputs)
