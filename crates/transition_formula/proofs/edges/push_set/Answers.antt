use Rattle.std.proofs.Common.{List, ℤ, neg_ℤ, map, take, drop, ◌++◌, sym, subst, ap, ◌∙◌}
use Rattle.std.specs.List.{AllByRecursion}
use Rattle.thr_base.specs.Number.{Fits}
use Rattle.transition_formula.proofs.Numbers.{set_row_fits}
use Rattle.transition_formula.proofs.edges.push_set.Goals as goal

pub push-requires-clause-coefficients : goal.push-requires-clause-coefficients
push-requires-clause-coefficients c =
    let xs = c.args.line.now.coefficients.items in
    let n = c.args.shape.columns in
    let front = c.split_at.ensures.front ∙ ap (λ (l : List ℤ). take n l) c.as_slice.ensures.value in
    let back = c.split_at.ensures.back ∙ ap (λ (l : List ℤ). drop n l) c.as_slice.ensures.value in
    let before = c.in_ok-push_opposites.ensures.ok ∙ ap (λ (l : List ℤ). c.clear.new.self.items ++ map neg_ℤ l) front in
    let inputs = c.in_ok-push_opposites-2.ensures.ok ∙ ap (λ (l : List ℤ). c.push_unit.new.row.items ++ map neg_ℤ l) back in
    subst (λ (l : List ℤ). AllByRecursion Fits l) (sym c.as_slice-2.ensures.value)
    (set_row_fits _ _ _ _ xs n c.args.column c.requires.over.coefficients_fit c.clear.ensures.items before c.in_ok-push_unit.ensures inputs)
