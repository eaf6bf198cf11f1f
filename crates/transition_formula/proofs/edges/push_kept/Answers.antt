use Rattle.std.proofs.Common.{List, ℤ, sym, subst}
use Rattle.std.specs.List.{AllByRecursion}
use Rattle.thr_base.specs.Number.{Fits}
use Rattle.transition_formula.proofs.Numbers.{kept_row_fits}
use Rattle.transition_formula.proofs.edges.push_kept.Goals as goal

pub push-requires-clause-coefficients : goal.push-requires-clause-coefficients
push-requires-clause-coefficients c =
    subst (λ (l : List ℤ). AllByRecursion Fits l) (sym c.as_slice.ensures.value)
    (kept_row_fits _ _ _ _ c.args.shape.columns c.args.shape.inputs c.args.column
    c.clear.ensures.items c.in_ok-push_unit.ensures c.in_ok-push_unit-2.ensures c.in_ok-push_zeros.ensures)
