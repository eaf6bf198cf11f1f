use Rattle.std.proofs.Common.{List, ℤ, sym, subst}
use Rattle.std.specs.List.{AllByRecursion}
use Rattle.thr_base.specs.Number.{Fits}
use Rattle.transition_formula.proofs.Numbers.{unit_row_fits}
use Rattle.transition_formula.proofs.edges.push_column_is.Goals as goal

pub push-requires-clause-coefficients : goal.push-requires-clause-coefficients
push-requires-clause-coefficients c =
    subst (λ (l : List ℤ). AllByRecursion Fits l) (sym c.as_slice.ensures.value)
    (unit_row_fits _ _ c.columns-width.result c.args.column c.clear.ensures.items c.in_ok-push_unit.ensures)
