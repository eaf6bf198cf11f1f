use Rattle.lin_rows.specs.Row.{sum_of}
use Rattle.transition_formula.proofs.FittingLists.{AreFirst}
use Rattle.transition_formula.proofs.lines.sums_of.Given as goal

abbrev pub invariant-places : goal.invariant-places
invariant-places l = AreFirst l.place (sum_of l.one l.other) l.sums.items
