use Rattle.std.proofs.Common.{negsuc}
use Rattle.lin_rows.specs.Row.{multiple_of, sum_of}
use Rattle.transition_formula.proofs.FittingLists.{AreFirst}
use Rattle.transition_formula.proofs.lines.differences_of.Given as goal

abbrev pub invariant-places : goal.invariant-places
invariant-places l = AreFirst l.place (sum_of l.one (multiple_of (negsuc 0) l.other)) l.differences.items
