use Rattle.lin_rows.specs.Row.{multiple_of}
use Rattle.transition_formula.proofs.FittingLists.{AreFirst}
use Rattle.transition_formula.proofs.lines.products_of.Given as goal

abbrev pub invariant-places : goal.invariant-places
invariant-places l = AreFirst l.place (multiple_of l.k l.numbers) l.products.items
