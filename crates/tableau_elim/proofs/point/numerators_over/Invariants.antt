use Rattle.std.proofs.Common.{map}
use Rattle.tableau_elim.specs.inside.Held.{fraction_in}
use Rattle.tableau_elim.specs.inside.Combined.{numerator_over}
use Rattle.tableau_elim.proofs.Every.{IsMaking}
use Rattle.tableau_elim.proofs.point.numerators_over.Given as goal

abbrev pub invariant-values : goal.invariant-values
invariant-values l = IsMaking (numerator_over l.denominator) (map fraction_in l.values) l.numerators.items l.place
