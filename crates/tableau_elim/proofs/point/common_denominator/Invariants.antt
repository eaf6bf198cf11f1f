use Rattle.tableau_elim.proofs.Multiples.{IsMultiple}
use Rattle.tableau_elim.proofs.point.common_denominator.Given as goal

abbrev pub invariant-values : goal.invariant-values
invariant-values l = IsMultiple l.denominator l.values l.place
