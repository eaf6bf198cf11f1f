use Rattle.tableau_elim.proofs.Combinations.{IsCombining}
use Rattle.tableau_elim.proofs.numbers.combine.Given as goal

abbrev pub invariant-places : goal.invariant-places
invariant-places l = IsCombining l.a l.initial.numbers l.b l.others l.numbers l.place
