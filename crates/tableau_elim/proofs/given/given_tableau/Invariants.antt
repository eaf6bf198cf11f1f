use Rattle.std.proofs.Common.{suc}
use Rattle.tableau_elim.proofs.GivenLines.{IsGiving}
use Rattle.tableau_elim.proofs.given.given_tableau.Given as goal

abbrev pub invariant-rows : goal.invariant-rows
invariant-rows l = IsGiving l.rows.rows (suc l.rows.columns) l.basics.items l.numbers.items l.place
