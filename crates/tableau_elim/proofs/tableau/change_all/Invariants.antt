use Rattle.tableau_elim.specs.inside.Lines.{pivot_of, lines_of}
use Rattle.tableau_elim.proofs.Changes.{IsChanging}
use Rattle.tableau_elim.proofs.tableau.change_all.Given as goal

abbrev pub invariant-lines : goal.invariant-lines
invariant-lines l = IsChanging (pivot_of l.pivot) (lines_of l.width l.initial.basics l.initial.numbers) (lines_of l.width l.basics l.numbers) l.line
