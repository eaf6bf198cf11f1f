use Rattle.std.proofs.Common.{◌≡◌, drop}
use Rattle.std.specs.Prelude.{find}
use Rattle.tableau_elim.specs.Tableau.{are_same}
use Rattle.tableau_elim.specs.declared.variable.Variable.TheVariants.{Column}
use Rattle.tableau_elim.specs.inside.Held.{tableau_of}
use Rattle.tableau_elim.proofs.point.line_of_column.Given as goal

abbrev pub invariant-lines : goal.invariant-lines
invariant-lines l =
    find (λ line. are_same line.basic (Column l.column)) (drop l.line (tableau_of l.tableau).lines) ≡ find (λ line. are_same line.basic (Column l.column)) (tableau_of l.tableau).lines
