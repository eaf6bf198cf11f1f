use Rattle.std.proofs.Common.{sym, ap, suc, length}
use Rattle.tableau_elim.specs.Tableau.{Line}
use Rattle.tableau_elim.specs.declared.variable.Variable.TheVariants.{Column}
use Rattle.tableau_elim.proofs.Lines.{no_line, line_here}
use Rattle.tableau_elim.proofs.tableau.Tableau.numbers_of.Goals as goal

pub returns-clause-numbers : goal.returns-clause-numbers
returns-clause-numbers c =
    let self = c.args.self.now in
    let w = suc (length self.places.items) in
    rw (c.width-width.ensures, c.deref.ensures.value)
    (sym (ap (λ (line : Line). line.numbers) (line_here w self.basics.items self.numbers.items c.args.line (Column 0) no_line c.requires)))
