use Rattle.std.proofs.Common.{◌≡◌, ◌∙◌, sym, ap, suc, length, get_or, rules}
use Rattle.tableau_elim.specs.Tableau.{Line}
use Rattle.tableau_elim.proofs.Lines.{no_line, line_here}
use Rattle.tableau_elim.proofs.tableau.Tableau.basic_of.Goals as goal

pub returns : goal.returns
returns c =
    let self = c.args.self.now in
    let w = suc (length self.places.items) in
    let line = line_here w self.basics.items self.numbers.items c.args.line c.index.result.now no_line c.requires in
    let read : c.index.result.now ≡ get_or self.basics.items c.args.line c.index.result.now = search rules in
    read ∙ sym (ap (λ (line : Line). line.basic) line)
