use Rattle.std.proofs.Common.{◌∙◌, sym, ap, length, rules}
use Rattle.tableau_elim.specs.inside.Held.{tableau_of}
use Rattle.tableau_elim.specs.inside.Lines.{line_at}
use Rattle.tableau_elim.proofs.Moves.{divisor_read, divisor_fits}
use Rattle.tableau_elim.proofs.tableau.Tableau.divisor_of.Goals as goal

pub returns-clause-divisor : goal.returns-clause-divisor
returns-clause-divisor c =
    let line = line_at c.args.line (tableau_of c.args.self.now) in
    let wide = sym (ap length c.numbers_of.ensures.numbers) ∙ c.numbers_of.ensures.width in
    search (rules, divisor_read line (length c.args.self.now.places.items) wide)

pub returns-clause-positive : goal.returns-clause-positive
returns-clause-positive c =
    let line = line_at c.args.line (tableau_of c.args.self.now) in
    let wide = sym (ap length c.numbers_of.ensures.numbers) ∙ c.numbers_of.ensures.width in
    let fits = divisor_fits line (length c.args.self.now.places.items) wide c.numbers_of.ensures.sound in
    let positive = c.numbers_of.ensures.sound.1 in
    search (rules, divisor_read line (length c.args.self.now.places.items) wide)

pub returns-clause-fits : goal.returns-clause-fits
returns-clause-fits c =
    let line = line_at c.args.line (tableau_of c.args.self.now) in
    let wide = sym (ap length c.numbers_of.ensures.numbers) ∙ c.numbers_of.ensures.width in
    let fits = divisor_fits line (length c.args.self.now.places.items) wide c.numbers_of.ensures.sound in
    search (rules, divisor_read line (length c.args.self.now.places.items) wide)
