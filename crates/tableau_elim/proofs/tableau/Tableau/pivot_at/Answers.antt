use Rattle.std.proofs.Common.{◌∙◌}
use Rattle.tableau_elim.specs.inside.Held.{tableau_of}
use Rattle.tableau_elim.specs.inside.Lines.{line_at}
use Rattle.tableau_elim.proofs.Moves.{pivot_same}
use Rattle.tableau_elim.proofs.tableau.Tableau.pivot_at.Goals as goal

pub returns-clause-pivot : goal.returns-clause-pivot
returns-clause-pivot c =
    let tableau = tableau_of c.args.self.now in
    c.in_ok-pivot.ensures.pivot
    ∙ pivot_same c.args.place c.basic_of.result c.numbers_of.result.now c.as_slice-places.result.now (line_at c.args.line tableau) tableau c.basic_of.ensures c.numbers_of.ensures.numbers c.as_slice-places.ensures.value
