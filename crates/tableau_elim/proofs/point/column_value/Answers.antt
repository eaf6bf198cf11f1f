use Rattle.lin_rows.proofs.Numbers.{read_back}
use Rattle.tableau_elim.specs.inside.Held.{tableau_of}
use Rattle.tableau_elim.specs.inside.Lines.{line_at}
use Rattle.tableau_elim.proofs.Multiples.{line_sum_fits}
use Rattle.tableau_elim.proofs.point.column_value.Goals as goal

pub reduced_value-requires-clause-sum : goal.reduced_value-requires-clause-sum
reduced_value-requires-clause-sum c =
    let fits = line_sum_fits c.args.tableau.now.places.items (line_at c.in-Some.line (tableau_of c.args.tableau.now)) c.in_ok-sum.sum c.in_ok-sum.ensures in
    rw (read_back c.in_ok-sum.sum fits) fits
