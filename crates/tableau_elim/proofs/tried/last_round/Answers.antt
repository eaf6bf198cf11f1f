use Rattle.std.proofs.Common.{◌∙◌, sym, ap}
use Rattle.tableau_elim.specs.Decision.{outcome_in}
use Rattle.tableau_elim.specs.inside.Held.{tableau_of, found_of}
use Rattle.tableau_elim.proofs.Outcomes.{ended_at, gives_up_at_end}
use Rattle.tableau_elim.proofs.tried.last_round.Goals as goal

pub round-requires-clause-leads : goal.round-requires-clause-leads
round-requires-clause-leads c = λ outcome e. c.requires.leads ∙ ended_at 0 c.args.rows.now (tableau_of c.args.tableau.now) outcome e

pub returns-in-Ends : goal.returns-in-Ends
returns-in-Ends c =
    let tableau = tableau_of c.args.tableau.now in
    let found = sym c.in_ok-found.ensures.found ∙ ap (found_of tableau) c.in-Ends.is in
    sym (c.requires.leads ∙ ended_at 0 c.args.rows.now tableau (outcome_in c.in-Ends.tried) found)

pub returns-in-Pivots : goal.returns-in-Pivots
returns-in-Pivots c =
    let tableau = tableau_of c.args.tableau.now in
    let found = sym c.in_ok-found.ensures.found ∙ ap (found_of tableau) c.in-Pivots.is in
    sym (c.requires.leads ∙ gives_up_at_end c.args.rows.now tableau _ _ found)
