use Rattle.std.proofs.Common.{◌∙◌, ◌-◌, ◌+◌, sym, ap, subst, arith}
use Rattle.std.specs.Option.{option_map}
use Rattle.tableau_elim.specs.Rounds.{outcome_after}
use Rattle.tableau_elim.specs.Decision.{outcome_in}
use Rattle.tableau_elim.specs.declared.round.Found.{Found as HeldFound}
use Rattle.tableau_elim.specs.inside.Held.{tableau_of, found_of, IsForPivot}
use Rattle.tableau_elim.specs.inside.Lines.{line_at}
use Rattle.tableau_elim.proofs.Outcomes.{ended_at, gives_up_at_pivot, goes_on_after, one_less}
use Rattle.tableau_elim.proofs.tried.rounds.Goals as goal

pub pivots-init : goal.pivots-init
pivots-init c = c.requires.leads ∙ ap (λ n. outcome_after n c.args.rows.now (tableau_of c.args.first)) (omega arith)

pub round-requires-clause-leads : goal.round-requires-clause-leads
round-requires-clause-leads c = λ outcome e. c.pivots.invariant ∙ ended_at (c.args.limit - c.pivots.made) c.args.rows.now (tableau_of c.pivots.tableau) outcome e

pub returns-in-Ends : goal.returns-in-Ends
returns-in-Ends c =
    let tableau = tableau_of c.pivots.tableau in
    let found = sym c.in_ok-found.ensures.found ∙ ap (found_of tableau) c.in-Ends.is in
    sym (c.pivots.invariant ∙ ended_at (c.args.limit - c.pivots.made) c.args.rows.now tableau (outcome_in c.in-Ends.tried) found)

pub after_pivot-requires-clause-line : goal.after_pivot-requires-clause-line
after_pivot-requires-clause-line c = (subst (λ (f : HeldFound). IsForPivot c.pivots.tableau f) c.in-Pivots.is c.in_ok-found.ensures.place).0

pub after_pivot-requires-clause-place : goal.after_pivot-requires-clause-place
after_pivot-requires-clause-place c = (subst (λ (f : HeldFound). IsForPivot c.pivots.tableau f) c.in-Pivots.is c.in_ok-found.ensures.place).1

pub after_pivot-requires-clause-number : goal.after_pivot-requires-clause-number
after_pivot-requires-clause-number c = (subst (λ (f : HeldFound). IsForPivot c.pivots.tableau f) c.in-Pivots.is c.in_ok-found.ensures.place).2

pub returns-in-None : goal.returns-in-None
returns-in-None c =
    let system = c.args.rows.now in
    let tableau = tableau_of c.pivots.tableau in
    let found = sym c.in_ok-found.ensures.found ∙ ap (found_of tableau) c.in-Pivots.is in
    let none = sym c.in_ok-next-in-Pivots.ensures.tableau ∙ ap (option_map tableau_of) c.in-None.is in
    sym (c.pivots.invariant ∙ ap (λ n. outcome_after n system tableau) (one_less c.args.limit c.pivots.made c.pivots-test.true)
    ∙ gives_up_at_pivot (c.args.limit - (c.pivots.made + 1)) system tableau c.in-Pivots.place (line_at c.in-Pivots.line tableau) found none)

pub pivots-preserved : goal.pivots-preserved
pivots-preserved c =
    let system = c.args.rows.now in
    let tableau = tableau_of c.pivots.tableau in
    let found = sym c.in_ok-found.ensures.found ∙ ap (found_of tableau) c.in-Pivots.is in
    let made = sym c.in_ok-next-in-Pivots.ensures.tableau ∙ ap (option_map tableau_of) c.in-Some.is in
    c.pivots.invariant ∙ ap (λ n. outcome_after n system tableau) (one_less c.args.limit c.pivots.made c.pivots-test.true)
    ∙ goes_on_after (c.args.limit - (c.pivots.made + 1)) system tableau (tableau_of c.in-Some.next) c.in-Pivots.place (line_at c.in-Pivots.line tableau) found made

pub last_round-requires-clause-leads : goal.last_round-requires-clause-leads
last_round-requires-clause-leads c =
    c.pivots.invariant ∙ ap (λ n. outcome_after n c.args.rows.now (tableau_of c.pivots.tableau)) (omega (arith, c.pivots-test.false))
