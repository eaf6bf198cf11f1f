use Rattle.std.proofs.Common.{◌≡◌, ◌∙◌, sym, ap, subst}
use Rattle.std.specs.Prelude.{IfOk}
use Rattle.std.specs.Option.{option_map}
use Rattle.tableau_elim.specs.Rounds.{Found, Ends, refuted_outcome, point_of}
use Rattle.tableau_elim.specs.inside.Held.{tableau_of, found_of}
use Rattle.tableau_elim.specs.inside.Lines.{line_at}
use Rattle.tableau_elim.proofs.Outcomes.{found_refutes, found_line, found_point}
use Rattle.tableau_elim.proofs.round.round.Goals as goal

pub mended_by_standing-requires-clause-leads : goal.mended_by_standing-requires-clause-leads
mended_by_standing-requires-clause-leads c = λ side out none.
    let system = c.args.rows.now in
    let tableau = tableau_of c.args.tableau.now in
    let line = line_at c.in-Some.line tableau in
    let first = sym c.first_out.ensures.line ∙ ap (option_map (λ k. line_at k tableau)) c.in-Some.is in
    c.requires.leads (refuted_outcome system side tableau.places line) (found_refutes system tableau line side first (sym c.standing_of-standing.ensures ∙ out) none)

pub returns-in-Some-clause-found : goal.returns-in-Some-clause-found
returns-in-Some-clause-found c =
    let system = c.args.rows.now in
    let tableau = tableau_of c.args.tableau.now in
    let line = line_at c.in-Some.line tableau in
    let first = sym c.first_out.ensures.line ∙ ap (option_map (λ k. line_at k tableau)) c.in-Some.is in
    subst (λ (f : Found). IfOk c.mended_by_standing.result (λ found. found_of tableau found ≡ f)) (found_line system tableau line c.standing_of-standing.result first c.standing_of-standing.ensures) c.mended_by_standing.ensures.found

pub returns-clause-found : goal.returns-clause-found
returns-clause-found c =
    let system = c.args.rows.now in
    let tableau = tableau_of c.args.tableau.now in
    let first = sym c.first_out.ensures.line ∙ ap (option_map (λ k. line_at k tableau)) c.in-None.is in
    ap Ends (c.in_ok-tried-in-None.ensures ∙ ap (λ n. point_of n tableau) c.columns.ensures.columns) ∙ sym (found_point system tableau first)
