use Rattle.std.proofs.Common.{◌≡◌, ◌∙◌, sym, ap, ap₂, drop, Some}
use Rattle.std.proofs.lemmas.List.{take_rest}
use Rattle.tableau_elim.specs.Rounds.{chosen_place}
use Rattle.tableau_elim.specs.inside.Held.{tableau_of}
use Rattle.tableau_elim.specs.inside.Lines.{line_at}
use Rattle.tableau_elim.proofs.Certificates.{chosen_is, get_rest}
use Rattle.tableau_elim.proofs.round.mended_by_place.Goals as goal

pub returns-in-Some-clause-place : goal.returns-in-Some-clause-place
returns-in-Some-clause-place c =
    let line = line_at c.args.line (tableau_of c.args.tableau.now) in
    let places = c.args.tableau.now.places.items in
    let place = c.in-Some.place in
    let numbers = take_rest c.numbers_of-numbers.result.now 1 ∙ ap (drop 1) c.numbers_of-numbers.ensures.numbers in
    let e : chosen_place c.args.side places (drop 1 line.numbers) ≡ Some place =
    ap₂ (λ ps ts. chosen_place c.args.side ps ts) (sym c.as_slice.ensures.value) (sym numbers) ∙ sym c.chosen_place.ensures ∙ c.in-Some.is in
    let is = chosen_is c.args.side places (drop 1 line.numbers) place e in
    (c.requires.within, is.0, λ z. is.1 (get_rest line.numbers place ∙ z))
