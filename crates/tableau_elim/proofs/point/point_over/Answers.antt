use Rattle.std.proofs.Common.{◌≡◌, ◌∙◌, sym, ap, map, pos, Some}
use Rattle.std.specs.Prelude.{ℤ}
use Rattle.std.specs.Global.{Vec}
use Rattle.std.specs.Option.{option_map}
use Rattle.lin_rows.specs.Exact.{fitting}
use Rattle.lin_rows.proofs.Numbers.{read_back}
use Rattle.farkas_cert.specs.Elimination.{every}
use Rattle.farkas_cert.proofs.Reduced.{fitting_is}
use Rattle.tableau_elim.specs.Rounds.{common_denominator}
use Rattle.tableau_elim.specs.inside.Held.{fraction_in}
use Rattle.tableau_elim.specs.inside.Combined.{numerator_over}
use Rattle.tableau_elim.proofs.Multiples.{point_made, point_none}
use Rattle.tableau_elim.proofs.point.point_over.Goals as goal

pub returns-in-Some-made : goal.returns-in-Some-made
returns-in-Some-made c =
    let values = map fraction_in c.args.values.now in
    let d = c.in-Some.denominator in
    let e : Some d ≡ fitting (pos (common_denominator values)) = c.in-Some.ensures in
    let is = fitting_is (pos (common_denominator values)) d e in
    let read = read_back d is.1 in
    let numbers = ap (option_map (λ (v : Vec ℤ). v.items)) (sym c.in-Some-made.is) ∙ c.in_ok-made.ensures ∙ ap (λ d. every (map (numerator_over d) values)) read in
    point_made values c.of.result c.in-Some-made.numerators.items d _ e read numbers c.of.ensures

pub returns-in-None : goal.returns-in-None
returns-in-None c =
    let values = map fraction_in c.args.values.now in
    let d = c.in-Some.denominator in
    let e : Some d ≡ fitting (pos (common_denominator values)) = c.in-Some.ensures in
    let is = fitting_is (pos (common_denominator values)) d e in
    let read = read_back d is.1 in
    let numbers = ap (option_map (λ (v : Vec ℤ). v.items)) (sym c.in-None.is) ∙ c.in_ok-made.ensures ∙ ap (λ d. every (map (numerator_over d) values)) read in
    point_none values d e numbers
