use Rattle.std.proofs.Common.{◌≡◌, ◌∙◌, Some, to_z, of_z, rules}
use Rattle.std.specs.Prelude.{◌*ℤ◌}
use Rattle.std.specs.Int.{w128}
use Rattle.lin_rows.specs.Exact.{fitting}
use Rattle.tableau_elim.specs.Tableau.{sum_of_line, divisor_of}
use Rattle.tableau_elim.specs.inside.Held.{tableau_of}
use Rattle.tableau_elim.specs.inside.Lines.{line_at}
use Rattle.tableau_elim.proofs.Firsts.{standing_read}
use Rattle.tableau_elim.proofs.looking.standing_of_slack.Goals as goal

pub returns : goal.returns
returns c =
    let places = c.args.tableau.now.places.items in
    let line = line_at c.args.line (tableau_of c.args.tableau.now) in
    let sum = c.in-Some.sum in
    let limit = c.in-Some-product_if_fits.limit in
    let sum_is : Some sum ≡ sum_of_line places line = search rules in
    let limit_is : Some limit ≡ fitting (c.args.slack.bound *ℤ divisor_of line) = search rules in
    let sum_read : to_z w128 (of_z w128 sum) ≡ sum = search rules in
    let limit_read : to_z w128 (of_z w128 limit) ≡ limit = search rules in
    c.standing_by_limit.ensures ∙ standing_read c.args.slack.equal _ sum _ limit _ _ sum_read limit_read sum_is limit_is
