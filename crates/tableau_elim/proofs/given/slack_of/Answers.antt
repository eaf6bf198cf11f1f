use Rattle.std.proofs.Common.{◌∙◌, ap, arith, to_z-of_z}
use Rattle.std.specs.Prelude.{false}
use Rattle.std.specs.Option.{unwrap_or}
use Rattle.tableau_elim.proofs.GivenLines.{slack_is}
use Rattle.tableau_elim.proofs.given.slack_of.Goals as goal
use Rattle.farkas_cert.proofs.NumberedRows.{equality-place}

pub overflow_add-place : goal.overflow_add-place
overflow_add-place c = let few = c.requires.named.count in omega arith

pub returns : goal.returns
returns c = λ row is.
    let equal = c.unwrap_or.ensures ∙ ap (λ o. unwrap_or o false) c.equality_of.ensures ∙ equality-place c.args.rows.now.rows c.args.place row is in
    slack_is c.args.place c.unwrap_or.result row.equal _ c.args.bound equal (to_z-of_z c.ranges.bound)
