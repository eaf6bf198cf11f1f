use Rattle.std.proofs.Common.{◌≡◌, ◌∙◌, ◌+ℤ◌, ◌*ℤ◌, ◌-ℤ◌, negsuc, pos, get_or, ap, sym, rules}
use Rattle.lin_rows.specs.Exact.{fitting}
use Rattle.transition_formula.proofs.FittingLists.{get_or-differences, minus-is}
use Rattle.transition_formula.proofs.lines.difference_of_both.Goals as goal

pub returns : goal.returns
returns c =
    let x = get_or c.args.one.now c.args.place (pos 0) in
    let y = get_or c.args.other.now c.args.place (pos 0) in
    let made : c.difference_if_fits.result ≡ fitting (x -ℤ y) = search rules in
    made ∙ ap fitting (minus-is x y ∙ sym (get_or-differences c.args.one.now c.args.other.now c.args.place c.requires.lengths c.requires.within))
