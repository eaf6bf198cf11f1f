use Rattle.std.proofs.Common.{◌≡◌, ◌∙◌, ◌+ℤ◌, pos, get_or, ap, sym, rules}
use Rattle.lin_rows.specs.Exact.{fitting}
use Rattle.transition_formula.proofs.FittingLists.{get_or-sum_of}
use Rattle.transition_formula.proofs.lines.sum_of_both.Goals as goal

pub returns : goal.returns
returns c =
    let sum : c.sum_if_fits.result ≡ fitting (get_or c.args.one.now c.args.place (pos 0) +ℤ get_or c.args.other.now c.args.place (pos 0)) = search rules in
    sum ∙ ap fitting (sym (get_or-sum_of c.args.one.now c.args.other.now c.args.place c.requires.lengths c.requires.within))
