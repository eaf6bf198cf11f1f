use Rattle.std.proofs.Common.{◌∙◌, ap, drop}
use Rattle.std.proofs.lemmas.List.{take_rest}
use Rattle.lin_rows.proofs.Numbers.{read_back}
use Rattle.tableau_elim.proofs.Multipliers.{with_same, multiplier_same}
use Rattle.tableau_elim.proofs.refuting.set_all.Goals as goal

pub returns : goal.returns
returns c =
    let read = read_back c.divisor_of.result c.divisor_of.ensures.fits in
    c.set_for_places.ensures
    ∙ with_same _ _ _ _ _ _ c.as_slice.ensures.value (take_rest c.numbers_of.result.now 1 ∙ ap (drop 1) c.numbers_of.ensures.numbers)
    (c.set_multiplier.ensures ∙ multiplier_same _ _ _ _ _ c.basic_of.ensures (read ∙ c.divisor_of.ensures.divisor))
