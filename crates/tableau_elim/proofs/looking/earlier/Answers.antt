use Rattle.std.proofs.Common.{◌∙◌, sym, ap}
use Rattle.std.specs.Prelude.{not}
use Rattle.tableau_elim.specs.Rounds.{is_within}
use Rattle.tableau_elim.proofs.Firsts.{earlier_not_first, earlier_not_out, earlier_is}
use Rattle.tableau_elim.proofs.looking.earlier.Goals as goal

pub returns-then-not-comes_first-clause-line : goal.returns-then-not-comes_first-clause-line
returns-then-not-comes_first-clause-line c = earlier_not_first _ _ _ (sym c.comes_first.ensures ∙ c.if-not-comes_first.true)

pub returns-then-not-is_out-clause-line : goal.returns-then-not-is_out-clause-line
returns-then-not-is_out-clause-line c =
    earlier_not_out _ _ _ (ap (λ s. not (is_within s)) (sym c.standing_of.ensures) ∙ sym c.is_out.ensures ∙ c.if-not-is_out.true)

pub returns-clause-line : goal.returns-clause-line
returns-clause-line c =
    earlier_is _ _ _ (sym c.comes_first.ensures ∙ c.if-not-comes_first.false) (ap (λ s. not (is_within s)) (sym c.standing_of.ensures) ∙ sym c.is_out.ensures ∙ c.if-not-is_out.false)
