use Rattle.std.proofs.Common.{◌∙◌, sym}
use Rattle.annotation_form.proofs.Marks.{split, position-None}
use Rattle.annotation_form.proofs.line.split_at.Goals as goal

pub returns-in_err-place-clause-none : goal.returns-in_err-place-clause-none
returns-in_err-place-clause-none c = rw c.from_residual.ensures (position-None c.args.mark c.args.text.now (sym c.place_of.ensures.value ∙ c.in_err-place.was))

pub returns-clause-plain : goal.returns-clause-plain
returns-clause-plain c =
    (split c.args.mark c.in_ok-place.place c.args.text.now _ _ (sym c.place_of.ensures.value ∙ c.in_ok-place.was) c.up_to.ensures c.behind.ensures).plain

pub returns-clause-parts : goal.returns-clause-parts
returns-clause-parts c =
    (split c.args.mark c.in_ok-place.place c.args.text.now _ _ (sym c.place_of.ensures.value ∙ c.in_ok-place.was) c.up_to.ensures c.behind.ensures).text_is
