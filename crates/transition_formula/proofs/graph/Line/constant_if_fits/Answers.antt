use Rattle.std.proofs.Common.{◌≡◌, ◌∙◌, Some, true, ap, rules}
use Rattle.thr_base.specs.Number.{fits}
use Rattle.transition_formula.specs.Forms.{constant_form}
use Rattle.transition_formula.specs.Stored.{form_of}
use Rattle.transition_formula.proofs.FormProducts.{fitting_form-constant}
use Rattle.transition_formula.proofs.graph.Line.constant_if_fits.Goals as goal

pub returns-in_ok-line : goal.returns-in_ok-line
returns-in_ok-line c =
    let fit : fits c.args.value ≡ true = search rules in
    let made : form_of c.in_ok-line.line ≡ constant_form c.args.width c.args.value = search rules in
    ap Some made ∙ fitting_form-constant c.args.width c.args.value fit
