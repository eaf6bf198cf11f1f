use Rattle.std.proofs.Common.{◌≡◌, ◌<◌, pos, length, map, get_or, Some, option_map, sym, ap, ◌∙◌, arith}
use Rattle.std.proofs.lemmas.List.{length-map}
use Rattle.lin_rows.proofs.Lists.{AllByRecursion-at}
use Rattle.transition_formula.specs.Forms.{constant_form, with_multiple}
use Rattle.transition_formula.specs.Stored.{form_of}
use Rattle.transition_formula.proofs.FormSteps.{multiples-next}
use Rattle.transition_formula.proofs.FormValues.{step-width}
use Rattle.transition_formula.proofs.lines.multiples_of.Goals as goal

pub places-preserved : goal.places-preserved
places-preserved c =
    let ks = c.args.numbers.now in
    let forms = map form_of c.args.lines.now in
    let i = c.places.place in
    let d = constant_form 0 (pos 0) in
    let sum = form_of c.places.sum in
    let more = form_of c.in-Some.more in
    let one_each : length forms ≡ length ks = length-map c.args.lines.now form_of ∙ c.requires.one_each in
    let there : i < length forms = omega (arith, one_each, c.places-test.true) in
    let made : Some more ≡ with_multiple sum (get_or ks i (pos 0)) (get_or forms i d) = sym (ap (option_map form_of) c.in-Some.is) ∙ c.in_ok-more.ensures in
    let width = AllByRecursion-at (λ form. length form.coefficients ≡ c.args.width) forms i d c.requires.widths there in
    record {
      made = multiples-next sum more _ ks forms i d c.places-test.true one_each made c.places.invariant.made;
      width = step-width sum (get_or ks i (pos 0)) (get_or forms i d) more (width ∙ sym c.places.invariant.width) made ∙ c.places.invariant.width;
    }
