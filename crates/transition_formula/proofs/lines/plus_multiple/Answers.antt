use Rattle.std.proofs.Common.{◌≡◌, ◌<◌, pos, length, map, get_or, Some, option_map, IfOk, sym, ap, subst, ◌∙◌, rules, arith}
use Rattle.std.specs.Option.{option_and_then}
use Rattle.std.proofs.lemmas.List.{get_or-map}
use Rattle.lin_rows.proofs.Lists.{AllByRecursion-map_at}
use Rattle.transition_formula.specs.Forms.{fitting_sum, constant_form, fitting_multiple, with_multiple}
use Rattle.transition_formula.specs.Stored.{form_of}
use Rattle.transition_formula.proofs.FormValues.{multiple-width}
use Rattle.transition_formula.proofs.lines.plus_multiple.Goals as goal

pub plus-requires : goal.plus-requires
plus-requires c =
    let line = c.index-lines-place.result in
    let within : c.args.place < length c.args.lines.now = omega arith in
    let width = AllByRecursion-map_at (λ form. length form.coefficients ≡ length c.args.sum.now.coefficients.items) form_of c.args.lines.now c.args.place line c.requires.widths within c.index-lines-place.is in
    sym (multiple-width _ (form_of line) (form_of c.in-Some.product) (sym c.in_ok-product.ensures ∙ ap (option_map form_of) c.in-Some.is) ∙ width)

pub returns-in-Some : goal.returns-in-Some
returns-in-Some c =
    let line = c.index-lines-place.result in
    let sum = form_of c.args.sum.now in
    let k = get_or c.args.numbers.now c.args.place (pos 0) in
    let form = get_or (map form_of c.args.lines.now) c.args.place (constant_form 0 (pos 0)) in
    let within : c.args.place < length c.args.lines.now = omega arith in
    let same : form ≡ form_of line = get_or-map form_of c.args.lines.now c.args.place line (constant_form 0 (pos 0)) within ∙ ap form_of (sym c.index-lines-place.is) in
    let made : option_map form_of c.in_ok-product.product ≡ fitting_multiple k (form_of line) = search rules in
    let given : fitting_multiple k form ≡ Some (form_of c.in-Some.product) = ap (fitting_multiple k) same ∙ sym made ∙ ap (option_map form_of) c.in-Some.is in
    let whole : with_multiple sum k form ≡ fitting_sum sum (form_of c.in-Some.product) = ap (option_and_then (fitting_sum sum)) given in
    subst (λ v. IfOk c.plus.result (λ found. option_map form_of found ≡ v)) (sym whole) c.plus.ensures
