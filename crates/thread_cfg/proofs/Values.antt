-- Expressions as forms: what they are worth, and that their numbers fit.
use Rattle.std.proofs.Common.{◌≡◌, ℕ, ◌≤◌, ℤ, pos, negsuc, neg_ℤ, ◌+ℤ◌, ◌-ℤ◌, ◌*ℤ◌, Bool, true, false, cond, List, [], ◌∷◌, ◌++◌, length, Some, None, refl, sym, subst, ap, ap₂, ◌∙◌, arith}
use Rattle.std.specs.Option.{option_and_then}
use Rattle.std.specs.List.{list_all}
use Rattle.std.specs.Ordering.{int_eq}
use Rattle.std.proofs.lemmas.Int.{ints}
use Rattle.std.proofs.lemmas.List.{get_or_append_left, length-map, length-replicate, length-set}
use Rattle.std.proofs.lemmas.Bool.Decides.{Decides-int_eq}
use Rattle.std.proofs.lemmas.Option.{option_and_then_some}
use Rattle.thr_base.specs.Number.{Fits, fits}
use Rattle.lin_rows.specs.Row.{product_of}
use Rattle.lin_rows.proofs.Booleans.{both_true, given_where_true}
use Rattle.lin_rows.proofs.Divisors.{AllZero}
use Rattle.lin_rows.proofs.Integers.{mul-add_ℤ, mul_comm_ℤ, zero-add_ℤ}
use Rattle.lin_rows.proofs.Lists.{AllByRecursion-map}
use Rattle.lin_rows.proofs.Numbers.{Fits-neg, fits-true, one_fits, zero_fits}
use Rattle.lin_rows.proofs.Points.{product_of-AllZero, product_of-scaled}
use Rattle.transition_formula.specs.Program.{Form, IsFormOver}
use Rattle.transition_formula.specs.Rows.{zeros}
use Rattle.transition_formula.specs.Step.{value_of}
use Rattle.transition_formula.specs.Forms.{column_form, constant_form, fitting_difference, fitting_form, fitting_multiple, fitting_product, fitting_sum, form_fits, form_multiple, is_constant}
use Rattle.transition_formula.proofs.FormProducts.{column-over, differences-exact, fitting_constant-over, products-exact}
use Rattle.transition_formula.proofs.FormValues.{forms-made, given-is, multiples-exact, sums-exact}
use Rattle.transition_formula.proofs.Numbers.{unit_fits, zeros_fit}
use Rattle.c_check.specs.Plan.{Arithmetic}
use Rattle.thread_cfg.specs.Source.{Frame, column_of, value}
use Rattle.thread_cfg.specs.Edge.{form_of}
use Rattle.thread_cfg.specs.Within.{IsWithin}

-- a number times -1
minus_once : (x : ℤ) → negsuc 0 *ℤ x ≡ neg_ℤ x
minus_once x = omega (arith, ints)

-- An expression's form is worth what the expression is.
pub form_of-value : (width n : ℕ) (frame : Frame) (a : Arithmetic) (form : Form) (z : List ℤ) → n ≤ width → IsWithin n frame a
    → form_of width frame a ≡ Some form → value_of form z ≡ value frame z a
form_of-value width n frame (Arithmetic.Number k) form z h within e = ap (λ f. value_of f z) (sym (given-is (constant_form width k) form e)) ∙ forms-made.constants width k z
form_of-value width n frame (Arithmetic.Value v) form z h within e =
    let same : column_form width (column_of frame v) ≡ form = cc in
    ap (λ f. value_of f z) (sym same) ∙ forms-made.columns width (column_of frame v) z (omega arith)
form_of-value width n frame (Arithmetic.Negated a) form z h within e =
    option_and_then_some (fitting_multiple (negsuc 0)) (form_of width frame a) form e (λ one given rest.
    multiples-exact.values (negsuc 0) one form z rest ∙ minus_once (value_of one z) ∙ ap neg_ℤ (form_of-value width n frame a one z h within given))
form_of-value width n frame (Arithmetic.Sum a b) form z h within e =
    option_and_then_some (λ one. option_and_then (fitting_sum one) (form_of width frame b)) (form_of width frame a) form e (λ one given more.
    option_and_then_some (fitting_sum one) (form_of width frame b) form more (λ other too rest.
    sums-exact.values one other form z rest
    ∙ ap₂ ◌+ℤ◌ (form_of-value width n frame a one z h within.0 given) (form_of-value width n frame b other z h within.1 too)))
form_of-value width n frame (Arithmetic.Difference a b) form z h within e =
    option_and_then_some (λ one. option_and_then (fitting_difference one) (form_of width frame b)) (form_of width frame a) form e (λ one given more.
    option_and_then_some (fitting_difference one) (form_of width frame b) form more (λ other too rest.
    differences-exact.values one other form z rest
    ∙ ap₂ ◌-ℤ◌ (form_of-value width n frame a one z h within.0 given) (form_of-value width n frame b other z h within.1 too)))
form_of-value width n frame (Arithmetic.Product a b) form z h within e =
    option_and_then_some (λ one. option_and_then (fitting_product one) (form_of width frame b)) (form_of width frame a) form e (λ one given more.
    option_and_then_some (fitting_product one) (form_of width frame b) form more (λ other too rest.
    products-exact.values one other form z rest
    ∙ ap₂ ◌*ℤ◌ (form_of-value width n frame a one z h within.0 given) (form_of-value width n frame b other z h within.1 too)))

-- An expression's form is over the columns.
pub form_of-over : (width : ℕ) (frame : Frame) (a : Arithmetic) (form : Form) → form_of width frame a ≡ Some form → IsFormOver width form
form_of-over width frame (Arithmetic.Number k) form e = fitting_constant-over width k form e
form_of-over width frame (Arithmetic.Value v) form e =
    let same : column_form width (column_of frame v) ≡ form = cc in subst (IsFormOver width) same (column-over width (column_of frame v))
form_of-over width frame (Arithmetic.Negated a) form e =
    option_and_then_some (fitting_multiple (negsuc 0)) (form_of width frame a) form e (λ one given rest.
    multiples-exact.over width (negsuc 0) one form rest (form_of-over width frame a one given))
form_of-over width frame (Arithmetic.Sum a b) form e =
    option_and_then_some (λ one. option_and_then (fitting_sum one) (form_of width frame b)) (form_of width frame a) form e (λ one given more.
    option_and_then_some (fitting_sum one) (form_of width frame b) form more (λ other too rest.
    sums-exact.over width one other form rest (form_of-over width frame a one given) (form_of-over width frame b other too)))
form_of-over width frame (Arithmetic.Difference a b) form e =
    option_and_then_some (λ one. option_and_then (fitting_difference one) (form_of width frame b)) (form_of width frame a) form e (λ one given more.
    option_and_then_some (fitting_difference one) (form_of width frame b) form more (λ other too rest.
    differences-exact.over width one other form rest (form_of-over width frame a one given) (form_of-over width frame b other too)))
form_of-over width frame (Arithmetic.Product a b) form e =
    option_and_then_some (λ one. option_and_then (fitting_product one) (form_of width frame b)) (form_of width frame a) form e (λ one given more.
    option_and_then_some (fitting_product one) (form_of width frame b) form more (λ other too rest.
    products-exact.over width one other form rest (form_of-over width frame a one given) (form_of-over width frame b other too)))

-- An expression that is within reads only the front.
pub value-append : (n : ℕ) (frame : Frame) (values rest : List ℤ) (a : Arithmetic) → n ≤ length values → IsWithin n frame a
    → value frame (values ++ rest) a ≡ value frame values a
value-append n frame values rest (Arithmetic.Number k) h within = refl
value-append n frame values rest (Arithmetic.Value v) h within = get_or_append_left values rest (pos 0) (column_of frame v) (omega arith)
value-append n frame values rest (Arithmetic.Negated a) h within = ap neg_ℤ (value-append n frame values rest a h within)
value-append n frame values rest (Arithmetic.Sum a b) h within =
    ap₂ ◌+ℤ◌ (value-append n frame values rest a h within.0) (value-append n frame values rest b h within.1)
value-append n frame values rest (Arithmetic.Difference a b) h within =
    ap₂ ◌-ℤ◌ (value-append n frame values rest a h within.0) (value-append n frame values rest b h within.1)
value-append n frame values rest (Arithmetic.Product a b) h within =
    ap₂ ◌*ℤ◌ (value-append n frame values rest a h within.0) (value-append n frame values rest b h within.1)
