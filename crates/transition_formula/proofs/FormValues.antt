-- What forms that are made of others are worth.
use Rattle.std.proofs.Common.{◌≡◌, ℕ, ◌<◌, ℤ, pos, ◌+ℤ◌, ◌*ℤ◌, true, List, [], ◌∷◌, map, length, get_or, Some, sym, ap, ap₂, subst, ◌∙◌, arith}
use Rattle.std.specs.List.{AllByRecursion, list_all}
use Rattle.std.proofs.lemmas.Int.{ints}
use Rattle.std.proofs.lemmas.List.{length-map, length-replicate}
use Rattle.std.proofs.lemmas.Option.{option_and_then_some}
use Rattle.thr_base.specs.Number.{Fits, fits}
use Rattle.lin_rows.specs.Exact.{fitting}
use Rattle.lin_rows.specs.Row.{product_of}
use Rattle.lin_rows.specs.Sum.{sum_in_order}
use Rattle.lin_rows.proofs.Booleans.{both_true, given_where_true}
use Rattle.lin_rows.proofs.Integers.{mul-add_ℤ, zero-add_ℤ, add-zero_ℤ, add_assoc_ℤ}
use Rattle.lin_rows.proofs.Numbers.{fits-true, zero_fits}
use Rattle.lin_rows.proofs.Points.{product_of-scaled, product_of-sum_of, regroup}
use Rattle.lin_rows.proofs.Sums.{sum_in_order-given}
use Rattle.transition_formula.specs.Program.{Form, IsFormOver}
use Rattle.transition_formula.specs.Step.{value_of}
use Rattle.transition_formula.specs.Forms.{constant_form, column_form, form_fits, fitting_form, form_sum, form_multiple, fitting_sum, fitting_multiple, with_multiple, with_multiples, fitting_composition}
use Rattle.transition_formula.specs.FormLaws.{FormsAreMade, SumsAreExact, MultiplesAreExact, CompositionsAreExact, ValuesAreExact}
use Rattle.transition_formula.proofs.FittingLists.{length-sum_of}
use Rattle.transition_formula.proofs.Numbers.{zeros_fit}
use Rattle.transition_formula.proofs.ProductLemmas.{product_of-zeros, product_of-one}

-- ---- made
-- A constant form is worth its constant.
constant-value : (width : ℕ) (k : ℤ) (z : List ℤ) → value_of (constant_form width k) z ≡ k
constant-value width k z = ap (λ v. v +ℤ k) (product_of-zeros width z) ∙ zero-add_ℤ k

-- A column's form is worth the column's value.
column-value : (width c : ℕ) (z : List ℤ) → c < width → value_of (column_form width c) z ≡ get_or z c (pos 0)
column-value width c z h = ap (λ v. v +ℤ pos 0) (product_of-one width c z h) ∙ add-zero_ℤ (get_or z c (pos 0))

-- Constant forms and forms of columns are worth what they say.
pub forms-made : FormsAreMade
forms-made = record { constants = constant-value; columns = column-value }

-- ---- what is given is what was made, and fits
-- A form that is given is the one that was made.
pub given-is : (form made : Form) → fitting_form form ≡ Some made → form ≡ made
given-is form made e = (given_where_true (form_fits form) form made e).1

-- Numbers that pass the test fit.
pub all-fit : (xs : List ℤ) → list_all fits xs ≡ true → AllByRecursion Fits xs
all-fit [] e = tt
all-fit (x ∷ xs) e = let both = both_true (fits x) (list_all fits xs) e in (fits-true x both.0, all-fit xs both.1)

-- A form that is given is over its columns, and fits.
pub given-over : (width : ℕ) (form made : Form) → length form.coefficients ≡ width → fitting_form form ≡ Some made → IsFormOver width made
given-over width form made one_each e =
    let both = both_true (list_all fits form.coefficients) (fits form.constant) (given_where_true (form_fits form) form made e).0 in
    subst (IsFormOver width) (given-is form made e) (record { one_each = one_each; coefficients_fit = all-fit form.coefficients both.0; constant_fits = fits-true form.constant both.1 })

-- how many coefficients there are
pub multiple-width : (k : ℤ) (form multiple : Form) → fitting_multiple k form ≡ Some multiple → length multiple.coefficients ≡ length form.coefficients
multiple-width k form multiple e =
    ap (λ made. length made.coefficients) (sym (given-is (form_multiple k form) multiple e)) ∙ length-map form.coefficients (λ x. k *ℤ x)

-- A sum has as many coefficients as its parts.
sum-width : (one other sum : Form) → length other.coefficients ≡ length one.coefficients → fitting_sum one other ≡ Some sum → length sum.coefficients ≡ length one.coefficients
sum-width one other sum same e =
    ap (λ made. length made.coefficients) (sym (given-is (form_sum one other) sum e)) ∙ length-sum_of one.coefficients other.coefficients (sym same)

-- A sum with a multiple has as many coefficients as the sum before.
pub step-width : (sum : Form) (k : ℤ) (form more : Form) → length form.coefficients ≡ length sum.coefficients → Some more ≡ with_multiple sum k form → length more.coefficients ≡ length sum.coefficients
step-width sum k form more same e =
    option_and_then_some (fitting_sum sum) (fitting_multiple k form) more (sym e) (λ multiple given rest. sum-width sum multiple more (multiple-width k form multiple given ∙ same) rest)

-- ---- sums

-- A sum that is given is worth the sum of the values.
sum-value : (one other sum : Form) (z : List ℤ) → fitting_sum one other ≡ Some sum → value_of sum z ≡ value_of one z +ℤ value_of other z
sum-value one other sum z e =
    ap (λ form. value_of form z) (sym (given-is (form_sum one other) sum e))
    ∙ ap (λ v. v +ℤ (one.constant +ℤ other.constant)) (product_of-sum_of one.coefficients other.coefficients z)
    ∙ regroup (product_of one.coefficients z) (product_of other.coefficients z) one.constant other.constant

-- A sum that is given is over the same columns.
sum-over : (width : ℕ) (one other sum : Form) → fitting_sum one other ≡ Some sum → IsFormOver width one → IsFormOver width other → IsFormOver width sum
sum-over width one other sum e is are =
    given-over width (form_sum one other) sum (length-sum_of one.coefficients other.coefficients (is.one_each ∙ sym are.one_each) ∙ is.one_each) e

-- Sums that are given are exact.
pub sums-exact : SumsAreExact
sums-exact = record { values = sum-value; over = sum-over }

-- ---- multiples
-- A multiple that is given is worth the multiple of the value.
multiple-value : (k : ℤ) (form multiple : Form) (z : List ℤ) → fitting_multiple k form ≡ Some multiple → value_of multiple z ≡ k *ℤ value_of form z
multiple-value k form multiple z e =
    ap (λ made. value_of made z) (sym (given-is (form_multiple k form) multiple e))
    ∙ ap (λ v. v +ℤ k *ℤ form.constant) (product_of-scaled k form.coefficients z)
    ∙ sym (mul-add_ℤ k (product_of form.coefficients z) form.constant)

-- A multiple that is given is over the same columns.
multiple-over : (width : ℕ) (k : ℤ) (form multiple : Form) → fitting_multiple k form ≡ Some multiple → IsFormOver width form → IsFormOver width multiple
multiple-over width k form multiple e is =
    given-over width (form_multiple k form) multiple (length-map form.coefficients (λ x. k *ℤ x) ∙ is.one_each) e

-- Multiples that are given are exact.
pub multiples-exact : MultiplesAreExact
multiples-exact = record { values = multiple-value; over = multiple-over }

-- ---- compositions
-- A sum with a multiple is worth the sum and the multiple.
step-value : (sum : Form) (k : ℤ) (form more : Form) (z : List ℤ) → with_multiple sum k form ≡ Some more → value_of more z ≡ value_of sum z +ℤ k *ℤ value_of form z
step-value sum k form more z e =
    option_and_then_some (fitting_sum sum) (fitting_multiple k form) more e (λ multiple given rest.
    sum-value sum multiple more z rest ∙ ap (λ v. value_of sum z +ℤ v) (multiple-value k form multiple z given))

-- A sum with multiples of forms is worth the sum and the product of the numbers with the values of the forms.
multiples-value : (sum : Form) (ks : List ℤ) (forms : List Form) (whole : Form) (z : List ℤ) → length forms ≡ length ks → with_multiples sum ks forms ≡ Some whole
    → value_of whole z ≡ value_of sum z +ℤ product_of ks (map (λ form. value_of form z) forms)
multiples-value sum [] [] whole z one_each e =
    let same : sum ≡ whole = cc in ap (λ form. value_of form z) (sym same) ∙ sym (add-zero_ℤ (value_of sum z))
multiples-value sum [] (form ∷ forms) whole z one_each e = absurd (omega arith)
multiples-value sum (k ∷ ks) [] whole z one_each e = absurd (omega arith)
multiples-value sum (k ∷ ks) (form ∷ forms) whole z one_each e =
    option_and_then_some (λ more. with_multiples more ks forms) (with_multiple sum k form) whole e (λ more given rest.
    multiples-value more ks forms whole z (omega arith) rest
    ∙ ap (λ v. v +ℤ product_of ks (map (λ form. value_of form z) forms)) (step-value sum k form more z given)
    ∙ add_assoc_ℤ (value_of sum z) (k *ℤ value_of form z) (product_of ks (map (λ form. value_of form z) forms)))

-- A composition is worth the form's value at the values of the forms.
composition-value : (width : ℕ) (form whole : Form) (forms : List Form) (z : List ℤ) → length forms ≡ length form.coefficients
    → fitting_composition width form forms ≡ Some whole → value_of whole z ≡ value_of form (map (λ replacing. value_of replacing z) forms)
composition-value width form whole forms z one_each e =
    option_and_then_some (λ sum. fitting_sum sum (constant_form width form.constant)) (with_multiples (constant_form width (pos 0)) form.coefficients forms) whole e (λ sum given rest.
    sum-value sum (constant_form width form.constant) whole z rest
    ∙ ap₂ ◌+ℤ◌
    (multiples-value (constant_form width (pos 0)) form.coefficients forms sum z one_each given
    ∙ ap (λ v. v +ℤ product_of form.coefficients (map (λ replacing. value_of replacing z) forms)) (constant-value width (pos 0) z)
    ∙ zero-add_ℤ (product_of form.coefficients (map (λ replacing. value_of replacing z) forms)))
    (constant-value width form.constant z))

-- A constant form is over its columns where the constant fits.
pub constant-over : (width : ℕ) (k : ℤ) → Fits k → IsFormOver width (constant_form width k)
constant-over width k h = record { one_each = length-replicate width (pos 0); coefficients_fit = zeros_fit width; constant_fits = h }

-- A sum with a multiple is over the same columns.
step-over : (width : ℕ) (sum : Form) (k : ℤ) (form more : Form) → IsFormOver width sum → IsFormOver width form → with_multiple sum k form ≡ Some more → IsFormOver width more
step-over width sum k form more is are e =
    option_and_then_some (fitting_sum sum) (fitting_multiple k form) more e (λ multiple given rest.
    sum-over width sum multiple more rest is (multiple-over width k form multiple given are))

-- A sum with multiples is over the same columns.
multiples-over : (width : ℕ) (sum : Form) (ks : List ℤ) (forms : List Form) (whole : Form) → IsFormOver width sum → AllByRecursion (IsFormOver width) forms
    → with_multiples sum ks forms ≡ Some whole → IsFormOver width whole
multiples-over width sum [] forms whole is are e = let same : sum ≡ whole = cc in subst (IsFormOver width) same is
multiples-over width sum (k ∷ ks) [] whole is are e = let same : sum ≡ whole = cc in subst (IsFormOver width) same is
multiples-over width sum (k ∷ ks) (form ∷ forms) whole is are e =
    option_and_then_some (λ more. with_multiples more ks forms) (with_multiple sum k form) whole e (λ more given rest.
    multiples-over width more ks forms whole (step-over width sum k form more is are.0 given) are.1 rest)

-- A composition is over the columns of the forms.
composition-over : (width : ℕ) (form whole : Form) (forms : List Form) → Fits form.constant → AllByRecursion (IsFormOver width) forms
    → fitting_composition width form forms ≡ Some whole → IsFormOver width whole
composition-over width form whole forms h are e =
    option_and_then_some (λ sum. fitting_sum sum (constant_form width form.constant)) (with_multiples (constant_form width (pos 0)) form.coefficients forms) whole e (λ sum given rest.
    sum-over width sum (constant_form width form.constant) whole rest
    (multiples-over width (constant_form width (pos 0)) form.coefficients forms sum (constant-over width (pos 0) zero_fits) are given) (constant-over width form.constant h))

-- Compositions that are given are exact.
pub compositions-exact : CompositionsAreExact
compositions-exact = record { values = composition-value; over = composition-over }

-- ---- values
-- A number that is given is the number, and fits.
number-given : (z v : ℤ) → fitting z ≡ Some v → (v ≡ z) × Fits v
number-given z v e = let given = given_where_true (fits z) z v e in (sym given.1, subst Fits given.1 (fits-true z given.0))

-- Values that are given are exact.
pub values-exact : ValuesAreExact
values-exact = record {
  values = λ form z v e. option_and_then_some (λ sum. fitting (sum +ℤ form.constant)) (sum_in_order form.coefficients z) v e (λ sum given rest.
      (number-given (sum +ℤ form.constant) v rest).0 ∙ ap (λ s. s +ℤ form.constant) (sum_in_order-given form.coefficients z sum given).1);
  fit = λ form z v e. option_and_then_some (λ sum. fitting (sum +ℤ form.constant)) (sum_in_order form.coefficients z) v e (λ sum given rest.
      (number-given (sum +ℤ form.constant) v rest).1);
}
