-- What differences and products of forms are worth, and that columns are forms.
use Rattle.std.proofs.Common.{◌≡◌, ℕ, ℤ, pos, negsuc, ◌+ℤ◌, ◌-ℤ◌, ◌*ℤ◌, Bool, true, false, cond, List, [], ◌∷◌, Some, None, refl, sym, ap, ◌∙◌, arith}
use Rattle.std.specs.List.{AllByRecursion, list_all}
use Rattle.std.specs.Ordering.{int_eq}
use Rattle.std.proofs.lemmas.Int.{ints}
use Rattle.std.proofs.lemmas.List.{length-replicate, length-set}
use Rattle.std.proofs.lemmas.Bool.Decides.{Decides-int_eq}
use Rattle.thr_base.specs.Number.{Fits, fits}
use Rattle.lin_rows.specs.Row.{product_of}
use Rattle.lin_rows.proofs.Booleans.{both_true}
use Rattle.lin_rows.proofs.Divisors.{AllZero}
use Rattle.lin_rows.proofs.Integers.{mul-add_ℤ, mul_comm_ℤ, zero-add_ℤ}
use Rattle.lin_rows.proofs.Numbers.{one_fits, true-fits, zero_fits}
use Rattle.lin_rows.proofs.Points.{product_of-AllZero, product_of-scaled}
use Rattle.transition_formula.specs.Program.{Form, IsFormOver}
use Rattle.transition_formula.specs.Rows.{zeros}
use Rattle.transition_formula.specs.Step.{value_of}
use Rattle.transition_formula.specs.Forms.{column_form, constant_form, fitting_difference, fitting_form, fitting_multiple, fitting_product, form_multiple, form_sum, is_constant}
use Rattle.transition_formula.specs.FormLaws.{DifferencesAreExact, ProductsAreExact}
use Rattle.transition_formula.proofs.FittingLists.{length-differences, minus-is}
use Rattle.transition_formula.proofs.FormValues.{constant-over, given-over, multiples-exact, sums-exact}
use Rattle.transition_formula.proofs.Numbers.{unit_fits, zeros_fit}

-- ---- forms of one value, and of one column

-- a constant form that is given is over its columns, and fits
pub fitting_constant-over : (width : ℕ) (k : ℤ) (made : Form) → fitting_form (constant_form width k) ≡ Some made → IsFormOver width made
fitting_constant-over width k made e = given-over width (constant_form width k) made (length-replicate width (pos 0)) e

-- a column's form is over its columns, and fits
pub column-over : (width c : ℕ) → IsFormOver width (column_form width c)
column-over width c = record {
  one_each = length-set (zeros width) c (pos 1) ∙ length-replicate width (pos 0);
  coefficients_fit = unit_fits width c (pos 1) one_fits;
  constant_fits = zero_fits;
}

-- numbers that fit pass the test
all_pass : (xs : List ℤ) → AllByRecursion Fits xs → list_all fits xs ≡ true
all_pass [] all = refl
all_pass (x ∷ xs) all = rw (true-fits x all.0) (all_pass xs all.1)

-- zeros pass it
zeros-pass : (width : ℕ) → list_all fits (zeros width) ≡ true
zeros-pass width = all_pass (zeros width) (zeros_fit width)

-- a form of one value is given where the value fits
pub fitting_form-constant : (width : ℕ) (k : ℤ) → fits k ≡ true → Some (constant_form width k) ≡ fitting_form (constant_form width k)
fitting_form-constant width k fit = rw (zeros-pass width, fit) refl

-- ---- coefficients that are all 0

-- numbers that pass the test are all 0
pub all_zero : (xs : List ℤ) → list_all (int_eq (pos 0)) xs ≡ true → AllZero xs
all_zero [] e = tt
all_zero (x ∷ xs) e =
    let both = both_true (int_eq (pos 0) x) (list_all (int_eq (pos 0)) xs) e in
    (sym ((Decides-int_eq (pos 0) x).0 both.0), all_zero xs both.1)

-- a form that is constant is worth its constant
is_constant-value : (form : Form) (z : List ℤ) → is_constant form ≡ true → value_of form z ≡ form.constant
is_constant-value form z e =
    ap (λ v. v +ℤ form.constant) (product_of-AllZero form.coefficients z (all_zero form.coefficients e)) ∙ zero-add_ℤ form.constant

-- ---- differences

-- a multiple over unbounded integers is worth the multiple
form_multiple-value : (k : ℤ) (form : Form) (z : List ℤ) → value_of (form_multiple k form) z ≡ k *ℤ value_of form z
form_multiple-value k form z =
    ap (λ v. v +ℤ k *ℤ form.constant) (product_of-scaled k form.coefficients z) ∙ sym (mul-add_ℤ k (product_of form.coefficients z) form.constant)

-- a difference that is given is worth the difference, and over the same columns
pub differences-exact : DifferencesAreExact
differences-exact = record {
  values = λ one other difference z e.
      sums-exact.values one (form_multiple (negsuc 0) other) difference z e
      ∙ ap (λ v. value_of one z +ℤ v) (form_multiple-value (negsuc 0) other z)
      ∙ sym (minus-is (value_of one z) (value_of other z));
  over = λ width one other difference e is are.
      given-over width (form_sum one (form_multiple (negsuc 0) other)) difference
      (length-differences one.coefficients other.coefficients (is.one_each ∙ sym are.one_each) ∙ is.one_each) e;
}

-- ---- products

-- a product that is given by these tests is worth the product
product-value : (b c : Bool) (one other product : Form) (z : List ℤ) → b ≡ is_constant one → c ≡ is_constant other
    → cond b (fitting_multiple one.constant other) (cond c (fitting_multiple other.constant one) None) ≡ Some product
    → value_of product z ≡ value_of one z *ℤ value_of other z
product-value true c one other product z is are e =
    multiples-exact.values one.constant other product z e ∙ ap (λ v. v *ℤ value_of other z) (sym (is_constant-value one z (sym is)))
product-value false true one other product z is are e =
    multiples-exact.values other.constant one product z e
    ∙ mul_comm_ℤ other.constant (value_of one z)
    ∙ ap (λ v. value_of one z *ℤ v) (sym (is_constant-value other z (sym are)))
product-value false false one other product z is are e = absurd cc

-- a product that is given by these tests is over the same columns
product-over : (b c : Bool) (width : ℕ) (one other product : Form)
    → cond b (fitting_multiple one.constant other) (cond c (fitting_multiple other.constant one) None) ≡ Some product
    → IsFormOver width one → IsFormOver width other → IsFormOver width product
product-over true c width one other product e is are = multiples-exact.over width one.constant other product e are
product-over false true width one other product e is are = multiples-exact.over width other.constant one product e is
product-over false false width one other product e is are = absurd cc

-- a product that is given is worth the product, and over the same columns
pub products-exact : ProductsAreExact
products-exact = record {
  values = λ one other product z e. product-value (is_constant one) (is_constant other) one other product z refl refl e;
  over = λ width one other product e is are. product-over (is_constant one) (is_constant other) width one other product e is are;
}
