-- What the sums, differences, multiples, products and compositions of forms are worth.
use Rattle.std.specs.Prelude.{◌≡◌, ◌<◌, ℕ, ℤ, pos, ◌+ℤ◌, ◌-ℤ◌, ◌*ℤ◌, List, length, map, slice_index_or, Some}
use Rattle.std.specs.List.{AllByRecursion}
use Rattle.thr_base.specs.Number.{Fits}
use Rattle.transition_formula.specs.Program.{Form, IsFormOver}
use Rattle.transition_formula.specs.Step.{value_of}
use Rattle.transition_formula.specs.Forms.{constant_form, column_form, fitting_sum, fitting_difference, fitting_multiple, fitting_product, fitting_composition, value_if_fits}

-- A constant form has its value everywhere, and a column's form has the column's.
pub record FormsAreMade : Type 0 where
  pub constants : (width : ℕ) (k : ℤ) (z : List ℤ) → value_of (constant_form width k) z ≡ k
  pub columns : (width c : ℕ) (z : List ℤ) → c < width → value_of (column_form width c) z ≡ slice_index_or z c (pos 0)

-- A sum of forms that is given has the sum of their values, over unbounded integers; it is over the same columns.
pub record SumsAreExact : Type 0 where
  pub values : (one other sum : Form) (z : List ℤ) → fitting_sum one other ≡ Some sum → value_of sum z ≡ value_of one z +ℤ value_of other z
  pub over : (width : ℕ) (one other sum : Form) → fitting_sum one other ≡ Some sum → IsFormOver width one → IsFormOver width other → IsFormOver width sum

-- A difference of forms that is given has the difference of their values.
pub record DifferencesAreExact : Type 0 where
  pub values : (one other difference : Form) (z : List ℤ) → fitting_difference one other ≡ Some difference → value_of difference z ≡ value_of one z -ℤ value_of other z
  pub over : (width : ℕ) (one other difference : Form) → fitting_difference one other ≡ Some difference → IsFormOver width one → IsFormOver width other → IsFormOver width difference

-- A multiple of a form that is given has the multiple of its value.
pub record MultiplesAreExact : Type 0 where
  pub values : (k : ℤ) (form multiple : Form) (z : List ℤ) → fitting_multiple k form ≡ Some multiple → value_of multiple z ≡ k *ℤ value_of form z
  pub over : (width : ℕ) (k : ℤ) (form multiple : Form) → fitting_multiple k form ≡ Some multiple → IsFormOver width form → IsFormOver width multiple

-- A product of forms that is given has the product of their values.
pub record ProductsAreExact : Type 0 where
  pub values : (one other product : Form) (z : List ℤ) → fitting_product one other ≡ Some product → value_of product z ≡ value_of one z *ℤ value_of other z
  pub over : (width : ℕ) (one other product : Form) → fitting_product one other ≡ Some product → IsFormOver width one → IsFormOver width other → IsFormOver width product

-- A composition that is given has the form's value at the values of the forms that replace the columns.
pub record CompositionsAreExact : Type 0 where
  pub values : (width : ℕ) (form whole : Form) (forms : List Form) (z : List ℤ) → length forms ≡ length form.coefficients
      → fitting_composition width form forms ≡ Some whole → value_of whole z ≡ value_of form (map (λ replacing. value_of replacing z) forms)
  pub over : (width : ℕ) (form whole : Form) (forms : List Form) → Fits form.constant → AllByRecursion (IsFormOver width) forms
      → fitting_composition width form forms ≡ Some whole → IsFormOver width whole

-- A value that is given is the form's, over unbounded integers, and fits.
pub record ValuesAreExact : Type 0 where
  pub values : (form : Form) (z : List ℤ) (v : ℤ) → value_if_fits form z ≡ Some v → v ≡ value_of form z
  pub fit : (form : Form) (z : List ℤ) (v : ℤ) → value_if_fits form z ≡ Some v → Fits v
