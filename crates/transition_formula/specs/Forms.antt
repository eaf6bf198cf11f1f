-- Linear forms: their values, sums, differences, multiples, products and compositions, each given where the numbers that it is made of
-- fit.
use Rattle.std.specs.Prelude.{ℕ, ℤ, pos, negsuc, ◌+ℤ◌, ◌*ℤ◌, Bool, ◌&&◌, if◌then◌else◌, List, [], ◌∷◌, Option, Some, None, option_and_then}
use Rattle.std.specs.List.{list_all}
use Rattle.std.specs.Ordering.{int_eq}
use Rattle.thr_base.specs.Number.{fits}
use Rattle.lin_rows.specs.Exact.{fitting}
use Rattle.lin_rows.specs.Row.{multiple_of, sum_of}
use Rattle.lin_rows.specs.Sum.{sum_in_order}
use Rattle.transition_formula.specs.Program.{Form}
use Rattle.transition_formula.specs.Rows.{zeros, unit}

-- ---- made

-- the form that has one value everywhere
abbrev pub constant_form : ℕ → ℤ → Form
constant_form width k = record { coefficients = zeros width; constant = k }

-- the form whose value is that of column c
abbrev pub column_form : ℕ → ℕ → Form
column_form width c = record { coefficients = unit width c (pos 1); constant = pos 0 }

-- ---- where numbers fit

-- all numbers of the form fit
abbrev pub form_fits : Form → Bool
form_fits form = list_all fits form.coefficients && fits form.constant

-- the form, where all its numbers fit
abbrev pub fitting_form : Form → Option Form
fitting_form form = if form_fits form then Some form else None

-- ---- sums and multiples

-- the sum, over unbounded integers
abbrev pub form_sum : Form → Form → Form
form_sum one other = record { coefficients = sum_of one.coefficients other.coefficients; constant = one.constant +ℤ other.constant }

-- the form times k, over unbounded integers
abbrev pub form_multiple : ℤ → Form → Form
form_multiple k form = record { coefficients = multiple_of k form.coefficients; constant = k *ℤ form.constant }

-- the sum, where each of its numbers fits
abbrev pub fitting_sum : Form → Form → Option Form
fitting_sum one other = fitting_form (form_sum one other)

-- the form times k, where each of its numbers fits
abbrev pub fitting_multiple : ℤ → Form → Option Form
fitting_multiple k form = fitting_form (form_multiple k form)

-- the difference, where each of its numbers fits
abbrev pub fitting_difference : Form → Form → Option Form
fitting_difference one other = fitting_form (form_sum one (form_multiple (negsuc 0) other))

-- ---- products

-- the form has one value everywhere
abbrev pub is_constant : Form → Bool
is_constant form = list_all (int_eq (pos 0)) form.coefficients

-- the product of two forms of which one is constant, where each of its numbers fits
abbrev pub fitting_product : Form → Form → Option Form
fitting_product one other =
    if is_constant one then fitting_multiple one.constant other else (if is_constant other then fitting_multiple other.constant one else None)

-- ---- compositions

-- the sum with k times a form, where both fit
abbrev pub with_multiple : Form → ℤ → Form → Option Form
with_multiple sum k form = option_and_then (fitting_sum sum) (fitting_multiple k form)

-- The sum with the multiples of forms, one after another.
abbrev pub with_multiples : Form → List ℤ → List Form → Option Form
with_multiples sum [] forms = Some sum
with_multiples sum (k ∷ ks) [] = Some sum
with_multiples sum (k ∷ ks) (form ∷ forms) = option_and_then (λ more. with_multiples more ks forms) (with_multiple sum k form)

-- The form with its columns replaced by forms of this width: the multiples are summed in column order, and the form's own
-- constant comes last.
abbrev pub fitting_composition : ℕ → Form → List Form → Option Form
fitting_composition width form forms =
    option_and_then (λ sum. fitting_sum sum (constant_form width form.constant)) (with_multiples (constant_form width (pos 0)) form.coefficients forms)

-- ---- values

-- the form's value at z: products and sums go over the columns in order, the constant comes last, and each of them fits
abbrev pub value_if_fits : Form → List ℤ → Option ℤ
value_if_fits form z = option_and_then (λ sum. fitting (sum +ℤ form.constant)) (sum_in_order form.coefficients z)
