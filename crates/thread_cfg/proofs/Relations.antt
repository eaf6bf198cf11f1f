-- Rows of relations: who meets them, and that their numbers fit.
use Rattle.std.proofs.Common.{◌≡◌, ◌↔◌, ℕ, ℤ, pos, negsuc, neg_ℤ, ◌+ℤ◌, ◌-ℤ◌, ◌≤ℤ◌, Bool, true, false, int_le, List, Some, MatchBool, sym, subst, ap, ◌∙◌, arith}
use Rattle.std.specs.Option.{option_and_then}
use Rattle.std.proofs.lemmas.Int.{ints}
use Rattle.std.proofs.lemmas.List.{length-replicate}
use Rattle.std.proofs.lemmas.Bool.Decides.{Decides-int_eq}
use Rattle.std.proofs.lemmas.Option.{option_and_then_some}
use Rattle.thr_base.specs.Number.{Fits, fits}
use Rattle.lin_rows.specs.Row.{Row, Meets, product_of}
use Rattle.lin_rows.specs.System.{IsRowOver}
use Rattle.lin_rows.proofs.Booleans.{given_where_true}
use Rattle.lin_rows.proofs.Numbers.{fits-true}
use Rattle.lin_rows.proofs.Points.{product_of-AllZero}
use Rattle.transition_formula.specs.Program.{Form, IsFormOver}
use Rattle.transition_formula.specs.Rows.{zeros}
use Rattle.transition_formula.specs.Step.{value_of}
use Rattle.transition_formula.specs.Forms.{constant_form, fitting_difference, form_sum}
use Rattle.transition_formula.proofs.FittingLists.{length-sum_of}
use Rattle.transition_formula.proofs.FormProducts.{all_zero, differences-exact}
use Rattle.transition_formula.proofs.FormValues.{forms-made, given-over, sums-exact}
use Rattle.thread_cfg.specs.declared.relation.Relation.{Relation}
use Rattle.thread_cfg.specs.declared.relation.Relation.TheVariants as related
use Rattle.thread_cfg.specs.Happen.{Holds}
use Rattle.thread_cfg.specs.Edge.{at_most, bound_holds, equals, has_no_column, moved, raised, row_by}

-- ---- rows of forms
-- the row that is given, whose bound fits
moved-row : (equal : Bool) (form : Form) (row : Row) → moved equal form ≡ Some row
    → Fits (neg_ℤ form.constant) × ((record { equal = equal; coefficients = form.coefficients; bound = neg_ℤ form.constant }) ≡ row)
moved-row equal form row e =
    let made : Row = record { equal = equal; coefficients = form.coefficients; bound = neg_ℤ form.constant } in
    let given = given_where_true (fits (neg_ℤ form.constant)) made row e in
    (fits-true (neg_ℤ form.constant) given.0, given.1)

-- the row of a difference is met where the sides are equal, or the left one is at most the right one
zero-equal : (p c x y : ℤ) → p +ℤ c ≡ x -ℤ y → p ≡ neg_ℤ c ↔ x ≡ y
zero-equal p c x y e = (λ h. omega (arith, ints), λ h. omega (arith, ints))

-- a difference is at most 0 exactly where the one number is at most the other
zero-at_most : (p c x y : ℤ) → p +ℤ c ≡ x -ℤ y → p ≤ℤ neg_ℤ c ↔ x ≤ℤ y
zero-at_most p c x y e = (λ h. omega (arith, ints), λ h. omega (arith, ints))

-- who meets `l = r`
equals-meets : (l r : Form) (row : Row) (z : List ℤ) → equals l r ≡ Some row → Meets row z ↔ value_of l z ≡ value_of r z
equals-meets l r row z e =
    option_and_then_some (moved true) (fitting_difference l r) row e (λ difference given rest.
    subst (λ (w : Row). Meets w z ↔ value_of l z ≡ value_of r z) (moved-row true difference row rest).1
    (zero-equal (product_of difference.coefficients z) difference.constant (value_of l z) (value_of r z) (differences-exact.values l r difference z given)))

-- who meets `l <= r`
at_most-meets : (l r : Form) (row : Row) (z : List ℤ) → at_most l r ≡ Some row → Meets row z ↔ value_of l z ≤ℤ value_of r z
at_most-meets l r row z e =
    option_and_then_some (moved false) (fitting_difference l r) row e (λ difference given rest.
    subst (λ (w : Row). Meets w z ↔ value_of l z ≤ℤ value_of r z) (moved-row false difference row rest).1
    (zero-at_most (product_of difference.coefficients z) difference.constant (value_of l z) (value_of r z) (differences-exact.values l r difference z given)))

-- a form and a number more
raised-value : (k : ℤ) (width : ℕ) (form more : Form) (z : List ℤ) → raised k width form ≡ Some more → value_of more z ≡ value_of form z +ℤ k
raised-value k width form more z e =
    sums-exact.values form (constant_form width k) more z e ∙ ap (λ v. value_of form z +ℤ v) (forms-made.constants width k z)

-- at most one less, written as a sum with -1
less-by_one : (x y w : ℤ) → w ≡ y +ℤ negsuc 0 → x ≤ℤ w ↔ x ≤ℤ (y -ℤ pos 1)
less-by_one x y w e = (λ h. omega (arith, ints), λ h. omega (arith, ints))

-- A row of a relation is met exactly where the values are related so.
pub row_by-meets : (width : ℕ) (r : Relation) (one other : Form) (row : Row) (z : List ℤ) → row_by width r one other ≡ Some row
    → Meets row z ↔ Holds r (value_of one z) (value_of other z)
row_by-meets width related.Equal one other row z e = equals-meets one other row z e
row_by-meets width related.Less one other row z e =
    option_and_then_some (at_most one) (raised (negsuc 0) width other) row e (λ more given rest.
    let met = at_most-meets one more row z rest in
    let by = less-by_one (value_of one z) (value_of other z) (value_of more z) (raised-value (negsuc 0) width other more z given) in
    (λ h. by.0 (met.0 h), λ h. met.1 (by.1 h)))
row_by-meets width related.Greater one other row z e =
    option_and_then_some (λ more. at_most more one) (raised (pos 1) width other) row e (λ more given rest.
    subst (λ (v : ℤ). Meets row z ↔ v ≤ℤ value_of one z) (raised-value (pos 1) width other more z given) (at_most-meets more one row z rest))
row_by-meets width related.AtMost one other row z e = at_most-meets one other row z e
row_by-meets width related.AtLeast one other row z e = at_most-meets other one row z e

-- ---- that rows fit
-- the row of a form is over its columns
moved-over : (equal : Bool) (width : ℕ) (form : Form) (row : Row) → moved equal form ≡ Some row → IsFormOver width form → IsRowOver width row
moved-over equal width form row e over =
    let given = moved-row equal form row e in
    subst (IsRowOver width) given.1 (record { width = over.one_each; fits = record { coefficients = over.coefficients_fit; bound = given.0 } })

-- the row of a difference is over the columns of its sides
difference_row-over : (equal : Bool) (width : ℕ) (l r : Form) (row : Row) → option_and_then (moved equal) (fitting_difference l r) ≡ Some row
    → IsFormOver width l → IsFormOver width r → IsRowOver width row
difference_row-over equal width l r row e is are =
    option_and_then_some (moved equal) (fitting_difference l r) row e (λ difference given rest.
    moved-over equal width difference row rest (differences-exact.over width l r difference given is are))

-- a form and a number more is over the same columns
pub raised-over : (k : ℤ) (width : ℕ) (form more : Form) → raised k width form ≡ Some more → IsFormOver width form → IsFormOver width more
raised-over k width form more e over =
    given-over width (form_sum form (constant_form width k)) more
    (length-sum_of form.coefficients (zeros width) (over.one_each ∙ sym (length-replicate width (pos 0))) ∙ over.one_each) e

-- The row of a relation is over the columns of its sides.
pub row_by-over : (width : ℕ) (r : Relation) (one other : Form) (row : Row) → row_by width r one other ≡ Some row
    → IsFormOver width one → IsFormOver width other → IsRowOver width row
row_by-over width related.Equal one other row e is are = difference_row-over true width one other row e is are
row_by-over width related.Less one other row e is are =
    option_and_then_some (at_most one) (raised (negsuc 0) width other) row e (λ more given rest.
    difference_row-over false width one more row rest is (raised-over (negsuc 0) width other more given are))
row_by-over width related.Greater one other row e is are =
    option_and_then_some (λ more. at_most more one) (raised (pos 1) width other) row e (λ more given rest.
    difference_row-over false width more one row rest (raised-over (pos 1) width other more given are) is)
row_by-over width related.AtMost one other row e is are = difference_row-over false width one other row e is are
row_by-over width related.AtLeast one other row e is are = difference_row-over false width other one row e are is

-- ---- rows between numbers
-- the test says so where a number is at least 0
at_least-true : (b : ℤ) → pos 0 ≤ℤ b → int_le (pos 0) b ≡ true
at_least-true b h = grind (arith, ints)

-- where the test says so, a number is at least 0
true-at_least : (b : ℤ) → int_le (pos 0) b ≡ true → pos 0 ≤ℤ b
true-at_least b e = grind (arith, ints)

-- where nothing is on the left, the bound decides
zero-bound : (equal : Bool) (p bound : ℤ) → p ≡ pos 0 → MatchBool equal (p ≡ bound) (p ≤ℤ bound) ↔ bound_holds equal bound ≡ true
zero-bound true p bound e = (λ h. (Decides-int_eq bound (pos 0)).1 (sym h ∙ e), λ h. e ∙ sym ((Decides-int_eq bound (pos 0)).0 h))
zero-bound false p bound e = (λ h. at_least-true bound (subst (λ (v : ℤ). v ≤ℤ bound) e h), λ h. subst (λ (v : ℤ). v ≤ℤ bound) (sym e) (true-at_least bound h))

-- A row with no column is met by all points or by none.
pub no_column-meets : (row : Row) (z : List ℤ) → has_no_column row ≡ true → Meets row z ↔ bound_holds row.equal row.bound ≡ true
no_column-meets row z e =
    zero-bound row.equal (product_of row.coefficients z) row.bound (product_of-AllZero row.coefficients z (all_zero row.coefficients e))
