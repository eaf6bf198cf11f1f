-- The sums of the columns are the weighted sum, and what is known of all columns is the answer.
use Rattle.std.proofs.Common.{◌≡◌, ◌↔◌, inr, ℕ, zero, suc, ◌<◌, ◌≤◌, List, [], ◌∷◌, ◌++◌, length, get_or, Option, Some, None, Result, Ok, Err, Bool, true, false, cond, ◌&&◌, nat_lt, int_lt, IsTrue, ℤ, pos, ◌+ℤ◌, ◌*ℤ◌, ◌<ℤ◌, refl, sym, ◌∙◌, ap, ap₂, subst, take_all, le_refl, true≢false, ⊎_elim, eq-or-lt_of_le, arith}
use Rattle.std.proofs.lemmas.Int.{ints}
use Rattle.std.proofs.lemmas.Bool.Decides.{Decides-int_eq}
use Rattle.std.specs.Ordering.{int_eq}
use Rattle.std.specs.Option.{option_map_or}
use Rattle.std.specs.List.{AllByRecursion}
use Rattle.thr_base.specs.Number.{fits}
use Rattle.lin_rows.specs.Row.{Row, multiple_of, sum_of}
use Rattle.lin_rows.specs.System.{System, HasWidths}
use Rattle.lin_rows.proofs.Booleans.{both_true}
use Rattle.farkas_cert.specs.Cert.{Pairs, InOrder, AllowsAt, IsContradiction, row_numbered, add_weighted, weighted_sum}
use Rattle.farkas_cert.specs.Proof.{products, numbers_of, first_unfit, overflow_of}
use Rattle.farkas_cert.specs.inside.Columns.{sum_with, column_from, earlier}
use Rattle.farkas_cert.specs.inside.Weighing.{weighed_with, weighed_to, is_below_zero, answer_of, answer_of_weights}
use Rattle.farkas_cert.specs.Answer.{IsCertAnswer}
use Rattle.farkas_cert.specs.declared.columns.Weighed.{Weighed}
use Rattle.farkas_cert.proofs.ColumnSums.{get_or-scaled}
use Rattle.farkas_cert.proofs.Overflows.{get_or-sum_of, take-nil, Rising, fronts, merged, first_unfit-one_more}

-- the products of rows, each with its row's number
abbrev Terms : Type 0
Terms = List (ℕ × List ℤ)

-- ---- the sum of a column
-- the sum of a column over all terms
abbrev pub total : ℕ → Terms → ℤ
total c [] = pos 0
total c ((k, ps) ∷ rest) = get_or ps c (pos 0) +ℤ total c rest

-- A sum with a product that is given is the sum.
sum_with-some : (sum p more : ℤ) → sum_with sum p ≡ Some more → more ≡ p +ℤ sum
sum_with-some sum p more e = only (fits p && fits (p +ℤ sum)) e
  where
    only : (b : Bool) → cond b (Some (p +ℤ sum)) None ≡ Some more → more ≡ p +ℤ sum
    only true e = cc
    only false e = cc

-- A total with one term more is given where the rest is.
total-some : (c : ℕ) (sum p t rest : ℤ) (k : ℕ) (after : ℤ → Result ℤ ℕ) → ((more : ℤ) → after more ≡ Ok t → t ≡ more +ℤ rest) → (o : Option ℤ) → sum_with sum p ≡ o → option_map_or after o (Err k) ≡ Ok t → t ≡ sum +ℤ (p +ℤ rest)
total-some c sum p t rest k after later None is e = cc
total-some c sum p t rest k after later (Some more) is e =
    let rest_is = later more e in
    let more_is = sum_with-some sum p more is in
    omega (arith, ints)

-- A column that does not overflow comes to its total.
column_from-total : (c : ℕ) (sum t : ℤ) (terms : Terms) → column_from sum c terms ≡ Ok t → t ≡ sum +ℤ total c terms
column_from-total c sum t [] e = let same : t ≡ sum = cc in omega (arith, ints)
column_from-total c sum t ((k, ps) ∷ rest) e =
    total-some c sum (get_or ps c (pos 0)) t (total c rest) k (λ m. column_from m c rest) (λ more h. column_from-total c more t rest h) (sum_with sum (get_or ps c (pos 0))) refl e

-- ---- the shape of the products
-- The products of pairs in order rise.
pub Rising-products : (rows : List Row) (last : ℕ) (pairs : Pairs) → InOrder rows last pairs → Rising last (products rows pairs)
Rising-products rows last [] h = tt
Rising-products rows last ((k, m) ∷ pairs) h = (h.0, Rising-products rows k pairs h.2)

-- There are as many multiples as numbers.
length-scaled : (m : ℤ) (xs : List ℤ) → length (multiple_of m xs) ≡ length xs
length-scaled m [] = refl
length-scaled m (x ∷ xs) = ap suc (length-scaled m xs)

-- One number more is one more.
length-push : (xs : List ℤ) (y : ℤ) → length (xs ++ y ∷ []) ≡ suc (length xs)
length-push [] y = refl
length-push (x ∷ xs) y = ap suc (length-push xs y)

-- A row that is there has its width.
row_has_width : (n : ℕ) (rows : List Row) (k : ℕ) (m : ℤ) → AllByRecursion (λ row. length row.coefficients ≡ n) rows → AllowsAt (row_numbered rows k) m → length (numbers_of (row_numbered rows k)) ≡ suc n
row_has_width n rows zero m widths h = absurd h
row_has_width n [] (suc k) m widths h = absurd h
row_has_width n (row ∷ rows) (suc zero) m widths h = length-push row.coefficients row.bound ∙ ap suc widths.0
row_has_width n (row ∷ rows) (suc (suc k)) m widths h = row_has_width n rows (suc k) m widths.1 h

-- All products have the width.
pub widths-products : (n : ℕ) (rows : List Row) (last : ℕ) (pairs : Pairs) → AllByRecursion (λ row. length row.coefficients ≡ n) rows → InOrder rows last pairs → AllByRecursion (λ t. length t.1 ≡ suc n) (products rows pairs)
widths-products n rows last [] widths h = tt
widths-products n rows last ((k, m) ∷ pairs) widths h =
    (length-scaled m (numbers_of (row_numbered rows k)) ∙ row_has_width n rows k m widths h.1, widths-products n rows k pairs widths h.2)

-- ---- the columns of the weighted sum
-- A place before the appended number has what was there.
get_or-front : (xs : List ℤ) (y : ℤ) (c : ℕ) → c < length xs → get_or (xs ++ y ∷ []) c (pos 0) ≡ get_or xs c (pos 0)
get_or-front [] y c h = absurd (omega arith)
get_or-front (x ∷ xs) y zero h = refl
get_or-front (x ∷ xs) y (suc c) h = get_or-front xs y c (omega arith)

-- Behind the list is the appended number.
get_or-last : (xs : List ℤ) (y : ℤ) (c : ℕ) → c ≡ length xs → get_or (xs ++ y ∷ []) c (pos 0) ≡ y
get_or-last [] y zero h = refl
get_or-last [] y (suc c) h = absurd (omega arith)
get_or-last (x ∷ xs) y zero h = absurd (omega arith)
get_or-last (x ∷ xs) y (suc c) h = get_or-last xs y c (omega arith)

-- a column of the weighted sum, of a pair whose row is there
column_of_pair : (m : ℤ) (xs ws : List ℤ) (y rest : ℤ) (c : ℕ) → c < length xs → rest ≡ get_or ws c (pos 0)
    → get_or (multiple_of m (xs ++ y ∷ [])) c (pos 0) +ℤ rest ≡ get_or (sum_of (multiple_of m xs) ws) c (pos 0)
column_of_pair m xs ws y rest c h e =
    ap₂ ◌+ℤ◌ (get_or-scaled m (xs ++ y ∷ []) c ∙ ap (λ v. m *ℤ v) (get_or-front xs y c h) ∙ sym (get_or-scaled m xs c)) e
    ∙ sym (get_or-sum_of (multiple_of m xs) ws c)

-- The bound of a pair is added to that of the others.
bound_of_pair : (m : ℤ) (xs : List ℤ) (y rest bound : ℤ) (c : ℕ) → c ≡ length xs → rest ≡ bound
    → get_or (multiple_of m (xs ++ y ∷ [])) c (pos 0) +ℤ rest ≡ m *ℤ y +ℤ bound
bound_of_pair m xs y rest bound c h e =
    ap₂ ◌+ℤ◌ (get_or-scaled m (xs ++ y ∷ []) c ∙ ap (λ v. m *ℤ v) (get_or-last xs y c h)) e

-- each row has this width
abbrev HaveWidth : ℕ → List Row → Type 0
HaveWidth n rows = AllByRecursion (λ row. length row.coefficients ≡ n) rows

-- a row that is there, and its width
there : (n : ℕ) (rows : List Row) (k : ℕ) (m : ℤ) → HaveWidth n rows → AllowsAt (row_numbered rows k) m → (row : Row) × (row_numbered rows k ≡ Some row) × (length row.coefficients ≡ n)
there n rows zero m widths h = absurd h
there n [] (suc k) m widths h = absurd h
there n (row ∷ rows) (suc zero) m widths h = (row, refl, widths.0)
there n (row ∷ rows) (suc (suc k)) m widths h = there n rows (suc k) m widths.1 h

-- The total of a column is the weighted sum's coefficient.
pub total-column : (n c : ℕ) (rows : List Row) (last : ℕ) (pairs : Pairs) → HaveWidth n rows → InOrder rows last pairs → c < n → total c (products rows pairs) ≡ get_or (weighted_sum rows pairs).coefficients c (pos 0)
total-column n c rows last [] widths h below = refl
total-column n c rows last ((k, m) ∷ pairs) widths h below =
    let row = there n rows k m widths h.1 in
    let rest = total-column n c rows k pairs widths h.2 below in
    let ws = weighted_sum rows pairs in
    let P : Option Row → Type 0 = λ r. get_or (multiple_of m (numbers_of r)) c (pos 0) +ℤ total c (products rows pairs) ≡ get_or (add_weighted r m ws).coefficients c (pos 0) in
    subst P (sym row.1) (column_of_pair m row.0.coefficients ws.coefficients row.0.bound (total c (products rows pairs)) c (omega (arith, row.2)) rest)

-- The total of the bounds is the weighted sum's bound.
pub total-bound : (n : ℕ) (rows : List Row) (last : ℕ) (pairs : Pairs) → HaveWidth n rows → InOrder rows last pairs → total n (products rows pairs) ≡ (weighted_sum rows pairs).bound
total-bound n rows last [] widths h = refl
total-bound n rows last ((k, m) ∷ pairs) widths h =
    let row = there n rows k m widths h.1 in
    let rest = total-bound n rows k pairs widths h.2 in
    let ws = weighted_sum rows pairs in
    let P : Option Row → Type 0 = λ r. get_or (multiple_of m (numbers_of r)) n (pos 0) +ℤ total n (products rows pairs) ≡ (add_weighted r m ws).bound in
    subst P (sym row.1) (bound_of_pair m row.0.coefficients row.0.bound (total n (products rows pairs)) ws.bound n (sym row.2) rest)

-- ---- sums that are all 0
-- A sum is no longer than its parts may be.
length-sum_of-le : (n : ℕ) (xs ys : List ℤ) → length xs ≤ n → length ys ≤ n → length (sum_of xs ys) ≤ n
length-sum_of-le n [] ys p q = q
length-sum_of-le n (x ∷ xs) [] p q = p
length-sum_of-le zero (x ∷ xs) (y ∷ ys) p q = absurd (omega arith)
length-sum_of-le (suc n) (x ∷ xs) (y ∷ ys) p q = let h = length-sum_of-le n xs ys (omega arith) (omega arith) in omega arith

-- A weighted sum has no more coefficients than columns.
length-weighted_sum : (n : ℕ) (rows : List Row) (last : ℕ) (pairs : Pairs) → HaveWidth n rows → InOrder rows last pairs → length (weighted_sum rows pairs).coefficients ≤ n
length-weighted_sum n rows last [] widths h = omega arith
length-weighted_sum n rows last ((k, m) ∷ pairs) widths h =
    let row = there n rows k m widths h.1 in
    let rest = length-weighted_sum n rows k pairs widths h.2 in
    let ws = weighted_sum rows pairs in
    let P : Option Row → Type 0 = λ r. length (add_weighted r m ws).coefficients ≤ n in
    subst P (sym row.1) (length-sum_of-le n (multiple_of m row.0.coefficients) ws.coefficients (omega (arith, length-scaled m row.0.coefficients, row.2)) rest)

-- all numbers are 0
abbrev AllZero : List ℤ → Type 0
AllZero xs = AllByRecursion (λ a. a ≡ pos 0) xs

-- Numbers of which each place has 0 are all 0.
AllZero-from_places : (n : ℕ) (xs : List ℤ) → length xs ≤ n → ((i : ℕ) → i < n → get_or xs i (pos 0) ≡ pos 0) → AllZero xs
AllZero-from_places n [] short all = tt
AllZero-from_places zero (x ∷ xs) short all = absurd (omega arith)
AllZero-from_places (suc n) (x ∷ xs) short all = (all 0 (omega arith), AllZero-from_places n xs (omega arith) (λ i h. all (suc i) (omega arith)))

-- Each place of numbers that are all 0 has 0.
AllZero-place : (xs : List ℤ) (i : ℕ) → AllZero xs → get_or xs i (pos 0) ≡ pos 0
AllZero-place [] i all = refl
AllZero-place (x ∷ xs) zero all = all.0
AllZero-place (x ∷ xs) (suc i) all = AllZero-place xs i all.1

-- Two tests that hold hold together.
true_both : (a b : Bool) → a ≡ true → b ≡ true → (a && b) ≡ true
true_both true true p q = refl
true_both true false p q = q
true_both false b p q = p

-- Numbers that pass the test are the same.
int_eq-true : (a b : ℤ) → int_eq a b ≡ true → a ≡ b
int_eq-true a b e = (Decides-int_eq a b).0 e

-- A number passes the test with itself.
true-int_eq : (a b : ℤ) → a ≡ b → int_eq a b ≡ true
true-int_eq a b e = (Decides-int_eq a b).1 e

-- Numbers that pass the test are in order.
int_lt-true : (a b : ℤ) → int_lt a b ≡ true → a <ℤ b
int_lt-true a b e = omega (arith, ints)

-- Numbers in order pass the test.
true-int_lt : (a b : ℤ) → a <ℤ b → int_lt a b ≡ true
true-int_lt a b h = let e : true ≡ int_lt a b = omega (arith, ints) in sym e

-- An earlier overflow is one.
earlier-some : (o : Option (ℕ × ℕ)) (k c : ℕ) → earlier o k c ≡ None → ⊥
earlier-some None k c e = cc
earlier-some (Some place) k c e = only (nat_lt k place.0) e
  where
    only : (b : Bool) → cond b (Some (k, c)) (Some place) ≡ None → ⊥
    only true e = cc
    only false e = cc

-- What holds below a number and at it holds below the next.
below_suc : (c i : ℕ) (P : ℕ → Type 0) → ((n : ℕ) → n < c → P n) → P c → i < suc c → P i
below_suc c i P before here h = ⊎_elim (λ e. subst P (sym e) here) (λ lt. before i lt) (eq-or-lt_of_le (omega arith))

-- ---- what is known of the columns
-- The overflow of the first columns is the first of their fronts.
pub overflow-weighed_to : (n c last : ℕ) (terms : Terms) → Rising last terms → AllByRecursion (λ t. length t.1 ≡ n) terms → c ≤ n → (weighed_to c terms).overflow ≡ first_unfit [] (fronts c terms)
overflow-weighed_to n zero last terms rising widths h = sym (nothing [] terms)
  where
    nothing : (sums : List ℤ) (terms : Terms) → first_unfit sums (fronts 0 terms) ≡ None
    nothing sums [] = refl
    nothing sums ((k, ps) ∷ rest) = nothing sums rest
overflow-weighed_to n (suc c) last terms rising widths h =
    weighed (weighed_to c terms) (column_from (pos 0) c terms)
    ∙ ap (λ o. merged o c (column_from (pos 0) c terms)) (overflow-weighed_to n c last terms rising widths (omega arith))
    ∙ ap (λ sums. merged (first_unfit sums (fronts c terms)) c (column_from (pos 0) c terms)) (sym (take-nil c))
    ∙ sym (first_unfit-one_more n c last [] terms rising widths (omega arith))
  where
    weighed : (seen : Weighed) (r : Result ℤ ℕ) → (weighed_with seen c r).overflow ≡ merged seen.overflow c r
    weighed seen (Ok sum) = refl
    weighed seen (Err k) = refl

-- The fronts of full width are the terms.
fronts_all : (n : ℕ) (terms : Terms) → AllByRecursion (λ t. length t.1 ≡ n) terms → fronts n terms ≡ terms
fronts_all n [] widths = refl
fronts_all n ((k, ps) ∷ rest) widths = ap₂ (λ xs ts. (k, xs) ∷ ts) (take_all n ps (omega (arith, widths.0))) (fronts_all n rest widths.1)

-- where no column overflows, `cancels` says whether all sums are 0
cancels-step : (c : ℕ) (terms : Terms) (seen : Weighed) (r : Result ℤ ℕ) → column_from (pos 0) c terms ≡ r → (weighed_with seen c r).overflow ≡ None
    → (seen.overflow ≡ None → IsTrue seen.cancels ↔ ((i : ℕ) → i < c → total i terms ≡ pos 0))
    → IsTrue (weighed_with seen c r).cancels ↔ ((i : ℕ) → i < suc c → total i terms ≡ pos 0)
cancels-step c terms seen (Ok sum) is none before =
    let sum_is : sum ≡ total c terms = column_from-total c (pos 0) sum terms is ∙ omega (arith, ints) in
    let both = before none in (
      λ yes i below.
          let parts = both_true seen.cancels (int_eq sum (pos 0)) yes in
          below_suc c i (λ n. total n terms ≡ pos 0) (both.0 parts.0) (sym sum_is ∙ int_eq-true sum (pos 0) parts.1) below,
      λ all. true_both seen.cancels (int_eq sum (pos 0)) (both.1 (λ i h. all i (omega arith))) (true-int_eq sum (pos 0) (sum_is ∙ all c (omega arith))),
    )
cancels-step c terms seen (Err k) is none before = absurd (earlier-some seen.overflow k c none)

-- The first columns cancel exactly where their totals are 0.
cancels-weighed_to : (c : ℕ) (terms : Terms) → (weighed_to c terms).overflow ≡ None → IsTrue (weighed_to c terms).cancels ↔ ((i : ℕ) → i < c → total i terms ≡ pos 0)
cancels-weighed_to zero terms none = (λ yes i below. absurd (omega arith), λ all. refl)
cancels-weighed_to (suc c) terms none = cancels-step c terms (weighed_to c terms) (column_from (pos 0) c terms) refl none (cancels-weighed_to c terms)

-- ---- the answer
-- The answer says what overflow and contradiction say.
answer_is : (system : System) (pairs : Pairs) (o : Option (ℕ × ℕ)) (contradicts : Bool) → InOrder system.rows 0 pairs → overflow_of system.rows pairs ≡ o
    → (o ≡ None → IsTrue contradicts ↔ IsContradiction (weighted_sum system.rows pairs)) → IsCertAnswer system pairs (answer_of o contradicts)
answer_is system pairs (Some place) contradicts in_order is decides = (in_order, is)
answer_is system pairs None true in_order is decides =
    record { refutes = record { in_order = in_order; contradicts = (decides refl).0 refl }; fits = is }
answer_is system pairs None false in_order is decides =
    inr (is, λ contradiction. absurd (true≢false (sym ((decides refl).1 contradiction))))

-- the bounds' sum is negative, where the sums fit
bound-below_zero : (n : ℕ) (terms : Terms) (o : Option (ℕ × ℕ)) (r : Result ℤ ℕ) → column_from (pos 0) n terms ≡ r → merged o n r ≡ None → IsTrue (is_below_zero r) ↔ (total n terms <ℤ pos 0)
bound-below_zero n terms o (Ok sum) is none =
    let sum_is : sum ≡ total n terms = column_from-total n (pos 0) sum terms is ∙ omega (arith, ints) in
    (λ yes. subst (λ v. v <ℤ pos 0) sum_is (int_lt-true sum (pos 0) yes), λ below. true-int_lt sum (pos 0) (subst (λ v. v <ℤ pos 0) (sym sum_is) below))
bound-below_zero n terms o (Err k) is none = absurd (earlier-some o k n none)

-- Where there is no overflow with one column more, there was none before.
overflow-with : (seen : Weighed) (c : ℕ) (r : Result ℤ ℕ) → (weighed_with seen c r).overflow ≡ None → (seen.overflow ≡ None) × (merged seen.overflow c r ≡ None)
overflow-with seen c (Ok sum) none = (none, none)
overflow-with seen c (Err k) none = absurd (earlier-some seen.overflow k c none)

-- Columns that cancel with a negative bound are a contradiction.
contradicts-by_columns : (system : System) (pairs : Pairs) → HasWidths system → InOrder system.rows 0 pairs
    → (let n = system.columns in let terms = products system.rows pairs in let r = column_from (pos 0) n terms in let seen = weighed_to n terms in
    (weighed_with seen n r).overflow ≡ None → IsTrue (seen.cancels && is_below_zero r) ↔ IsContradiction (weighted_sum system.rows pairs))
contradicts-by_columns system pairs widths in_order none =
    let n = system.columns in
    let rows = system.rows in
    let terms = products rows pairs in
    let r = column_from (pos 0) n terms in
    let seen = weighed_to n terms in
    let parts = overflow-with seen n r none in
    let cancels = cancels-weighed_to n terms parts.0 in
    let negative = bound-below_zero n terms seen.overflow r refl parts.1 in
    let ws = weighted_sum rows pairs in (
      λ yes.
          let both = both_true seen.cancels (is_below_zero r) yes in
          record {
            cancels = AllZero-from_places n ws.coefficients (length-weighted_sum n rows 0 pairs widths in_order)
                (λ i h. sym (total-column n i rows 0 pairs widths in_order h) ∙ cancels.0 both.0 i h);
            negative = subst (λ v. v <ℤ pos 0) (total-bound n rows 0 pairs widths in_order) (negative.0 both.1);
          },
      λ contradiction. true_both seen.cancels (is_below_zero r)
          (cancels.1 (λ i h. total-column n i rows 0 pairs widths in_order h ∙ AllZero-place ws.coefficients i contradiction.cancels))
          (negative.1 (subst (λ v. v <ℤ pos 0) (sym (total-bound n rows 0 pairs widths in_order)) contradiction.negative)),
    )

-- The answer by the columns is the answer to the certificate.
pub IsCertAnswer-answer_of_weights : (system : System) (pairs : Pairs) → HasWidths system → InOrder system.rows 0 pairs
    → IsCertAnswer system pairs (answer_of_weights (weighed_to system.columns (products system.rows pairs)) system.columns (column_from (pos 0) system.columns (products system.rows pairs)))
IsCertAnswer-answer_of_weights system pairs widths in_order =
    let n = system.columns in
    let terms = products system.rows pairs in
    let r = column_from (pos 0) n terms in
    let seen = weighed_to n terms in
    let rising = Rising-products system.rows 0 pairs in_order in
    let wide = widths-products n system.rows 0 pairs widths in_order in
    let is = ap (first_unfit []) (sym (fronts_all (suc n) terms wide)) ∙ sym (overflow-weighed_to (suc n) (suc n) 0 terms rising wide (le_refl (suc n))) in
    answer_is system pairs (weighed_with seen n r).overflow (seen.cancels && is_below_zero r) in_order is (contradicts-by_columns system pairs widths in_order)

-- The same weights have the same answer.
pub answer_of_weights-same : (terms : Terms) (seen seen' : Weighed) (n n' : ℕ) (r : Result ℤ ℕ) → seen ≡ seen' → n ≡ n' → r ≡ column_from (pos 0) n terms → answer_of_weights seen n r ≡ answer_of_weights seen' n' (column_from (pos 0) n' terms)
answer_of_weights-same terms seen seen' n n' r p q e =
    ap (answer_of_weights seen n) e ∙ ap (λ m. answer_of_weights seen m (column_from (pos 0) m terms)) q ∙ ap (λ s. answer_of_weights s n' (column_from (pos 0) n' terms)) p
