-- Lists that are given where each of their numbers fits.
use Rattle.std.proofs.Common.{◌≡◌, ℕ, zero, suc, ◌+◌, ◌<◌, ℤ, pos, negsuc, ◌+ℤ◌, ◌-ℤ◌, ◌*ℤ◌, Bool, true, false, ◌&&◌, List, [], ◌∷◌, ◌++◌, take, length, get_or, Some, None, refl, sym, ap, subst, ◌∙◌, inl, inr, arith, cond}
use Rattle.std.specs.List.{list_all}
use Rattle.std.proofs.lemmas.Bool.{cases_Bool}
use Rattle.std.proofs.lemmas.Int.{ints}
use Rattle.std.proofs.lemmas.List.{length-map, take_more}
use Rattle.std.proofs.lemmas.List.Folds.{list_all-append}
use Rattle.thr_base.specs.Number.{fits}
use Rattle.lin_rows.specs.Exact.{fitting}
use Rattle.lin_rows.specs.Row.{sum_of, multiple_of}
use Rattle.transition_formula.specs.Program.{Form}
use Rattle.transition_formula.specs.Forms.{fitting_form}
use Rattle.transition_formula.specs.inside.FormParts.{fitting_list, form_of_both}

-- ---- numbers that fit
-- A number that is given where it fits passes the test, and is the number.
fitting-some : (z n : ℤ) → fitting z ≡ Some n → (fits z ≡ true) × (n ≡ z)
fitting-some z n e = elim (cases_Bool (fits z)) [
  | inl passes ↦ (passes, by_yes passes)
  | inr fails ↦ absurd (by_no fails)
]
  where
    by_yes : fits z ≡ true → n ≡ z
    by_yes passes = let same : Some z ≡ Some n = rw passes at e in cc

    by_no : fits z ≡ false → ⊥
    by_no fails = let wrong : None ≡ Some n = rw fails at e in cc

-- A number that is not given does not pass the test.
fitting-none : (z : ℤ) → fitting z ≡ None → fits z ≡ false
fitting-none z e = elim (cases_Bool (fits z)) [
  | inl passes ↦ absurd (by_yes passes)
  | inr fails ↦ fails
]
  where
    by_yes : fits z ≡ true → ⊥
    by_yes passes = let wrong : Some z ≡ None = rw passes at e in cc

-- ---- one more number
pub record AreFirst (i : ℕ) (xs done : List ℤ) : Type 0 where
  pub first : done ≡ take i xs
  pub fit : list_all fits done ≡ true

-- One number more that fits is one more of the first numbers.
pub first-next : (i : ℕ) (xs done more : List ℤ) (n : ℤ) → i < length xs → AreFirst i xs done → fitting (get_or xs i (pos 0)) ≡ Some n → more ≡ done ++ n ∷ [] → AreFirst (i + 1) xs more
first-next i xs done more n within so_far e is =
    let found = fitting-some (get_or xs i (pos 0)) n e in
    record {
      first = is ∙ ap (λ l. l ++ n ∷ []) so_far.first ∙ ap (λ v. take i xs ++ v ∷ []) found.1 ∙ sym (take_more xs i (pos 0) within);
      fit = rw is (list_all-append fits done (n ∷ []) ∙ rw (so_far.fit, found.1, found.0) refl);
    }

-- A list in which one number does not fit does not pass the test.
none-fits : (i : ℕ) (xs : List ℤ) → i < length xs → fits (get_or xs i (pos 0)) ≡ false → list_all fits xs ≡ false
none-fits i [] within fails = absurd (omega arith)
none-fits zero (x ∷ xs) within fails = ap (λ b. b && list_all fits xs) fails
none-fits (suc i) (x ∷ xs) within fails = rw (none-fits i xs (omega arith) fails) (last-false (fits x))
  where
    last-false : (b : Bool) → (b && false) ≡ false
    last-false true = refl
    last-false false = refl

-- a number that does not fit
pub first-stops : (i : ℕ) (xs : List ℤ) → i < length xs → fitting (get_or xs i (pos 0)) ≡ None → None ≡ fitting_list xs
first-stops i xs within e = rw (none-fits i xs within (fitting-none (get_or xs i (pos 0)) e)) refl

-- all of them
pub first-ends : (xs done : List ℤ) → AreFirst (length xs) xs done → Some done ≡ fitting_list xs
first-ends xs done all =
    let whole : done ≡ xs = all.first ∙ take-all xs in
    let fit : list_all fits xs ≡ true = subst (λ l. list_all fits l ≡ true) whole all.fit in
    rw fit (ap Some whole)
  where
    take-all : (ys : List ℤ) → take (length ys) ys ≡ ys
    take-all [] = refl
    take-all (y ∷ ys) = ap (λ l. y ∷ l) (take-all ys)

-- ---- what is at a place of sums and multiples
-- The sum at a place is that of the numbers there.
pub get_or-sum_of : (xs ys : List ℤ) (i : ℕ) → length xs ≡ length ys → i < length xs → get_or (sum_of xs ys) i (pos 0) ≡ get_or xs i (pos 0) +ℤ get_or ys i (pos 0)
get_or-sum_of [] ys i same within = absurd (omega arith)
get_or-sum_of (x ∷ xs) [] i same within = absurd (omega arith)
get_or-sum_of (x ∷ xs) (y ∷ ys) zero same within = refl
get_or-sum_of (x ∷ xs) (y ∷ ys) (suc i) same within = get_or-sum_of xs ys i (omega arith) (omega arith)

-- There are as many sums as numbers in either list.
pub length-sum_of : (xs ys : List ℤ) → length xs ≡ length ys → length (sum_of xs ys) ≡ length xs
length-sum_of [] [] same = refl
length-sum_of [] (y ∷ ys) same = absurd (omega arith)
length-sum_of (x ∷ xs) [] same = absurd (omega arith)
length-sum_of (x ∷ xs) (y ∷ ys) same = ap suc (length-sum_of xs ys (omega arith))

-- The multiple at a place is that of the number there.
pub get_or-scaled : (k : ℤ) (xs : List ℤ) (i : ℕ) → i < length xs → get_or (multiple_of k xs) i (pos 0) ≡ k *ℤ get_or xs i (pos 0)
get_or-scaled k [] i within = absurd (omega arith)
get_or-scaled k (x ∷ xs) zero within = refl
get_or-scaled k (x ∷ xs) (suc i) within = get_or-scaled k xs i (omega arith)

-- ---- what is at a place of differences

-- a difference is the sum with the other number times -1
pub minus-is : (x y : ℤ) → x -ℤ y ≡ x +ℤ negsuc 0 *ℤ y
minus-is x y = omega (arith, ints)

-- there are as many differences as numbers in either list
pub length-differences : (xs ys : List ℤ) → length xs ≡ length ys → length (sum_of xs (multiple_of (negsuc 0) ys)) ≡ length xs
length-differences xs ys same = length-sum_of xs (multiple_of (negsuc 0) ys) (same ∙ sym (length-map ys (λ y. negsuc 0 *ℤ y)))

-- the difference at a place is that of the numbers there
pub get_or-differences : (xs ys : List ℤ) (i : ℕ) → length xs ≡ length ys → i < length xs
    → get_or (sum_of xs (multiple_of (negsuc 0) ys)) i (pos 0) ≡ get_or xs i (pos 0) +ℤ negsuc 0 *ℤ get_or ys i (pos 0)
get_or-differences xs ys i same within =
    get_or-sum_of xs (multiple_of (negsuc 0) ys) i (same ∙ sym (length-map ys (λ y. negsuc 0 *ℤ y))) within
    ∙ ap (λ v. get_or xs i (pos 0) +ℤ v) (get_or-scaled (negsuc 0) ys i (omega arith))

-- ---- forms of both parts
-- A form of coefficients and a constant is given where both tests hold.
form-of_both : (a b : Bool) (form : Form) → form_of_both (cond a (Some form.coefficients) None) (cond b (Some form.constant) None) ≡ cond (a && b) (Some form) None
form-of_both true true form = refl
form-of_both true false form = refl
form-of_both false true form = refl
form-of_both false false form = refl

-- A form is given where its coefficients and its constant are.
pub fitting_form-parts : (form : Form) → form_of_both (fitting_list form.coefficients) (fitting form.constant) ≡ fitting_form form
fitting_form-parts form = form-of_both (list_all fits form.coefficients) (fits form.constant) form
