-- How a pivot changes a line, as the program does it.
use Rattle.std.proofs.Common.{◌≡◌, zero, suc, ◌+◌, refl, sym, subst, arith, List, [], ◌∷◌, length, get_or, true, false, Some, None, add-one}
use Rattle.std.specs.Prelude.{ℤ, pos, negsuc, neg_ℤ, ◌*ℤ◌, slice_set, unsigned_abs}
use Rattle.std.specs.Int.{int_signum}
use Rattle.std.specs.List.{AllByRecursion}
use Rattle.std.proofs.Math.ListN.{length-set}
use Rattle.std.proofs.lemmas.Int.{ints}
use Rattle.thr_base.specs.Number.{Fits}
use Rattle.lin_rows.specs.Row.{multiple_of}
use Rattle.lin_rows.proofs.Numbers.{Fits-unsigned_abs, Fits-neg, zero_fits}
use Rattle.lin_rows.proofs.Integers.{zero-mul_ℤ}
use Rattle.lin_rows.proofs.Lists.{AllByRecursion-set}
use Rattle.farkas_cert.specs.Divided.{divided_numbers}
use Rattle.farkas_cert.specs.Line.{combination, combination_fits, is_nonzero}
use Rattle.tableau_elim.specs.Tableau.{Line, Pivot, are_same, solved_line, combined_line, line_after_pivot}
use Rattle.tableau_elim.specs.declared.variable.Variable.{Variable}
use Rattle.farkas_cert.specs.Combination.{combined_numbers}
use Rattle.tableau_elim.proofs.Combinations.{made_by, none_by}

signed_fits : (p x : ℤ) → Fits x → Fits (neg_ℤ (int_signum p) *ℤ x)
signed_fits (pos zero) x h = subst Fits (sym (zero-mul_ℤ x)) zero_fits
signed_fits (pos (suc n)) x h =
    let sign : neg_ℤ (int_signum (pos (suc n))) ≡ negsuc 0 = omega (arith, ints) in
    let e : neg_ℤ x ≡ negsuc 0 *ℤ x = omega (arith, ints) in
    rw sign (subst Fits e (Fits-neg x h))
signed_fits (negsuc n) x h = let e : x ≡ pos 1 *ℤ x = omega (arith, ints) in subst Fits e h

turned_fit : (p : ℤ) (xs : List ℤ) → AllByRecursion Fits xs → AllByRecursion Fits (multiple_of (neg_ℤ (int_signum p)) xs)
turned_fit p [] h = tt
turned_fit p (x ∷ xs) h = (signed_fits p x h.0, turned_fit p xs h.1)

pub solved_fit : (moved now : List ℤ) (p size : ℤ) → AllByRecursion Fits moved → Fits p → now ≡ multiple_of (neg_ℤ (int_signum p)) moved → size ≡ pos (unsigned_abs p)
    → AllByRecursion Fits (slice_set now 0 size)
solved_fit moved now p size h k e f =
    AllByRecursion-set Fits now 0 size (subst Fits (sym f) (Fits-unsigned_abs p k)) (subst (λ (xs : List ℤ). AllByRecursion Fits xs) (sym e) (turned_fit p moved h))

-- ---- what is put into another line

pub substituted_made : (pivot : Pivot) (basic : Variable) (numbers made : List ℤ) (a b : ℤ) → length numbers ≡ length pivot.moved
    → a ≡ pos (unsigned_abs pivot.number) → b ≡ neg_ℤ (int_signum pivot.number) *ℤ get_or numbers (pivot.place + 1) (pos 0)
    → combined_numbers a (slice_set numbers (pivot.place + 1) (pos 0)) b pivot.moved ≡ Some made
    → combined_line pivot (record { basic = basic; numbers = numbers }) ≡ Some (record { basic = basic; numbers = divided_numbers made })
unfolding combined_line
substituted_made pivot basic numbers made a b l p q e =
    let long : length (slice_set numbers (pivot.place + 1) (pos 0)) ≡ length pivot.moved = simp length-set l in
    let is = made_by a (slice_set numbers (pivot.place + 1) (pos 0)) b pivot.moved made long e in
    let one = add-one pivot.place in
    let fit : combination_fits (pos (unsigned_abs pivot.number)) (slice_set numbers (suc pivot.place) (pos 0)) (neg_ℤ (int_signum pivot.number) *ℤ get_or numbers (suc pivot.place) (pos 0)) pivot.moved ≡ true =
    rw (← one, ← q, ← p) is.0 in
    let whole : made ≡ combination (pos (unsigned_abs pivot.number)) (slice_set numbers (suc pivot.place) (pos 0)) (neg_ℤ (int_signum pivot.number) *ℤ get_or numbers (suc pivot.place) (pos 0)) pivot.moved =
    rw (← one, ← q, ← p) is.1 in
    rw (fit, whole) refl

pub substituted_none : (pivot : Pivot) (basic : Variable) (numbers : List ℤ) (a b : ℤ) → length numbers ≡ length pivot.moved
    → a ≡ pos (unsigned_abs pivot.number) → b ≡ neg_ℤ (int_signum pivot.number) *ℤ get_or numbers (pivot.place + 1) (pos 0)
    → combined_numbers a (slice_set numbers (pivot.place + 1) (pos 0)) b pivot.moved ≡ None
    → combined_line pivot (record { basic = basic; numbers = numbers }) ≡ None
unfolding combined_line
substituted_none pivot basic numbers a b l p q e =
    let long : length (slice_set numbers (pivot.place + 1) (pos 0)) ≡ length pivot.moved = simp length-set l in
    let is = none_by a (slice_set numbers (pivot.place + 1) (pos 0)) b pivot.moved long e in
    let one = add-one pivot.place in
    let fit : combination_fits (pos (unsigned_abs pivot.number)) (slice_set numbers (suc pivot.place) (pos 0)) (neg_ℤ (int_signum pivot.number) *ℤ get_or numbers (suc pivot.place) (pos 0)) pivot.moved ≡ false =
    rw (← one, ← q, ← p) is in
    rw fit refl

-- ---- which change a line gets

pub changed_same : (pivot : Pivot) (line : Line) (numbers : List ℤ) → are_same line.basic pivot.leaving ≡ true → numbers ≡ (solved_line pivot).numbers
    → line_after_pivot pivot line ≡ Some (record { basic = pivot.entering; numbers = numbers })
unfolding line_after_pivot solved_line
changed_same pivot line numbers e h = rw (e, h) refl

pub changed_none : (pivot : Pivot) (line : Line) → are_same line.basic pivot.leaving ≡ false → get_or line.numbers (pivot.place + 1) (pos 0) ≡ pos 0
    → line_after_pivot pivot line ≡ Some line
unfolding line_after_pivot
changed_none pivot line e h = let at : get_or line.numbers (suc pivot.place) (pos 0) ≡ pos 0 = rw (← add-one pivot.place) h in rw (e, at) refl

nonzero_is : (z : ℤ) → ¬ (z ≡ pos 0) → is_nonzero z ≡ true
nonzero_is (pos zero) h = absurd (h refl)
nonzero_is (pos (suc n)) h = refl
nonzero_is (negsuc n) h = refl

pub changed_other : (pivot : Pivot) (line : Line) → are_same line.basic pivot.leaving ≡ false → ¬ (get_or line.numbers (pivot.place + 1) (pos 0) ≡ pos 0)
    → line_after_pivot pivot line ≡ combined_line pivot line
unfolding line_after_pivot
changed_other pivot line e h =
    let at : is_nonzero (get_or line.numbers (suc pivot.place) (pos 0)) ≡ true = rw (← add-one pivot.place) (nonzero_is (get_or line.numbers (pivot.place + 1) (pos 0)) h) in rw (e, at) refl
