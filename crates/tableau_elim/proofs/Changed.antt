-- What a pivot makes of a line, and that its divisor stays positive.
use Rattle.std.proofs.Common.{◌≡◌, ℕ, zero, suc, ◌<◌, refl, ap, ◌∙◌, subst, arith, List, [], ◌∷◌, length, get_or, Bool, true, false, cond, Some}
use Rattle.std.specs.Prelude.{ℤ, pos, negsuc, neg_ℤ, ◌*ℤ◌, ◌<ℤ◌, ◌≢◌, slice_set, unsigned_abs}
use Rattle.std.specs.Int.{int_signum}
use Rattle.std.proofs.lemmas.Int.{ints, by_lt_z}
use Rattle.lin_rows.specs.Gcd.{gcd_of}
use Rattle.lin_rows.specs.Row.{multiple_of}
use Rattle.lin_rows.proofs.Divisors.{gcd_of-divides}
use Rattle.lin_rows.proofs.Integers.{mul-le-mul_ℤ, mul-zero_ℤ}
use Rattle.lin_rows.proofs.Booleans.{given_where_true}
use Rattle.farkas_cert.specs.Divided.{over, divided_numbers}
use Rattle.farkas_cert.specs.Line.{combination, combination_fits, is_nonzero}
use Rattle.farkas_cert.proofs.Divisors.{over-exact}
use Rattle.farkas_cert.proofs.Integers.{linear, mul-positive_ℤ}
use Rattle.tableau_elim.specs.Tableau.{Line, Pivot, are_same, number_at, solved_line, combined_line, line_after_pivot}

-- ---- positive divisors

-- the first number stays positive
abbrev pub Front : List ℤ → Type 0
Front xs = pos 0 <ℤ get_or xs 0 (pos 1)

not_below : (g : ℕ) (x y : ℤ) → pos g *ℤ y ≡ x → pos 0 <ℤ x → pos 0 <ℤ y
not_below g x y e h = by_lt_z (pos 0) y (λ l. l) (λ l. absurd (omega (arith, linear, mul-le-mul_ℤ (pos g) y (pos 0) (omega (arith, linear)) l, mul-zero_ℤ (pos g))))

pub divided_front : (xs : List ℤ) → Front xs → Front (divided_numbers xs)
unfolding divided_numbers
divided_front [] h = h
divided_front (x ∷ xs) h = not_below (gcd_of (x ∷ xs)) x (over (gcd_of (x ∷ xs)) x) (over-exact (gcd_of (x ∷ xs)) x (gcd_of-divides (x ∷ xs)).0) h

abs_positive : (p : ℤ) → p ≢ pos 0 → pos 0 <ℤ pos (unsigned_abs p)
abs_positive (pos zero) h = absurd (h refl)
abs_positive (pos (suc n)) h = omega (arith, ints)
abs_positive (negsuc n) h = omega (arith, ints)

set_front : (xs : List ℤ) (x : ℤ) → pos 0 <ℤ x → Front (slice_set xs 0 x)
set_front [] x h = omega (arith, ints)
set_front (y ∷ xs) x h = h

pub solved_front : (pivot : Pivot) → pivot.number ≢ pos 0 → Front (solved_line pivot).numbers
unfolding solved_line
solved_front pivot h =
    divided_front (slice_set (multiple_of (neg_ℤ (int_signum pivot.number)) pivot.moved) 0 (pos (unsigned_abs pivot.number)))
    (set_front (multiple_of (neg_ℤ (int_signum pivot.number)) pivot.moved) (pos (unsigned_abs pivot.number)) (abs_positive pivot.number h))

combination_front : (a : ℤ) (xs : List ℤ) (j : ℕ) (b : ℤ) (ys : List ℤ) → pos 0 <ℤ a → Front xs → 0 < length xs → get_or ys 0 (pos 0) ≡ pos 0
    → Front (combination a (slice_set xs (suc j) (pos 0)) b ys)
combination_front a [] j b ys h f l e = absurd (omega arith)
combination_front a (x ∷ xs) j b [] h f l e = mul-positive_ℤ a x h f
combination_front a (x ∷ xs) j b (y ∷ ys) h f l e =
    let none : b *ℤ y ≡ pos 0 = ap (λ z. b *ℤ z) e ∙ mul-zero_ℤ b in
    let some = mul-positive_ℤ a x h f in
    omega (arith, linear)

pub substituted_is : (pivot : Pivot) (line new : Line) → combined_line pivot line ≡ Some new →
    let a = pos (unsigned_abs pivot.number) in
    let b = neg_ℤ (int_signum pivot.number) *ℤ number_at pivot.place line in
    let rest = slice_set line.numbers (suc pivot.place) (pos 0) in
    let made : Line = record { basic = line.basic; numbers = divided_numbers (combination a rest b pivot.moved) } in
    (combination_fits a rest b pivot.moved ≡ true) × (made ≡ new)
unfolding combined_line
substituted_is pivot line new e =
    let a = pos (unsigned_abs pivot.number) in
    let b = neg_ℤ (int_signum pivot.number) *ℤ number_at pivot.place line in
    let rest = slice_set line.numbers (suc pivot.place) (pos 0) in
    given_where_true (combination_fits a rest b pivot.moved) (record { basic = line.basic; numbers = divided_numbers (combination a rest b pivot.moved) }) new e

substituted_front : (pivot : Pivot) (line new : Line) → pivot.number ≢ pos 0 → get_or pivot.moved 0 (pos 0) ≡ pos 0 → 0 < length line.numbers → Front line.numbers
    → combined_line pivot line ≡ Some new → Front new.numbers
substituted_front pivot line new h z l f e =
    let a = pos (unsigned_abs pivot.number) in
    let b = neg_ℤ (int_signum pivot.number) *ℤ number_at pivot.place line in
    let rest = slice_set line.numbers (suc pivot.place) (pos 0) in
    subst (λ (made : Line). Front made.numbers) (substituted_is pivot line new e).1
    (divided_front (combination a rest b pivot.moved) (combination_front a line.numbers pivot.place b pivot.moved (abs_positive pivot.number h) f l z))

-- ---- which of the three a line becomes

pub by_change : (P : Line → Type 0) (pivot : Pivot) (line new : Line) → line_after_pivot pivot line ≡ Some new
    → (are_same line.basic pivot.leaving ≡ true → P (solved_line pivot))
    → (are_same line.basic pivot.leaving ≡ false → is_nonzero (number_at pivot.place line) ≡ true → combined_line pivot line ≡ Some new → P new)
    → (are_same line.basic pivot.leaving ≡ false → is_nonzero (number_at pivot.place line) ≡ false → P line) → P new
unfolding line_after_pivot
by_change P pivot line new e f g h = at (are_same line.basic pivot.leaving) (is_nonzero (number_at pivot.place line)) refl refl e where
  at : (s t : Bool) → are_same line.basic pivot.leaving ≡ s → is_nonzero (number_at pivot.place line) ≡ t
      → cond s (Some (solved_line pivot)) (cond t (combined_line pivot line) (Some line)) ≡ Some new → P new
  at true t s_is t_is e = let same : solved_line pivot ≡ new = cc in subst P same (f s_is)
  at false true s_is t_is e = g s_is t_is e
  at false false s_is t_is e = let same : line ≡ new = cc in subst P same (h s_is t_is)

pub changed_front : (pivot : Pivot) (line new : Line) → pivot.number ≢ pos 0 → get_or pivot.moved 0 (pos 0) ≡ pos 0 → 0 < length line.numbers → Front line.numbers
    → line_after_pivot pivot line ≡ Some new → Front new.numbers
changed_front pivot line new h z l f e =
    by_change (λ made. Front made.numbers) pivot line new e (λ s. solved_front pivot h) (λ s t m. substituted_front pivot line new h z l f m) (λ s t. f)
