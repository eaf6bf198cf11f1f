-- Coefficients of rows that fit.
use Rattle.std.proofs.Common.{◌≡◌, ℕ, zero, suc, ◌+◌, List, [], ◌∷◌, ◌++◌, map, take, drop, length, set, replicate, ℤ, pos, negsuc, neg_ℤ, arith, ap, sym, ◌∙◌}
use Rattle.std.specs.List.{AllByRecursion}
use Rattle.std.proofs.lemmas.List.{set-append_right}
use Rattle.thr_base.specs.Number.{Fits}
use Rattle.lin_rows.proofs.Lists.{AllByRecursion-append, AllByRecursion-map, AllByRecursion-take, AllByRecursion-drop}
use Rattle.lin_rows.proofs.Numbers.{Fits-neg, zero_fits, one_fits, minus_one_fits}
use Rattle.transition_formula.specs.Rows.{zeros, unit}

-- What holds of an element holds of its copies.
pub AllByRecursion-replicate : {A : Type 0} (P : A → Type 0) (n : ℕ) (x : A) → P x → AllByRecursion P (replicate n x)
AllByRecursion-replicate P zero x p = tt
AllByRecursion-replicate P (suc n) x p = (p, AllByRecursion-replicate P n x p)

-- What holds of all and of what is written holds of all then.
pub AllByRecursion-set : {A : Type 0} (P : A → Type 0) (xs : List A) (i : ℕ) (x : A) → AllByRecursion P xs → P x → AllByRecursion P (set xs i x)
AllByRecursion-set P [] i x all p = tt
AllByRecursion-set P (y ∷ ys) zero x all p = (p, all.1)
AllByRecursion-set P (y ∷ ys) (suc i) x all p = (all.0, AllByRecursion-set P ys i x all.1 p)

-- Zeros fit.
pub zeros_fit : (n : ℕ) → AllByRecursion Fits (zeros n)
zeros_fit n = AllByRecursion-replicate Fits n (pos 0) zero_fits

-- A number among zeros fits where the number does.
pub unit_fits : (n c : ℕ) (k : ℤ) → Fits k → AllByRecursion Fits (unit n c k)
unit_fits n c k h = AllByRecursion-set Fits (zeros n) c k (zeros_fit n) h

-- a number that is written among zeros behind others
pub set_among : (before row : List ℤ) (n start place : ℕ) (k read : ℤ) → row ≡ before ++ zeros n → start ≡ length before → read ≡ k → set row (start + place) read ≡ before ++ unit n place k
set_among before row n start place k read made at same =
    rw (made, same) (
    set-append_right before (zeros n) start (start + place) k (sym at) (omega arith)
    ∙ ap (λ i. before ++ set (zeros n) i k) (omega arith)
    )

-- ---- rows of blocks
-- The coefficients of one column fit.
pub unit_row_fits : (cleared row : List ℤ) (n c : ℕ) → cleared ≡ [] → row ≡ cleared ++ unit n c (pos 1) → AllByRecursion Fits row
unit_row_fits cleared row n c empty made = rw (made, empty) (unit_fits n c (pos 1) one_fits)

-- The coefficients of a column that is kept fit.
pub kept_row_fits : (cleared first second row : List ℤ) (n m c : ℕ) → cleared ≡ [] → first ≡ cleared ++ unit n c (negsuc 0) → second ≡ first ++ unit n c (pos 1)
    → row ≡ second ++ zeros m → AllByRecursion Fits row
kept_row_fits cleared first second row n m c empty one two three =
    rw (three, two, one, empty) (
    AllByRecursion-append Fits (unit n c (negsuc 0) ++ unit n c (pos 1)) (zeros m)
    (AllByRecursion-append Fits (unit n c (negsuc 0)) (unit n c (pos 1)) (unit_fits n c (negsuc 0) minus_one_fits) (unit_fits n c (pos 1) one_fits))
    (zeros_fit m)
    )

-- The coefficients of a test over the columns of a step fit.
pub test_row_fits : (cleared first second row xs : List ℤ) (n : ℕ) → AllByRecursion Fits xs → cleared ≡ [] → first ≡ cleared ++ take n xs → second ≡ first ++ zeros n
    → row ≡ second ++ drop n xs → AllByRecursion Fits row
test_row_fits cleared first second row xs n fits empty one two three =
    rw (three, two, one, empty) (
    AllByRecursion-append Fits (take n xs ++ zeros n) (drop n xs)
    (AllByRecursion-append Fits (take n xs) (zeros n) (AllByRecursion-take Fits n xs fits) (zeros_fit n))
    (AllByRecursion-drop Fits n xs fits)
    )

-- The negated numbers fit where the numbers do.
opposites_fit : (xs : List ℤ) → AllByRecursion Fits xs → AllByRecursion Fits (map neg_ℤ xs)
opposites_fit xs fits = AllByRecursion-map Fits Fits neg_ℤ Fits-neg xs fits

-- The coefficients of a set fit.
pub set_row_fits : (cleared first second row xs : List ℤ) (n c : ℕ) → AllByRecursion Fits xs → cleared ≡ [] → first ≡ cleared ++ map neg_ℤ (take n xs)
    → second ≡ first ++ unit n c (pos 1) → row ≡ second ++ map neg_ℤ (drop n xs) → AllByRecursion Fits row
set_row_fits cleared first second row xs n c fits empty one two three =
    rw (three, two, one, empty) (
    AllByRecursion-append Fits (map neg_ℤ (take n xs) ++ unit n c (pos 1)) (map neg_ℤ (drop n xs))
    (AllByRecursion-append Fits (map neg_ℤ (take n xs)) (unit n c (pos 1)) (opposites_fit (take n xs) (AllByRecursion-take Fits n xs fits)) (unit_fits n c (pos 1) one_fits))
    (opposites_fit (drop n xs) (AllByRecursion-drop Fits n xs fits))
    )
