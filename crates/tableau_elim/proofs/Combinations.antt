-- A combination is made number by number in place, and has all numbers where all fit.
use Rattle.std.proofs.Common.{◌≡◌, ℕ, suc, ◌+◌, ◌<◌, ◌≤◌, max, refl, sym, ◌∙◌, ap, arith, List, [], ◌∷◌, ◌++◌, length, take, drop, get_or, Bool, true, false, cond, Option, Some, None, append-nil, add-one}
use Rattle.std.specs.Prelude.{ℤ, pos, slice_set}
use Rattle.std.specs.Option.{option_map}
use Rattle.std.specs.List.{AllByRecursion}
use Rattle.std.proofs.lemmas.List.{take_more_set, drop_more, drop-set-lt, take_all, drop_all}
use Rattle.thr_base.specs.Number.{Fits}
use Rattle.lin_rows.specs.Row.{multiple_of}
use Rattle.farkas_cert.specs.Combination.{combined_number, combined_numbers, in_front}
use Rattle.farkas_cert.specs.Line.{all_fit, combination, combination_fits}
use Rattle.farkas_cert.proofs.Combinations.{front_more, get_from_drop, combined_numbers-step, combined_numbers-all, all_fit-true, third_true}

-- ---- what is done, and what is left

max_same : (n : ℕ) → max n n ≡ n
max_same n = omega arith

-- the first i numbers are made, and the others are as they were
pub record IsCombining (a : ℤ) (xs : List ℤ) (b : ℤ) (ys : List ℤ) (now : List ℤ) (i : ℕ) : Type 0 where
  pub whole : option_map (λ rest. take i now ++ rest) (combined_numbers a (drop i xs) b (drop i ys)) ≡ combined_numbers a xs b ys
  pub left : drop i now ≡ drop i xs

nothing_before : (o : Option (List ℤ)) → option_map (λ rest. [] ++ rest) o ≡ o
nothing_before None = refl
nothing_before (Some xs) = refl

pub combining_begins : (a : ℤ) (xs : List ℤ) (b : ℤ) (ys : List ℤ) → IsCombining a xs b ys xs 0
combining_begins a xs b ys = record { whole = nothing_before (combined_numbers a xs b ys); left = refl }

pub combining_goes_on : (a : ℤ) (xs : List ℤ) (b : ℤ) (ys now : List ℤ) (i : ℕ) (z : ℤ) → i < length ys → length xs ≡ length ys → length now ≡ length xs
    → Some z ≡ combined_number a (get_or now i (pos 0)) b (get_or ys i (pos 0)) → IsCombining a xs b ys now i → IsCombining a xs b ys (slice_set now i z) (i + 1)
combining_goes_on a xs b ys now i z h l m e k =
    let rest = combined_numbers a (drop (suc i) xs) b (drop (suc i) ys) in
    let here = get_from_drop now xs i k.left in
    let number : Some z ≡ combined_number a (get_or xs i (pos 0)) b (get_or ys i (pos 0)) = e ∙ ap (λ x. combined_number a x b (get_or ys i (pos 0))) here in
    let step = combined_numbers-step a xs b ys i (omega (arith, max_same (length ys))) in
    let made = take_more_set now i z (omega arith) in
    let kept = drop-set-lt (i + 1) now i z (omega arith) in
    let left = drop_more now i (pos 0) (omega arith) in
    let right = drop_more xs i (pos 0) (omega arith) in
    record {
      whole = rw (made, add-one)
          (front_more (take i now) z rest ∙ ap (λ o. option_map (λ rest. take i now ++ rest) (in_front o rest)) number ∙ ap (λ o. option_map (λ rest. take i now ++ rest) o) (sym step) ∙ k.whole);
      left = let same = k.left in cc;
    }

pub combining_stops : (a : ℤ) (xs : List ℤ) (b : ℤ) (ys now : List ℤ) (i : ℕ) → i < length ys → length xs ≡ length ys → length now ≡ length xs
    → None ≡ combined_number a (get_or now i (pos 0)) b (get_or ys i (pos 0)) → IsCombining a xs b ys now i → combined_numbers a xs b ys ≡ None
combining_stops a xs b ys now i h l m e k =
    let rest = combined_numbers a (drop (suc i) xs) b (drop (suc i) ys) in
    let here = get_from_drop now xs i k.left in
    let number : None ≡ combined_number a (get_or xs i (pos 0)) b (get_or ys i (pos 0)) = e ∙ ap (λ x. combined_number a x b (get_or ys i (pos 0))) here in
    sym (ap (λ o. option_map (λ rest. take i now ++ rest) (in_front o rest)) number ∙ ap (λ o. option_map (λ rest. take i now ++ rest) o) (sym (combined_numbers-step a xs b ys i (omega (arith, max_same (length ys))))) ∙ k.whole)

combined_none : (a : ℤ) (xs : List ℤ) (b : ℤ) (ys : List ℤ) → length xs ≡ 0 → length ys ≡ 0 → combined_numbers a xs b ys ≡ Some []
unfolding combined_numbers
combined_none a [] b [] e f = refl
combined_none a [] b (y ∷ ys) e f = absurd (omega arith)
combined_none a (x ∷ xs) b ys e f = absurd (omega arith)

pub combining_ends : (a : ℤ) (xs : List ℤ) (b : ℤ) (ys now : List ℤ) (i : ℕ) → length ys ≤ i → length xs ≡ length ys → length now ≡ length xs
    → IsCombining a xs b ys now i → combined_numbers a xs b ys ≡ Some now
combining_ends a xs b ys now i h l m k =
    let none = combined_none a (drop i xs) b (drop i ys) (ap length (drop_all i xs (omega arith))) (ap length (drop_all i ys h)) in
    sym k.whole ∙ ap (λ o. option_map (λ rest. take i now ++ rest) o) none ∙ ap Some (append-nil (take i now) ∙ take_all i now (omega arith))

-- ---- all numbers, where all fit

pub combination_all_fit : (a : ℤ) (xs : List ℤ) (b : ℤ) (ys : List ℤ) → combination_fits a xs b ys ≡ true → AllByRecursion Fits (combination a xs b ys)
combination_all_fit a xs b ys e = all_fit-true (combination a xs b ys) (third_true (all_fit (multiple_of a xs)) (all_fit (multiple_of b ys)) (all_fit (combination a xs b ys)) e)

-- what was made, or why nothing was
pub made_by : (a : ℤ) (xs : List ℤ) (b : ℤ) (ys made : List ℤ) → length xs ≡ length ys → combined_numbers a xs b ys ≡ Some made
    → (combination_fits a xs b ys ≡ true) × (made ≡ combination a xs b ys)
made_by a xs b ys made l e = at (combination_fits a xs b ys) (sym (combined_numbers-all a xs b ys) ∙ e) where
  at : (w : Bool) → cond w (Some (combination a xs b ys)) None ≡ Some made → (w ≡ true) × (made ≡ combination a xs b ys)
  at true e = (refl, cc)
  at false e = absurd cc

pub none_by : (a : ℤ) (xs : List ℤ) (b : ℤ) (ys : List ℤ) → length xs ≡ length ys → combined_numbers a xs b ys ≡ None → combination_fits a xs b ys ≡ false
none_by a xs b ys l e = at (combination_fits a xs b ys) (sym (combined_numbers-all a xs b ys) ∙ e) where
  at : (w : Bool) → cond w (Some (combination a xs b ys)) None ≡ None → w ≡ false
  at true e = absurd cc
  at false e = refl
