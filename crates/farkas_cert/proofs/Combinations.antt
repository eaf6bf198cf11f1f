-- A combination is made number by number, and has all numbers where all fit.
use Rattle.std.proofs.Common.{◌≡◌, ℕ, zero, suc, ◌+◌, ◌<◌, max, refl, sym, ◌∙◌, ap, subst, arith, List, [], ◌∷◌, ◌++◌, map, length, take, drop, get_or, Bool, true, false, cond, Option, Some, None, append_assoc, add-zero}
use Rattle.std.specs.Prelude.{ℤ, pos, ◌+ℤ◌, ◌*ℤ◌, ◌≤◌, ◌&&◌, slice_set}
use Rattle.std.specs.Option.{option_map, option_and_then}
use Rattle.std.specs.List.{AllByRecursion}
use Rattle.std.proofs.lemmas.List.{take_more, take_more_set, drop_more, drop-set-lt, map-append, get_or-drop}
use Rattle.std.proofs.lemmas.Int.{ints}
use Rattle.thr_base.specs.Number.{Fits, fits}
use Rattle.lin_rows.specs.Exact.{fitting}
use Rattle.lin_rows.specs.Row.{multiple_of}
use Rattle.lin_rows.proofs.Integers.{mul-zero_ℤ, map-over_one}
use Rattle.lin_rows.proofs.Lists.{AllByRecursion-map}
use Rattle.lin_rows.proofs.Numbers.{Fits-int_div_euclid, fits-true}
use Rattle.farkas_cert.specs.Divided.{divided_numbers, over}
use Rattle.std.specs.Int.{int_div_euclid}
use Rattle.lin_rows.specs.Gcd.{gcd_of}
use Rattle.farkas_cert.specs.Line.{all_fit, combination, combination_fits}
use Rattle.farkas_cert.proofs.Linear.{sum-none}
use Rattle.farkas_cert.proofs.Divisors.{divided-same}
use Rattle.farkas_cert.specs.Combination.{combined_number, combined_numbers, in_front}

-- ---- what is done, and what is left

-- A front with one more element, before what is left.
pub front_more : {X : Type 0} (front : List X) (x : X) (o : Option (List X))
    → option_map (λ rest. (front ++ x ∷ []) ++ rest) o ≡ option_map (λ rest. front ++ rest) (option_map (λ xs. x ∷ xs) o)
front_more front x None = refl
front_more front x (Some xs) = ap Some (append_assoc front (x ∷ []) xs)

-- Nothing is left of the empty list.
drop_nil : (p : ℕ) → drop {A = ℤ} p [] ≡ []
drop_nil zero = refl
drop_nil (suc p) = refl

-- A combination goes on with the numbers at a place.
pub combined_numbers-step : (a : ℤ) (xs : List ℤ) (b : ℤ) (ys : List ℤ) (p : ℕ) → p < max (length xs) (length ys)
    → combined_numbers a (drop p xs) b (drop p ys) ≡ in_front (combined_number a (get_or xs p (pos 0)) b (get_or ys p (pos 0))) (combined_numbers a (drop (suc p) xs) b (drop (suc p) ys))
unfolding combined_numbers
combined_numbers-step a [] b [] p h = absurd (omega arith)
combined_numbers-step a [] b (y ∷ ys) zero h = refl
combined_numbers-step a (x ∷ xs) b [] zero h = refl
combined_numbers-step a (x ∷ xs) b (y ∷ ys) zero h = refl
combined_numbers-step a [] b (y ∷ ys) (suc p) h = let r = combined_numbers-step a [] b ys p (omega arith) in rw drop_nil at r
combined_numbers-step a (x ∷ xs) b [] (suc p) h = let r = combined_numbers-step a xs b [] p (omega arith) in rw drop_nil at r
combined_numbers-step a (x ∷ xs) b (y ∷ ys) (suc p) h = combined_numbers-step a xs b ys p (omega arith)

-- Behind both lists nothing is left to combine.
pub combined_numbers-end : (a : ℤ) (xs : List ℤ) (b : ℤ) (ys : List ℤ) (p : ℕ) → max (length xs) (length ys) ≡ p
    → combined_numbers a (drop p xs) b (drop p ys) ≡ Some []
unfolding combined_numbers
combined_numbers-end a [] b [] zero h = refl
combined_numbers-end a [] b [] (suc p) h = refl
combined_numbers-end a [] b (y ∷ ys) zero h = absurd (omega arith)
combined_numbers-end a (x ∷ xs) b [] zero h = absurd (omega arith)
combined_numbers-end a (x ∷ xs) b (y ∷ ys) zero h = absurd (omega arith)
combined_numbers-end a [] b (y ∷ ys) (suc p) h = let r = combined_numbers-end a [] b ys p (omega arith) in rw drop_nil at r
combined_numbers-end a (x ∷ xs) b [] (suc p) h = let r = combined_numbers-end a xs b [] p (omega arith) in rw drop_nil at r
combined_numbers-end a (x ∷ xs) b (y ∷ ys) (suc p) h = combined_numbers-end a xs b ys p (omega arith)

-- ---- all numbers, where all fit

-- A number in front of a list that is given by a test.
front_of_all : (w : Bool) (z : ℤ) (zs : List ℤ) → in_front (Some z) (cond w (Some zs) None) ≡ cond w (Some (z ∷ zs)) None
front_of_all true z zs = refl
front_of_all false z zs = refl

-- Where one list has ended, the test of both is that of the other.
right_alone : (t u v : Bool) (z : ℤ) (zs : List ℤ)
    → in_front (cond t (Some z) None) (cond (u && v) (Some zs) None) ≡ cond ((t && u) && (t && v)) (Some (z ∷ zs)) None
right_alone true u v z zs = front_of_all (u && v) z zs
right_alone false u v z zs = refl

-- Where both numbers are there, the tests are joined.
both_there : (r s t u v w : Bool) (z : ℤ) (zs : List ℤ)
    → in_front (cond r (cond s (cond t (Some z) None) None) None) (cond (u && (v && w)) (Some zs) None)
    ≡ cond ((r && u) && ((s && v) && (t && w))) (Some (z ∷ zs)) None
both_there true true true u v w z zs = front_of_all (u && (v && w)) z zs
both_there false s t u v w z zs = refl
both_there true false t true v w z zs = refl
both_there true false t false v w z zs = refl
both_there true true false true true w z zs = refl
both_there true true false true false w z zs = refl
both_there true true false false v w z zs = refl

-- a zero beside a number
zero_left : (a b y : ℤ) → combined_number a (pos 0) b y ≡ fitting (b *ℤ y)
zero_left a b y = rw mul-zero_ℤ (at (fits (b *ℤ y)) refl) where
  sum : pos 0 +ℤ (b *ℤ y) ≡ b *ℤ y
  sum = omega (arith, ints)

  at : (t : Bool) → fits (b *ℤ y) ≡ t → option_and_then (λ second. fitting (pos 0 +ℤ second)) (cond t (Some (b *ℤ y)) None) ≡ cond t (Some (b *ℤ y)) None
  at true e = rw (sum, e) refl
  at false e = refl

-- A number combined with 0 is its multiple.
zero_right : (a x b : ℤ) → combined_number a x b (pos 0) ≡ fitting (a *ℤ x)
zero_right a x b = rw mul-zero_ℤ (at (fits (a *ℤ x)) refl) where
  sum : (a *ℤ x) +ℤ pos 0 ≡ a *ℤ x
  sum = omega (arith, ints)

  at : (t : Bool) → fits (a *ℤ x) ≡ t → option_and_then (λ first. option_and_then (λ second. fitting (first +ℤ second)) (fitting (pos 0))) (cond t (Some (a *ℤ x)) None) ≡ cond t (Some (a *ℤ x)) None
  at true e = rw (sum, e) refl
  at false e = refl

-- Two numbers combined are given where both products and their sum fit.
both_numbers : (a x b y : ℤ) → combined_number a x b y
    ≡ cond (fits (a *ℤ x)) (cond (fits (b *ℤ y)) (cond (fits (a *ℤ x +ℤ b *ℤ y)) (Some (a *ℤ x +ℤ b *ℤ y)) None) None) None
both_numbers a x b y = at (fits (a *ℤ x)) (fits (b *ℤ y)) where
  at : (s t : Bool) → option_and_then (λ first. option_and_then (λ second. fitting (first +ℤ second)) (cond t (Some (b *ℤ y)) None)) (cond s (Some (a *ℤ x)) None)
      ≡ cond s (cond t (fitting (a *ℤ x +ℤ b *ℤ y)) None) None
  at true true = refl
  at true false = refl
  at false t = refl

-- A combination is given exactly where all its numbers fit.
pub combined_numbers-all : (a : ℤ) (xs : List ℤ) (b : ℤ) (ys : List ℤ)
    → combined_numbers a xs b ys ≡ cond (combination_fits a xs b ys) (Some (combination a xs b ys)) None
unfolding combined_numbers
combined_numbers-all a [] b [] = refl
combined_numbers-all a [] b (y ∷ ys) =
    rw (zero_left, combined_numbers-all a [] b ys) (right_alone (fits (b *ℤ y)) (all_fit (multiple_of b ys)) (all_fit (multiple_of b ys)) (b *ℤ y) (multiple_of b ys))
combined_numbers-all a (x ∷ xs) b [] =
    rw (zero_right, combined_numbers-all a xs b [], ← sum-none (multiple_of a xs)) (right_alone (fits (a *ℤ x)) (all_fit (multiple_of a xs)) (all_fit (multiple_of a xs)) (a *ℤ x) (multiple_of a xs))
combined_numbers-all a (x ∷ xs) b (y ∷ ys) =
    rw (both_numbers, combined_numbers-all a xs b ys)
    (both_there (fits (a *ℤ x)) (fits (b *ℤ y)) (fits (a *ℤ x +ℤ b *ℤ y)) (all_fit (multiple_of a xs)) (all_fit (multiple_of b ys)) (all_fit (combination a xs b ys))
    (a *ℤ x +ℤ b *ℤ y) (combination a xs b ys))

-- Numbers that pass the test fit.
pub all_fit-true : (xs : List ℤ) → all_fit xs ≡ true → AllByRecursion Fits xs
all_fit-true [] e = tt
all_fit-true (x ∷ xs) e = at (all_fit-true xs) (fits x) refl e where
  at : (all_fit xs ≡ true → AllByRecursion Fits xs) → (s : Bool) → fits x ≡ s → (s && all_fit xs) ≡ true → AllByRecursion Fits (x ∷ xs)
  at rest true p e = (fits-true x p, rest e)
  at rest false p e = absurd cc

-- The third part of a test that holds holds.
pub third_true : (u v w : Bool) → (u && (v && w)) ≡ true → w ≡ true
third_true true true w e = e
third_true true false w e = absurd cc
third_true false v w e = absurd cc

-- what was made, or why nothing was
pub some_by : (w : Bool) (zs made : List ℤ) → Some made ≡ cond w (Some zs) None → (w ≡ true) × (made ≡ zs)
some_by true zs made e = (refl, cc)
some_by false zs made e = absurd cc

-- What is not given by a test does not pass it.
pub none_by : (w : Bool) (zs : List ℤ) → None ≡ cond w (Some zs) None → w ≡ false
none_by true zs e = absurd cc
none_by false zs e = refl

-- What is given by three tests fits.
fits_by : (r s t : Bool) (w z : ℤ) → fits w ≡ t → Some z ≡ cond r (cond s (cond t (Some w) None) None) None → Fits z
fits_by true true true w z e h = let same : z ≡ w = cc in rw same (fits-true w e)
fits_by true true false w z e h = absurd cc
fits_by true false t w z e h = absurd cc
fits_by false s t w z e h = absurd cc

-- A combined number that is given fits.
pub number_fits : (a x b y z : ℤ) → Some z ≡ combined_number a x b y → Fits z
number_fits a x b y z e = fits_by (fits (a *ℤ x)) (fits (b *ℤ y)) (fits (a *ℤ x +ℤ b *ℤ y)) (a *ℤ x +ℤ b *ℤ y) z refl (e ∙ both_numbers a x b y)

-- A combination that is given fits.
pub combined_fit : (a : ℤ) (xs : List ℤ) (b : ℤ) (ys made : List ℤ) → Some made ≡ combined_numbers a xs b ys → AllByRecursion Fits made
combined_fit a xs b ys made e =
    let is = some_by (combination_fits a xs b ys) (combination a xs b ys) made (e ∙ combined_numbers-all a xs b ys) in
    subst (λ zs. AllByRecursion Fits zs) (sym is.1)
    (all_fit-true (combination a xs b ys) (third_true (all_fit (multiple_of a xs)) (all_fit (multiple_of b ys)) (all_fit (combination a xs b ys)) is.0))

-- ---- a change of each number in place

-- With one number more written, the first numbers are images and the others as they were.
pub mapped-more : (f : ℤ → ℤ) (numbers given : List ℤ) (i : ℕ) (y : ℤ) → i < length given → length numbers ≡ length given
    → take i numbers ≡ map f (take i given) → drop i numbers ≡ drop i given → y ≡ f (get_or given i (pos 0))
    → (take (i + 1) (slice_set numbers i y) ≡ map f (take (i + 1) given)) × (drop (i + 1) (slice_set numbers i y) ≡ drop (i + 1) given)
mapped-more f numbers given i y h l front back e =
    let made = take_more_set numbers i y (omega arith) in
    let more = ap (λ xs. map f xs) (take_more given i (pos 0) h) ∙ map-append f (take i given) (get_or given i (pos 0) ∷ []) in
    let kept = drop-set-lt (i + 1) numbers i y (omega arith) in
    let left = drop_more numbers i (pos 0) (omega arith) in
    let right = drop_more given i (pos 0) h in
    (cc, cc)

-- Where what is left agrees, the number at the place does.
pub get_from_drop : (numbers given : List ℤ) (i : ℕ) → drop i numbers ≡ drop i given → get_or numbers i (pos 0) ≡ get_or given i (pos 0)
get_from_drop numbers given i e =
    let left = get_or-drop i numbers 0 (pos 0) in
    let right = get_or-drop i given 0 (pos 0) in
    let same = ap (λ xs. get_or xs 0 (pos 0)) e in
    rw (sym (add-zero i)) (sym left ∙ same ∙ right)

-- Numbers whose divisor is at most 1 are divided already.
pub divided_already : (xs : List ℤ) → gcd_of xs ≤ 1 → xs ≡ divided_numbers xs
unfolding divided_numbers
divided_already xs h = at (gcd_of xs) refl h where
  at : (g : ℕ) → gcd_of xs ≡ g → g ≤ 1 → xs ≡ map (over (gcd_of xs)) xs
  at zero e h = sym (divided-same xs e)
  at (suc zero) e h = rw e (sym (map-over_one xs))
  at (suc (suc g)) e h = absurd (omega arith)

-- Numbers that are divided by their greatest common divisor are the divided numbers.
pub divided_is : (xs ys : List ℤ) (d : ℤ) → d ≡ pos (gcd_of xs) → ys ≡ map (λ x. int_div_euclid x d) xs → ys ≡ divided_numbers xs
unfolding divided_numbers
divided_is xs ys d e h = h ∙ ap (λ d. map (λ x. int_div_euclid x d) xs) e

-- Divided numbers fit where the numbers do.
pub divided_fit : (xs : List ℤ) → AllByRecursion Fits xs → AllByRecursion Fits (divided_numbers xs)
unfolding divided_numbers
divided_fit xs h = AllByRecursion-map Fits Fits (over (gcd_of xs)) (λ x k. Fits-int_div_euclid x (gcd_of xs) k) xs h
