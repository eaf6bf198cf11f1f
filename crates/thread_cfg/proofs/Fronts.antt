-- States: values in front, and the counters behind them.
use Rattle.std.proofs.Common.{◌≡◌, ℕ, zero, suc, ◌+◌, ◌-◌, ◌<◌, ◌≤◌, ℤ, pos, negsuc, List, [], ◌∷◌, ◌++◌, length, map, Option, Some, option_map, refl, sym, ap, subst, arith, slice_get, slice_set, ◌∙◌}
use Rattle.std.specs.List.{AllByRecursion}
use Rattle.transition_formula.specs.Program.{Form, at_number}
use Rattle.transition_formula.specs.Step.{after_sets, value_of}
use Rattle.thread_cfg.specs.SameSteps.{state_of}
use Rattle.thread_cfg.proofs.Numbered.{none-some, some-same}

-- ---- lists

-- what was put at a place that there is stands there
pub get-set : {X : Type 0} → (xs : List X) (j : ℕ) (x y : X) → slice_get xs j ≡ Some y → slice_get (slice_set xs j x) j ≡ Some x
get-set [] j x y e = absurd (none-some y e)
get-set (z ∷ xs) zero x y e = refl
get-set (z ∷ xs) (suc j) x y e = get-set xs j x y e

-- what is put at a place leaves the others
pub get-other : {X : Type 0} → (xs : List X) (j m : ℕ) (x : X) → ¬ (m ≡ j) → slice_get (slice_set xs j x) m ≡ slice_get xs m
get-other [] j m x d = refl
get-other (z ∷ xs) zero zero x d = absurd (d refl)
get-other (z ∷ xs) zero (suc m) x d = refl
get-other (z ∷ xs) (suc j) zero x d = refl
get-other (z ∷ xs) (suc j) (suc m) x d = get-other xs j m x (λ e. d (ap suc e))

-- what is put at a place keeps the length
pub length-slice_set : {X : Type 0} → (xs : List X) (j : ℕ) (x : X) → length (slice_set xs j x) ≡ length xs
length-slice_set [] j x = refl
length-slice_set (z ∷ xs) zero x = refl
length-slice_set (z ∷ xs) (suc j) x = ap suc (length-slice_set xs j x)

-- there is an element at each place within the length
pub get-exists : {X : Type 0} → (xs : List X) (j : ℕ) → j < length xs → (x : X) × (slice_get xs j ≡ Some x)
get-exists [] j h = absurd (omega (arith, h))
get-exists (x ∷ xs) zero h = (x, refl)
get-exists (x ∷ xs) (suc j) h = get-exists xs j (omega (arith, h))

-- a place with an element is within the length
pub get-below : {X : Type 0} → (xs : List X) (j : ℕ) (x : X) → slice_get xs j ≡ Some x → j < length xs
get-below [] j x e = absurd (none-some x e)
get-below (y ∷ xs) zero x e = omega arith
get-below (y ∷ xs) (suc j) x e = let m = get-below xs j x e in omega (arith, m)

-- a counter is set
pub set-counter : (values : List ℤ) (locations : List ℕ) (j to : ℕ) → slice_set (state_of values locations) (length values + j) (pos to) ≡ state_of values (slice_set locations j to)
set-counter [] locations j to = rw (zero-and j) (mapped locations j)
  where
    zero-and : (n : ℕ) → 0 + n ≡ n
    zero-and n = omega arith

    mapped : (ls : List ℕ) (j : ℕ) → slice_set (map pos ls) j (pos to) ≡ map pos (slice_set ls j to)
    mapped [] j = refl
    mapped (l ∷ ls) zero = refl
    mapped (l ∷ ls) (suc j) = ap (λ x. pos l ∷ x) (mapped ls j)
set-counter (v ∷ values) locations j to = rw (suc-and (length values) j) (ap (λ x. v ∷ x) (set-counter values locations j to))
  where
    suc-and : (n m : ℕ) → suc n + m ≡ suc (n + m)
    suc-and n m = omega arith

-- what is set in front leaves what is behind
pub set-front : (xs ys : List ℤ) (c : ℕ) (v : ℤ) → c < length xs → slice_set (xs ++ ys) c v ≡ slice_set xs c v ++ ys
set-front [] ys c v h = absurd (omega (arith, h))
set-front (x ∷ xs) ys zero v h = refl
set-front (x ∷ xs) ys (suc c) v h = ap (λ l. x ∷ l) (set-front xs ys c v (omega (arith, h)))

pub record Front (values : List ℤ) (counters whole : List ℤ) : Type 0 where
  pub front : List ℤ
  pub as_long : length front ≡ length values
  pub whole_is : whole ≡ front ++ counters

-- sets of columns in front of the counters leave the counters
pub assigned-front : (sets : List (ℕ × Form)) (z values counters : List ℤ) → AllByRecursion (λ (set : ℕ × Form). set.0 < length values) sets → Front values counters (after_sets sets z (values ++ counters))
assigned-front [] z values counters all = record { front = values; as_long = refl; whole_is = refl }
assigned-front (set ∷ sets) z values counters all =
    let more = assigned-front sets z values counters all.1 in
    record {
      front = slice_set more.front set.0 (value_of set.1 z);
      as_long = length-slice_set more.front set.0 (value_of set.1 z) ∙ more.as_long;
      whole_is = rw more.whole_is (set-front more.front counters set.0 (value_of set.1 z) (subst (λ m. set.0 < m) (sym more.as_long) all.0));
    }

-- ---- counters

-- the counter of the i-th thread
pub counter-get : (values : List ℤ) (locations : List ℕ) (j : ℕ) → slice_get (state_of values locations) (length values + j) ≡ option_map pos (slice_get locations j)
counter-get [] locations j = rw (zero-and j) (mapped locations j)
  where
    zero-and : (n : ℕ) → 0 + n ≡ n
    zero-and n = omega arith

    mapped : (locations : List ℕ) (j : ℕ) → slice_get (map pos locations) j ≡ option_map pos (slice_get locations j)
    mapped [] j = refl
    mapped (l ∷ ls) zero = refl
    mapped (l ∷ ls) (suc j) = mapped ls j
counter-get (v ∷ values) locations j = rw (suc-and (length values) j) (counter-get values locations j)
  where
    suc-and : (n m : ℕ) → suc n + m ≡ suc (n + m)
    suc-and n m = omega arith

-- numbers of counters
pub pos-same : (a b : ℕ) → pos a ≡ pos b → a ≡ b
pos-same a b e = ap (λ z. elim z as (λ _. ℕ) [ pos n ↦ n | negsuc n ↦ 0 ]) e

-- ---- numbers from 1

-- an element by its number is that at the place before
pub numbered-get : {X : Type 0} → (xs : List X) (i : ℕ) (x : X) → at_number xs i ≡ Some x → (1 ≤ i) × (slice_get xs (i - 1) ≡ Some x)
numbered-get xs zero x e = absurd (none-some x e)
numbered-get xs (suc j) x e = (omega arith, rw (back j) e)
  where
    back : (j : ℕ) → suc j - 1 ≡ j
    back j = omega arith

-- an element at a place is the one by the next number
pub get-numbered : {X : Type 0} → (xs : List X) (i : ℕ) (o : Option X) → 1 ≤ i → slice_get xs (i - 1) ≡ o → at_number xs i ≡ o
get-numbered xs zero o h e = absurd (omega (arith, h))
get-numbered xs (suc j) o h e = subst (λ m. slice_get xs m ≡ o) (back j) e
  where
    back : (j : ℕ) → suc j - 1 ≡ j
    back j = omega arith

-- what is put at one number leaves the others
pub numbered-set : {X : Type 0} → (xs : List X) (i j : ℕ) (x y : X) → 1 ≤ i → ¬ (j ≡ i) → at_number (slice_set xs (i - 1) x) j ≡ Some y → at_number xs j ≡ Some y
numbered-set xs i zero x y h d e = absurd (none-some y e)
numbered-set xs zero (suc j) x y h d e = absurd (omega (arith, h))
numbered-set xs (suc i) (suc j) x y h d e =
    sym (get-other xs i j x (λ p. d (ap suc p))) ∙ subst (λ m. slice_get (slice_set xs m x) j ≡ Some y) (back i) e
  where
    back : (i : ℕ) → suc i - 1 ≡ i
    back i = omega arith

-- what was put at a number is found there
pub numbered-same : {X : Type 0} → (xs : List X) (i : ℕ) (x y : X) → 1 ≤ i → i ≤ length xs → at_number (slice_set xs (i - 1) x) i ≡ Some y → x ≡ y
numbered-same xs i x y h w e =
    let here = get-exists xs (i - 1) (omega (arith, h, w)) in
    some-same x y (sym (get-set xs (i - 1) x here.0 here.1) ∙ (numbered-get (slice_set xs (i - 1) x) i y e).1)

-- there is an element by each number from 1 to the length
pub get-all : {X : Type 0} → (xs : List X) (i : ℕ) → 1 ≤ i → i ≤ length xs → (x : X) × (at_number xs i ≡ Some x)
get-all xs i some among = let here = get-exists xs (i - 1) (omega (arith, some, among)) in (here.0, get-numbered xs i (Some here.0) some here.1)
