-- What lists that are made by number have, and that they have it once.
use Rattle.std.proofs.Common.{◌≡◌, ◌≢◌, ◌⊎◌, ℕ, zero, suc, ◌+◌, ◌<◌, List, [], ◌∷◌, ◌++◌, map, length, get_or, Some, refl, sym, subst, inl, inr, arith}
use Rattle.std.specs.List.{Contains, AllPairs, slice_get}
use Rattle.std.proofs.lemmas.List.Elements.{Contains-append_left, Contains-append_right}
use Rattle.transition_formula.specs.Program.{at_number}
use Rattle.horn_rules.specs.Home.{by_number}
use Rattle.horn_rules.proofs.Lists.{Contains-first, Contains-later, first-or-later, contains-nothing, Contains-unmap}

-- what two lists have together, one of them has
pub Contains-append : {A : Type 0} (xs ys : List A) (y : A) → Contains (xs ++ ys) y → Contains xs y ⊎ Contains ys y
Contains-append [] ys y there = inr there
Contains-append (x ∷ xs) ys y there = elim (first-or-later x y (xs ++ ys) there) [
  | inl same ↦ inl (subst (Contains (x ∷ xs)) same (Contains-first x xs))
  | inr rest ↦ elim (Contains-append xs ys y rest) [
    | inl here ↦ inl (Contains-later x y xs here)
    | inr behind ↦ inr behind
  ]
]

-- ---- where an element comes from

pub by_number-there : {X Y : Type 0} (give : ℕ → X → List Y) (n : ℕ) (xs : List X) (k : ℕ) (x : X) (y : Y) → slice_get xs k ≡ Some x → Contains (give (n + k) x) y → Contains (by_number give n xs) y
by_number-there give n [] zero x y at there = cc
by_number-there give n [] (suc k) x y at there = cc
by_number-there give n (v ∷ xs) zero x y at there =
    let same : v ≡ x = cc in
    let number : n + 0 ≡ n = omega arith in
    Contains-append_left (give n v) (by_number give (suc n) xs) y (subst (λ u. Contains (give n u) y) (sym same) (subst (λ m. Contains (give m x) y) number there))
by_number-there give n (v ∷ xs) (suc k) x y at there =
    let number : n + suc k ≡ suc n + k = omega arith in
    Contains-append_right (give n v) (by_number give (suc n) xs) y (by_number-there give (suc n) xs k x y at (subst (λ m. Contains (give m x) y) number there))

-- the element's number and what gives it
pub record IsFrom {X Y : Type 0} (give : ℕ → X → List Y) (n : ℕ) (xs : List X) (y : Y) : Type 0 where
  pub k : ℕ
  pub x : X
  pub x_is : slice_get xs k ≡ Some x
  pub gives : Contains (give (n + k) x) y

pub by_number-from : {X Y : Type 0} (give : ℕ → X → List Y) (n : ℕ) (xs : List X) (y : Y) → Contains (by_number give n xs) y → IsFrom give n xs y
by_number-from give n [] y there = absurd (contains-nothing y there)
by_number-from give n (x ∷ xs) y there = elim (Contains-append (give n x) (by_number give (suc n) xs) y there) [
  | inl here ↦
      let number : n ≡ n + 0 = omega arith in
      record { k = 0; x = x; x_is = refl; gives = subst (λ m. Contains (give m x) y) number here }
  | inr behind ↦
      let found = by_number-from give (suc n) xs y behind in
      let number : suc n + found.k ≡ n + suc found.k = omega arith in
      record { k = suc found.k; x = found.x; x_is = found.x_is; gives = subst (λ m. Contains (give m found.x) y) number found.gives }
]

-- the same with numbers from 1
pub numbered-there : {X Y : Type 0} (give : ℕ → X → List Y) (xs : List X) (n : ℕ) (x : X) (y : Y) → at_number xs n ≡ Some x → Contains (give n x) y → Contains (by_number give 1 xs) y
numbered-there give xs zero x y at there = cc
numbered-there give xs (suc k) x y at there =
    let number : suc k ≡ 1 + k = omega arith in
    by_number-there give 1 xs k x y at (subst (λ m. Contains (give m x) y) number there)

pub record IsNumbered {X Y : Type 0} (give : ℕ → X → List Y) (xs : List X) (y : Y) : Type 0 where
  pub n : ℕ
  pub x : X
  pub x_is : at_number xs n ≡ Some x
  pub gives : Contains (give n x) y

pub numbered-from : {X Y : Type 0} (give : ℕ → X → List Y) (xs : List X) (y : Y) → Contains (by_number give 1 xs) y → IsNumbered give xs y
numbered-from give xs y there =
    let found = by_number-from give 1 xs y there in
    let number : 1 + found.k ≡ suc found.k = omega arith in
    record { n = suc found.k; x = found.x; x_is = found.x_is; gives = subst (λ m. Contains (give m found.x) y) number found.gives }

-- ---- each once

-- no element stands there again
abbrev pub IsOnce : {A : Type 0} → List A → Type 0
IsOnce [] = Unit {0}
IsOnce (x ∷ xs) = (¬ Contains xs x) × IsOnce xs

get-there : {A : Type 0} (xs : List A) (k : ℕ) (d : A) → k < length xs → Contains xs (get_or xs k d)
get-there [] k d h = absurd (omega arith)
get-there (x ∷ xs) zero d h = Contains-first x xs
get-there (x ∷ xs) (suc k) d h = Contains-later x (get_or xs k d) xs (get-there xs k d (omega arith))

pub once-pairs : {A : Type 0} (xs : List A) → IsOnce xs → AllPairs (λ a b. a ≢ b) xs
once-pairs [] once i j d below within e = absurd (omega arith)
once-pairs (x ∷ xs) once i zero d below within e = absurd (omega arith)
once-pairs (x ∷ xs) once zero (suc j) d below within e = once.0 (subst (Contains xs) (sym e) (get-there xs j d (omega arith)))
once-pairs (x ∷ xs) once (suc i) (suc j) d below within e = once-pairs xs once.1 i j d (omega arith) (omega arith) e

pub once-append : {A : Type 0} (xs ys : List A) → IsOnce xs → IsOnce ys → ((y : A) → Contains xs y → Contains ys y → ⊥) → IsOnce (xs ++ ys)
once-append [] ys one other apart = other
once-append (x ∷ xs) ys one other apart = (
  λ there. elim (Contains-append xs ys x there) [
    | inl here ↦ one.0 here
    | inr behind ↦ apart x (Contains-first x xs) behind
  ],
  once-append xs ys one.1 other (λ y here behind. apart y (Contains-later x y xs here) behind),
)

pub once-map : {A B : Type 0} (f : A → B) (xs : List A) → ((a b : A) → f a ≡ f b → a ≡ b) → IsOnce xs → IsOnce (map f xs)
once-map f [] apart once = tt
once-map f (x ∷ xs) apart once = (
  λ there. let (y, c, same) = Contains-unmap f xs (f x) there in once.0 (subst (Contains xs) (apart y x same) c),
  once-map f xs apart once.1,
)

-- where each element tells by which number it came
pub once-by_number : {X Y : Type 0} (give : ℕ → X → List Y) (tag : Y → ℕ) (n : ℕ) (xs : List X) → ((k : ℕ) (x : X) (y : Y) → Contains (give k x) y → tag y ≡ k) → ((k : ℕ) (x : X) → IsOnce (give k x))
    → IsOnce (by_number give n xs)
once-by_number give tag n [] tells once = tt
once-by_number give tag n (x ∷ xs) tells once =
    once-append (give n x) (by_number give (suc n) xs) (once n x) (once-by_number give tag (suc n) xs tells once)
    (λ y here behind.
    let found = by_number-from give (suc n) xs y behind in
    let one = tells n x y here in
    let other = tells (suc n + found.k) found.x y found.gives in
    omega arith)
