-- The state after a step, column by column.
use Rattle.std.proofs.Common.{◌≡◌, inl, inr, ℕ, zero, suc, ◌+◌, ◌<◌, ◌≤◌, ℤ, pos, List, [], ◌∷◌, map, length, get_or, set, Bool, true, false, cond, filter, refl, sym, ◌∙◌, ap, subst, arith}
use Rattle.std.specs.Prelude.{◌==◌, ◌||◌, nat_eq}
use Rattle.std.specs.List.{AllByRecursion, list_any, IsDistinct, range_with_len}
use Rattle.std.proofs.lemmas.List.{length-set, get_or-set_same, get_or-set_other}
use Rattle.std.proofs.lemmas.Bool.Decides.{eqb_tells}
use Rattle.std.proofs.lemmas.Bool.{eq-eqb}
use Rattle.transition_formula.specs.Program.{Form}
use Rattle.transition_formula.specs.Step.{value_of, after_sets}

-- the number that column c has after the sets
abbrev pub next_value : List (ℕ × Form) → List ℤ → List ℤ → ℕ → ℤ
next_value [] w state c = get_or state c (pos 0)
next_value ((d, form) ∷ sets) w state c = cond (d == c) (value_of form w) (next_value sets w state c)

-- one of the sets is of column c
abbrev pub is_set : List (ℕ × Form) → ℕ → Bool
is_set sets c = list_any (λ set. set.0 == c) sets

-- What is at a place where one is written: the new value there, and else what was there.
pub get_or-set : (xs : List ℤ) (d c : ℕ) (v : ℤ) → c < length xs → get_or (set xs d v) c (pos 0) ≡ cond (d == c) v (get_or xs c (pos 0))
get_or-set xs d c v h = elim (eqb_tells d c) [
  | inl (hit, same) ↦ rw hit (subst (λ (k : ℕ). get_or (set xs k v) c (pos 0) ≡ v) (sym same) (get_or-set_same xs c v (pos 0) h))
  | inr (miss, other) ↦ rw miss (get_or-set_other xs d c v (pos 0) (λ e. other (sym e)))
]

-- A state keeps its length under sets.
pub length-assigned : (sets : List (ℕ × Form)) (w state : List ℤ) → length (after_sets sets w state) ≡ length state
length-assigned [] w state = refl
length-assigned ((d, form) ∷ sets) w state = length-set (after_sets sets w state) d (value_of form w) ∙ length-assigned sets w state

-- The value of a column after sets is its next one.
pub get_or-assigned : (sets : List (ℕ × Form)) (w state : List ℤ) (c : ℕ) → c < length state → get_or (after_sets sets w state) c (pos 0) ≡ next_value sets w state c
get_or-assigned [] w state c h = refl
get_or-assigned ((d, form) ∷ sets) w state c h =
    get_or-set (after_sets sets w state) d c (value_of form w) (omega (arith, length-assigned sets w state))
    ∙ ap (λ v. cond (d == c) (value_of form w) v) (get_or-assigned sets w state c h)

-- each set column has its form's value
abbrev pub AreSet : List (ℕ × Form) → List ℤ → List ℤ → Type 0
AreSet sets w after = AllByRecursion (λ set. get_or after set.0 (pos 0) ≡ value_of set.1 w) sets

-- A column that is set, or keeps its value, has its next value.
pub next_value-from : (sets : List (ℕ × Form)) (w before after : List ℤ) (c : ℕ) → AreSet sets w after → (is_set sets c ≡ false → get_or after c (pos 0) ≡ get_or before c (pos 0))
    → get_or after c (pos 0) ≡ next_value sets w before c
next_value-from [] w before after c all kept = kept refl
next_value-from ((d, form) ∷ sets) w before after c all kept = elim (eqb_tells d c) [
  | inl (hit, same) ↦ rw hit (subst (λ (k : ℕ). get_or after k (pos 0) ≡ value_of form w) same all.0)
  | inr (miss, other) ↦ rw miss (next_value-from sets w before after c all.1 (λ none. kept (ap (λ b. b || is_set sets c) miss ∙ none)))
]

-- a column that no set has keeps its number
pub next_value-kept : (sets : List (ℕ × Form)) (w state : List ℤ) (c : ℕ) → is_set sets c ≡ false → next_value sets w state c ≡ get_or state c (pos 0)
next_value-kept [] w state c none = refl
next_value-kept ((d, form) ∷ sets) w state c none = elim (eqb_tells d c) [
  | inl (hit, same) ↦ let wrong : true ≡ false = sym (ap (λ b. b || is_set sets c) hit) ∙ none in cc
  | inr (miss, other) ↦ rw miss (next_value-kept sets w state c (sym (ap (λ b. b || is_set sets c) miss) ∙ none))
]

-- a column that is set is none that is not among them
differs : (d c : ℕ) (sets : List (ℕ × Form)) → AllByRecursion (λ y. nat_eq d y ≡ false) (map (λ set. set.0) sets) → is_set sets c ≡ true → (d == c) ≡ false
differs d c [] apart found = cc
differs d c ((e, form) ∷ sets) apart found = elim (eqb_tells e c) [
  | inl (hit, same) ↦ subst (λ (k : ℕ). (d == k) ≡ false) same apart.0
  | inr (miss, other) ↦ differs d c sets apart.1 (sym (ap (λ b. b || is_set sets c) miss) ∙ found)
]

-- Sets of different columns are done where each such column has its next value.
pub AreSet-from : (sets : List (ℕ × Form)) (w before after : List ℤ) → IsDistinct nat_eq (map (λ set. set.0) sets)
    → ((c : ℕ) → is_set sets c ≡ true → get_or after c (pos 0) ≡ next_value sets w before c) → AreSet sets w after
unfolding IsDistinct
AreSet-from [] w before after apart values = tt
AreSet-from ((d, form) ∷ sets) w before after apart values =
    let same : (d == d) ≡ true = eq-eqb d d refl in (
      values d (ap (λ b. b || is_set sets d) same) ∙ ap (λ b. cond b (value_of form w) (next_value sets w before d)) same,
      AreSet-from sets w before after apart.1 (λ c found.
          let other = differs d c sets apart.0 found in
          values c (ap (λ b. b || is_set sets c) other ∙ found) ∙ ap (λ b. cond b (value_of form w) (next_value sets w before c)) other),
    )

-- ---- what holds of the numbers of a range that pass a test
-- What holds of a list with an element perhaps in front holds of the element, where it is there, and of the rest.
split-to : (P : ℕ → Type 0) (b : Bool) (x : ℕ) (xs : List ℕ) → AllByRecursion P (cond b (x ∷ xs) xs) → (b ≡ true → P x) × AllByRecursion P xs
split-to P true x xs all = (λ e. all.0, all.1)
split-to P false x xs all = (λ e. cc, all)

-- What holds of the element, where it is there, and of the rest holds of the list.
split-from : (P : ℕ → Type 0) (b : Bool) (x : ℕ) (xs : List ℕ) → (b ≡ true → P x) → AllByRecursion P xs → AllByRecursion P (cond b (x ∷ xs) xs)
split-from P true x xs here all = (here refl, all)
split-from P false x xs here all = all

-- What holds of all numbers of a range that pass a test holds of each that does.
pub range-to : (P : ℕ → Type 0) (p : ℕ → Bool) (a n c : ℕ) → AllByRecursion P (filter p (range_with_len a n)) → a ≤ c → c < a + n → p c ≡ true → P c
range-to P p a zero c all low high pass = absurd (omega arith)
range-to P p a (suc n) c all low high pass =
    let here = split-to P (p a) a (filter p (range_with_len (a + 1) n)) all in
    elim (eqb_tells c a) [
      | inl (hit, same) ↦ subst P (sym same) (here.0 (subst (λ (k : ℕ). p k ≡ true) same pass))
      | inr (miss, other) ↦ range-to P p (a + 1) n c here.1 (omega arith) (omega arith) pass
    ]

-- What holds of each number of a range that passes a test holds of all that do.
pub range-from : (P : ℕ → Type 0) (p : ℕ → Bool) (a n : ℕ) → ((c : ℕ) → a ≤ c → c < a + n → p c ≡ true → P c) → AllByRecursion P (filter p (range_with_len a n))
range-from P p a zero each = tt
range-from P p a (suc n) each =
    split-from P (p a) a (filter p (range_with_len (a + 1) n)) (λ pass. each a (omega arith) (omega arith) pass)
    (range-from P p (a + 1) n (λ c low high pass. each c (omega arith) (omega arith) pass))
