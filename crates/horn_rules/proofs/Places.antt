-- Places in the lists of homes.
use Rattle.std.proofs.Common.{◌≡◌, ℕ, zero, suc, ◌+◌, ◌-◌, ◌<◌, List, [], ◌∷◌, ◌++◌, length, take, drop, Some, refl, sym, ap, ◌∙◌, arith, inl, inr, length-append}
use Rattle.std.specs.List.{slice_get, range_with_len}
use Rattle.std.proofs.lemmas.Bool.Decides.{leb_tells}
use Rattle.transition_formula.specs.Program.{at_number}
use Rattle.transition_formula.proofs.Lookups.{drop-slice_get}
use Rattle.horn_rules.specs.Home.{by_number}

-- ---- two lists, one after the other

pub slice_get-append_left : {A : Type 0} (xs ys : List A) (p : ℕ) → p < length xs → slice_get (xs ++ ys) p ≡ slice_get xs p
slice_get-append_left [] ys p h = absurd (omega arith)
slice_get-append_left (x ∷ xs) ys zero h = refl
slice_get-append_left (x ∷ xs) ys (suc p) h = slice_get-append_left xs ys p (omega arith)

pub slice_get-append_right : {A : Type 0} (xs ys : List A) (p q : ℕ) → p ≡ length xs + q → slice_get (xs ++ ys) p ≡ slice_get ys q
slice_get-append_right [] ys p q e = let same : p ≡ q = omega arith in ap (slice_get ys) same
slice_get-append_right (x ∷ xs) ys zero q e = absurd (omega arith)
slice_get-append_right (x ∷ xs) ys (suc p) q e = slice_get-append_right xs ys p q (omega arith)

-- ---- elements by place, and by number

pub numbered-next : {A : Type 0} (xs : List A) (k n : ℕ) → n ≡ suc k → at_number xs n ≡ slice_get xs k
numbered-next xs k n e = ap (at_number xs) e

pub range-at : (a n p b : ℕ) → p < n → b ≡ a + p → slice_get (range_with_len a n) p ≡ Some b
range-at a zero p b h e = absurd (omega arith)
range-at a (suc n) zero b h e = let same : a ≡ b = omega arith in ap Some same
range-at a (suc n) (suc p) b h e = range-at (a + 1) n p b (omega arith) (omega arith)

pub range-within : (a n p b : ℕ) → slice_get (range_with_len a n) p ≡ Some b → (p < n) × (b ≡ a + p)
range-within a zero zero b e = cc
range-within a zero (suc p) b e = cc
range-within a (suc n) zero b e = let same : a ≡ b = cc in (omega arith, omega arith)
range-within a (suc n) (suc p) b e = let rest = range-within (a + 1) n p b e in (omega (arith, rest.0), omega (arith, rest.1))

-- ---- thread by thread; the first of the threads has number i

-- one more thread takes so many places more
pub length-by_number_more : {X Y : Type 0} (give : ℕ → X → List Y) (i k : ℕ) (threads : List X) (thread : X) (j : ℕ)
    → slice_get threads k ≡ Some thread → j ≡ i + k
    → length (by_number give i (take (suc k) threads)) ≡ length (by_number give i (take k threads)) + length (give j thread)
length-by_number_more give i k [] thread j at e = cc
length-by_number_more give i zero (t ∷ threads) thread j at e =
    let same : t ≡ thread = cc in
    let number : i ≡ j = omega arith in
    let one : length (give i t) ≡ length (give j thread) = cc in
    let all : length (give i t ++ []) ≡ 0 + length (give j thread) = omega (arith, one, length-append (give i t) []) in
    all
length-by_number_more give i (suc k) (t ∷ threads) thread j at e =
    let more = length-by_number_more give (suc i) k threads thread j at (omega arith) in
    omega (
      arith,
      length-append (give i t) (by_number give (suc i) (take (suc k) threads)),
      length-append (give i t) (by_number give (suc i) (take k threads)),
      more,
    )

-- a place of a thread, behind those of the threads before it
pub by_number-at : {X Y : Type 0} (give : ℕ → X → List Y) (i k : ℕ) (threads : List X) (thread : X) (j p place : ℕ)
    → slice_get threads k ≡ Some thread → j ≡ i + k → place < length (give j thread)
    → p ≡ length (by_number give i (take k threads)) + place
    → slice_get (by_number give i threads) p ≡ slice_get (give j thread) place
by_number-at give i k [] thread j p place at e within here = cc
by_number-at give i zero (t ∷ threads) thread j p place at e within here =
    let same : t ≡ thread = cc in
    let number : i ≡ j = omega arith in
    let first : p ≡ place = omega arith in
    let one : give i t ≡ give j thread = cc in
    let inside : p < length (give i t) = omega (arith, ap length one) in
    slice_get-append_left (give i t) (by_number give (suc i) threads) p inside ∙ cc
by_number-at give i (suc k) (t ∷ threads) thread j p place at e within here =
    let rest = length (by_number give (suc i) (take k threads)) + place in
    let sizes = length-append (give i t) (by_number give (suc i) (take k threads)) in
    slice_get-append_right (give i t) (by_number give (suc i) threads) p rest (omega (arith, sizes))
    ∙ by_number-at give (suc i) k threads thread j rest place at (omega arith) within refl

-- from thread k on: a place of thread k itself
pub by_number-here : {X Y : Type 0} (give : ℕ → X → List Y) (i k : ℕ) (threads : List X) (thread : X) (p : ℕ)
    → slice_get threads k ≡ Some thread → p < length (give i thread)
    → slice_get (by_number give i (drop k threads)) p ≡ slice_get (give i thread) p
by_number-here give i k threads thread p at h =
    ap (λ rest. slice_get (by_number give i rest) p) (drop-slice_get threads k thread at)
    ∙ slice_get-append_left (give i thread) (by_number give (suc i) (drop (suc k) threads)) p h

-- from thread k on: a place of a later thread
pub by_number-later : {X Y : Type 0} (give : ℕ → X → List Y) (i k m n : ℕ) (threads : List X) (thread : X) (p rest : ℕ)
    → slice_get threads k ≡ Some thread → p ≡ length (give i thread) + rest → m ≡ suc i → n ≡ suc k
    → slice_get (by_number give i (drop k threads)) p ≡ slice_get (by_number give m (drop n threads)) rest
by_number-later give i k m n threads thread p rest at e next after =
    ap (λ ts. slice_get (by_number give i ts) p) (drop-slice_get threads k thread at)
    ∙ slice_get-append_right (give i thread) (by_number give (suc i) (drop (suc k) threads)) p rest e
    ∙ ap (λ j. slice_get (by_number give j (drop (suc k) threads)) rest) (sym next)
    ∙ ap (λ j. slice_get (by_number give m (drop j threads)) rest) (sym after)

-- an element's thread, and its place there
pub record FoundAt {X Y : Type 0} (give : ℕ → X → List Y) (i : ℕ) (threads : List X) (home : Y) : Type 0 where
  pub k : ℕ
  pub thread : X
  pub thread_is : slice_get threads k ≡ Some thread
  pub place : ℕ
  pub home_is : slice_get (give (i + k) thread) place ≡ Some home

found-later : {X Y : Type 0} (give : ℕ → X → List Y) (i : ℕ) (t : X) (threads : List X) (home : Y)
    → FoundAt give (suc i) threads home → FoundAt give i (t ∷ threads) home
found-later give i t threads home found =
    let number : i + suc found.k ≡ suc i + found.k = omega arith in
    record {
      k = suc found.k;
      thread = found.thread;
      thread_is = found.thread_is;
      place = found.place;
      home_is = ap (λ n. slice_get (give n found.thread) found.place) number ∙ found.home_is;
    }

pub by_number-found : {X Y : Type 0} (give : ℕ → X → List Y) (i : ℕ) (threads : List X) (p : ℕ) (home : Y)
    → slice_get (by_number give i threads) p ≡ Some home → FoundAt give i threads home
by_number-found give i [] zero home e = cc
by_number-found give i [] (suc p) home e = cc
by_number-found give i (t ∷ threads) p home e = elim (leb_tells (length (give i t)) p) [
  | inr (miss, inside) ↦
      let first : slice_get (give i t) p ≡ Some home = sym (slice_get-append_left (give i t) (by_number give (suc i) threads) p inside) ∙ e in
      let number : i + 0 ≡ i = omega arith in
      record { k = 0; thread = t; thread_is = refl; place = p; home_is = ap (λ n. slice_get (give n t) p) number ∙ first }
  | inl (hit, behind) ↦
      let rest = p - length (give i t) in
      let there : p ≡ length (give i t) + rest = omega arith in
      let later = sym (slice_get-append_right (give i t) (by_number give (suc i) threads) p rest there) ∙ e in
      found-later give i t threads home (by_number-found give (suc i) threads rest home later)
]
