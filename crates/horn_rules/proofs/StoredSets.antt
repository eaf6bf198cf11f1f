-- Homes have one number each, so the predicates that are stored by number are found by home.
use Rattle.std.proofs.Common.{◌≡◌, ◌≢◌, ℕ, zero, suc, ◌+◌, ◌-◌, Bool, true, false, List, [], ◌∷◌, length, map, get_or, Option, Some, None, refl, sym, ap, ap₂, subst, ◌∙◌, arith, inl, inr, ◌⊎◌}
use Rattle.std.specs.List.{slice_get, range_with_len}
use Rattle.std.specs.Prelude.{option_map, IsSome, unwrap_or, ◌==◌, ◌&&◌}
use Rattle.std.proofs.lemmas.Bool.Decides.{leb_tells, eqb_tells}
use Rattle.std.proofs.lemmas.Option.{slice_get-map}
use Rattle.lin_rows.specs.Row.{Row}
use Rattle.predicate_sets.specs.Sets.{set_at}
use Rattle.transition_formula.specs.Program.{Program, Thread, at_number}
use Rattle.horn_rules.specs.Home.{Home, State, Env, by_number, state_homes, env_homes, homes}
use Rattle.thr_base.specs.Held.{PositionsTellWords}
use Rattle.horn_rules.specs.Fact.{Fact, IsSetOf, AreSetsOf}
use Rattle.horn_rules.specs.Laws.{HomesAreDistinct, StoredFactsTellFacts, StoredSetsAreByNumber}
use Rattle.horn_rules.specs.Stored.{home_numbered, same_home, list_at, sets_of, AreStoredSetsOf}
use Rattle.horn_rules.proofs.Places.{slice_get-append_left, slice_get-append_right, range-within, by_number-found}

-- ---- the homes of a kind: each is made of a number

abbrev thread_of : Home → ℕ
thread_of (State i l) = i
thread_of (Env i e) = i

abbrev is_state : Home → Bool
is_state (State i l) = true
is_state (Env i e) = false

made-of : (f : ℕ → Home) (o : Option ℕ) (home : Home) → option_map f o ≡ Some home → (k : ℕ) × (o ≡ Some k) × (f k ≡ home)
made-of f None home e = cc
made-of f (Some k) home e = (k, refl, cc)

-- what is asked of the homes that a thread gives
record GivesOnce (give : ℕ → Thread → List Home) (states : Bool) : Type 0 where
  own : (i : ℕ) (t : Thread) (p : ℕ) (home : Home) → slice_get (give i t) p ≡ Some home → thread_of home ≡ i
  kind : (i : ℕ) (t : Thread) (p : ℕ) (home : Home) → slice_get (give i t) p ≡ Some home → is_state home ≡ states
  once : (i : ℕ) (t : Thread) (p q : ℕ) (home : Home) → slice_get (give i t) p ≡ Some home → slice_get (give i t) q ≡ Some home → p ≡ q

state-at : (i n p : ℕ) (home : Home) → slice_get (map (State i) (range_with_len 0 n)) p ≡ Some home → home ≡ State i p
state-at i n p home e =
    let made = made-of (State i) (slice_get (range_with_len 0 n) p) home (sym (slice_get-map (State i) (range_with_len 0 n) p) ∙ e) in
    let within = range-within 0 n p made.0 made.1 in
    let same : made.0 ≡ p = omega (arith, within.1) in
    sym made.2 ∙ ap (State i) same

env-at : (i n p : ℕ) (home : Home) → slice_get (map (Env i) (range_with_len 1 n)) p ≡ Some home → home ≡ Env i (suc p)
env-at i n p home e =
    let made = made-of (Env i) (slice_get (range_with_len 1 n) p) home (sym (slice_get-map (Env i) (range_with_len 1 n) p) ∙ e) in
    let within = range-within 1 n p made.0 made.1 in
    let same : made.0 ≡ suc p = omega (arith, within.1) in
    sym made.2 ∙ ap (Env i) same

same-state : (i p q : ℕ) (home : Home) → home ≡ State i p → home ≡ State i q → p ≡ q
same-state i p q home a b = let both : State i p ≡ State i q = sym a ∙ b in cc

same-env : (i p q : ℕ) (home : Home) → home ≡ Env i (suc p) → home ≡ Env i (suc q) → p ≡ q
same-env i p q home a b = let both : Env i (suc p) ≡ Env i (suc q) = sym a ∙ b in cc

states-once : GivesOnce state_homes true
states-once = record {
  own = λ i t p home e. ap thread_of (state-at i t.locations p home e);
  kind = λ i t p home e. ap is_state (state-at i t.locations p home e);
  once = λ i t p q home e f. same-state i p q home (state-at i t.locations p home e) (state-at i t.locations q home f);
}

envs-once : GivesOnce env_homes false
envs-once = record {
  own = λ i t p home e. ap thread_of (env-at i (length t.edges) p home e);
  kind = λ i t p home e. ap is_state (env-at i (length t.edges) p home e);
  once = λ i t p q home e f. same-env i p q home (env-at i (length t.edges) p home e) (env-at i (length t.edges) q home f);
}

-- ---- the homes of all threads

inside-and_behind : (give : ℕ → Thread → List Home) (states : Bool) (i p q : ℕ) (t : Thread) (threads : List Thread) (home : Home) → GivesOnce give states
    → slice_get (give i t) p ≡ Some home → slice_get (by_number give (suc i) threads) q ≡ Some home → ⊥
inside-and_behind give states i p q t threads home gives here there =
    let found = by_number-found give (suc i) threads q home there in
    let one = gives.own i t p home here in
    let other = gives.own (suc i + found.k) found.thread found.place home found.home_is in
    omega arith

one-place : (give : ℕ → Thread → List Home) (states : Bool) (i : ℕ) (threads : List Thread) (p q : ℕ) (home : Home) → GivesOnce give states
    → slice_get (by_number give i threads) p ≡ Some home → slice_get (by_number give i threads) q ≡ Some home → p ≡ q
one-place give states i [] p q home gives e f = absurd (nothing-at p home e)
  where
    nothing-at : (p : ℕ) (home : Home) → slice_get [] p ≡ Some home → ⊥
    nothing-at zero home e = cc
    nothing-at (suc p) home e = cc
one-place give states i (t ∷ threads) p q home gives e f =
    let here = give i t in
    let rest = by_number give (suc i) threads in
    elim (leb_tells (length here) p) [
      | inr (miss, inside) ↦ elim (leb_tells (length here) q) [
        | inr (miss_q, inside_q) ↦ gives.once i t p q home (sym (slice_get-append_left here rest p inside) ∙ e) (sym (slice_get-append_left here rest q inside_q) ∙ f)
        | inl (hit_q, behind_q) ↦ absurd (inside-and_behind give states i p (q - length here) t threads home gives (sym (slice_get-append_left here rest p inside) ∙ e) (sym (slice_get-append_right here rest q (q - length here) (omega arith)) ∙ f))
      ]
      | inl (hit, behind) ↦ elim (leb_tells (length here) q) [
        | inr (miss_q, inside_q) ↦ absurd (inside-and_behind give states i q (p - length here) t threads home gives (sym (slice_get-append_left here rest q inside_q) ∙ f) (sym (slice_get-append_right here rest p (p - length here) (omega arith)) ∙ e))
        | inl (hit_q, behind_q) ↦
            let left = one-place give states (suc i) threads (p - length here) (q - length here) home gives (sym (slice_get-append_right here rest p (p - length here) (omega arith)) ∙ e) (sym (slice_get-append_right here rest q (q - length here) (omega arith)) ∙ f) in
            omega arith
      ]
    ]

kind-at : (give : ℕ → Thread → List Home) (states : Bool) (threads : List Thread) (p : ℕ) (home : Home) → GivesOnce give states
    → slice_get (by_number give 1 threads) p ≡ Some home → is_state home ≡ states
kind-at give states threads p home gives e =
    let found = by_number-found give 1 threads p home e in
    gives.kind (1 + found.k) found.thread found.place home found.home_is

-- a home stands among all at one place
pub one-number : (program : Program) (p q : ℕ) (home : Home) → slice_get (homes program) p ≡ Some home → slice_get (homes program) q ≡ Some home → p ≡ q
one-number program p q home e f =
    let states = by_number state_homes 1 program.threads in
    let edges = by_number env_homes 1 program.threads in
    elim (leb_tells (length states) p) [
      | inr (miss, inside) ↦
          let e_in = sym (slice_get-append_left states edges p inside) ∙ e in
          elim (leb_tells (length states) q) [
            | inr (miss_q, inside_q) ↦ one-place state_homes true 1 program.threads p q home states-once e_in (sym (slice_get-append_left states edges q inside_q) ∙ f)
            | inl (hit_q, behind_q) ↦
                let f_in = sym (slice_get-append_right states edges q (q - length states) (omega arith)) ∙ f in
                let wrong : true ≡ false = sym (kind-at state_homes true program.threads p home states-once e_in) ∙ kind-at env_homes false program.threads (q - length states) home envs-once f_in in
                cc
          ]
      | inl (hit, behind) ↦
          let e_in = sym (slice_get-append_right states edges p (p - length states) (omega arith)) ∙ e in
          elim (leb_tells (length states) q) [
            | inr (miss_q, inside_q) ↦
                let f_in = sym (slice_get-append_left states edges q inside_q) ∙ f in
                let wrong : true ≡ false = sym (kind-at state_homes true program.threads q home states-once f_in) ∙ kind-at env_homes false program.threads (p - length states) home envs-once e_in in
                cc
            | inl (hit_q, behind_q) ↦
                let left = one-place env_homes false 1 program.threads (p - length states) (q - length states) home envs-once e_in (sym (slice_get-append_right states edges q (q - length states) (omega arith)) ∙ f) in
                omega arith
          ]
    ]

-- ---- what is stored for a home

both-tell : (a b c d : ℕ) → (((a == b && c == d) ≡ true) × (a ≡ b) × (c ≡ d)) ⊎ (((a == b && c == d) ≡ false) × ((a ≡ b) → (c ≡ d) → ⊥))
both-tell a b c d = elim (eqb_tells a b) [
  | inl (hit, same) ↦ elim (eqb_tells c d) [
    | inl (hit_c, same_c) ↦ inl (rw (hit, hit_c) refl, same, same_c)
    | inr (miss_c, apart) ↦ inr (rw (hit, miss_c) refl, λ e f. apart f)
  ]
  | inr (miss, apart) ↦ inr (rw miss refl, λ e f. apart e)
]

same_home-tells : (one other : Home) → ((same_home one other ≡ true) × (one ≡ other)) ⊎ ((same_home one other ≡ false) × (one ≢ other))
same_home-tells (State i l) (State j m) = elim (both-tell i j l m) [
  | inl (hit, same, also) ↦ inl (hit, cc)
  | inr (miss, apart) ↦ inr (miss, λ e. let a : i ≡ j = cc in let b : l ≡ m = cc in apart a b)
]
same_home-tells (Env i l) (Env j m) = elim (both-tell i j l m) [
  | inl (hit, same, also) ↦ inl (hit, cc)
  | inr (miss, apart) ↦ inr (miss, λ e. let a : i ≡ j = cc in let b : l ≡ m = cc in apart a b)
]
same_home-tells (State i l) (Env j m) = inr (refl, λ e. cc)
same_home-tells (Env i l) (State j m) = inr (refl, λ e. cc)

-- where a home stands once, its list is that at its place
list_at-place : (others : List Home) (lists : List (List Row)) (p : ℕ) (home : Home) → length lists ≡ length others → slice_get others p ≡ Some home
    → ((q : ℕ) → slice_get others q ≡ Some home → q ≡ p) → list_at others lists home ≡ get_or lists p []
list_at-place [] lists zero home e at once = cc
list_at-place [] lists (suc p) home e at once = cc
list_at-place (other ∷ others) [] p home e at once = absurd (omega arith)
list_at-place (other ∷ others) (list ∷ lists) zero home e at once = elim (same_home-tells other home) [
  | inl (hit, same) ↦ rw hit refl
  | inr (miss, apart) ↦ let same : other ≡ home = cc in absurd (apart same)
]
list_at-place (other ∷ others) (list ∷ lists) (suc p) home e at once = elim (same_home-tells other home) [
  | inl (hit, same) ↦ let first : 0 ≡ suc p = once 0 (ap (λ h. Some h) same) in absurd (omega arith)
  | inr (miss, apart) ↦ rw miss (list_at-place others lists p home (omega arith) at (λ q here. let next : suc q ≡ suc p = once (suc q) here in omega arith))
]

pub sets_of-numbered : (program : Program) (lists : List (List Row)) (n : ℕ) (home : Home) → length lists ≡ length (homes program) → at_number (homes program) n ≡ Some home
    → sets_of program lists home ≡ set_at lists n
sets_of-numbered program lists zero home e at = cc
sets_of-numbered program lists (suc p) home e at =
    let place : p ≡ suc p - 1 = omega arith in
    list_at-place (homes program) lists p home e at (λ q here. one-number program q p home here at) ∙ ap (λ k. get_or lists k []) place

-- the list of a home is one that is stored for it, or none
data ListedAt (others : List Home) (lists : List (List Row)) (home : Home) : Type 0 where
  nowhere : list_at others lists home ≡ [] → ListedAt others lists home
  at_place : (p : ℕ) → slice_get others p ≡ Some home → list_at others lists home ≡ get_or lists p [] → ListedAt others lists home

listed-at : (others : List Home) (lists : List (List Row)) (home : Home) → ListedAt others lists home
listed-at [] lists home = nowhere refl
listed-at (other ∷ others) [] home = nowhere refl
listed-at (other ∷ others) (list ∷ lists) home = elim (same_home-tells other home) [
  | inl (hit, same) ↦ at_place 0 (ap (λ h. Some h) same) (rw hit refl)
  | inr (miss, apart) ↦ elim (listed-at others lists home) [
    | nowhere none ↦ nowhere (rw miss none)
    | at_place p here is ↦ at_place (suc p) here (rw miss is)
  ]
]

empty-set : (program : Program) (home : Home) → IsSetOf program home []
empty-set program home = record { are_atoms = tt; none_twice = tt }

pub stored-sets-are : (program : Program) (lists : List (List Row)) → AreStoredSetsOf program lists → AreSetsOf program (sets_of program lists)
stored-sets-are program lists are home = elim (listed-at (homes program) lists home) [
  | nowhere none ↦ subst (IsSetOf program home) (sym none) (empty-set program home)
  | at_place p here is ↦
      let place : suc p - 1 ≡ p = omega arith in
      subst (IsSetOf program home) (ap (λ k. get_or lists k []) place ∙ sym is) (are.sets_are (suc p) home here)
]

-- ---- laws

pub homes-distinct : HomesAreDistinct
homes-distinct program zero m home at there = cc
homes-distinct program (suc p) zero home at there = cc
homes-distinct program (suc p) (suc q) home at there = ap suc (one-number program p q home at there)

pub sets-by-number : StoredSetsAreByNumber
sets-by-number program lists are = record {
  sets_are = stored-sets-are program lists are;
  each = λ n home at. sets_of-numbered program lists n home are.one_each at;
}

known-home : (o : Option Home) → IsSome o → o ≡ Some (unwrap_or o (State 0 0))
known-home None there = cc
known-home (Some home) there = refl

pub facts-tell : PositionsTellWords → StoredFactsTellFacts
facts-tell words program one other small_one small_other has_one has_other same =
    let at_one = known-home (at_number (homes program) one.home.0) has_one in
    let at_other = known-home (at_number (homes program) other.home.0) has_other in
    let home : home_numbered program one.home.0 ≡ home_numbered program other.home.0 = ap (λ (f : Fact). f.home) same in
    let number : one.home.0 ≡ other.home.0 = homes-distinct program one.home.0 other.home.0 (home_numbered program other.home.0) (at_one ∙ ap (λ h. Some h) home) at_other in
    let held : one.held ≡ other.held = words one.held other.held small_one small_other (ap (λ (f : Fact). f.held) same) in
    ap₂ (λ n (word : ℕ). record { home = record { 0 = n }; held = word }) number held
