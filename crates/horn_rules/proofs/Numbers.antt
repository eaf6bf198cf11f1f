-- The numbers of homes.
use Rattle.std.proofs.Common.{◌≡◌, ℕ, zero, suc, ◌+◌, ◌-◌, ◌<◌, ◌≤◌, List, [], ◌∷◌, length, map, Option, Some, None, refl, sym, ap, ◌∙◌, arith, inl, inr}
use Rattle.std.specs.List.{slice_get, range_with_len}
use Rattle.std.specs.Prelude.{option_map, IsSome}
use Rattle.std.proofs.lemmas.Bool.Decides.{leb_tells}
use Rattle.std.proofs.lemmas.Option.{slice_get-map, slice_get-get_or, slice_get_within, get_or_from_slice_get}
use Rattle.std.proofs.lemmas.List.{length-map}
use Rattle.std.proofs.lemmas.List.FromFn.{length-map-range_with_len}
use Rattle.transition_formula.specs.Program.{Program, Thread, IsThreadOf, IsProgram, at_number}
use Rattle.transition_formula.specs.Stored.{edge_of}
use Rattle.transition_formula.specs.declared.graph.Edge.{Edge as StoredEdge}
use Rattle.horn_rules.specs.declared.homes.Kind.{Kind}
use Rattle.horn_rules.specs.declared.homes.Kind.TheVariants.{Location, Edge}
use Rattle.horn_rules.specs.Home.{Home, State, Env, by_number, state_homes, env_homes, homes, IsHomeOf}
use Rattle.horn_rules.specs.inside.Kinds.{homes_in, home_in, HasPlace}
use Rattle.horn_rules.proofs.Places.{slice_get-append_left, slice_get-append_right, range-at, range-within, numbered-next, FoundAt, by_number-found}

-- ---- the homes of one thread

pub count-locations : (program : Program) (i r : ℕ) (found : Thread) → option_map (λ thread. thread.locations) (at_number program.threads i) ≡ Some r → IsThreadOf program i found
    → r ≡ length (homes_in Location i found)
count-locations program i r found e at =
    let here : Some found.locations ≡ Some r = sym (ap (option_map (λ thread. thread.locations)) at) ∙ e in
    let same : r ≡ found.locations = cc in
    same ∙ sym (length-map-range_with_len (State i) 0 found.locations)

pub edges-counted : (program : Program) (i : ℕ) (edges : List StoredEdge) (found : Thread) → option_map (λ thread. thread.edges) (at_number program.threads i) ≡ Some (map edge_of edges)
    → IsThreadOf program i found → length edges ≡ length (homes_in Edge i found)
edges-counted program i edges found e at =
    let here : Some found.edges ≡ Some (map edge_of edges) = sym (ap (option_map (λ thread. thread.edges)) at) ∙ e in
    let same : found.edges ≡ map edge_of edges = cc in
    sym (length-map edges edge_of) ∙ sym (ap length same) ∙ sym (length-map-range_with_len (Env i) 1 (length found.edges))

few-here : (program : Program) (i r : ℕ) (found : Option Thread) → at_number program.threads i ≡ found → IsProgram program → option_map (λ thread. thread.locations) found ≡ Some r → r ≤ 65536
few-here program i r None at is e = cc
few-here program i r (Some found) at is e = let same : found.locations ≡ r = cc in omega (arith, (is.threads_are i found at).few_locations)

pub few-locations : (program : Program) (i r : ℕ) → IsProgram program → option_map (λ thread. thread.locations) (at_number program.threads i) ≡ Some r → r ≤ 65536
few-locations program i r is e = few-here program i r (at_number program.threads i) refl is e

pub few-homes_in : (program : Program) (kind : Kind) (i : ℕ) (thread : Thread) → IsProgram program → IsThreadOf program i thread → length (homes_in kind i thread) ≤ 65536
few-homes_in program Location i thread is at = omega (arith, length-map-range_with_len (State i) 0 thread.locations, (is.threads_are i thread at).few_locations)
few-homes_in program Edge i thread is at = omega (arith, length-map-range_with_len (Env i) 1 (length thread.edges), (is.threads_are i thread at).few_edges)

pub home-at : (kind : Kind) (i : ℕ) (thread : Thread) (place : ℕ) → place < length (homes_in kind i thread) → slice_get (homes_in kind i thread) place ≡ Some (home_in kind i place)
home-at Location i thread place h =
    slice_get-map (State i) (range_with_len 0 thread.locations) place
    ∙ ap (option_map (State i)) (range-at 0 thread.locations place place (omega (arith, length-map-range_with_len (State i) 0 thread.locations)) (omega arith))
home-at Edge i thread place h =
    slice_get-map (Env i) (range_with_len 1 (length thread.edges)) place
    ∙ ap (option_map (Env i)) (range-at 1 (length thread.edges) place (suc place) (omega (arith, length-map-range_with_len (Env i) 1 (length thread.edges))) (omega arith))

-- ---- all homes: those at locations, and behind them those at edges

pub numbered-homes_left : (program : Program) (n place : ℕ) → n ≡ suc place → place < length (by_number state_homes 1 program.threads)
    → at_number (homes program) n ≡ slice_get (by_number state_homes 1 program.threads) place
numbered-homes_left program n place e h =
    numbered-next (homes program) place n e
    ∙ slice_get-append_left (by_number state_homes 1 program.threads) (by_number env_homes 1 program.threads) place h

pub numbered-homes_right : (program : Program) (n place : ℕ) → n ≡ suc (length (by_number state_homes 1 program.threads) + place)
    → at_number (homes program) n ≡ slice_get (by_number env_homes 1 program.threads) place
numbered-homes_right program n place e =
    let before = length (by_number state_homes 1 program.threads) in
    numbered-next (homes program) (before + place) n e
    ∙ slice_get-append_right (by_number state_homes 1 program.threads) (by_number env_homes 1 program.threads) (before + place) place refl

-- ---- the thread and the place of a home

state-inside : (j i l n : ℕ) (o : Option ℕ) → option_map (State j) o ≡ Some (State i l) → (j ≡ i) × (o ≡ Some l)
state-inside j i l n None e = cc
state-inside j i l n (Some k) e = (cc, cc)

env-inside : (j i l n : ℕ) (o : Option ℕ) → option_map (Env j) o ≡ Some (Env i l) → (j ≡ i) × (o ≡ Some l)
env-inside j i l n None e = cc
env-inside j i l n (Some k) e = (cc, cc)

no-state : (j i l : ℕ) (o : Option ℕ) → option_map (Env j) o ≡ Some (State i l) → ⊥
no-state j i l None e = cc
no-state j i l (Some k) e = cc

no-env : (j i l : ℕ) (o : Option ℕ) → option_map (State j) o ≡ Some (Env i l) → ⊥
no-env j i l None e = cc
no-env j i l (Some k) e = cc

state-place : (program : Program) (i l : ℕ) → FoundAt state_homes 1 program.threads (State i l) → HasPlace program Location i l
state-place program i l found =
    let n = found.thread.locations in
    let inside = state-inside (1 + found.k) i l n _ (sym (slice_get-map (State (1 + found.k)) (range_with_len 0 n) found.place) ∙ found.home_is) in
    let within = range-within 0 n found.place l inside.1 in
    record {
      thread = found.thread;
      thread_is = numbered-next program.threads found.k i (omega (arith, inside.0)) ∙ found.thread_is;
      within = omega (arith, within.0, within.1, length-map-range_with_len (State i) 0 n);
    }

env-place : (program : Program) (i e : ℕ) → FoundAt env_homes 1 program.threads (Env i e) → (0 < e) × HasPlace program Edge i (e - 1)
env-place program i e found =
    let n = length found.thread.edges in
    let inside = env-inside (1 + found.k) i e n _ (sym (slice_get-map (Env (1 + found.k)) (range_with_len 1 n) found.place) ∙ found.home_is) in
    let within = range-within 1 n found.place e inside.1 in (
      omega (arith, within.1),
      record {
        thread = found.thread;
        thread_is = numbered-next program.threads found.k i (omega (arith, inside.0)) ∙ found.thread_is;
        within = omega (arith, within.0, within.1, length-map-range_with_len (Env i) 1 n);
      },
    )

-- a home among all is found among those of one kind
data FoundIn (program : Program) (home : Home) : Type 0 where
  among_states : FoundAt state_homes 1 program.threads home → FoundIn program home
  among_edges : FoundAt env_homes 1 program.threads home → FoundIn program home

found-in : (program : Program) (home : Home) (p : ℕ) → slice_get (homes program) p ≡ Some home → FoundIn program home
found-in program home p e =
    let states = by_number state_homes 1 program.threads in
    let edges = by_number env_homes 1 program.threads in
    elim (leb_tells (length states) p) [
      | inr (miss, inside) ↦ among_states (by_number-found state_homes 1 program.threads p home (sym (slice_get-append_left states edges p inside) ∙ e))
      | inl (hit, behind) ↦
          let rest = p - length states in
          let there : p ≡ length states + rest = omega arith in
          among_edges (by_number-found env_homes 1 program.threads rest home (sym (slice_get-append_right states edges p rest there) ∙ e))
    ]

found : (program : Program) (home : Home) → IsHomeOf program home → FoundIn program home
found program home (p, h, e) = found-in program home p (slice_get-get_or (homes program) p home h ∙ ap Some e)

pub state_home-place : (program : Program) (i l : ℕ) → IsHomeOf program (State i l) → HasPlace program Location i l
state_home-place program i l is = elim (found program (State i l) is) [
  | among_states at ↦ state-place program i l at
  | among_edges at ↦ absurd (no-state (1 + at.k) i l _ (sym (slice_get-map (Env (1 + at.k)) (range_with_len 1 (length at.thread.edges)) at.place) ∙ at.home_is))
]

pub env_home-place : (program : Program) (i e : ℕ) → IsHomeOf program (Env i e) → (0 < e) × HasPlace program Edge i (e - 1)
env_home-place program i e is = elim (found program (Env i e) is) [
  | among_states at ↦ absurd (no-env (1 + at.k) i e _ (sym (slice_get-map (State (1 + at.k)) (range_with_len 0 at.thread.locations) at.place) ∙ at.home_is))
  | among_edges at ↦ env-place program i e at
]

-- ---- any number up to the length names something

there : {A : Type 0} (xs : List A) (k : ℕ) → k < length xs → IsSome (at_number xs (suc k))
there [] k h = absurd (omega arith)
there (x ∷ xs) zero h = refl
there (x ∷ xs) (suc k) h = there xs k (omega arith)

pub numbered-there : {A : Type 0} (xs : List A) (n : ℕ) → 0 < n → n ≤ length xs → IsSome (at_number xs n)
numbered-there xs zero h k = absurd (omega arith)
numbered-there xs (suc n) h k = there xs n (omega arith)

pub home-numbered : (program : Program) (n : ℕ) (home : Home) → at_number (homes program) n ≡ Some home → IsHomeOf program home
home-numbered program zero home e = cc
home-numbered program (suc k) home e = (k, slice_get_within (homes program) k home e, get_or_from_slice_get (homes program) k home home e)
