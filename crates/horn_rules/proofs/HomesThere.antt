-- Which homes a program has.
use Rattle.std.proofs.Common.{◌≡◌, ℕ, zero, suc, ◌+◌, ◌-◌, ◌<◌, ◌≤◌, List, length, map, take, Option, Some, None, refl, sym, ap, subst, ◌∙◌, arith}
use Rattle.std.specs.Prelude.{option_map}
use Rattle.std.specs.Option.{IsSome}
use Rattle.std.specs.List.{slice_get, Contains, range_with_len}
use Rattle.std.proofs.lemmas.Option.{slice_get_within, slice_get-map, get_or_from_slice_get}
use Rattle.std.proofs.lemmas.List.{length-map}
use Rattle.std.proofs.lemmas.List.FromFn.{length-map-range_with_len}
use Rattle.lin_rows.proofs.Lists.{slice_get-there}
use Rattle.transition_formula.specs.Program.{Program, Thread, Edge, IsThreadOf, IsEdgeOf, at_number}
use Rattle.transition_formula.specs.Stored.{edge_of}
use Rattle.transition_formula.specs.declared.graph.Edge.{Edge as StoredEdge}
use Rattle.horn_rules.specs.Home.{Home, State, Env, by_number, state_homes, env_homes, homes, IsHomeOf, IsLocationOf}
use Rattle.horn_rules.specs.inside.Kinds.{HasPlace}
use Rattle.horn_rules.specs.declared.homes.Kind.TheVariants.{Location}
use Rattle.horn_rules.proofs.Places.{slice_get-append_left, slice_get-append_right, range-at, by_number-at}
use Rattle.horn_rules.proofs.Numbers.{state_home-place, env_home-place}

contains : {A : Type 0} (xs : List A) (p : ℕ) (x : A) → slice_get xs p ≡ Some x → Contains xs x
contains xs p x e = (p, slice_get_within xs p x e, get_or_from_slice_get xs p x x e)

-- ---- the two kinds of homes

thread_no : Home → ℕ
thread_no (State i l) = i
thread_no (Env i e) = i

-- What is known of the homes of one kind: where each stands, whose it is, and that its place is its own.
record IsKind (give : ℕ → Thread → List Home) (home_in : ℕ → ℕ → Home) : Type 0 where
  at : (i : ℕ) (thread : Thread) (place : ℕ) → place < length (give i thread) → slice_get (give i thread) place ≡ Some (home_in i place)
  thread_is : (i place : ℕ) → thread_no (home_in i place) ≡ i
  unique : (i j k : ℕ) → home_in i j ≡ home_in i k → j ≡ k

-- the first edge has number 1
edge_at : ℕ → ℕ → Home
edge_at i place = Env i (suc place)

state_kind : IsKind state_homes State
unfolding thread_no
state_kind = record {
  at = λ i thread place h. slice_get-map (State i) (range_with_len 0 thread.locations) place
      ∙ ap (option_map (State i)) (range-at 0 thread.locations place place (omega (arith, length-map-range_with_len (State i) 0 thread.locations)) (omega arith));
  thread_is = λ i place. refl;
  unique = λ i j k e. cc;
}

env_kind : IsKind env_homes edge_at
unfolding thread_no edge_at
env_kind = record {
  at = λ i thread place h. slice_get-map (Env i) (range_with_len 1 (length thread.edges)) place
      ∙ ap (option_map (Env i)) (range-at 1 (length thread.edges) place (suc place) (omega (arith, length-map-range_with_len (Env i) 1 (length thread.edges))) (omega arith));
  thread_is = λ i place. refl;
  unique = λ i j k e. (let next : suc j ≡ suc k = cc in omega arith);
}

-- ---- the homes that there are

home-from_thread : (give : ℕ → Thread → List Home) (home_in : ℕ → ℕ → Home) → IsKind give home_in → (threads : List Thread) (k place : ℕ) (thread : Thread) → slice_get threads k ≡ Some thread
    → place < length (give (suc k) thread) → (p : ℕ) × (slice_get (by_number give 1 threads) p ≡ Some (home_in (suc k) place))
home-from_thread give home_in is threads k place thread at within = (
  length (by_number give 1 (take k threads)) + place,
  by_number-at give 1 k threads thread (suc k) _ place at (omega arith) within refl ∙ is.at (suc k) thread place within,
)

state-from_place : (program : Program) (i place : ℕ) (thread : Thread) → IsThreadOf program i thread → place < length (state_homes i thread) → IsHomeOf program (State i place)
state-from_place program zero place thread at within = cc
state-from_place program (suc k) place thread at within =
    let there = home-from_thread state_homes State state_kind program.threads k place thread at within in
    contains (homes program) there.0 (State (suc k) place)
    (slice_get-append_left (by_number state_homes 1 program.threads) (by_number env_homes 1 program.threads) there.0 (slice_get_within _ there.0 _ there.1) ∙ there.1)

env-from_place : (program : Program) (i place : ℕ) (thread : Thread) → IsThreadOf program i thread → place < length (env_homes i thread) → IsHomeOf program (Env i (suc place))
unfolding edge_at
env-from_place program zero place thread at within = cc
env-from_place program (suc k) place thread at within =
    let there = home-from_thread env_homes edge_at env_kind program.threads k place thread at within in
    let states = by_number state_homes 1 program.threads in
    contains (homes program) (length states + there.0) (Env (suc k) (suc place))
    (slice_get-append_right states (by_number env_homes 1 program.threads) (length states + there.0) there.0 refl ∙ there.1)

-- a location of a thread is a home
pub location-home : (program : Program) (k l : ℕ) (thread : Thread) → IsLocationOf program k l thread → IsHomeOf program (State k l)
location-home program k l thread is =
    state-from_place program k l thread is.thread_is (omega (arith, is.within, length-map-range_with_len (State k) 0 thread.locations))

-- so is an edge
pub edge-home : (program : Program) (i e : ℕ) (thread : Thread) (edge : Edge) → IsEdgeOf program i e thread edge → IsHomeOf program (Env i e)
edge-home program i zero thread edge is = let at = is.edge_is in cc
edge-home program i (suc p) thread edge is =
    env-from_place program i p thread is.thread_is (omega (arith, slice_get_within thread.edges p edge is.edge_is, length-map-range_with_len (Env i) 1 (length thread.edges)))

-- and a home at an edge has its edge
edge-numbered : (program : Program) (i e p : ℕ) (thread : Thread) → e ≡ suc p → IsThreadOf program i thread → p < length thread.edges → (edge : Edge) × IsEdgeOf program i e thread edge
edge-numbered program i e p thread next at within =
    let (edge, there) = slice_get-there thread.edges p within in
    (edge, record { thread_is = at; edge_is = ap (at_number thread.edges) next ∙ there })

pub home-edge : (program : Program) (i e : ℕ) → IsHomeOf program (Env i e) → (thread : Thread) × (edge : Edge) × IsEdgeOf program i e thread edge
home-edge program i e is =
    let there = env_home-place program i e is in
    let place = there.1 in
    let next : e ≡ suc (e - 1) = omega (arith, there.0) in
    let (edge, at) = edge-numbered program i e (e - 1) place.thread next place.thread_is (omega (arith, place.within, length-map-range_with_len (Env i) 1 (length place.thread.edges))) in
    (place.thread, edge, at)

-- a place among a thread's locations is one of them
pub place-location : (program : Program) (k l : ℕ) (place : HasPlace program Location k l) → IsLocationOf program k l place.thread
place-location program k l place = record {
  thread_is = place.thread_is;
  within = omega (arith, place.within, length-map-range_with_len (State k) 0 place.thread.locations);
}

-- what a thread has, where the thread is known
pub location-there : (program : Program) (i l n : ℕ) (thread : Option Thread) → at_number program.threads i ≡ thread → option_map (λ thread. thread.locations) thread ≡ Some n → l < n → IsHomeOf program (State i l)
location-there program i l n None at e h = cc
location-there program i l n (Some thread) at e h =
    let same : thread.locations ≡ n = cc in
    state-from_place program i l thread at (omega (arith, length-map-range_with_len (State i) 0 thread.locations))

pub location-within : (program : Program) (i l n : ℕ) → option_map (λ thread. thread.locations) (at_number program.threads i) ≡ Some n → IsHomeOf program (State i l) → l < n
location-within program i l n e is =
    let place = state_home-place program i l is in
    let same : Some place.thread.locations ≡ Some n = sym (ap (option_map (λ thread. thread.locations)) place.thread_is) ∙ e in
    let count : place.thread.locations ≡ n = cc in
    omega (arith, place.within, length-map-range_with_len (State i) 0 place.thread.locations)

pub edges-count : (thread : Option Thread) (edges : List StoredEdge) → option_map (λ thread. thread.edges) thread ≡ Some (map edge_of edges)
    → option_map (λ thread. length thread.edges) thread ≡ Some (length edges)
edges-count None edges e = cc
edges-count (Some thread) edges e = let same : thread.edges ≡ map edge_of edges = cc in ap Some (ap length same ∙ length-map edges edge_of)

pub edge-there : (program : Program) (i e n : ℕ) (thread : Option Thread) → at_number program.threads i ≡ thread → option_map (λ thread. length thread.edges) thread ≡ Some n → 1 ≤ e → e ≤ n
    → IsHomeOf program (Env i e)
edge-there program i e n None at is h k = cc
edge-there program i zero n (Some thread) at is h k = absurd (omega arith)
edge-there program i (suc e) n (Some thread) at is h k =
    let same : length thread.edges ≡ n = cc in
    env-from_place program i e thread at (omega (arith, length-map-range_with_len (Env i) 1 (length thread.edges)))

pub edge-within : (program : Program) (i e n : ℕ) → option_map (λ thread. length thread.edges) (at_number program.threads i) ≡ Some n → IsHomeOf program (Env i e) → (1 ≤ e) × (e ≤ n)
edge-within program i e n is has =
    let there = env_home-place program i e has in
    let place = there.1 in
    let same : Some (length place.thread.edges) ≡ Some n = sym (ap (option_map (λ thread. length thread.edges)) place.thread_is) ∙ is in
    let count : length place.thread.edges ≡ n = cc in
    (omega (arith, there.0), omega (arith, there.0, place.within, length-map-range_with_len (Env i) 1 (length place.thread.edges)))

-- a home's thread is one of the program
pub some-thread : (threads : List Thread) (i : ℕ) (thread : Thread) → at_number threads i ≡ Some thread → IsSome (at_number threads i)
some-thread threads i thread e = subst IsSome (sym e) refl

pub state-thread : (program : Program) (i l : ℕ) → IsHomeOf program (State i l) → IsSome (at_number program.threads i)
state-thread program i l is = let place = state_home-place program i l is in some-thread program.threads i place.thread place.thread_is

pub env-thread : (program : Program) (i e : ℕ) → IsHomeOf program (Env i e) → IsSome (at_number program.threads i)
env-thread program i e is = let place = (env_home-place program i e is).1 in some-thread program.threads i place.thread place.thread_is
