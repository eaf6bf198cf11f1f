-- The edges of a program, one after another by the numbers of their homes.
use Rattle.std.proofs.Common.{◌≡◌, ℕ, zero, suc, ◌+◌, ◌<◌, ◌≤◌, ◌⊎◌, inl, inr, List, [], ◌∷◌, ◌++◌, length, map, take, Some, refl, ap, sym, ◌∙◌, subst, arith, length-append}
use Rattle.std.specs.List.{slice_get}
use Rattle.std.specs.Option.{IsSome}
use Rattle.std.proofs.lemmas.Option.{slice_get_within}
use Rattle.thr_base.specs.Held.{Rise}
use Rattle.thr_base.specs.declared.names.EdgeNo.{EdgeNo}
use Rattle.thr_base.specs.declared.names.HomeNo.{HomeNo}
use Rattle.instance_cursors.specs.declared.layout.EdgeHomes.{EdgeHomes}
use Rattle.instance_cursors.specs.Ways.{AreApart}
use Rattle.transition_formula.specs.Program.{Program, Thread, Edge, IsProgram, IsEdgeOf, at_number}
use Rattle.transition_formula.proofs.Programs.{edge-is}
use Rattle.horn_rules.specs.Home.{Home, State, Env, IsHomeOf, homes}
use Rattle.horn_rules.specs.Laws.{EdgesAreHomes, HomesAreDistinct, LocationsAreHomes}
use Rattle.horn_rules.proofs.Lists.{slice_get-Contains, Contains-slice_get}
use Rattle.pending_instances.specs.Layout.{AreEdgesSeen, IsEdgeSeen}
use Rattle.pending_instances.specs.inside.Making.{AddsEdge}

-- ---- lists with one more

-- an element of a longer list is one of the list, or the one behind
end_case : {X : Type 0} (xs : List X) (y : X) (k : ℕ) (x : X) → slice_get (xs ++ y ∷ []) k ≡ Some x → (slice_get xs k ≡ Some x) ⊎ (y ≡ x)
end_case [] y zero x is = inr cc
end_case [] y (suc k) x is = cc
end_case (z ∷ xs) y zero x is = inl is
end_case (z ∷ xs) y (suc k) x is = end_case xs y k x is

pub slice_get-end : {X : Type 0} (xs : List X) (y : X) → slice_get (xs ++ y ∷ []) (length xs) ≡ Some y
slice_get-end [] y = refl
slice_get-end (x ∷ xs) y = slice_get-end xs y

slice_get-before : {X : Type 0} (xs : List X) (y : X) (k : ℕ) (x : X) → slice_get xs k ≡ Some x → slice_get (xs ++ y ∷ []) k ≡ Some x
slice_get-before [] y k x is = cc
slice_get-before (z ∷ xs) y zero x is = is
slice_get-before (z ∷ xs) y (suc k) x is = slice_get-before xs y k x is

abbrev tells : EdgeHomes → ℕ
tells seen = seen.told.0

rise-end : (last : ℕ) (edges : List EdgeHomes) (seen : EdgeHomes) → Rise last (map tells edges) → last < seen.told.0 → ((k : ℕ) (s : EdgeHomes) → slice_get edges k ≡ Some s → s.told.0 < seen.told.0)
    → Rise last (map tells (edges ++ seen ∷ []))
rise-end last [] seen rise above below = (above, tt)
rise-end last (x ∷ edges) seen rise above below = (rise.0, rise-end x.told.0 edges seen rise.1 (below 0 x refl) (λ k s at. below (suc k) s at))

rise-above : (last : ℕ) (edges : List EdgeHomes) (k : ℕ) (seen : EdgeHomes) → Rise last (map tells edges) → slice_get edges k ≡ Some seen → last < seen.told.0
rise-above last [] k seen rise at = cc
rise-above last (x ∷ edges) zero seen rise at = let same : x ≡ seen = cc in let number = ap tells same in let low = rise.0 in omega (arith, number, low)
rise-above last (x ∷ edges) (suc k) seen rise at = let more = rise-above x.told.0 edges k seen rise.1 at in let low = rise.0 in omega (arith, more, low)

-- where numbers rise, one place has each
rise-apart : (last : ℕ) (edges : List EdgeHomes) (k n : ℕ) (one other : EdgeHomes) → Rise last (map tells edges) → slice_get edges k ≡ Some one → slice_get edges n ≡ Some other → one.told.0 ≡ other.told.0 → k ≡ n
rise-apart last [] k n one other rise at there same = cc
rise-apart last (x ∷ edges) zero zero one other rise at there same = refl
rise-apart last (x ∷ edges) zero (suc n) one other rise at there same =
    let first : x ≡ one = cc in
    let number = ap tells first in
    let more = rise-above x.told.0 edges n other rise.1 there in
    absurd (omega (arith, number, more, same))
rise-apart last (x ∷ edges) (suc k) zero one other rise at there same =
    let first : x ≡ other = cc in
    let number = ap tells first in
    let more = rise-above x.told.0 edges k one rise.1 at in
    absurd (omega (arith, number, more, same))
rise-apart last (x ∷ edges) (suc k) (suc n) one other rise at there same = ap (λ m. suc m) (rise-apart x.told.0 edges k n one other rise.1 at there same)

-- ---- the edges of the first homes

-- Exactly the edges at homes up to a number stand in the list, by rising numbers.
pub record AreEdgesUpTo (program : Program) (last : ℕ) (edges : List EdgeHomes) : Type 0 where
  pub are : (k : ℕ) (seen : EdgeHomes) → slice_get edges k ≡ Some seen → IsEdgeSeen program seen × (seen.told.0 ≤ last)
  pub all : (n i e : ℕ) → n ≤ last → at_number (homes program) n ≡ Some (Env i e) → (k : ℕ) × (seen : EdgeHomes) × (slice_get edges k ≡ Some seen) × (seen.told.0 ≡ n)
  pub rise : Rise 0 (map tells edges)
  pub few : length edges ≤ last

pub none_up_to : (program : Program) → AreEdgesUpTo program 0 []
none_up_to program = record { are = λ k seen at. cc; all = λ n i e low at. none n i e low at; rise = tt; few = omega arith }
  where
    none : (n i e : ℕ) → n ≤ 0 → at_number (homes program) n ≡ Some (Env i e) → (k : ℕ) × (seen : EdgeHomes) × (slice_get [] k ≡ Some seen) × (seen.told.0 ≡ n)
    none zero i e low at = cc
    none (suc n) i e low at = absurd (omega arith)

at_most : (n last : ℕ) → n ≤ last + 1 → (n ≤ last) ⊎ (n ≡ last + 1)
at_most n last low = grind arith

same_at : (program : Program) (n m : ℕ) (home other : Home) → n ≡ m → at_number (homes program) n ≡ Some home → at_number (homes program) m ≡ Some other → home ≡ other
same_at program n m home other same at there = let both : Some home ≡ Some other = sym at ∙ (ap (λ k. at_number (homes program) k) same ∙ there) in cc

pub one_more_up_to : (program : Program) (last : ℕ) (home : Home) (old new : List EdgeHomes) → AreEdgesUpTo program last old → at_number (homes program) (last + 1) ≡ Some home
    → AddsEdge program (last + 1) home old new → AreEdgesUpTo program (last + 1) new
one_more_up_to program last (State j l) old new are here adds =
    let Are : List EdgeHomes → Type 0 = λ edges. AreEdgesUpTo program (last + 1) edges in
    subst Are (sym adds) (record {
      are = λ k seen at. let before = are.are k seen at in (before.0, omega (arith, before.1));
      all = λ n i e low at. elim (at_most n last low) [
        | inl below ↦ are.all n i e below at
        | inr same ↦ let both = same_at program n (last + 1) (Env i e) (State j l) same at here in cc
      ];
      rise = are.rise;
      few = let before = are.few in omega (arith, before);
    })
one_more_up_to program last (Env j l) old new are here (seen, is, adds) =
    let Are : List EdgeHomes → Type 0 = λ edges. AreEdgesUpTo program (last + 1) edges in
    let number = is.number in
    subst Are (sym adds) (record {
      are = λ k s at. elim (end_case old seen k s at) [
        | inl before ↦ let known = are.are k s before in (known.0, omega (arith, known.1))
        | inr same ↦
            let Known : EdgeHomes → Type 0 = λ x. IsEdgeSeen program x × (x.told.0 ≤ last + 1) in
            subst Known same (is.is_seen, omega (arith, number))
      ];
      all = λ n i e low at. elim (at_most n last low) [
        | inl below ↦ let found = are.all n i e below at in (found.0, found.1, slice_get-before old seen found.0 found.1 found.2, found.3)
        | inr same ↦ (length old, seen, slice_get-end old seen, number ∙ sym same)
      ];
      rise = rise-end 0 old seen are.rise (omega (arith, number)) (λ k s at. let known = are.are k s at in omega (arith, known.1, number));
      few = let before = are.few in omega (arith, before, length-append old (seen ∷ []));
    })

-- all edges, where these are all homes
pub edges_seen : EdgesAreHomes → (program : Program) (edges : List EdgeHomes) → AreEdgesUpTo program (length (homes program)) edges → AreEdgesSeen program edges
edges_seen are_homes program edges are = record {
  are = λ k seen at. (are.are k seen at).0;
  all = λ i e thread edge is.
      let place = slice_get-Contains (homes program) (Env i e) (are_homes program i e thread edge is) in
      let within = slice_get_within (homes program) place.0 (Env i e) place.1 in
      let found = are.all (suc place.0) i e (omega (arith, within)) place.1 in
      let known = (are.are found.0 found.1 found.2).0 in
      let homes_same = same_at program found.1.told.0 (suc place.0) (Env found.1.thread.0 found.1.edge.0) (Env i e) found.3 known.told place.1 in
      (found.0, found.1, found.2, cc, cc);
  rise = are.rise;
}

-- ---- edges are apart

told_alike : (program : Program) (one other : EdgeHomes) → IsEdgeSeen program one → IsEdgeSeen program other → one.source ≡ other.source → one.edge ≡ other.edge
    → Env one.thread.0 one.edge.0 ≡ Env other.thread.0 other.edge.0
told_alike program one other is is_too sources edges =
    let sources_same = same_at program one.source.0 other.source.0 (State one.thread.0 is.edge.from) (State other.thread.0 is_too.edge.from) (ap (λ (h : HomeNo). h.0) sources) is.source is_too.source in
    let threads : one.thread.0 ≡ other.thread.0 = cc in
    ap (λ i. Env i one.edge.0) threads ∙ ap (λ (e : EdgeNo). Env other.thread.0 e.0) edges

pub edges_apart : HomesAreDistinct → (program : Program) (edges : List EdgeHomes) → AreEdgesSeen program edges → AreApart edges
edges_apart distinct program edges are k n one other at there sources numbers =
    let is = are.are k one at in
    let is_too = are.are n other there in
    let same = told_alike program one other is is_too sources numbers in
    rise-apart 0 edges k n one other are.rise at there
    (distinct program one.told.0 other.told.0 (Env other.thread.0 other.edge.0) (is.told ∙ ap (λ h. Some h) same) is_too.told)

-- ---- the first homes

map-take_more : {X Y : Type 0} (f : X → Y) (xs : List X) (k : ℕ) (x : X) → slice_get xs k ≡ Some x → map f (take (suc k) xs) ≡ map f (take k xs) ++ f x ∷ []
map-take_more f [] k x is = cc
map-take_more f (y ∷ xs) zero x is = let same : y ≡ x = cc in ap (λ z. f z ∷ []) same
map-take_more f (y ∷ xs) (suc k) x is = ap (λ ys. f y ∷ ys) (map-take_more f xs k x is)

pub map-take_numbered : {X Y : Type 0} (f : X → Y) (xs : List X) (k : ℕ) (x : X) → at_number xs (k + 1) ≡ Some x → map f (take (k + 1) xs) ≡ map f (take k xs) ++ f x ∷ []
map-take_numbered f xs k x is =
    let next : k + 1 ≡ suc k = omega arith in
    ap (λ n. map f (take n xs)) next ∙ map-take_more f xs k x (ap (at_number xs) (sym next) ∙ is)

-- ---- the homes of an edge

pub end_home : LocationsAreHomes → (program : Program) (i l : ℕ) (thread : Thread) → at_number program.threads i ≡ Some thread → l < thread.locations → IsHomeOf program (State i l)
end_home are_homes program i l thread is within = are_homes program i l thread (record { thread_is = is; within = within })

pub source_home : LocationsAreHomes → (program : Program) (i e : ℕ) (thread : Thread) (edge : Edge) → IsProgram program → IsEdgeOf program i e thread edge → IsHomeOf program (State i edge.from)
source_home are_homes program i e thread edge is at = end_home are_homes program i edge.from thread at.thread_is (edge-is program i e thread edge is at.thread_is at.edge_is).from_location

pub target_home : LocationsAreHomes → (program : Program) (i e : ℕ) (thread : Thread) (edge : Edge) → IsProgram program → IsEdgeOf program i e thread edge → IsHomeOf program (State i edge.to)
target_home are_homes program i e thread edge is at = end_home are_homes program i edge.to thread at.thread_is (edge-is program i e thread edge is at.thread_is at.edge_is).to_location

-- a home with a number is one of the program's
pub home_numbered-there : (program : Program) (n : ℕ) (home : Home) → at_number (homes program) n ≡ Some home → IsHomeOf program home
home_numbered-there program zero home is = cc
home_numbered-there program (suc k) home is = Contains-slice_get (homes program) k home is

-- each number up to their count has an element
pub some_numbered : {X : Type 0} (xs : List X) (k : ℕ) → k < length xs → IsSome (at_number xs (k + 1))
some_numbered xs k within = let Some_at : ℕ → Type 0 = λ n. IsSome (at_number xs n) in let next : suc k ≡ k + 1 = omega arith in subst Some_at next (there xs k within)
  where
    there : {X : Type 0} (xs : List X) (k : ℕ) → k < length xs → IsSome (slice_get xs k)
    there [] k within = absurd (omega arith)
    there (x ∷ xs) zero within = refl
    there (x ∷ xs) (suc k) within = there xs k (omega arith)
