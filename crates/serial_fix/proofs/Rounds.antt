-- What is settled when steps follow each other.
use Rattle.std.proofs.Common.{◌≡◌, ◌⊎◌, ℕ, zero, suc, ◌+◌, ◌^◌, ◌<◌, ◌≤◌, ◌==◌, Bool, true, false, not, List, [], ◌∷◌, ◌++◌, length, map, take, option_map, Some, None, Result, Ok, Err, IsSome, IfOk, refl, sym, ap, subst, ◌∙◌, arith, inl, inr, append_assoc}
use Rattle.std.specs.List.{AllByRecursion, Contains, slice_get}
use Rattle.std.proofs.lemmas.Bool.{eqb-true, eq-eqb, cases_lt}
use Rattle.std.proofs.lemmas.List.{length-map, length-append}
use Rattle.std.proofs.lemmas.Option.{slice_get_within}
use Rattle.std.proofs.lemmas.List.Elements.{Contains-append_left}
use Rattle.horn_rules.proofs.Places.{slice_get-append_left}
use Rattle.thr_base.specs.declared.names.Fact.{Fact as StoredFact}
use Rattle.thr_base.specs.declared.limits.Limits.{Limits}
use Rattle.lin_rows.specs.Row.{Row}
use Rattle.transition_formula.specs.Program.{Program, Thread, Edge, at_number, IsProgram, IsThreadOf, IsEdgeOf}
use Rattle.transition_formula.specs.Stored.{edge_of}
use Rattle.transition_formula.specs.declared.graph.Edge.{Edge as StoredEdge}
use Rattle.transition_formula.proofs.Lookups.{numbered-within}
use Rattle.horn_rules.specs.Home.{Home, State, Env, homes}
use Rattle.horn_rules.specs.Fact.{Fact}
use Rattle.horn_rules.specs.Case.{Case, init_case}
use Rattle.serial_fix.specs.inside.Cases.{IsCase, own_case, guar_case, env_case, init, own, guar, env}
use Rattle.horn_rules.specs.Stored.{sets_of, fact_of, facts_of}
use Rattle.horn_rules.proofs.Numbers.{state_home-place, home-numbered}
use Rattle.serial_fix.specs.inside.Found.{FoundFacts}
use Rattle.serial_fix.specs.inside.Run.{IsRun, Extends, IsSettled, StartIsSettled, HasEdge, IsFrom, OwnIsSettled, GuarIsSettled, EdgeIsSettled, OwnAreSettled, PairIsSettled, PairsAreSettled, IsLookedAt, StartsAreSettled, AllAreSettled, IsStep}
use Rattle.serial_fix.specs.declared.step.Step.{Step}
use Rattle.serial_fix.specs.declared.step.Step.TheVariants.{Done, Stopped}
use Rattle.horn_rules.proofs.Lists.{Contains-later as later, first-or-later, contains-nothing}
use Rattle.serial_fix.proofs.Steps.{Extends-Contains}
use Rattle.serial_fix.proofs.Instances.{found-number, some-is}
use Rattle.lin_rows.proofs.Lists.{slice_get-there}

-- ---- what is found stays found, and what is settled stays settled

pub Extends-trans : (a b c : List StoredFact) → Extends a b → Extends b c → Extends a c
Extends-trans a b c one two = record { more = one.more ++ two.more; is = two.is ∙ ap (λ l. l ++ two.more) one.is ∙ append_assoc a one.more two.more }

pub settled-lasts : (program : Program) (lists : List (List Row)) (given : Case) → (earlier later : List StoredFact) → Extends earlier later → IsSettled program lists earlier given → IsSettled program lists later given
settled-lasts program lists given earlier later on settled = record {
  there = λ fact of. Extends-Contains program earlier later fact on (settled.there fact of);
  gives = settled.gives;
}

pub own-lasts : (program : Program) (lists : List (List Row)) (i e : ℕ) (f : Fact) → (earlier later : List StoredFact) → Extends earlier later → OwnIsSettled program lists i e f earlier → OwnIsSettled program lists i e f later
own-lasts program lists i e f earlier later on settled thread edge is from =
    settled-lasts program lists (own_case program (sets_of program lists) i thread edge f) earlier later on (settled thread edge is from)

pub guar-lasts : (program : Program) (lists : List (List Row)) (i e : ℕ) (f : Fact) → (earlier later : List StoredFact) → Extends earlier later → GuarIsSettled program lists i e f earlier → GuarIsSettled program lists i e f later
guar-lasts program lists i e f earlier later on settled thread edge is from =
    settled-lasts program lists (guar_case program (sets_of program lists) i e thread edge f) earlier later on (settled thread edge is from)

pub edge-lasts : (program : Program) (lists : List (List Row)) (i e : ℕ) (f : Fact) → (earlier later : List StoredFact) → Extends earlier later → EdgeIsSettled program lists i e f earlier → EdgeIsSettled program lists i e f later
edge-lasts program lists i e f earlier later on settled = (own-lasts program lists i e f earlier later on settled.0, guar-lasts program lists i e f earlier later on settled.1)

pub pair-lasts : (program : Program) (lists : List (List Row)) (f t : Fact) → (earlier later : List StoredFact) → Extends earlier later → PairIsSettled program lists f t earlier → PairIsSettled program lists f t later
pair-lasts program lists f t earlier later on settled k l i e other thread edge apart there at home_f home_t =
    settled-lasts program lists (env_case program (sets_of program lists) k l other thread edge f t) earlier later on (settled k l i e other thread edge apart there at home_f home_t)

pub Extends-there : (earlier later : List StoredFact) (x : StoredFact) → Extends earlier later → Contains earlier x → Contains later x
Extends-there earlier later x on c = subst (λ l. Contains l x) (sym on.is) (Contains-append_left earlier on.more x c)

Extends-at : (earlier later : List StoredFact) (k : ℕ) → Extends earlier later → k < length earlier → slice_get later k ≡ slice_get earlier k
Extends-at earlier later k on within = ap (λ l. slice_get l k) on.is ∙ slice_get-append_left earlier on.more k within

-- one step, and then another
pub if-both : {E : Type 0} (program : Program) (lists : List (List Row)) (limits : Limits) (a b c : FoundFacts) (between upto : ℕ) (P Q R : List StoredFact → Type 0) (made : Result Step E)
    → IsStep program lists limits a b between P Done → IfOk made (IsStep program lists limits b c upto Q) → (Extends b.facts c.facts → P b.facts → Q c.facts → R c.facts)
    → IfOk made (IsStep program lists limits a c upto R)
if-both program lists limits a b c between upto P Q R (Ok Done) one two then = (two.0, Extends-trans a.facts b.facts c.facts one.1 two.1, then two.1 one.2 two.2, two.3)
if-both program lists limits a b c between upto P Q R (Ok (Stopped ending)) one two then = two
if-both program lists limits a b c between upto P Q R (Err e) one two then = tt

-- ---- the edges of a fact's thread

pub edge-elsewhere : (program : Program) (lists : List (List Row)) (found : List StoredFact) (i l e : ℕ) (f : Fact) (x : StoredEdge) (r : Bool) → f.home ≡ State i l
    → ((thread : Thread) (edge : Edge) → IsEdgeOf program i e thread edge → edge_of x ≡ edge) → r ≡ true → r ≡ not (x.from.0 == l) → EdgeIsSettled program lists i e f found
edge-elsewhere program lists found i l e f x r at ends passes is = (
  λ thread edge edge_is from. absurd (never thread edge edge_is from),
  λ thread edge edge_is from. absurd (never thread edge edge_is from),
)
  where
    never : (thread : Thread) (edge : Edge) → IsEdgeOf program i e thread edge → f.home ≡ State i edge.from → ⊥
    never thread edge edge_is from =
        let both : State i l ≡ State i edge.from = sym at ∙ from in
        let there : l ≡ edge.from = cc in
        let same : x.from.0 ≡ l = ap (λ (d : Edge). d.from) (ends thread edge edge_is) ∙ sym there in
        let test : not (x.from.0 == l) ≡ false = ap not (eq-eqb x.from.0 l same) in
        let clash : true ≡ false = sym passes ∙ is ∙ test in
        cc

pub from-here : (program : Program) (i l e : ℕ) (f : Fact) (x : StoredEdge) (r : Bool) → HasEdge program i e → f.home ≡ State i l
    → ((thread : Thread) (edge : Edge) → IsEdgeOf program i e thread edge → edge_of x ≡ edge) → r ≡ false → r ≡ not (x.from.0 == l) → IsFrom program i e f
from-here program i l e f x r (thread, edge, edge_is) at ends fails is =
    let here : edge.from ≡ l = ap (λ (d : Edge). d.from) (sym (ends thread edge edge_is)) ∙ equal (x.from.0 == l) refl (sym is ∙ fails) in
    record { thread = thread; edge = edge; edge_is = edge_is; at = at ∙ ap (State i) (sym here) }
  where
    equal : (b : Bool) → (x.from.0 == l) ≡ b → not b ≡ false → x.from.0 ≡ l
    equal true at passes = eqb-true x.from.0 l at
    equal false at passes = cc

edges-same : (program : Program) (i : ℕ) (edges : List StoredEdge) (thread : Thread) → option_map (λ (t : Thread). t.edges) (at_number program.threads i) ≡ Some (map edge_of edges)
    → IsThreadOf program i thread → thread.edges ≡ map edge_of edges
edges-same program i edges thread got at =
    let here : Some thread.edges ≡ Some (map edge_of edges) = sym (ap (option_map (λ (t : Thread). t.edges)) at) ∙ got in
    cc

pub edges-few : (program : Program) (i : ℕ) (edges : List StoredEdge) → IsProgram program → IsSome (at_number program.threads i) → option_map (λ (t : Thread). t.edges) (at_number program.threads i) ≡ Some (map edge_of edges)
    → length edges ≤ 2 ^ 16
edges-few program i edges is some got =
    let (thread, at) = some-is (at_number program.threads i) some in
    omega (arith, (is.threads_are i thread at).few_edges, ap length (edges-same program i edges thread got at), length-map edges edge_of)

pub edge-there : (program : Program) (i p n : ℕ) (edges : List StoredEdge) → IsSome (at_number program.threads i) → option_map (λ (t : Thread). t.edges) (at_number program.threads i) ≡ Some (map edge_of edges)
    → n ≡ length edges → p < n → HasEdge program i (p + 1)
edge-there program i p n edges some got count below =
    let (thread, at) = some-is (at_number program.threads i) some in
    let same = edges-same program i edges thread got at in
    let (edge, here) = slice_get-there thread.edges p (omega (arith, ap length same, length-map edges edge_of)) in
    let number : p + 1 ≡ suc p = omega arith in
    (thread, edge, record { thread_is = at; edge_is = ap (at_number thread.edges) number ∙ here })

-- the edges up to n are done
abbrev pub DoneTo : Program → List (List Row) → ℕ → Fact → ℕ → List StoredFact → Type 0
DoneTo program lists i f n found = (e : ℕ) → e ≤ n → EdgeIsSettled program lists i e f found

pub done-none : (program : Program) (lists : List (List Row)) (i : ℕ) (f : Fact) (found : List StoredFact) → DoneTo program lists i f 0 found
done-none program lists i f found zero h = (
  λ thread edge is from. absurd (no-edge thread.edges edge is.edge_is),
  λ thread edge is from. absurd (no-edge thread.edges edge is.edge_is),
)
  where
    no-edge : (edges : List Edge) (edge : Edge) → at_number edges 0 ≡ Some edge → ⊥
    no-edge edges edge e = cc
done-none program lists i f found (suc e) h = absurd (omega arith)

pub done-more : (program : Program) (lists : List (List Row)) (i : ℕ) (f : Fact) (n : ℕ) (earlier later : List StoredFact) → Extends earlier later
    → DoneTo program lists i f n earlier → EdgeIsSettled program lists i (n + 1) f later → DoneTo program lists i f (n + 1) later
done-more program lists i f n earlier later on done one e upto = elim (cases_lt n e) [
  | inl above ↦ let same : n + 1 ≡ e = omega arith in subst (λ k. EdgeIsSettled program lists i k f later) same one
  | inr within ↦ edge-lasts program lists i e f earlier later on (done e within)
]

pub done-all : (program : Program) (lists : List (List Row)) (i l n m : ℕ) (f : Fact) (edges : List StoredEdge) (found : List StoredFact) → f.home ≡ State i l
    → option_map (λ (t : Thread). t.edges) (at_number program.threads i) ≡ Some (map edge_of edges) → m ≡ length edges → m ≤ n → DoneTo program lists i f n found → OwnAreSettled program lists f found
done-all program lists i l n m f edges found at got count upto done j e = (
  λ thread edge is from. (settled thread edge is from).0,
  λ thread edge is from. (settled thread edge is from).1,
)
  where
    settled : (thread : Thread) (edge : Edge) (is : IsEdgeOf program j e thread edge) → f.home ≡ State j edge.from
        → IsSettled program lists found (own_case program (sets_of program lists) j thread edge f) × IsSettled program lists found (guar_case program (sets_of program lists) j e thread edge f)
    settled thread edge is from =
        let both : State i l ≡ State j edge.from = sym at ∙ from in
        let same : i ≡ j = cc in
        let got_j : option_map (λ (t : Thread). t.edges) (at_number program.threads j) ≡ Some (map edge_of edges) = subst (λ k. option_map (λ (t : Thread). t.edges) (at_number program.threads k) ≡ Some (map edge_of edges)) same got in
        let within = numbered-within thread.edges e edge is.edge_is in
        let inside : e ≤ n = omega (arith, within.1, ap length (edges-same program j edges thread got_j is.thread_is), length-map edges edge_of) in
        let here : EdgeIsSettled program lists j e f found = subst (λ k. EdgeIsSettled program lists k e f found) same (done e inside) in
        (here.0 thread edge is from, here.1 thread edge is from)

-- a fact at an edge has no own steps
pub own-vacuous : (program : Program) (lists : List (List Row)) (found : List StoredFact) (f : Fact) (i e : ℕ) → f.home ≡ Env i e → OwnAreSettled program lists f found
own-vacuous program lists found f i e at j g = (
  λ thread edge is from. let clash : Env i e ≡ State j edge.from = sym at ∙ from in cc,
  λ thread edge is from. let clash : Env i e ≡ State j edge.from = sym at ∙ from in cc,
)

pub thread-there : (program : Program) (lists : List (List Row)) (found : FoundFacts) (stored : StoredFact) (i l : ℕ) → IsRun program lists found → Contains found.facts stored
    → at_number (homes program) stored.home.0 ≡ Some (State i l) → IsSome (at_number program.threads i)
thread-there program lists found stored i l run there at =
    let place = state_home-place program i l (home-numbered program stored.home.0 (State i l) at) in
    subst (λ o. IsSome o) (sym place.thread_is) refl

pub home-is : (program : Program) (lists : List (List Row)) (found : FoundFacts) (stored : StoredFact) (home : Home) → IsRun program lists found → Contains found.facts stored
    → at_number (homes program) stored.home.0 ≡ Some home → (fact_of program stored).home ≡ home
home-is program lists found stored home run there at =
    let both : Some (fact_of program stored).home ≡ Some home = sym (found-number program lists found stored run there) ∙ at in
    cc

-- ---- the pairs of a fact with those before it

pub pairs-none : (program : Program) (lists : List (List Row)) (f : Fact) (old found : List StoredFact) → PairsAreSettled program lists f 0 old found
pairs-none program lists f old found p g below at = absurd (omega arith)

pub pairs-more : (program : Program) (lists : List (List Row)) (f : Fact) (n : ℕ) (one : StoredFact) (old earlier later : List StoredFact) → Extends old earlier → Extends earlier later → n < length old
    → slice_get earlier n ≡ Some one → PairsAreSettled program lists f n old earlier
    → PairIsSettled program lists f (fact_of program one) later × PairIsSettled program lists (fact_of program one) f later → PairsAreSettled program lists f (n + 1) old later
pairs-more program lists f n one old earlier later begun on within there done both p g below at = elim (cases_lt p n) [
  | inl before ↦
      let settled = done p g before at in
      (pair-lasts program lists f (fact_of program g) earlier later on settled.0, pair-lasts program lists (fact_of program g) f earlier later on settled.1)
  | inr here ↦
      let same : n ≡ p = omega arith in
      let found : Some one ≡ Some g = sym there ∙ Extends-at old earlier n begun within ∙ ap (slice_get old) same ∙ at in
      let is : one ≡ g = cc in
      (subst (λ (s : StoredFact). PairIsSettled program lists f (fact_of program s) later) is both.0, subst (λ (s : StoredFact). PairIsSettled program lists (fact_of program s) f later) is both.1)
]

-- the pairs with the first facts are the same in a longer list
pub pairs-of : (program : Program) (lists : List (List Row)) (f : Fact) (n : ℕ) (old later found : List StoredFact) → Extends old later → n ≤ length old
    → PairsAreSettled program lists f n later found → PairsAreSettled program lists f n old found
pairs-of program lists f n old later found on within done p g below at = done p g below (Extends-at old later p on (omega arith) ∙ at)

pub pair-there : (earlier later : List StoredFact) (n m : ℕ) → Extends earlier later → n ≤ length earlier → m < n → m < length later
pair-there earlier later n m on within below = omega (arith, ap length on.is, length-append earlier on.more)

pub own-all-last : (program : Program) (lists : List (List Row)) (f : Fact) (earlier later : List StoredFact) → Extends earlier later → OwnAreSettled program lists f earlier → OwnAreSettled program lists f later
own-all-last program lists f earlier later on done i e = edge-lasts program lists i e f earlier later on (done i e)

pub looked-at : (program : Program) (lists : List (List Row)) (n : ℕ) (one : StoredFact) (old mid found : List StoredFact) → slice_get old n ≡ Some one → Extends old mid → Extends mid found
    → OwnAreSettled program lists (fact_of program one) mid → PairsAreSettled program lists (fact_of program one) n mid found → IsLookedAt program lists n old found
looked-at program lists n one old mid found at begun on own_done pairs_done stored here =
    let both : Some one ≡ Some stored = sym at ∙ here in
    let same : one ≡ stored = cc in
    let within = slice_get_within old n one at in
    subst (λ (s : StoredFact). OwnAreSettled program lists (fact_of program s) found × PairsAreSettled program lists (fact_of program s) n old found) same
    (own-all-last program lists (fact_of program one) mid found on own_done, pairs-of program lists (fact_of program one) n old mid found begun (omega arith) pairs_done)

-- ---- all instances over the first facts
take-at : {A : Type 0} (xs : List A) (n : ℕ) (x : A) → Contains (take n xs) x → (k : ℕ) × (k < n) × (slice_get xs k ≡ Some x)
take-at xs zero x c = absurd (contains-nothing x c)
take-at [] (suc n) x c = absurd (contains-nothing x c)
take-at (y ∷ ys) (suc n) x c = elim (first-or-later y x (take n ys) c) [
  | inl is ↦ (0, omega arith, ap Some is)
  | inr there ↦ let (k, below, at) = take-at ys n x there in (suc k, omega arith, at)
]

at-take : {A : Type 0} (xs : List A) (n k : ℕ) (x : A) → k < n → slice_get xs k ≡ Some x → Contains (take n xs) x
at-take [] n k x below at = cc
at-take (y ∷ ys) zero k x below at = absurd (omega arith)
at-take (y ∷ ys) (suc n) zero x below at = let same : y ≡ x = cc in (0, omega arith, same)
at-take (y ∷ ys) (suc n) (suc k) x below at = later y x (take n ys) (at-take ys n k x (omega arith) at)

-- the place of a premise among the first facts
record IsPlaced (program : Program) (found : List StoredFact) (n : ℕ) (f : Fact) : Type 0 where
  place : ℕ
  stored : StoredFact
  below : place < n
  at : slice_get found place ≡ Some stored
  is : fact_of program stored ≡ f

mapped-at : {A B : Type 0} (f : A → B) (xs : List A) (k : ℕ) (y : B) → slice_get (map f xs) k ≡ Some y → (x : A) × (slice_get xs k ≡ Some x) × (f x ≡ y)
mapped-at f [] k y e = cc
mapped-at f (x ∷ xs) zero y e = let same : f x ≡ y = cc in (x, refl, same)
mapped-at f (x ∷ xs) (suc k) y e = mapped-at f xs k y e

at-mapped : {A B : Type 0} (f : A → B) (xs : List A) (k : ℕ) (x : A) → slice_get xs k ≡ Some x → slice_get (map f xs) k ≡ Some (f x)
at-mapped f [] k x e = cc
at-mapped f (y ∷ ys) zero x e = ap (λ o. option_map f o) e
at-mapped f (y ∷ ys) (suc k) x e = at-mapped f ys k x e

placed : (program : Program) (old new : List StoredFact) (n : ℕ) (f : Fact) → Extends old new → n ≤ length old → Contains (take n (facts_of program new)) f → IsPlaced program old n f
placed program old new n f on within c =
    let (k, below, at) = take-at (facts_of program new) n f c in
    let (stored, here, is) = mapped-at (fact_of program) new k f at in
    record { place = k; stored = stored; below = below; at = sym (Extends-at old new k on (omega arith)) ∙ here; is = is }

unplaced : (program : Program) (found : List StoredFact) (n m : ℕ) (f : Fact) (is : IsPlaced program found n f) → is.place < m → Contains (take m (facts_of program found)) f
unplaced program found n m f is below =
    at-take (facts_of program found) m is.place f below (at-mapped (fact_of program) found is.place is.stored is.at ∙ ap Some is.is)

module _ (program : Program) (lists : List (List Row)) (n : ℕ) (old new : List StoredFact) (one : StoredFact) (within : n < length old) (at_n : slice_get old n ≡ Some one) (on : Extends old new)
    (done : AllAreSettled program lists n old) (looked : IsLookedAt program lists n old new) where
  -- a premise is the n-th fact, or stands before it
  premise-is : (f : Fact) → Contains (take (n + 1) (facts_of program new)) f → (fact_of program one ≡ f) ⊎ ((is : IsPlaced program old (n + 1) f) × (is.place < n))
  premise-is f c =
      let is = placed program old new (n + 1) f on (omega arith) c in
      elim (cases_lt is.place n) [
        | inl before ↦ inr (is, before)
        | inr here ↦
            let same : is.place ≡ n = omega (arith, is.below) in
            let both : Some is.stored ≡ Some one = sym is.at ∙ ap (slice_get old) same ∙ at_n in
            let stored : one ≡ is.stored = cc in
            inl (ap (fact_of program) stored ∙ is.is)
      ]

  settled-case : (premises : List Fact) (given : Case) → IsCase program (sets_of program lists) premises given
      → AllByRecursion (Contains (take (n + 1) (facts_of program new))) premises → IsSettled program lists new given
  settled-case premises given (init i thread at) all = settled-lasts program lists (init_case program i) old new on (done [] (init_case program i) (init i thread at) tt)
  settled-case premises given (own i e thread edge f at home) all = elim (premise-is f all.0) [
    | inl is ↦ subst (λ (g : Fact). g.home ≡ State i edge.from → IsSettled program lists new (own_case program (sets_of program lists) i thread edge g)) is
        (λ from. ((looked one at_n).0 i e).0 thread edge at from) home
    | inr (is, before) ↦ settled-lasts program lists (own_case program (sets_of program lists) i thread edge f) old new on
        (done (f ∷ []) (own_case program (sets_of program lists) i thread edge f) (own i e thread edge f at home) (unplaced program old (n + 1) n f is before, tt))
  ]
  settled-case premises given (guar i e thread edge f at home) all = elim (premise-is f all.0) [
    | inl is ↦ subst (λ (g : Fact). g.home ≡ State i edge.from → IsSettled program lists new (guar_case program (sets_of program lists) i e thread edge g)) is
        (λ from. ((looked one at_n).0 i e).1 thread edge at from) home
    | inr (is, before) ↦ settled-lasts program lists (guar_case program (sets_of program lists) i e thread edge f) old new on
        (done (f ∷ []) (guar_case program (sets_of program lists) i e thread edge f) (guar i e thread edge f at home) (unplaced program old (n + 1) n f is before, tt))
  ]
  settled-case premises given (env k l i e other thread edge f t apart there at home_f home_t) all = elim (premise-is f all.0) [
    | inl f_is ↦ elim (premise-is t all.1.0) [
      | inl t_is ↦
          let clash : State k l ≡ Env i e = sym home_f ∙ ap (λ (g : Fact). g.home) (sym f_is ∙ t_is) ∙ home_t in
          cc
      | inr (t_is, t_before) ↦
          let pair = ((looked one at_n).1 t_is.place t_is.stored t_before t_is.at).0 in
          let pair_f : PairIsSettled program lists f (fact_of program t_is.stored) new = subst (λ (g : Fact). PairIsSettled program lists g (fact_of program t_is.stored) new) f_is pair in
          let pair_t : PairIsSettled program lists f t new = subst (λ (g : Fact). PairIsSettled program lists f g new) t_is.is pair_f in
          pair_t k l i e other thread edge apart there at home_f home_t
    ]
    | inr (f_is, f_before) ↦ elim (premise-is t all.1.0) [
      | inl t_is ↦
          let pair = ((looked one at_n).1 f_is.place f_is.stored f_before f_is.at).1 in
          let pair_t : PairIsSettled program lists (fact_of program f_is.stored) t new = subst (λ (g : Fact). PairIsSettled program lists (fact_of program f_is.stored) g new) t_is pair in
          let pair_f : PairIsSettled program lists f t new = subst (λ (g : Fact). PairIsSettled program lists g t new) f_is.is pair_t in
          pair_f k l i e other thread edge apart there at home_f home_t
      | inr (t_is, t_before) ↦
          settled-lasts program lists (env_case program (sets_of program lists) k l other thread edge f t) old new on
          (done (f ∷ t ∷ []) (env_case program (sets_of program lists) k l other thread edge f t) (env k l i e other thread edge f t apart there at home_f home_t)
          (unplaced program old (n + 1) n f f_is f_before, (unplaced program old (n + 1) n t t_is t_before, tt)))
    ]
  ]

pub all-more : (program : Program) (lists : List (List Row)) (n : ℕ) (old new : List StoredFact) → n < length old → Extends old new
    → AllAreSettled program lists n old → IsLookedAt program lists n old new → AllAreSettled program lists (n + 1) new
all-more program lists n old new within on done looked premises given is all =
    let (one, at) = slice_get-there old n within in
    settled-case program lists n old new one within at on done looked premises given is all

pub all-none : (program : Program) (lists : List (List Row)) (found : List StoredFact) → StartsAreSettled program lists found → AllAreSettled program lists 0 found
all-none program lists found starts premises given is all = of-case premises given is all
  where
    of-case : (premises : List Fact) (given : Case) → IsCase program (sets_of program lists) premises given → AllByRecursion (Contains (take 0 (facts_of program found))) premises → IsSettled program lists found given
    of-case premises given (init i thread at) all = starts i thread at
    of-case premises given (own i e thread edge f at home) all = absurd (contains-nothing f all.0)
    of-case premises given (guar i e thread edge f at home) all = absurd (contains-nothing f all.0)
    of-case premises given (env k l i e other thread edge f t apart there at home_f home_t) all = absurd (contains-nothing f all.0)

-- ---- loops
pub Extends-length : (earlier later : List StoredFact) → Extends earlier later → length earlier ≤ length later
Extends-length earlier later on = omega (arith, ap length on.is, length-append earlier on.more)

pub pairs-upto : (program : Program) (lists : List (List Row)) (f : Fact) (n m : ℕ) (old found : List StoredFact) → n ≤ m → PairsAreSettled program lists f m old found → PairsAreSettled program lists f n old found
pairs-upto program lists f n m old found within done p g below at = done p g (omega arith) at

abbrev pub StartsTo : Program → List (List Row) → ℕ → List StoredFact → Type 0
StartsTo program lists n found = (i : ℕ) (thread : Thread) → IsThreadOf program i thread → i ≤ n → StartIsSettled program lists i found

pub starts-none : (program : Program) (lists : List (List Row)) (found : List StoredFact) → StartsTo program lists 0 found
starts-none program lists found zero thread at h = let none : None ≡ Some thread = at in cc
starts-none program lists found (suc i) thread at h = absurd (omega arith)

pub starts-more : (program : Program) (lists : List (List Row)) (n : ℕ) (earlier later : List StoredFact) → Extends earlier later → StartsTo program lists n earlier → StartIsSettled program lists (n + 1) later → StartsTo program lists (n + 1) later
starts-more program lists n earlier later on done one i thread at upto = elim (cases_lt n i) [
  | inl above ↦ let same : n + 1 ≡ i = omega arith in subst (λ k. StartIsSettled program lists k later) same one
  | inr within ↦ settled-lasts program lists (init_case program i) earlier later on (done i thread at within)
]

pub starts-all : (program : Program) (lists : List (List Row)) (n threads : ℕ) (found : List StoredFact) → threads ≡ length program.threads → threads ≤ n → StartsTo program lists n found → StartsAreSettled program lists found
starts-all program lists n threads found count upto done i thread at = done i thread at (omega (arith, (numbered-within program.threads i thread at).1))

pub thread-here : (program : Program) (i threads : ℕ) → threads ≡ length program.threads → i < threads → IsSome (at_number program.threads (i + 1))
thread-here program i threads count below =
    let (thread, at) = slice_get-there program.threads i (omega arith) in
    subst (λ o. IsSome o) (sym (ap (at_number program.threads) (let number : i + 1 ≡ suc i = omega arith in number) ∙ at)) refl

pub all-done : (program : Program) (lists : List (List Row)) (n : ℕ) (found : List StoredFact) → n ≤ length found → length found ≤ n → AllAreSettled program lists n found → AllAreSettled program lists (length found) found
all-done program lists n found one other done = let same : n ≡ length found = omega arith in subst (λ k. AllAreSettled program lists k found) same done
