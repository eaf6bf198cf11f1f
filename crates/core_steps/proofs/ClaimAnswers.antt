-- What a claim answers.
use Rattle.std.proofs.Common.{◌≡◌, ◌≢◌, ◌⊎◌, ◌<◌, ◌≤◌, ◌+◌, ◌-◌, ℕ, zero, suc, true, false, not, List, [], ◌∷◌, ◌++◌, length, map, take, get_or, Option, Some, None, refl, sym, ap, subst, ◌∙◌, inl, inr, arith}
use Rattle.std.specs.Prelude.{◌==◌, option_map, reverse, slice_get, slice_set}
use Rattle.std.specs.Vec.{vec_capacity}
use Rattle.std.specs.List.{AllByRecursion, Contains}
use Rattle.std.proofs.lemmas.List.{reverse-append, reverse-reverse}
use Rattle.std.proofs.lemmas.Grind.{reverse_onto}
use Rattle.thr_base.specs.declared.names.FactId.{FactId}
use Rattle.fact_table.specs.declared.live_fact.LiveFact.{LiveFact}
use Rattle.fact_table.specs.Table.{FactTable}
use Rattle.transition_formula.specs.Program.{Program}
use Rattle.horn_rules.specs.Home.{State as AtLocation}
use Rattle.horn_rules.specs.Fact.{Fact}
use Rattle.horn_rules.specs.Stored.{fact_of, home_numbered, instance_of}
use Rattle.horn_rules.proofs.Lists.{Contains-first, Contains-later, first-or-later, contains-nothing, all-contained, Contains-slice_get}
use Rattle.horn_rules.proofs.InstanceLists.{eq-is, is-eq}
use Rattle.derivation_tree.specs.Facts.{KeptFact, home_at, AreKept}
use Rattle.derivation_tree.specs.Kept.{KeptTree, kept_fact_of, kept_facts_of, IsKept}
use Rattle.core_steps.specs.declared.answers.Claimed.TheVariants as told
use Rattle.core_steps.specs.declared.stored_core.Core.TheInside.{Inside}
use Rattle.core_steps.specs.declared.event.Event.TheVariants as stored_event
use Rattle.core_steps.specs.State.{Opening, State, Claimed, IsWorker, IsFree, claimed_by}
use Rattle.core_steps.specs.Event.{Claim}
use Rattle.core_steps.specs.Allowed.{Allows}
use Rattle.core_steps.specs.Answers.{GivesClaim, NothingClaimable, HoldsAlready, Stopped, AreAllClaimed, stopped, holds, none_claimable, gives}
use Rattle.core_steps.specs.Readers.{kept_of, newest}
use Rattle.core_steps.specs.Course.{Course, opening_of, state_of, with_events}
use Rattle.core_steps.specs.Claims.{IsBelow, itself, IsClaimFor, MakesClaim}
use Rattle.core_steps.specs.inside.Parts.{AreClaims, IsFullTable, IsStopAt}
use Rattle.core_steps.specs.inside.Kept.{seen, Holds, IsKept as IsKeptCore}
use Rattle.core_steps.specs.inside.Claiming.{IsUnclaimed, MayBeClaimed, IsClaimable, IsOneToClaim, any_root, is_root, with_all_picked}
use Rattle.core_steps.proofs.Tests.{tells, true-false, any-from, any-at}
use Rattle.core_steps.proofs.Live.{Falls, fact_at-found, found-fact_at}
use Rattle.core_steps.proofs.Keeps.{Keeps}
use Rattle.core_steps.proofs.Workers.{claimed_by-is, by_worker-found, found-by_worker, claimed-first, claimed-behind}
use Rattle.core_steps.proofs.Counts.{Counts, claimer}
use Rattle.core_steps.proofs.PartsKept.{claims-set, stop-still}
use Rattle.core_steps.proofs.KeptEvents.{kept-event, table-same}
use Rattle.core_steps.proofs.KeptPublishes.{pending-of}
use Rattle.core_steps.proofs.Agreements.{newest-there, there-newest}
use Rattle.core_steps.proofs.ClaimTests.{StoredKept}
use Rattle.core_steps.proofs.ClaimPicks.{AreBelow, picks, picked-stands, picks-below, below-are-kept, derived-kept}

-- ---- who has claimed what

-- some root is this one exactly where some worker has claimed it
pub root-claimed : (opening : Opening) (state : State) (claims : List (Option FactId)) (id : FactId) → Counts opening state → AreClaims opening.workers state claims
    → (any_root claims id ≡ true → IsUnclaimed state id.0 → ⊥) × (any_root claims id ≡ false → IsUnclaimed state id.0)
root-claimed opening state claims id counts are = (some, none)
  where
    some : any_root claims id ≡ true → IsUnclaimed state id.0 → ⊥
    some hit unclaimed =
        let (root, there, same) = any-from (is_root id) claims hit in
        by-root root there same
      where
        at-place : (root : Option FactId) → Contains claims root → (place : ℕ) × (slice_get claims place ≡ Some root)
        at-place root (k, lt, e) = (k, read claims k lt e)
          where
            read : (xs : List (Option FactId)) (k : ℕ) → k < length xs → get_or xs k root ≡ root → slice_get xs k ≡ Some root
            read [] k lt e = absurd (omega arith)
            read (x ∷ xs) zero lt e = ap (λ y. Some y) e
            read (x ∷ xs) (suc k) lt e = read xs k (omega arith) e

        by-root : (root : Option FactId) → Contains claims root → is_root id root ≡ true → ⊥
        by-root None there same = cc
        by-root (Some root) there same =
            let (place, at) = at-place (Some root) there in
            let claimed = are.each place (Some root) at in
            let (claim, among, worker, root_is) = by_worker-found claimer (λ (c : Claimed). c.root) state.claims (place + 1) root.0 (sym (claimed_by-is state.claims (place + 1)) ∙ claimed) in
            unclaimed claim among (root_is ∙ eq-is root.0 id.0 same)

    none : any_root claims id ≡ false → IsUnclaimed state id.0
    none miss claim there same =
        let within = all-contained (λ (c : Claimed). (1 ≤ c.worker) × (c.worker ≤ opening.workers)) state.claims claim counts.claimers there in
        let claimed : claimed_by state.claims claim.worker ≡ Some claim.root =
        claimed_by-is state.claims claim.worker ∙ found-by_worker claimer (λ (c : Claimed). c.root) state.claims claim counts.claims_apart there in
        by-place (slice_get claims (claim.worker - 1)) refl within claimed
      where
        get-within : (xs : List (Option FactId)) (k : ℕ) → slice_get xs k ≡ None → k < length xs → ⊥
        get-within [] k e lt = omega arith
        get-within (x ∷ xs) zero e lt = cc
        get-within (x ∷ xs) (suc k) e lt = get-within xs k e (omega arith)

        by-place : (o : Option (Option FactId)) → slice_get claims (claim.worker - 1) ≡ o → (1 ≤ claim.worker) × (claim.worker ≤ opening.workers) → claimed_by state.claims claim.worker ≡ Some claim.root → ⊥
        by-place None at within claimed =
            let low = within.0 in
            let high = within.1 in
            let one = are.one_each in
            get-within claims (claim.worker - 1) at (omega (arith, low, high, one))
        by-place (Some root) at within claimed =
            let low = within.0 in
            let number : (claim.worker - 1) + 1 ≡ claim.worker = omega (arith, low) in
            let told : Some claim.root ≡ option_map (λ i. FactId.0 i) root = sym claimed ∙ ap (claimed_by state.claims) (sym number) ∙ are.each (claim.worker - 1) root at in
            by-root root (Contains-slice_get claims (claim.worker - 1) root at) told
          where
            by-root : (root : Option FactId) → Contains claims root → Some claim.root ≡ option_map (λ i. FactId.0 i) root → ⊥
            by-root None there told = cc
            by-root (Some root) there told =
                let is : claim.root ≡ root.0 = cc in
                true-false (any_root claims id) (any-at (is_root id) claims (Some root) there (is-eq root.0 id.0 (sym is ∙ same))) miss

-- a fact is claimed or not
claimed-or-not : (claims : List Claimed) (id : ℕ) → ((claim : Claimed) × Contains claims claim × (claim.root ≡ id)) ⊎ ((claim : Claimed) → Contains claims claim → claim.root ≢ id)
claimed-or-not [] id = inr (λ claim there. absurd (contains-nothing claim there))
claimed-or-not (c ∷ claims) id = elim (tells (c.root == id)) [
  | inl hit ↦ inl (c, Contains-first c claims, eq-is c.root id hit)
  | inr miss ↦ elim (claimed-or-not claims id) [
    | inl found ↦ inl (found.0, Contains-later c found.0 claims found.1, found.2)
    | inr none ↦ inr (λ claim there same. elim (first-or-later c claim claims there) [
      | inl first ↦ true-false (c.root == id) (is-eq c.root id (ap (λ x. Claimed.root x) first ∙ same)) miss
      | inr later ↦ none claim later same
    ])
  ]
]

-- ---- which is claimed

take-more : (facts : List LiveFact) (i : ℕ) (f : LiveFact) → Contains (take i facts) f → Contains (take (i + 1) facts) f
take-more facts zero f there = absurd (contains-nothing f there)
take-more [] (suc i) f there = absurd (contains-nothing f there)
take-more (x ∷ facts) (suc i) f there =
    let number : suc (i + 1) ≡ suc i + 1 = omega arith in
    subst (λ n. Contains (take n (x ∷ facts)) f) number (elim (first-or-later x f (take i facts) there) [
      | inl same ↦ subst (Contains (x ∷ take (i + 1) facts)) same (Contains-first x (take (i + 1) facts))
      | inr later ↦ Contains-later x f (take (i + 1) facts) (take-more facts i f later)
    ])

-- one more fact that may not be claimed, or that may be
pub to-claim-more : (program : Program) (state : State) (facts : List LiveFact) (i : ℕ) (d : LiveFact) (one : Option LiveFact) → i < length facts → IsOneToClaim program state (take i facts) one
    → (¬ MayBeClaimed program state (get_or facts i d)) → IsOneToClaim program state (take (i + 1) facts) one
to-claim-more program state facts i d None lt all not = all-more facts i lt all not
  where
    all-more : (facts : List LiveFact) (i : ℕ) → i < length facts → AllByRecursion (λ (f : LiveFact). ¬ MayBeClaimed program state f) (take i facts) → (¬ MayBeClaimed program state (get_or facts i d))
        → AllByRecursion (λ (f : LiveFact). ¬ MayBeClaimed program state f) (take (i + 1) facts)
    all-more [] i lt all not = absurd (omega arith)
    all-more (f ∷ facts) zero lt all not = (not, tt)
    all-more (f ∷ facts) (suc i) lt all not =
        let rest : AllByRecursion (λ (f : LiveFact). ¬ MayBeClaimed program state f) (take (i + 1) facts) = all-more facts i (omega arith) all.1 not in
        let number : suc (i + 1) ≡ suc i + 1 = omega arith in
        subst (λ n. AllByRecursion (λ (f : LiveFact). ¬ MayBeClaimed program state f) (take n (f ∷ facts))) number (all.0, rest)
to-claim-more program state facts i d (Some one) lt found not = (take-more facts i one found.0, found.1)

take-last : (facts : List LiveFact) (i : ℕ) (d : LiveFact) → i < length facts → Contains (take (i + 1) facts) (get_or facts i d)
take-last [] i d lt = absurd (omega arith)
take-last (f ∷ facts) zero d lt = Contains-first f []
take-last (f ∷ facts) (suc i) d lt =
    let number : suc (i + 1) ≡ suc i + 1 = omega arith in
    subst (λ n. Contains (take n (f ∷ facts)) (get_or facts i d)) number (Contains-later f (get_or facts i d) (take (i + 1) facts) (take-last facts i d (omega arith)))

pub to-claim-found : (program : Program) (state : State) (facts : List LiveFact) (i : ℕ) (d : LiveFact) (one : Option LiveFact) (chosen : LiveFact) → i < length facts → IsOneToClaim program state (take i facts) one
    → MayBeClaimed program state (get_or facts i d) → (chosen ≡ get_or facts i d) ⊎ (one ≡ Some chosen) → IsOneToClaim program state (take (i + 1) facts) (Some chosen)
to-claim-found program state facts i d one chosen lt found may (inl same) =
    subst (λ (f : LiveFact). Contains (take (i + 1) facts) f × MayBeClaimed program state f) (sym same) (take-last facts i d lt, may)
to-claim-found program state facts i d one chosen lt found may (inr same) =
    let before = subst (IsOneToClaim program state (take i facts)) same found in
    (take-more facts i chosen before.0, before.1)

-- ---- by the state

pub all-claimed : (program : Program) (limit : ℕ) (state : State) (table : FactTable) → IsFullTable program limit state table → AllByRecursion (λ (f : LiveFact). ¬ MayBeClaimed program state f) table.live
    → AreAllClaimed state
all-claimed program limit state table is all id i fact at fails = elim (claimed-or-not state.claims id) [
  | inl found ↦ found
  | inr none ↦
      let (g, there, id_is, fact_is) = fact_at-found state.live id fact at in
      let (f, among, same) = newest-there program table.live g (subst (λ l. Contains l g) is.table_is.live_is there) in
      let not = all-contained (λ (f : LiveFact). ¬ MayBeClaimed program state f) table.live f all among in
      let home : home_numbered program f.fact.home.0 ≡ AtLocation i 0 = ap (λ (h : KeptFact). h.fact.home) same ∙ ap (λ h. Fact.home h) fact_is ∙ fails in
      let f_id : f.id.0 ≡ id = ap (λ h. KeptFact.id h) same ∙ id_is in
      absurd (not ((i, home), λ claim inside e. none claim inside (e ∙ f_id)))
]

pub one-claimable : (program : Program) (limit : ℕ) (state : State) (table : FactTable) (f : LiveFact) → IsFullTable program limit state table → Falls state.live → Contains table.live f
    → MayBeClaimed program state f → IsClaimable state f.id.0
one-claimable program limit state table f is falls there may =
    let live = subst (λ l. Contains l (kept_of program f)) (sym is.table_is.live_is) (there-newest program table.live f there) in
    record { fact = fact_of program f.fact; i = may.0.0; is_live = found-fact_at state.live (kept_of program f) falls live; fails = may.0.1; unclaimed = may.1 }

-- ---- what is kept

-- what is taken from the end of a list
pub take-back : (facts : List LiveFact) (n : ℕ) (d : LiveFact) → n < length facts → reverse (take (n + 1) facts) ≡ get_or facts n d ∷ reverse (take n facts)
take-back facts n d lt = ap reverse (one facts n lt) ∙ reverse-append (take n facts) (get_or facts n d ∷ [])
  where
    one : (facts : List LiveFact) (n : ℕ) → n < length facts → take (n + 1) facts ≡ take n facts ++ get_or facts n d ∷ []
    one [] n lt = absurd (omega arith)
    one (f ∷ facts) zero lt = refl
    one (f ∷ facts) (suc n) lt =
        let number : suc n + 1 ≡ suc (n + 1) = omega arith in
        ap (λ k. take k (f ∷ facts)) number ∙ ap (λ l. f ∷ l) (one facts n (omega arith))

map-snoc : {A B : Type 0} (g : A → B) (xs : List A) (x : A) → map g (xs ++ x ∷ []) ≡ map g xs ++ g x ∷ []
map-snoc g [] x = refl
map-snoc g (y ∷ ys) x = ap (λ l. g y ∷ l) (map-snoc g ys x)

map-reverse : {A B : Type 0} (g : A → B) (xs : List A) → map g (reverse xs) ≡ reverse (map g xs)
map-reverse g [] = refl
map-reverse g (x ∷ xs) = ap (map g) (reverse_onto xs x []) ∙ map-snoc g (reverse xs) x ∙ ap (λ l. l ++ g x ∷ []) (map-reverse g xs) ∙ sym (reverse_onto (map g xs) (g x) [])

-- what was found from the end of the table, as a claim keeps it
pub found-picks : (program : Program) (root : ℕ) (facts : List LiveFact) (found : List StoredKept) → found ≡ with_all_picked root [] (reverse facts)
    → kept_facts_of program (reverse found) ≡ picks root [] (newest program facts)
found-picks program root facts found is =
    sym (map-reverse (kept_fact_of program) (reverse found)) ∙ ap (map (kept_fact_of program)) (reverse-reverse found ∙ is) ∙ picked-stands program root [] (reverse facts)
    ∙ ap (picks root []) (map-reverse (kept_of program) facts)

-- a claim of it may be made
pub found-kept : (opening : Opening) (state : State) (table : FactTable) (w : ℕ) (root : FactId) (stored : List StoredKept) → IsFullTable opening.program opening.limits.facts state table
    → Keeps opening state → IsClaimable state root.0 → kept_facts_of opening.program stored ≡ picks root.0 [] (newest opening.program table.live)
    → let kept : KeptTree = record { program = opening.program; worker = w; root = root.0; facts = kept_facts_of opening.program stored } in
    IsKept kept × IsClaimFor opening state w root.0 kept
found-kept opening state table w root stored is keeps claimable same = (
  record {
    are_kept = subst (AreKept opening.program) (sym facts_are) (below-are-kept opening.program state.live facts root.0 keeps.falls live_kept below);
    i = claimable.i;
    root_fails = ap (λ l. home_at l root.0) facts_are ∙ root_home;
  },
  record {
    program_is = refl;
    worker_is = refl;
    root_is = refl;
    agrees = subst (λ l. (f : KeptFact) → (Contains l f → IsBelow state.live root.0 f) × (IsBelow state.live root.0 f → Contains l f)) (sym facts_are) below.exactly;
  },
)
  where
    facts : List KeptFact
    facts = picks root.0 [] state.live

    facts_are : kept_facts_of opening.program stored ≡ facts
    facts_are = same ∙ ap (picks root.0 []) (sym is.table_is.live_is)

    live_kept : AreKept opening.program state.live
    live_kept = derived-kept opening.program opening.rule state.sets state.live keeps.falls keeps.derived

    below : AreBelow state.live root.0 facts
    below = picks-below opening.program state.live root.0 keeps.falls live_kept

    root_home : home_at facts root.0 ≡ Some (AtLocation claimable.i 0)
    root_home =
        let (r, there, id_is, fact_is) = fact_at-found state.live root.0 claimable.fact claimable.is_live in
        let among = (below.exactly r).1 (itself r there id_is) in
        let found = found-fact_at facts r below.falls among in
        ap (home_at facts) (sym id_is) ∙ ap (option_map (λ fact. Fact.home fact)) found ∙ ap (λ h. Some h) (ap (λ h. Fact.home h) fact_is ∙ claimable.fails)

-- ---- a claim is made

pub claim-allowed : (opening : Opening) (state : State) (w id : ℕ) → IsWorker opening w → state.stop ≡ None → IsFree state w → IsClaimable state id → Allows opening state (Claim w id)
claim-allowed opening state w id worker none free claimable = record {
  worker = worker;
  suits = (none, record { free = free; fact = claimable.fact; i = claimable.i; is_live = claimable.is_live; fails = claimable.fails; unclaimed = claimable.unclaimed });
}

pub kept-claimed : (inside later : Inside) (w : ℕ) (root : FactId) → IsKeptCore inside → Allows (opening_of (seen inside)) (state_of (seen inside)) (Claim w root.0)
    → later.claims.items ≡ slice_set inside.claims.items (w - 1) (Some root)
    → later.journal.items ≡ inside.journal.items ++ stored_event.Claim w root ∷ [] → vec_capacity inside.journal ≤ vec_capacity later.journal
    → later ≡ record inside { claims = later.claims; journal = later.journal } → IsKeptCore later
kept-claimed inside later w root kept allowed claims_are journal capacity same =
    let o = opening_of (seen inside) in
    let state = state_of (seen inside) in
    let claim : Claimed = record { worker = w; root = root.0 } in
    let claimed : State = record state { claims = claim ∷ state.claims } in
    let mid : Inside = record inside { claims = later.claims; journal = later.journal } in
    let holds = kept.holds in
    let made : Holds o claimed mid = record {
      lists = record { one_each = holds.lists.one_each; each = holds.lists.each };
      shared = holds.shared;
      epochs = record { one_each = holds.epochs.one_each; each = holds.epochs.each };
      table = table-same o.program o.limits.facts state claimed inside.table refl refl holds.table;
      waiting = record {
        is_for = holds.waiting.is_for;
        rule_is = holds.waiting.rule_is;
        room_is = holds.waiting.room_is;
        given_is = holds.waiting.given_is;
        live_is = holds.waiting.live_is;
        opens = λ none j. (
          λ is_open. pending-of o state claimed (instance_of j) (λ task q. record { has_kind = q.has_kind; leads = q.leads; present = q.present; not_done = q.not_done; not_held = q.not_held }) ((holds.waiting.opens none j).0 is_open),
          λ waits. (holds.waiting.opens none j).1 (pending-of o claimed state (instance_of j) (λ task p. record { has_kind = p.has_kind; leads = p.leads; present = p.present; not_done = p.not_done; not_held = p.not_held }) waits),
        );
      };
      holds = record { one_each = holds.holds.one_each; each = holds.holds.each; homes_are = holds.holds.homes_are };
      claims = subst (AreClaims o.workers claimed) (sym claims_are)
          (claims-set o.workers state claimed inside.claims.items w (Some root) holds.claims allowed.worker.from_1 allowed.worker.within
          (claimed-first claim state.claims w refl) (λ v other. claimed-behind claim state.claims v (λ e. other (sym e))));
      published = holds.published;
      refined = holds.refined;
      stop = subst (λ items. IsStopAt claimed items inside.stopped) (sym journal) (stop-still state claimed inside.journal.items (stored_event.Claim w root) inside.stopped refl holds.stop);
    } in
    kept-event inside later (stored_event.Claim w root) kept (ap (λ x. (Inside.program x).now) same) (ap (λ x. opening_of (seen x)) same) (ap (λ x. Inside.limits x) same) (ap (λ x. Inside.workers x) same)
    journal capacity allowed (subst (Holds o claimed) (sym same) made)

-- ---- answers

pub claim-stopped : (old : Course) (w : ℕ) → (state_of old).stop ≢ None → MakesClaim old w told.Stopped old
claim-stopped old w stop = record { answer = Stopped; events = []; is_answer = stopped stop; tells = tt; course = refl }

pub claim-holds : (old : Course) (w : ℕ) → (state_of old).stop ≡ None → (¬ IsFree (state_of old) w) → MakesClaim old w told.HoldsAlready old
claim-holds old w none not_free = record { answer = HoldsAlready; events = []; is_answer = holds none not_free; tells = tt; course = refl }

pub claim-nothing : (old : Course) (w : ℕ) → (state_of old).stop ≡ None → IsFree (state_of old) w → AreAllClaimed (state_of old) → MakesClaim old w told.NothingClaimable old
claim-nothing old w none free all = record { answer = NothingClaimable; events = []; is_answer = none_claimable none free all; tells = tt; course = refl }

pub claim-made : (old : Course) (w : ℕ) (root : FactId) (kept : KeptTree) (later : Course) → (state_of old).stop ≡ None → IsFree (state_of old) w → IsClaimable (state_of old) root.0
    → IsClaimFor (opening_of old) (state_of old) w root.0 kept → later ≡ with_events old (Claim w root.0 ∷ []) → MakesClaim old w (told.Kept kept) later
claim-made old w root kept later none free claimable for course = record {
  answer = GivesClaim root.0;
  events = Claim w root.0 ∷ [];
  is_answer = gives root.0 none
      (record { free = free; fact = claimable.fact; i = claimable.i; is_live = claimable.is_live; fails = claimable.fails; unclaimed = claimable.unclaimed });
  tells = for;
  course = course;
}
