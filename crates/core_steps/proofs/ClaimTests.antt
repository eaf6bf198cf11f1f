-- What is tested of the facts that are kept of a claim.
use Rattle.std.proofs.Common.{◌≡◌, ◌<◌, ◌+◌, ℕ, zero, suc, Bool, true, false, ◌||◌, List, [], ◌∷◌, ◌++◌, length, map, take, get_or, Option, Some, None, refl, sym, ap, subst, ◌∙◌, inl, inr, arith}
use Rattle.std.specs.Prelude.{◌==◌, option_map, reverse, IsSome, unwrap_or}
use Rattle.std.specs.List.{AllByRecursion, Contains, list_all}
use Rattle.std.proofs.lemmas.Grind.{reverse_onto}
use Rattle.thr_base.specs.declared.names.FactId.{FactId}
use Rattle.thr_base.specs.declared.names.Fact.{Fact as StoredFact}
use Rattle.thr_base.specs.declared.names.Instance.{Instance as StoredInstance}
use Rattle.thr_base.proofs.Positions.{positions-tell}
use Rattle.fact_table.specs.declared.live_fact.LiveFact.{LiveFact}
use Rattle.fact_table.specs.Live.{live_at}
use Rattle.fact_table.specs.Table.{FactTable, HasHome}
use Rattle.transition_formula.specs.Program.{Program, at_number}
use Rattle.horn_rules.specs.Home.{Home, State as AtLocation, homes}
use Rattle.horn_rules.specs.Instance.{premises_of}
use Rattle.horn_rules.specs.Laws.{IsWord}
use Rattle.horn_rules.specs.Stored.{fact_of, home_numbered, instance_of}
use Rattle.horn_rules.proofs.Lists.{Contains-first, Contains-later, first-or-later, contains-nothing, all-contained, Contains-map, Contains-unmap}
use Rattle.horn_rules.proofs.ByNumber.{Contains-append}
use Rattle.horn_rules.proofs.InstanceLists.{eq-is, is-eq}
use Rattle.horn_rules.proofs.HomesThere.{state-thread}
use Rattle.horn_rules.proofs.Numbers.{home-numbered}
use Rattle.horn_rules.proofs.StoredSets.{facts-tell}
use Rattle.derivation_tree.specs.Facts.{KeptFact}
use Rattle.derivation_tree.specs.Kept.{KeptTree, IsKept, kept_fact_of, kept_facts_of}
use Rattle.core_steps.specs.State.{State}
use Rattle.core_steps.specs.Readers.{kept_of}
use Rattle.core_steps.specs.Withdrawn.{has_id}
use Rattle.core_steps.specs.Claims.{KeptAgrees}
use Rattle.core_steps.specs.inside.Parts.{IsFullTable}
use Rattle.core_steps.specs.inside.Standing.{names, names_any, are_all_below}
use Rattle.core_steps.proofs.Tests.{true-false, either, any-from, any-at, all-at}
use Rattle.core_steps.proofs.KeptEvents.{one-instance}
use Rattle.core_steps.proofs.Live.{Falls, one-id, has_id-at}
use Rattle.core_steps.proofs.PremiseFacts.{live_at-found, fact-home, unknown-live}
use Rattle.core_steps.proofs.Agreements.{there-newest}
use Rattle.core_steps.proofs.ClaimAgreements.{IsNamedBelow, named-agrees, agrees-live, agrees-named}

-- a fact as it is stored in what is kept
abbrev pub StoredKept : Type 0
StoredKept = FactId × StoredFact × StoredInstance

-- ---- lists

-- one more that is so
pub all-taken : {A : Type 0} (P : A → Type 0) (xs : List A) (i : ℕ) (d : A) → i < length xs → AllByRecursion P (take i xs) → P (get_or xs i d) → AllByRecursion P (take (i + 1) xs)
all-taken P [] i d lt all one = absurd (omega arith)
all-taken P (x ∷ xs) zero d lt all one = (one, tt)
all-taken P (x ∷ xs) (suc i) d lt all one =
    let rest : AllByRecursion P (take (i + 1) xs) = all-taken P xs i d (omega arith) all.1 one in
    let number : suc (i + 1) ≡ suc i + 1 = omega arith in
    subst (λ n. AllByRecursion P (take n (x ∷ xs))) number (all.0, rest)

-- what is so of all is so of one
pub all-one : {A : Type 0} (P : A → Type 0) (xs : List A) (i : ℕ) (d : A) → i < length xs → AllByRecursion P xs → P (get_or xs i d)
all-one P [] i d lt all = absurd (omega arith)
all-one P (x ∷ xs) zero d lt all = all.0
all-one P (x ∷ xs) (suc i) d lt all = all-one P xs i d (omega arith) all.1

pub reverse-from : {A : Type 0} (xs : List A) (y : A) → Contains (reverse xs) y → Contains xs y
reverse-from [] y there = there
reverse-from (x ∷ xs) y there = elim (Contains-append (reverse xs) (x ∷ []) y (subst (λ l. Contains l y) (reverse_onto xs x []) there)) [
  | inl front ↦ Contains-later x y xs (reverse-from xs y front)
  | inr last ↦ elim (first-or-later x y [] last) [
    | inl same ↦ subst (Contains (x ∷ xs)) same (Contains-first x xs)
    | inr nothing ↦ absurd (contains-nothing y nothing)
  ]
]

pub in-front : {A : Type 0} (xs ys : List A) (x : A) → Contains xs x → Contains (xs ++ ys) x
in-front [] ys x there = absurd (contains-nothing x there)
in-front (z ∷ zs) ys x there = elim (first-or-later z x zs there) [
  | inl same ↦ subst (Contains (z ∷ (zs ++ ys))) same (Contains-first z (zs ++ ys))
  | inr later ↦ Contains-later z x (zs ++ ys) (in-front zs ys x later)
]

pub at-end : {A : Type 0} (xs : List A) (x : A) → Contains (xs ++ x ∷ []) x
at-end [] x = Contains-first x []
at-end (z ∷ zs) x = Contains-later z x (zs ++ x ∷ []) (at-end zs x)

reverse-to : {A : Type 0} (xs : List A) (y : A) → Contains xs y → Contains (reverse xs) y
reverse-to [] y there = there
reverse-to (x ∷ xs) y there = subst (λ l. Contains l y) (sym (reverse_onto xs x [])) (elim (first-or-later x y xs there) [
  | inl same ↦ subst (λ z. Contains (reverse xs ++ x ∷ []) z) same (at-end (reverse xs) x)
  | inr later ↦ in-front (reverse xs) (x ∷ []) y (reverse-to xs y later)
])

all-of : {A : Type 0} (P : A → Type 0) (xs : List A) → ((x : A) → Contains xs x → P x) → AllByRecursion P xs
all-of P [] each = tt
all-of P (x ∷ xs) each = (each x (Contains-first x xs), all-of P xs (λ y there. each y (Contains-later x y xs there)))

-- ---- one fact

-- what stands for the same home as a number that is there is there
home-there : (program : Program) (m n : ℕ) → IsSome (at_number (homes program) m) → home_numbered program n ≡ home_numbered program m → IsSome (at_number (homes program) n)
home-there program m n there same = by-home (at_number (homes program) n) (at_number (homes program) m) refl refl
  where
    no-thread : IsSome (at_number program.threads 0) → ⊥
    no-thread some = true-false false some refl

    by-home : (o p : Option Home) → at_number (homes program) n ≡ o → at_number (homes program) m ≡ p → IsSome (at_number (homes program) n)
    by-home (Some h) p is at = subst (λ x. IsSome x) (sym is) refl
    by-home None None is at = true-false false (subst (λ x. IsSome x) at there) refl
    by-home None (Some h) is at =
        let zero_home : AtLocation 0 0 ≡ h = sym (ap (λ o. unwrap_or o (AtLocation 0 0)) is) ∙ same ∙ ap (λ o. unwrap_or o (AtLocation 0 0)) at in
        absurd (no-thread (state-thread program 0 0 (home-numbered program m (AtLocation 0 0) (at ∙ ap (λ x. Some x) (sym zero_home)))))

known-both : (live : List LiveFact) (id : ℕ) (fact : StoredFact) (kept : StoredInstance) → option_map {U = StoredFact × StoredInstance} (λ f. (LiveFact.fact f, LiveFact.kept f)) (live_at live id) ≡ Some (fact, kept)
    → (f : LiveFact) × (live_at live id ≡ Some f) × (f.fact ≡ fact) × (f.kept ≡ kept)
known-both live id fact kept e = by-option (live_at live id) refl e
  where
    by-option : (o : Option LiveFact) → live_at live id ≡ o → option_map {U = StoredFact × StoredInstance} (λ f. (LiveFact.fact f, LiveFact.kept f)) o ≡ Some (fact, kept)
        → (f : LiveFact) × (live_at live id ≡ Some f) × (f.fact ≡ fact) × (f.kept ≡ kept)
    by-option None at is = cc
    by-option (Some f) at is =
        let one : StoredFact × StoredInstance = (f.fact, f.kept) in
        let other : StoredFact × StoredInstance = (fact, kept) in
        let both : one ≡ other = cc in
        (f, at, ap (λ (p : StoredFact × StoredInstance). p.0) both, ap (λ (p : StoredFact × StoredInstance). p.1) both)

-- a fact of which the table knows nothing is not live
pub unknown-kept : (program : Program) (limit : ℕ) (state : State) (table : FactTable) (stored : StoredKept) → IsFullTable program limit state table
    → option_map {U = StoredFact × StoredInstance} (λ f. (LiveFact.fact f, LiveFact.kept f)) (live_at table.live stored.0.0) ≡ None
    → Contains state.live (kept_fact_of program stored) → ⊥
unknown-kept program limit state table stored is none there =
    true-false (has_id state.live stored.0.0) (has_id-at state.live (kept_fact_of program stored) there) (unknown-live program limit state table stored.0.0 is none)

-- what the table knows of an id is what is live, exactly where both are the same
pub known-kept : (program : Program) (limit : ℕ) (state : State) (table : FactTable) (stored : StoredKept) (fact : StoredFact) (instance : StoredInstance) → IsFullTable program limit state table
    → Falls state.live → IsWord stored.1 → option_map {U = StoredFact × StoredInstance} (λ f. (LiveFact.fact f, LiveFact.kept f)) (live_at table.live stored.0.0) ≡ Some (fact, instance)
    → ((fact ≡ stored.1) × (instance ≡ stored.2) → Contains state.live (kept_fact_of program stored)) × (Contains state.live (kept_fact_of program stored) → (fact ≡ stored.1) × (instance ≡ stored.2))
known-kept program limit state table stored fact instance is falls word known = (to, from)
  where
    found : (f : LiveFact) × (live_at table.live stored.0.0 ≡ Some f) × (f.fact ≡ fact) × (f.kept ≡ instance)
    found = known-both table.live stored.0.0 fact instance known

    f : LiveFact
    f = found.0

    in_table : Contains table.live f
    in_table = (live_at-found table.live stored.0.0 f found.1).0

    id_is : f.id.0 ≡ stored.0.0
    id_is = (live_at-found table.live stored.0.0 f found.1).1

    live : Contains state.live (kept_of program f)
    live = subst (λ l. Contains l (kept_of program f)) (sym is.table_is.live_is) (there-newest program table.live f in_table)

    equal : (a : StoredFact) (i : StoredInstance) (n : ℕ) → n ≡ stored.0.0 → a ≡ stored.1 → i ≡ stored.2
        → record { id = n; fact = fact_of program a; kept = instance_of i } ≡ kept_fact_of program stored
    equal a i n p q r =
        let made : KeptFact = record { id = n; fact = fact_of program a; kept = instance_of i } in
        ap (λ x. record made { id = x }) p ∙ ap (λ x. record made { id = stored.0.0; fact = fact_of program x }) q
        ∙ ap (λ x. record made { id = stored.0.0; fact = fact_of program stored.1; kept = instance_of x }) r

    to : (fact ≡ stored.1) × (instance ≡ stored.2) → Contains state.live (kept_fact_of program stored)
    to same = subst (Contains state.live) (equal f.fact f.kept f.id.0 id_is (found.2 ∙ same.0) (found.3 ∙ same.1)) live

    from : Contains state.live (kept_fact_of program stored) → (fact ≡ stored.1) × (instance ≡ stored.2)
    from there =
        let one = one-id state.live (kept_of program f) (kept_fact_of program stored) falls live there id_is in
        let facts : fact_of program f.fact ≡ fact_of program stored.1 = ap (λ g. KeptFact.fact g) one in
        let instances : instance_of f.kept ≡ instance_of stored.2 = ap (λ g. KeptFact.kept g) one in
        let word_f = all-contained (λ (h : LiveFact). IsWord h.fact) table.live f is.words in_table in
        let home_f = fact-home program table f.fact is.table_is.homes_are (all-contained (λ (h : LiveFact). HasHome table.homes h.fact.home.0) table.live f is.table_is.is_table.at_homes in_table) in
        let home = home-there program f.fact.home.0 stored.1.home.0 home_f (sym (ap (λ (g : KeptFact). g.fact.home) one)) in
        (sym found.2 ∙ facts-tell positions-tell program f.fact stored.1 word_f word home_f home facts, sym found.3 ∙ one-instance f.kept stored.2 instances)

-- ---- all facts

stored-from : (program : Program) (stored : List StoredKept) (f : KeptFact) → Contains (kept_facts_of program stored) f → (x : StoredKept) × Contains stored x × (kept_fact_of program x ≡ f)
stored-from program stored f there = Contains-unmap (kept_fact_of program) stored f (reverse-from (map (kept_fact_of program) stored) f there)

stored-to : (program : Program) (stored : List StoredKept) (x : StoredKept) → Contains stored x → Contains (kept_facts_of program stored) (kept_fact_of program x)
stored-to program stored x there = reverse-to (map (kept_fact_of program) stored) (kept_fact_of program x) (Contains-map (kept_fact_of program) stored x there)

named-test : (program : Program) (stored : List StoredKept) (root : ℕ) → are_all_below root stored ≡ true
    → (f : KeptFact) → Contains (kept_facts_of program stored) f → IsNamedBelow (kept_facts_of program stored) root f
named-test program stored root passes f there =
    let (x, among, is) = stored-from program stored f there in
    let id_is : x.0.0 ≡ f.id = ap (λ g. KeptFact.id g) is in
    let one = all-contained (λ (y : StoredKept). (y.0.0 == root || names_any stored y.0.0) ≡ true) stored x (all-at (λ (y : StoredKept). y.0.0 == root || names_any stored y.0.0) stored passes) among in
    elim (either (x.0.0 == root) (names_any stored x.0.0) one) [
      | inl hit ↦ inl (sym id_is ∙ eq-is x.0.0 root hit)
      | inr named ↦
          let (y, also, by) = any-from (λ (y : StoredKept). names (instance_of y.2) x.0.0) stored named in
          let (p, premise, same) = any-from (λ q. q == x.0.0) (premises_of (instance_of y.2)) by in
          inr (kept_fact_of program y, stored-to program stored y also, subst (Contains (premises_of (instance_of y.2))) (eq-is p x.0.0 same ∙ id_is) premise)
    ]

test-named : (program : Program) (stored : List StoredKept) (root : ℕ) → ((f : KeptFact) → Contains (kept_facts_of program stored) f → IsNamedBelow (kept_facts_of program stored) root f)
    → are_all_below root stored ≡ true
test-named program stored root named = passes stored (λ x there. there)
  where
    one : (x : StoredKept) → Contains stored x → (x.0.0 == root || names_any stored x.0.0) ≡ true
    one x there = elim (named (kept_fact_of program x) (stored-to program stored x there)) [
      | inl is ↦ let hit = is-eq x.0.0 root is in rw hit refl
      | inr above ↦
          let (y, also, is) = stored-from program stored above.0 above.1 in
          let premise : Contains (premises_of (instance_of y.2)) x.0.0 = subst (λ g. Contains (premises_of (KeptFact.kept g)) x.0.0) (sym is) above.2 in
          let by = any-at (λ q. q == x.0.0) (premises_of (instance_of y.2)) x.0.0 premise (is-eq x.0.0 x.0.0 refl) in
          let hit : names_any stored x.0.0 ≡ true = any-at (λ (z : StoredKept). names (instance_of z.2) x.0.0) stored y also by in
          or-true (x.0.0 == root) (names_any stored x.0.0) hit
    ]
      where
        or-true : (a b : Bool) → b ≡ true → (a || b) ≡ true
        or-true true b e = refl
        or-true false b e = e

    passes : (xs : List StoredKept) → ((x : StoredKept) → Contains xs x → Contains stored x) → list_all (λ (x : StoredKept). x.0.0 == root || names_any stored x.0.0) xs ≡ true
    passes [] inside = refl
    passes (x ∷ xs) inside =
        let hit = one x (inside x (Contains-first x xs)) in
        let rest = passes xs (λ y there. inside y (Contains-later x y xs there)) in
        rw hit rest

-- the tests tell whether a claim agrees
pub tests-agree : (state : State) (kept : KeptTree) (stored : List StoredKept) → IsKept kept → Falls state.live → kept_facts_of kept.program stored ≡ kept.facts
    → AllByRecursion (λ x. Contains state.live (kept_fact_of kept.program x)) stored → are_all_below kept.root stored ≡ true → KeptAgrees state kept
tests-agree state kept stored is falls same lives passes = named-agrees state kept is falls
    (λ f there. let (x, among, e) = stored-from kept.program stored f (subst (λ l. Contains l f) (sym same) there) in
    subst (Contains state.live) e (all-contained (λ (y : StoredKept). Contains state.live (kept_fact_of kept.program y)) stored x lives among))
    (subst (λ l. (f : KeptFact) → Contains l f → IsNamedBelow l kept.root f) same (named-test kept.program stored kept.root passes))

pub agree-lives : (state : State) (kept : KeptTree) (stored : List StoredKept) → kept_facts_of kept.program stored ≡ kept.facts → KeptAgrees state kept
    → AllByRecursion (λ x. Contains state.live (kept_fact_of kept.program x)) stored
agree-lives state kept stored same agrees = all-of (λ (x : StoredKept). Contains state.live (kept_fact_of kept.program x)) stored
    (λ x there. agrees-live state kept agrees (kept_fact_of kept.program x) (subst (λ l. Contains l (kept_fact_of kept.program x)) same (stored-to kept.program stored x there)))

pub agree-passes : (state : State) (kept : KeptTree) (stored : List StoredKept) → kept_facts_of kept.program stored ≡ kept.facts → KeptAgrees state kept → are_all_below kept.root stored ≡ true
agree-passes state kept stored same agrees =
    test-named kept.program stored kept.root (subst (λ l. (f : KeptFact) → Contains l f → IsNamedBelow l kept.root f) (sym same) (agrees-named state kept agrees))
