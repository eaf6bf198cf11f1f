-- What is kept of a claim is exactly what is below its root.
use Rattle.std.proofs.Common.{◌≡◌, ◌⊎◌, ◌<◌, ◌≤◌, ℕ, Bool, true, false, ◌||◌, List, [], ◌∷◌, ◌++◌, map, Some, refl, sym, ap, subst, ◌∙◌, inl, inr, arith}
use Rattle.std.specs.Prelude.{◌==◌, if◌then◌else◌}
use Rattle.std.specs.List.{AllByRecursion, Contains, list_any}
use Rattle.std.proofs.lemmas.List.{map-append}
use Rattle.thr_base.specs.declared.names.RuleName.{RuleName}
use Rattle.lin_rows.proofs.Lists.{AllByRecursion-weaken}
use Rattle.fact_table.specs.declared.live_fact.LiveFact.{LiveFact}
use Rattle.transition_formula.specs.Program.{Program}
use Rattle.horn_rules.specs.Fact.{Sets, Statement, statement_of}
use Rattle.horn_rules.specs.Instance.{Instance, Init, Own, Guar, Env, Inter, premises_of, map_instance}
use Rattle.horn_rules.specs.Target.{target_of}
use Rattle.horn_rules.specs.Stored.{instance_of}
use Rattle.horn_rules.proofs.Targets.{cases-have-their-target}
use Rattle.horn_rules.proofs.Lists.{Contains-first, Contains-later, first-or-later, contains-nothing, all-contained}
use Rattle.horn_rules.proofs.ByNumber.{Contains-append}
use Rattle.horn_rules.proofs.InstanceLists.{eq-is, is-eq}
use Rattle.derivation_tree.specs.Facts.{KeptFact, target_among, AreKept}
use Rattle.derivation_tree.specs.Kept.{kept_fact_of}
use Rattle.core_steps.specs.Readers.{kept_of}
use Rattle.core_steps.specs.Claims.{IsBelow, itself, premise}
use Rattle.core_steps.specs.inside.Standing.{names, names_any}
use Rattle.core_steps.specs.inside.Claiming.{with_picked, with_all_picked}
use Rattle.core_steps.proofs.Tests.{tells, either, neither, true-false, any-from, any-at}
use Rattle.core_steps.proofs.Live.{Falls, map-map, target_among-premises}
use Rattle.core_steps.proofs.Derived.{AreDerived}
use Rattle.core_steps.proofs.Events.{leads-found}
use Rattle.core_steps.proofs.ClaimAgreements.{premise-behind}
use Rattle.core_steps.proofs.ClaimTests.{StoredKept, in-front, at-end}

-- ---- derived facts are kept ones

pub derived-kept : (program : Program) (rule : RuleName) (sets : Sets) (live : List KeptFact) → Falls live → AreDerived program rule sets live → AreKept program live
derived-kept program rule sets [] falls all = tt
derived-kept program rule sets (f ∷ earlier) falls all =
    let over = all.0.is_over in
    let led = cases-have-their-target program (map_instance (λ (g : KeptFact). statement_of sets g.fact) over.premises) all.0.given over.is_case in
    let same = map-map (λ (g : KeptFact). statement_of sets g.fact) (λ statement. Statement.home statement) over.premises in
    let among : target_among program earlier f.kept ≡ Some f.fact.home =
    ap (target_among program earlier) (sym over.ids_are) ∙ target_among-premises program earlier over.premises falls.1 over.are_live ∙ ap (target_of program) (sym same) ∙ led
    ∙ ap (λ h. Some h) (sym all.0.is_fact.at_target) in
    (among, falls.0, derived-kept program rule sets earlier falls.1 all.1)

-- ---- a part that has all premises is kept

-- where a kept fact leads from
record LeadsFrom (program : Program) (live : List KeptFact) (f : KeptFact) : Type 0 where
  premises : Instance KeptFact
  ids : map_instance (λ (g : KeptFact). g.id) premises ≡ f.kept
  are_live : AllByRecursion (Contains live) (premises_of premises)
  leads : target_of program (map_instance (λ (g : KeptFact). g.fact.home) premises) ≡ Some f.fact.home

leads-from : (program : Program) (live : List KeptFact) (f : KeptFact) → Falls live → AreKept program live → Contains live f → LeadsFrom program live f
leads-from program [] f falls kept there = absurd (contains-nothing f there)
leads-from program (x ∷ xs) f falls kept there = elim (first-or-later x f xs there) [
  | inl same ↦
      let found = leads-found program xs x.kept x.fact.home kept.0 in
      subst (LeadsFrom program (x ∷ xs)) same (record {
        premises = found.premises;
        ids = found.ids;
        are_live = AllByRecursion-weaken (Contains xs) (Contains (x ∷ xs)) (λ g is. Contains-later x g xs is) (premises_of found.premises) found.are_live;
        leads = sym (target_among-premises program xs found.premises falls.1 found.are_live) ∙ ap (target_among program xs) found.ids ∙ kept.0;
      })
  | inr later ↦
      let from = leads-from program xs f falls.1 kept.2 later in
      record {
        premises = from.premises;
        ids = from.ids;
        are_live = AllByRecursion-weaken (Contains xs) (Contains (x ∷ xs)) (λ g is. Contains-later x g xs is) (premises_of from.premises) from.are_live;
        leads = from.leads;
      }
]

-- The premises of these facts, which are live, are among them.
abbrev HavePremises : List KeptFact → List KeptFact → Type 0
HavePremises live facts = (f g : KeptFact) → Contains facts f → Contains live g → Contains (premises_of f.kept) g.id → Contains facts g

-- what the instance names is a premise
named-premises : (P : KeptFact → Type 0) (premises : Instance KeptFact) → ((g : KeptFact) → Contains (premises_of premises) g → Contains (premises_of (map_instance (λ (h : KeptFact). h.id) premises)) g.id → P g)
    → AllByRecursion P (premises_of premises)
named-premises P (Init i) each = tt
named-premises P (Own f e) each = (each f (Contains-first f []) (Contains-first f.id []), tt)
named-premises P (Guar f e) each = (each f (Contains-first f []) (Contains-first f.id []), tt)
named-premises P (Env f t) each =
    (each f (Contains-first f (t ∷ [])) (Contains-first f.id (t.id ∷ [])), (each t (Contains-later f t (t ∷ []) (Contains-first t [])) (Contains-later f.id t.id (t.id ∷ []) (Contains-first t.id [])), tt))
named-premises P (Inter f g e) each =
    (each f (Contains-first f (g ∷ [])) (Contains-first f.id (g.id ∷ [])), (each g (Contains-later f g (g ∷ []) (Contains-first g [])) (Contains-later f.id g.id (g.id ∷ []) (Contains-first g.id [])), tt))

part-kept : (program : Program) (live facts : List KeptFact) → Falls live → AreKept program live → Falls facts → ((f : KeptFact) → Contains facts f → Contains live f) → HavePremises live facts → AreKept program facts
part-kept program live [] falls kept falling inside closed = tt
part-kept program live (x ∷ xs) falls kept falling inside closed =
    let from = leads-from program live x falls kept (inside x (Contains-first x xs)) in
    let behind : AllByRecursion (Contains xs) (premises_of from.premises) =
    named-premises (Contains xs) from.premises (λ g among named.
    let named_x : Contains (premises_of x.kept) g.id = subst (λ i. Contains (premises_of i) g.id) from.ids named in
    let g_live = all-contained (Contains live) (premises_of from.premises) g from.are_live among in
    below x g named_x (inside x (Contains-first x xs)) g_live (closed x g (Contains-first x xs) g_live named_x) (omega arith)) in
    let among : target_among program xs x.kept ≡ Some x.fact.home = ap (target_among program xs) (sym from.ids) ∙ target_among-premises program xs from.premises falling.1 behind ∙ from.leads in (
      among,
      falling.0,
      part-kept program live xs falls kept falling.1 (λ f there. inside f (Contains-later x f xs there))
          (λ f g there g_live named.
          let f_below : f.id < x.id = all-contained (λ (h : KeptFact). h.id < x.id) xs f falling.0 there in
          below f g named (inside f (Contains-later x f xs there)) g_live (closed f g (Contains-later x f xs there) g_live named) (omega (arith, f_below))),
    )
  where
    -- a premise of a fact that is not above the first is behind that
    below : (f g : KeptFact) → Contains (premises_of f.kept) g.id → Contains live f → Contains live g → Contains (x ∷ xs) g → f.id ≤ x.id → Contains xs g
    below f g named f_live g_live there le =
        let behind = premise-behind program live f g.id kept f_live named in
        let lt : g.id < f.id = let l = behind.lower in let e = behind.id_is in omega (arith, l, e) in
        elim (first-or-later x g xs there) [
          | inl same ↦ let e : x.id ≡ g.id = ap (λ h. KeptFact.id h) same in absurd (omega (arith, e, lt, le))
          | inr later ↦ later
        ]

-- ---- what is picked

abbrev is_picked : ℕ → List KeptFact → KeptFact → Bool
is_picked root found f = f.id == root || list_any (λ (g : KeptFact). names g.kept f.id) found

abbrev pub picks : ℕ → List KeptFact → List KeptFact → List KeptFact
picks root found [] = found
picks root found (f ∷ facts) = picks root (if is_picked root found f then found ++ f ∷ [] else found) facts

any-mapped : (program : Program) (found : List StoredKept) (id : ℕ) → names_any found id ≡ list_any (λ (g : KeptFact). names g.kept id) (map (kept_fact_of program) found)
any-mapped program [] id = refl
any-mapped program (x ∷ xs) id = ap (λ b. names (instance_of x.2) id || b) (any-mapped program xs id)

-- what is picked of stored facts stands for what is picked
pub picked-stands : (program : Program) (root : ℕ) (found : List StoredKept) (facts : List LiveFact)
    → map (kept_fact_of program) (with_all_picked root found facts) ≡ picks root (map (kept_fact_of program) found) (map (kept_of program) facts)
picked-stands program root found [] = refl
picked-stands program root found (f ∷ facts) =
    picked-stands program root (with_picked root found f) facts ∙ ap (λ xs. picks root xs (map (kept_of program) facts)) one
  where
    same_test : (f.id.0 == root || names_any found f.id.0) ≡ is_picked root (map (kept_fact_of program) found) (kept_of program f)
    same_test = ap (λ b. f.id.0 == root || b) (any-mapped program found f.id.0)

    one : map (kept_fact_of program) (with_picked root found f)
        ≡ if is_picked root (map (kept_fact_of program) found) (kept_of program f) then map (kept_fact_of program) found ++ kept_of program f ∷ [] else map (kept_fact_of program) found
    one = by-test (f.id.0 == root || names_any found f.id.0) refl
      where
        by-test : (b : Bool) → (f.id.0 == root || names_any found f.id.0) ≡ b → map (kept_fact_of program) (with_picked root found f)
            ≡ if is_picked root (map (kept_fact_of program) found) (kept_of program f) then map (kept_fact_of program) found ++ kept_of program f ∷ [] else map (kept_fact_of program) found
        by-test true is =
            ap (λ (b : Bool). map (kept_fact_of program) (if b then found ++ (f.id, f.fact, f.kept) ∷ [] else found)) is
            ∙ map-append (kept_fact_of program) found ((f.id, f.fact, f.kept) ∷ [])
            ∙ sym (ap (λ (b : Bool). if b then map (kept_fact_of program) found ++ kept_of program f ∷ [] else map (kept_fact_of program) found) (sym same_test ∙ is))
        by-test false is =
            ap (λ (b : Bool). map (kept_fact_of program) (if b then found ++ (f.id, f.fact, f.kept) ∷ [] else found)) is
            ∙ sym (ap (λ (b : Bool). if b then map (kept_fact_of program) found ++ kept_of program f ∷ [] else map (kept_fact_of program) found) (sym same_test ∙ is))

-- ---- it is what is below the root

all-but-one : (P : KeptFact → Type 0) (xs ys : List KeptFact) (f : KeptFact) → AllByRecursion P (xs ++ f ∷ ys) → AllByRecursion P (xs ++ ys)
all-but-one P [] ys f all = all.1
all-but-one P (x ∷ xs) ys f all = (all.0, all-but-one P xs ys f all.1)

falls-but-one : (xs ys : List KeptFact) (f : KeptFact) → Falls (xs ++ f ∷ ys) → Falls (xs ++ ys)
falls-but-one [] ys f falls = falls.1
falls-but-one (x ∷ xs) ys f falls = (all-but-one (λ (g : KeptFact). g.id < x.id) xs ys f falls.0, falls-but-one xs ys f falls.1)

falls-back : (xs ys : List KeptFact) → Falls (xs ++ ys) → Falls ys
falls-back [] ys falls = falls
falls-back (x ∷ xs) ys falls = falls-back xs ys falls.1

append-nothing : (xs : List KeptFact) → xs ++ [] ≡ xs
append-nothing [] = refl
append-nothing (x ∷ xs) = ap (λ l. x ∷ l) (append-nothing xs)

append-one : (xs ys : List KeptFact) (f : KeptFact) → (xs ++ f ∷ []) ++ ys ≡ xs ++ f ∷ ys
append-one [] ys f = refl
append-one (x ∷ xs) ys f = ap (λ l. x ∷ l) (append-one xs ys f)

-- what was found so far, and what is left to look at
record IsSoFar (live : List KeptFact) (root : ℕ) (found rest : List KeptFact) : Type 0 where
  sound : (f : KeptFact) → Contains found f → IsBelow live root f
  complete : (f : KeptFact) → IsBelow live root f → Contains found f ⊎ Contains rest f
  left : (f : KeptFact) → Contains rest f → Contains live f
  falls : Falls (found ++ rest)

pub record AreBelow (live : List KeptFact) (root : ℕ) (facts : List KeptFact) : Type 0 where
  pub exactly : (f : KeptFact) → (Contains facts f → IsBelow live root f) × (IsBelow live root f → Contains facts f)
  pub falls : Falls facts

pick-one : (live : List KeptFact) (root : ℕ) (found rest : List KeptFact) (f : KeptFact) → IsSoFar live root found (f ∷ rest) → is_picked root found f ≡ true → IsSoFar live root (found ++ f ∷ []) rest
pick-one live root found rest f so picked = record {
  sound = λ g there. elim (Contains-append found (f ∷ []) g there) [
    | inl before ↦ so.sound g before
    | inr last ↦ elim (first-or-later f g [] last) [ inl same ↦ subst (IsBelow live root) same below_root | inr nothing ↦ absurd (contains-nothing g nothing) ]
  ];
  complete = λ g below. elim (so.complete g below) [
    | inl before ↦ inl (in-front found (f ∷ []) g before)
    | inr left ↦ elim (first-or-later f g rest left) [ inl same ↦ inl (subst (Contains (found ++ f ∷ [])) same (at-end found f)) | inr later ↦ inr later ]
  ];
  left = λ g there. so.left g (Contains-later f g rest there);
  falls = subst Falls (sym (append-one found rest f)) so.falls;
}
  where
    below_root : IsBelow live root f
    below_root = elim (either (f.id == root) (list_any (λ (g : KeptFact). names g.kept f.id) found) picked) [
      | inl hit ↦ itself f (so.left f (Contains-first f rest)) (eq-is f.id root hit)
      | inr named ↦
          let (g, there, by) = any-from (λ (g : KeptFact). names g.kept f.id) found named in
          let (p, among, same) = any-from (λ p. p == f.id) (premises_of g.kept) by in
          premise g f (so.sound g there) (subst (Contains (premises_of g.kept)) (eq-is p f.id same) among) (so.left f (Contains-first f rest))
    ]

skip-one : (program : Program) (live : List KeptFact) (root : ℕ) (found rest : List KeptFact) (f : KeptFact) → AreKept program live → IsSoFar live root found (f ∷ rest) → is_picked root found f ≡ false
    → ((g : KeptFact) → IsBelow live root g → Contains live g) → IsSoFar live root found rest
skip-one program live root found rest f kept so skipped lives = record {
  sound = so.sound;
  complete = λ g below. elim (so.complete g below) [
    | inl before ↦ inl before
    | inr left ↦ elim (first-or-later f g rest left) [ inl same ↦ absurd (not-below (subst (IsBelow live root) (sym same) below)) | inr later ↦ inr later ]
  ];
  left = λ g there. so.left g (Contains-later f g rest there);
  falls = falls-but-one found rest f so.falls;
}
  where
    misses : ((f.id == root) ≡ false) × (list_any (λ (g : KeptFact). names g.kept f.id) found ≡ false)
    misses = neither (f.id == root) (list_any (λ (g : KeptFact). names g.kept f.id) found) skipped

    not-below : IsBelow live root f → ⊥
    not-below below = by-below f refl below
      where
        by-below : (h : KeptFact) → h ≡ f → IsBelow live root h → ⊥
        by-below h e (itself h' there is) = true-false (f.id == root) (is-eq f.id root (sym (ap (λ k. KeptFact.id k) e) ∙ is)) misses.0
        by-below h e (premise g h' above named there) =
            let id_is : h'.id ≡ f.id = ap (λ k. KeptFact.id k) e in
            let behind = premise-behind program live g h'.id kept (lives g above) named in
            let lt : f.id < g.id = let l = behind.lower in let i = behind.id_is in omega (arith, l, i, id_is) in
            elim (so.complete g above) [
              | inl before ↦
                  let hit : names g.kept f.id ≡ true = any-at (λ p. p == f.id) (premises_of g.kept) h'.id named (is-eq h'.id f.id id_is) in
                  true-false (list_any (λ (k : KeptFact). names k.kept f.id) found) (any-at (λ (k : KeptFact). names k.kept f.id) found g before hit) misses.1
              | inr left ↦ elim (first-or-later f g rest left) [
                | inl same ↦ let s : f.id ≡ g.id = ap (λ k. KeptFact.id k) same in omega (arith, s, lt)
                | inr later ↦
                    let low : g.id < f.id = all-contained (λ (k : KeptFact). k.id < f.id) rest g (falls-back found (f ∷ rest) so.falls).0 later in
                    omega (arith, low, lt)
              ]
            ]

below-is-live : (live : List KeptFact) (root : ℕ) (f : KeptFact) → IsBelow live root f → Contains live f
below-is-live live root f (itself f' there is) = there
below-is-live live root f (premise g f' below named there) = there

picks-so-far : (program : Program) (live : List KeptFact) (root : ℕ) (found rest : List KeptFact) → AreKept program live → IsSoFar live root found rest → AreBelow live root (picks root found rest)
picks-so-far program live root found [] kept so = record {
  exactly = λ f. (so.sound f, λ below. elim (so.complete f below) [ inl there ↦ there | inr nothing ↦ absurd (contains-nothing f nothing) ]);
  falls = subst Falls (append-nothing found) so.falls;
}
picks-so-far program live root found (f ∷ rest) kept so = elim (tells (is_picked root found f)) [
  | inl hit ↦
      let at : picks root found (f ∷ rest) ≡ picks root (found ++ f ∷ []) rest = ap (λ (b : Bool). picks root (if b then found ++ f ∷ [] else found) rest) hit in
      subst (AreBelow live root) (sym at) (picks-so-far program live root (found ++ f ∷ []) rest kept (pick-one live root found rest f so hit))
  | inr miss ↦
      let at : picks root found (f ∷ rest) ≡ picks root found rest = ap (λ (b : Bool). picks root (if b then found ++ f ∷ [] else found) rest) miss in
      subst (AreBelow live root) (sym at) (picks-so-far program live root found rest kept (skip-one program live root found rest f kept so miss (below-is-live live root)))
]

-- of all live facts exactly those below the root are picked
pub picks-below : (program : Program) (live : List KeptFact) (root : ℕ) → Falls live → AreKept program live → AreBelow live root (picks root [] live)
picks-below program live root falls kept = picks-so-far program live root [] live kept (record {
  sound = λ f there. absurd (contains-nothing f there);
  complete = λ f below. inr (below-is-live live root f below);
  left = λ f there. there;
  falls = falls;
})

-- and they are kept
pub below-are-kept : (program : Program) (live facts : List KeptFact) (root : ℕ) → Falls live → AreKept program live → AreBelow live root facts → AreKept program facts
below-are-kept program live facts root falls kept below =
    part-kept program live facts falls kept below.falls (λ f there. below-is-live live root f ((below.exactly f).0 there))
    (λ f g there g_live named. (below.exactly g).1 (premise f g ((below.exactly f).0 there) named g_live))
