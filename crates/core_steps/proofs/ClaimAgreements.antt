-- What is kept of a claim that agrees with the run, and when it does.
use Rattle.std.proofs.Common.{◌≡◌, ◌⊎◌, ◌<◌, ◌≤◌, ◌+◌, ℕ, zero, suc, true, false, List, [], ◌∷◌, map, Option, Some, None, refl, sym, ap, ap₂, subst, ◌∙◌, inl, inr, arith}
use Rattle.std.specs.Prelude.{◌==◌, option_map}
use Rattle.std.specs.List.{AllByRecursion, Contains}
use Rattle.transition_formula.specs.Program.{Program}
use Rattle.horn_rules.specs.Home.{State as AtLocation}
use Rattle.horn_rules.specs.Fact.{Fact}
use Rattle.horn_rules.specs.Instance.{Instance, Init, Own, Guar, Env, Inter, premises_of, map_instance}
use Rattle.horn_rules.proofs.Lists.{Contains-first, Contains-later, first-or-later, contains-nothing, all-contained, Contains-unmap}
use Rattle.horn_rules.proofs.InstanceLists.{eq-is, is-eq}
use Rattle.derivation_tree.specs.Facts.{KeptFact, fact_at, AreKept}
use Rattle.derivation_tree.specs.Tree.{Tree, tree_over, tree_of}
use Rattle.derivation_tree.specs.Kept.{KeptTree, IsKept}
use Rattle.core_steps.specs.State.{State}
use Rattle.core_steps.specs.Claims.{IsBelow, itself, premise, KeptAgrees}
use Rattle.core_steps.proofs.Tests.{tells}
use Rattle.core_steps.proofs.Live.{Falls, one-id, fact_at-found}
use Rattle.core_steps.proofs.Events.{leads-found}

-- ---- premises

premise-ids : (premises : Instance KeptFact) → premises_of (map_instance (λ (g : KeptFact). g.id) premises) ≡ map (λ (g : KeptFact). g.id) (premises_of premises)
premise-ids (Init i) = refl
premise-ids (Own f e) = refl
premise-ids (Guar f e) = refl
premise-ids (Env f t) = refl
premise-ids (Inter f g e) = refl

-- A fact has this id, and stands among these, before the one of another id.
pub record IsBehind (facts : List KeptFact) (id above : ℕ) : Type 0 where
  pub fact : KeptFact
  pub there : Contains facts fact
  pub id_is : fact.id ≡ id
  pub lower : fact.id < above

-- the premises of a kept fact stand behind it
pub premise-behind : (program : Program) (facts : List KeptFact) (f : KeptFact) (id : ℕ) → AreKept program facts → Contains facts f → Contains (premises_of f.kept) id → IsBehind facts id f.id
premise-behind program [] f id kept there named = absurd (contains-nothing f there)
premise-behind program (x ∷ xs) f id kept there named = elim (first-or-later x f xs there) [
  | inl same ↦
      let found = leads-found program xs x.kept x.fact.home kept.0 in
      let ids : premises_of f.kept ≡ map (λ (g : KeptFact). g.id) (premises_of found.premises) =
      ap (λ g. premises_of (KeptFact.kept g)) (sym same) ∙ ap premises_of (sym found.ids) ∙ premise-ids found.premises in
      let (g, among, is) = Contains-unmap (λ (g : KeptFact). g.id) (premises_of found.premises) id (subst (λ l. Contains l id) ids named) in
      let behind = all-contained (Contains xs) (premises_of found.premises) g found.are_live among in
      let below : g.id < x.id = all-contained (λ (h : KeptFact). h.id < x.id) xs g kept.1 behind in
      record {
        fact = g;
        there = Contains-later x g xs behind;
        id_is = is;
        lower = let at : x.id ≡ f.id = ap (λ h. KeptFact.id h) same in omega (arith, below, at);
      }
  | inr later ↦
      let found = premise-behind program xs f id kept.2 later named in
      record { fact = found.fact; there = Contains-later x found.fact xs found.there; id_is = found.id_is; lower = found.lower }
]

-- the facts that are kept fall
pub kept-falls : (program : Program) (facts : List KeptFact) → AreKept program facts → Falls facts
kept-falls program [] kept = tt
kept-falls program (f ∷ earlier) kept = (kept.1, kept-falls program earlier kept.2)

-- the root is among them
pub root-there : (kept : KeptTree) → IsKept kept → (r : KeptFact) × Contains kept.facts r × (r.id ≡ kept.root)
root-there kept is = by-fact (fact_at kept.facts kept.root) refl
  where
    by-fact : (o : Option Fact) → fact_at kept.facts kept.root ≡ o → (r : KeptFact) × Contains kept.facts r × (r.id ≡ kept.root)
    by-fact None e =
        let wrong : None ≡ Some (AtLocation is.i 0) = sym (ap (option_map (λ fact. Fact.home fact)) e) ∙ is.root_fails in
        absurd cc
    by-fact (Some fact) e = let (r, there, id_is, same) = fact_at-found kept.facts kept.root fact e in (r, there, id_is)

-- ---- what agrees

-- what is below the root is live
below-live : (live : List KeptFact) (root : ℕ) (f : KeptFact) → IsBelow live root f → Contains live f
below-live live root f (itself f' there is) = there
below-live live root f (premise g f' below named there) = there

-- The fact has the root's id, or is a premise of one of these.
abbrev pub IsNamedBelow : List KeptFact → ℕ → KeptFact → Type 0
IsNamedBelow facts root f = (f.id ≡ root) ⊎ ((g : KeptFact) × Contains facts g × Contains (premises_of g.kept) f.id)

-- kept facts that are live and named are below the root
named-below : (program : Program) (facts live : List KeptFact) (root : ℕ) → AreKept program facts → ((f : KeptFact) → Contains facts f → Contains live f)
    → ((f : KeptFact) → Contains facts f → IsNamedBelow facts root f) → (n most : ℕ) → ((f : KeptFact) → Contains facts f → f.id < most)
    → (f : KeptFact) → Contains facts f → most ≤ f.id + n → IsBelow live root f
named-below program facts live root kept lives named zero most few f there high =
    let lt = few f there in absurd (omega (arith, lt, high))
named-below program facts live root kept lives named (suc n) most few f there high = elim (named f there) [
  | inl is ↦ itself f (lives f there) is
  | inr above ↦
      let g = above.0 in
      let behind = premise-behind program facts g f.id kept above.1 above.2 in
      let lower : f.id < g.id = let lt = behind.lower in let e = behind.id_is in omega (arith, lt, e) in
      premise g f (named-below program facts live root kept lives named n most few g above.1 (omega (arith, lower, high))) above.2 (lives f there)
]

-- the ids of kept facts are below some number
ids-below : (program : Program) (facts : List KeptFact) → AreKept program facts → (most : ℕ) × ((f : KeptFact) → Contains facts f → f.id < most)
ids-below program [] kept = (0, λ f there. absurd (contains-nothing f there))
ids-below program (x ∷ xs) kept = (
  x.id + 1,
  λ f there. elim (first-or-later x f xs there) [
    | inl same ↦ let at : x.id ≡ f.id = ap (λ h. KeptFact.id h) same in omega (arith, at)
    | inr later ↦ let lt : f.id < x.id = all-contained (λ (h : KeptFact). h.id < x.id) xs f kept.1 later in omega (arith, lt)
  ],
)

-- what is below the root of live kept facts is kept
below-kept : (kept : KeptTree) (live : List KeptFact) → IsKept kept → Falls live → ((f : KeptFact) → Contains kept.facts f → Contains live f)
    → (f : KeptFact) → IsBelow live kept.root f → Contains kept.facts f
below-kept kept live is falls lives f (itself f' there id_is) =
    let (r, among, root_is) = root-there kept is in
    subst (Contains kept.facts) (one-id live r f' falls (lives r among) there (root_is ∙ sym id_is)) among
below-kept kept live is falls lives f (premise g f' below named there) =
    let above = below-kept kept live is falls lives g below in
    let behind = premise-behind kept.program kept.facts g f'.id is.are_kept above named in
    subst (Contains kept.facts) (one-id live behind.fact f' falls (lives behind.fact behind.there) there behind.id_is) behind.there

-- kept facts agree where they are live and named
pub named-agrees : (state : State) (kept : KeptTree) → IsKept kept → Falls state.live → ((f : KeptFact) → Contains kept.facts f → Contains state.live f)
    → ((f : KeptFact) → Contains kept.facts f → IsNamedBelow kept.facts kept.root f) → KeptAgrees state kept
named-agrees state kept is falls lives named f =
    let (most, few) = ids-below kept.program kept.facts is.are_kept in (
      λ there. named-below kept.program kept.facts state.live kept.root is.are_kept lives named most most few f there (omega arith),
      below-kept kept state.live is falls lives f,
    )

pub agrees-live : (state : State) (kept : KeptTree) → KeptAgrees state kept → (f : KeptFact) → Contains kept.facts f → Contains state.live f
agrees-live state kept agrees f there = below-live state.live kept.root f ((agrees f).0 there)

pub agrees-named : (state : State) (kept : KeptTree) → KeptAgrees state kept → (f : KeptFact) → Contains kept.facts f → IsNamedBelow kept.facts kept.root f
agrees-named state kept agrees f there = by-below f ((agrees f).0 there)
  where
    by-below : (f : KeptFact) → IsBelow state.live kept.root f → IsNamedBelow kept.facts kept.root f
    by-below f (itself f' among is) = inl is
    by-below f (premise g f' below named among) = inr (g, (agrees g).1 below, named)

-- ---- trees

-- among facts whose premises have lower ids, the tree of one is over the trees of all
tree-at : (live : List KeptFact) (f : KeptFact) → Falls live → Contains live f → AllByRecursion (λ id. id < f.id) (premises_of f.kept)
    → tree_of live f.id ≡ tree_over (map_instance (tree_of live) f.kept)
tree-at [] f falls there lower = absurd (contains-nothing f there)
tree-at (x ∷ xs) f falls there lower = elim (first-or-later x f xs there) [
  | inl same ↦
      let here : (x.id == f.id) ≡ true = is-eq x.id f.id (ap (λ h. KeptFact.id h) same) in
      let at : tree_of (x ∷ xs) f.id ≡ tree_over (map_instance (tree_of xs) x.kept) = rw here refl in
      at ∙ ap (λ h. tree_over (map_instance (tree_of xs) (KeptFact.kept h))) same
      ∙ sym (ap tree_over (over f.kept (let e : x.id ≡ f.id = ap (λ h. KeptFact.id h) same in λ id lt. omega (arith, lt, e)) lower))
  | inr later ↦
      let below : f.id < x.id = all-contained (λ (h : KeptFact). h.id < x.id) xs f falls.0 later in
      let not_here : (x.id == f.id) ≡ false = other x.id f.id (λ e. omega (arith, e, below)) in
      let at : tree_of (x ∷ xs) f.id ≡ tree_of xs f.id = rw not_here refl in
      at ∙ tree-at xs f falls.1 later lower ∙ sym (ap tree_over (over f.kept (λ id lt. omega (arith, lt, below)) lower))
]
  where
    other : (m n : ℕ) → (m ≡ n → ⊥) → (m == n) ≡ false
    other m n differ = elim (tells (m == n)) [ inl hit ↦ absurd (differ (eq-is m n hit)) | inr miss ↦ miss ]

    one : (id : ℕ) → id < x.id → tree_of (x ∷ xs) id ≡ tree_of xs id
    one id lt = let miss : (x.id == id) ≡ false = other x.id id (λ e. omega (arith, e, lt)) in rw miss refl

    over : (instance : Instance ℕ) → ((id : ℕ) → id < f.id → id < x.id) → AllByRecursion (λ id. id < f.id) (premises_of instance) → map_instance (tree_of (x ∷ xs)) instance ≡ map_instance (tree_of xs) instance
    over (Init i) up all = refl
    over (Own g e) up all = ap (λ t. Own t e) (one g (up g all.0))
    over (Guar g e) up all = ap (λ t. Guar t e) (one g (up g all.0))
    over (Env g t) up all = ap₂ (λ a b. Env a b) (one g (up g all.0)) (one t (up t all.1.0))
    over (Inter g h e) up all = ap₂ (λ a b. Inter a b e) (one g (up g all.0)) (one h (up h all.1.0))

-- what is made of trees is made where they are given otherwise
over-more : (instance : Instance ℕ) (less more : ℕ → Option Tree) (made : Tree) → ((id : ℕ) (t : Tree) → less id ≡ Some t → more id ≡ Some t)
    → tree_over (map_instance less instance) ≡ Some made → tree_over (map_instance more instance) ≡ Some made
over-more (Init i) less more made gives is = is
over-more (Own f e) less more made gives is = of (less f) refl is
  where
    of : (o : Option Tree) → less f ≡ o → tree_over (Own o e) ≡ Some made → tree_over (Own (more f) e) ≡ Some made
    of None at to = cc
    of (Some t) at to = ap (λ x. tree_over (Own x e)) (gives f t at) ∙ to
over-more (Guar f e) less more made gives is = of (less f) refl is
  where
    of : (o : Option Tree) → less f ≡ o → tree_over (Guar o e) ≡ Some made → tree_over (Guar (more f) e) ≡ Some made
    of None at to = cc
    of (Some t) at to = ap (λ x. tree_over (Guar x e)) (gives f t at) ∙ to
over-more (Env f t) less more made gives is = of (less f) (less t) refl refl is
  where
    of : (o p : Option Tree) → less f ≡ o → less t ≡ p → tree_over (Env o p) ≡ Some made → tree_over (Env (more f) (more t)) ≡ Some made
    of None p at told to = cc
    of (Some a) None at told to = cc
    of (Some a) (Some b) at told to = ap₂ (λ x y. tree_over (Env x y)) (gives f a at) (gives t b told) ∙ to
over-more (Inter f g e) less more made gives is = of (less f) (less g) refl refl is
  where
    of : (o p : Option Tree) → less f ≡ o → less g ≡ p → tree_over (Inter o p e) ≡ Some made → tree_over (Inter (more f) (more g) e) ≡ Some made
    of None p at told to = cc
    of (Some a) None at told to = cc
    of (Some a) (Some b) at told to = ap₂ (λ x y. tree_over (Inter x y e)) (gives f a at) (gives g b told) ∙ to

-- the premises of the first of kept facts have lower ids
lower-premises : (program : Program) (f : KeptFact) (earlier : List KeptFact) → AreKept program (f ∷ earlier) → AllByRecursion (λ id. id < f.id) (premises_of f.kept)
lower-premises program f earlier kept = each (premises_of f.kept) (λ id there. there)
  where
    each : (ids : List ℕ) → ((id : ℕ) → Contains ids id → Contains (premises_of f.kept) id) → AllByRecursion (λ id. id < f.id) ids
    each [] from = tt
    each (id ∷ ids) from =
        let behind = premise-behind program (f ∷ earlier) f id kept (Contains-first f earlier) (from id (Contains-first id ids)) in
        (let lt = behind.lower in let e = behind.id_is in omega (arith, lt, e), each ids (λ other there. from other (Contains-later id other ids there)))

-- a kept fact has the same tree among live facts
tree-live : (program : Program) (facts live : List KeptFact) (id : ℕ) (made : Tree) → AreKept program facts → Falls live → ((f : KeptFact) → Contains facts f → Contains live f)
    → tree_of facts id ≡ Some made → tree_of live id ≡ Some made
tree-live program [] live id made kept falls lives is = cc
tree-live program (f ∷ earlier) live id made kept falls lives is = elim (tells (f.id == id)) [
  | inl hit ↦
      let at : tree_of (f ∷ earlier) id ≡ tree_over (map_instance (tree_of earlier) f.kept) = rw hit refl in
      let whole = over-more f.kept (tree_of earlier) (tree_of live) made (λ i t e. tree-live program earlier live i t kept.2 falls (λ g there. lives g (Contains-later f g earlier there)) e) (sym at ∙ is) in
      ap (tree_of live) (sym (eq-is f.id id hit)) ∙ tree-at live f falls (lives f (Contains-first f earlier)) (lower-premises program f earlier kept) ∙ whole
  | inr miss ↦
      let at : tree_of (f ∷ earlier) id ≡ tree_of earlier id = rw miss refl in
      tree-live program earlier live id made kept.2 falls (λ g there. lives g (Contains-later f g earlier there)) (sym at ∙ is)
]

-- a claim that agrees has the root's tree
pub agrees-tree : (state : State) (kept : KeptTree) (made : Tree) → IsKept kept → Falls state.live → KeptAgrees state kept → tree_of kept.facts kept.root ≡ Some made
    → tree_of state.live kept.root ≡ Some made
agrees-tree state kept made is falls agrees at = tree-live kept.program kept.facts state.live kept.root made is.are_kept falls (agrees-live state kept agrees) at
