-- The trees of facts that are kept, by the trees of their premises.
use Rattle.std.proofs.Common.{◌≡◌, ℕ, zero, suc, ◌<◌, List, [], ◌∷◌, ◌++◌, map, length, Bool, true, false, Option, Some, None, IsSome, refl, sym, ◌∙◌, ap, ap₂, subst, arith, append_assoc, inl, inr}
use Rattle.std.specs.Prelude.{◌==◌, if◌then◌else◌, option_map, unwrap_or, slice_get, reverse}
use Rattle.std.specs.List.{AllByRecursion}
use Rattle.std.proofs.lemmas.List.{reverse-append, map-append, reverse-reverse}
use Rattle.std.proofs.lemmas.Bool.Decides.{eqb_tells}
use Rattle.thr_base.specs.declared.names.FactId.{FactId}
use Rattle.thr_base.specs.declared.names.Fact.{Fact as StoredFact}
use Rattle.thr_base.specs.declared.names.Instance.{Instance as StoredInstance}
use Rattle.transition_formula.specs.Program.{Program}
use Rattle.horn_rules.specs.Home.{Home}
use Rattle.horn_rules.specs.Fact.{Fact}
use Rattle.horn_rules.specs.Stored.{instance_of}
use Rattle.horn_rules.specs.Instance as instance
use Rattle.horn_rules.specs.Instance.{Instance, map_instance, premises_of}
use Rattle.horn_rules.specs.Target.{target_at}
use Rattle.derivation_tree.specs.Facts.{KeptFact, fact_at, home_at, target_among, AreKept}
use Rattle.derivation_tree.specs.Tree.{Init, Own, Guar, Env, Inter, tree_over, tree_of, IsTreeOf}
use Rattle.derivation_tree.specs.Kept.{kept_fact_of, kept_facts_of}
use Rattle.derivation_tree.proofs.FactTrees.{facts-have-trees}
use Rattle.cex_tree.specs.inside.Growing.{StoredFacts, StandsWith, Stands, tree_at}

-- ---- lists around an element

pub record Split {A : Type 0} (xs : List A) (x : A) : Type 0 where
  pub front : List A
  pub back : List A
  pub is : xs ≡ front ++ x ∷ back

split_at : {A : Type 0} (xs : List A) (k : ℕ) (x : A) → slice_get xs k ≡ Some x → Split xs x
split_at [] zero x e = cc
split_at [] (suc k) x e = cc
split_at (y ∷ xs) zero x e = let same : y ≡ x = cc in record { front = []; back = xs; is = ap (λ z. z ∷ xs) same }
split_at (y ∷ xs) (suc k) x e = let below = split_at xs k x e in record { front = y ∷ below.front; back = below.back; is = ap (λ l. y ∷ l) below.is }

slice_get-middle : {A : Type 0} (front back : List A) (x : A) → slice_get (front ++ x ∷ back) (length front) ≡ Some x
slice_get-middle [] back x = refl
slice_get-middle (y ∷ front) back x = slice_get-middle front back x

reverse-around : {A : Type 0} (front back : List A) (x : A) → reverse (front ++ x ∷ back) ≡ reverse back ++ x ∷ reverse front
reverse-around front back x =
    reverse-append front (x ∷ back) ∙ ap (λ l. l ++ reverse front) (reverse-append (x ∷ []) back) ∙ append_assoc (reverse back) (x ∷ []) (reverse front)

pub reverse-split : {A : Type 0} (xs : List A) (x : A) → Split xs x → Split (reverse xs) x
reverse-split xs x split = record { front = reverse split.back; back = reverse split.front; is = ap reverse split.is ∙ reverse-around split.front split.back x }

map-split : {A B : Type 0} (f : A → B) (xs : List A) (x : A) → Split xs x → Split (map f xs) (f x)
map-split f xs x split = record { front = map f split.front; back = map f split.back; is = ap (map f) split.is ∙ map-append f split.front (x ∷ split.back) }

-- ---- earlier facts

pub some-there : {A : Type 0} (o : Option A) → IsSome o → (x : A) × (o ≡ Some x)
some-there None there = cc
some-there (Some x) there = (x, refl)

pub is-some : {A : Type 0} (o : Option A) (x : A) → o ≡ Some x → IsSome o
is-some None x e = cc
is-some (Some y) x e = refl

-- what is there has one of the ids
lower : (ks : List KeptFact) (n id : ℕ) (home : Home) → AllByRecursion (λ (g : KeptFact). g.id < n) ks → home_at ks id ≡ Some home → id < n
lower [] n id home all there = cc
lower (f ∷ ks) n id home all there = at (λ e. lower ks n id home all.1 e) (f.id == id) refl there
  where
    at : (home_at ks id ≡ Some home → id < n) → (b : Bool) → (f.id == id) ≡ b → option_map (λ (fact : Fact). fact.home) (if b then Some f.fact else fact_at ks id) ≡ Some home → id < n
    at later true same e = elim (eqb_tells f.id id) [
      | inl (hit, one) ↦ subst (λ k. k < n) one all.0
      | inr (miss, apart) ↦ let wrong : false ≡ true = sym miss ∙ same in cc
    ]
    at later false same e = later e

unlike : (a b : ℕ) → b < a → (a == b) ≡ false
unlike a b h = elim (eqb_tells a b) [
  | inl (hit, same) ↦ absurd (omega arith)
  | inr (miss, apart) ↦ miss
]

-- an earlier fact is found behind a later one
pub record IsBehind (ks : List KeptFact) (g : KeptFact) (id : ℕ) : Type 0 where
  pub less : id < g.id
  pub home_is : home_at (g ∷ ks) id ≡ home_at ks id
  pub tree_is : tree_of (g ∷ ks) id ≡ tree_of ks id

behind : (program : Program) (g : KeptFact) (ks : List KeptFact) (id : ℕ) (home : Home) → AreKept program (g ∷ ks) → home_at ks id ≡ Some home → IsBehind ks g id
behind program g ks id home kept there =
    let less = lower ks g.id id home kept.1 there in
    let none = unlike g.id id less in
    record {
      less = less;
      home_is = ap (λ (b : Bool). option_map (λ (fact : Fact). fact.home) (if b then Some g.fact else fact_at ks id)) none;
      tree_is = ap (λ (b : Bool). if b then tree_over (map_instance (tree_of ks) g.kept) else tree_of ks id) none;
    }

-- ---- the premises of an instance

-- they are there, with lower ids
pub record Leads (program : Program) (ks : List KeptFact) (n : ℕ) (kept : Instance ℕ) (home : Home) : Type 0 where
  pub target : target_among program ks kept ≡ Some home
  pub premises : AllByRecursion (λ p. (p < n) × ((h : Home) × (home_at ks p ≡ Some h))) (premises_of kept)

leads-behind : (program : Program) (g : KeptFact) (ks : List KeptFact) (n : ℕ) (i : Instance ℕ) (home : Home) → AreKept program (g ∷ ks) → Leads program ks n i home → Leads program (g ∷ ks) n i home
leads-behind program g ks n (instance.Init i) home kept leads = record { target = leads.target; premises = tt }
leads-behind program g ks n (instance.Own f e) home kept leads =
    let (less, (h, there)) = leads.premises.0 in
    let at = (behind program g ks f h kept there).home_is in
    record { target = ap (λ o. target_at program (instance.Own f e) o None) at ∙ leads.target; premises = ((less, (h, at ∙ there)), tt) }
leads-behind program g ks n (instance.Guar f e) home kept leads =
    let (less, (h, there)) = leads.premises.0 in
    let at = (behind program g ks f h kept there).home_is in
    record { target = ap (λ o. target_at program (instance.Guar f e) o None) at ∙ leads.target; premises = ((less, (h, at ∙ there)), tt) }
leads-behind program g ks n (instance.Env f t) home kept leads =
    let (less, (h, there)) = leads.premises.0 in
    let (lower, (k, beside)) = leads.premises.1.0 in
    let at = (behind program g ks f h kept there).home_is in
    let by = (behind program g ks t k kept beside).home_is in
    record { target = ap₂ (λ o p. target_at program (instance.Env f t) o p) at by ∙ leads.target; premises = ((less, (h, at ∙ there)), ((lower, (k, by ∙ beside)), tt)) }
leads-behind program g ks n (instance.Inter f t e) home kept leads =
    let (less, (h, there)) = leads.premises.0 in
    let (lower, (k, beside)) = leads.premises.1.0 in
    let at = (behind program g ks f h kept there).home_is in
    let by = (behind program g ks t k kept beside).home_is in
    record { target = ap₂ (λ o p. target_at program (instance.Inter f t e) o p) at by ∙ leads.target; premises = ((less, (h, at ∙ there)), ((lower, (k, by ∙ beside)), tt)) }

-- their trees are the same
trees-behind : (program : Program) (g : KeptFact) (ks : List KeptFact) (n : ℕ) (i : Instance ℕ) (home : Home) → AreKept program (g ∷ ks) → Leads program ks n i home
    → map_instance (tree_of (g ∷ ks)) i ≡ map_instance (tree_of ks) i
trees-behind program g ks n (instance.Init i) home kept leads = refl
trees-behind program g ks n (instance.Own f e) home kept leads =
    let (less, (h, there)) = leads.premises.0 in
    ap (λ o. instance.Own o e) (behind program g ks f h kept there).tree_is
trees-behind program g ks n (instance.Guar f e) home kept leads =
    let (less, (h, there)) = leads.premises.0 in
    ap (λ o. instance.Guar o e) (behind program g ks f h kept there).tree_is
trees-behind program g ks n (instance.Env f t) home kept leads =
    let (less, (h, there)) = leads.premises.0 in
    let (lower, (k, beside)) = leads.premises.1.0 in
    ap₂ (λ o p. instance.Env o p) (behind program g ks f h kept there).tree_is (behind program g ks t k kept beside).tree_is
trees-behind program g ks n (instance.Inter f t e) home kept leads =
    let (less, (h, there)) = leads.premises.0 in
    let (lower, (k, beside)) = leads.premises.1.0 in
    ap₂ (λ o p. instance.Inter o p e) (behind program g ks f h kept there).tree_is (behind program g ks t k kept beside).tree_is

-- an instance that leads somewhere has its premises
leads-here : (program : Program) (ks : List KeptFact) (n : ℕ) (i : Instance ℕ) (home : Home) → AllByRecursion (λ (g : KeptFact). g.id < n) ks → target_among program ks i ≡ Some home → Leads program ks n i home
leads-here program ks n (instance.Init i) home less to = record { target = to; premises = tt }
leads-here program ks n (instance.Own f e) home less to = record { target = to; premises = (one (home_at ks f) refl to, tt) }
  where
    one : (o : Option Home) → home_at ks f ≡ o → target_at program (instance.Own f e) o None ≡ Some home → (f < n) × ((h : Home) × (home_at ks f ≡ Some h))
    one None at leads = cc
    one (Some h) at leads = (lower ks n f h less at, (h, at))
leads-here program ks n (instance.Guar f e) home less to = record { target = to; premises = (one (home_at ks f) refl to, tt) }
  where
    one : (o : Option Home) → home_at ks f ≡ o → target_at program (instance.Guar f e) o None ≡ Some home → (f < n) × ((h : Home) × (home_at ks f ≡ Some h))
    one None at leads = cc
    one (Some h) at leads = (lower ks n f h less at, (h, at))
leads-here program ks n (instance.Env f t) home less to = two (home_at ks f) (home_at ks t) refl refl to
  where
    two : (o p : Option Home) → home_at ks f ≡ o → home_at ks t ≡ p → target_at program (instance.Env f t) o p ≡ Some home → Leads program ks n (instance.Env f t) home
    two None p at by leads = cc
    two (Some h) None at by leads = cc
    two (Some h) (Some k) at by leads = record { target = to; premises = ((lower ks n f h less at, (h, at)), ((lower ks n t k less by, (k, by)), tt)) }
leads-here program ks n (instance.Inter f t e) home less to = two (home_at ks f) (home_at ks t) refl refl to
  where
    two : (o p : Option Home) → home_at ks f ≡ o → home_at ks t ≡ p → target_at program (instance.Inter f t e) o p ≡ Some home → Leads program ks n (instance.Inter f t e) home
    two None p at by leads = cc
    two (Some h) None at by leads = cc
    two (Some h) (Some k) at by leads = record { target = to; premises = ((lower ks n f h less at, (h, at)), ((lower ks n t k less by, (k, by)), tt)) }

-- ---- a fact among others

same-id : (n : ℕ) → (n == n) ≡ true
same-id n = elim (eqb_tells n n) [
  | inl (hit, same) ↦ hit
  | inr (miss, apart) ↦ absurd (apart refl)
]

pub record IsKeptFact (program : Program) (ks : List KeptFact) (f : KeptFact) : Type 0 where
  pub home_is : home_at ks f.id ≡ Some f.fact.home
  pub leads : Leads program ks f.id f.kept f.fact.home
  pub tree_is : tree_of ks f.id ≡ tree_over (map_instance (tree_of ks) f.kept)

kept-among : (program : Program) (front back : List KeptFact) (f : KeptFact) → AreKept program (front ++ f ∷ back) → IsKeptFact program (front ++ f ∷ back) f
kept-among program [] back f kept =
    let leads = leads-here program back f.id f.kept f.fact.home kept.1 kept.0 in
    record {
      home_is = ap (λ (b : Bool). option_map (λ (fact : Fact). fact.home) (if b then Some f.fact else fact_at back f.id)) (same-id f.id);
      leads = leads-behind program f back f.id f.kept f.fact.home kept leads;
      tree_is = ap (λ (b : Bool). if b then tree_over (map_instance (tree_of back) f.kept) else tree_of back f.id) (same-id f.id)
          ∙ ap tree_over (sym (trees-behind program f back f.id f.kept f.fact.home kept leads));
    }
kept-among program (g ∷ front) back f kept =
    let below = kept-among program front back f kept.2 in
    let here = behind program g (front ++ f ∷ back) f.id f.fact.home kept below.home_is in
    record {
      home_is = here.home_is ∙ below.home_is;
      leads = leads-behind program g (front ++ f ∷ back) f.id f.kept f.fact.home kept below.leads;
      tree_is = here.tree_is ∙ below.tree_is ∙ ap tree_over (sym (trees-behind program g (front ++ f ∷ back) f.id f.kept f.fact.home kept below.leads));
    }

-- ---- trees of facts

-- a fact that is there has a tree, which is one of the program
pub record IsKnown (program : Program) (ks : List KeptFact) (id : ℕ) : Type 0 where
  pub home : Home
  pub home_is : home_at ks id ≡ Some home
  pub tree_is : tree_of ks id ≡ Some (tree_at ks id)
  pub of_program : IsTreeOf program (tree_at ks id) home

pub known : (program : Program) (ks : List KeptFact) (id : ℕ) → AreKept program ks → IsSome (home_at ks id) → IsKnown program ks id
known program ks id kept there =
    let (home, at) = some-there (home_at ks id) there in
    let has = facts-have-trees program ks id home kept at in
    let is : tree_at ks id ≡ has.tree = ap (λ o. unwrap_or o (Init 0)) has.tree_is in
    record { home = home; home_is = at; tree_is = has.tree_is ∙ ap Some (sym is); of_program = subst (λ t. IsTreeOf program t home) (sym is) has.of_program }

-- a premise, with a lower id
pub record IsBelow (program : Program) (ks : List KeptFact) (id p : ℕ) : Type 0 where
  pub less : p < id
  pub there : IsSome (home_at ks p)
  pub is_known : IsKnown program ks p

-- the tree of a fact is over those of its premises
abbrev pub Grows : Program → List KeptFact → ℕ → Instance ℕ → Type 0
Grows program ks id (instance.Init i) = tree_at ks id ≡ Init i
Grows program ks id (instance.Own f e) = IsBelow program ks id f × (tree_at ks id ≡ Own (tree_at ks f) e)
Grows program ks id (instance.Guar f e) = IsBelow program ks id f × (tree_at ks id ≡ Guar (tree_at ks f) e)
Grows program ks id (instance.Env f t) = IsBelow program ks id f × IsBelow program ks id t × (tree_at ks id ≡ Env (tree_at ks f) (tree_at ks t))
Grows program ks id (instance.Inter f g e) = IsBelow program ks id f × IsBelow program ks id g × (tree_at ks id ≡ Inter (tree_at ks f) (tree_at ks g) e)

below : (program : Program) (ks : List KeptFact) (id p : ℕ) → AreKept program ks → (p < id) × ((h : Home) × (home_at ks p ≡ Some h)) → IsBelow program ks id p
below program ks id p kept (less, (h, there)) =
    let some = is-some (home_at ks p) h there in
    record { less = less; there = some; is_known = known program ks p kept some }

grows-fact : (program : Program) (ks : List KeptFact) (id : ℕ) (i : Instance ℕ) (home : Home) → AreKept program ks → Leads program ks id i home → tree_of ks id ≡ tree_over (map_instance (tree_of ks) i) → Grows program ks id i
grows-fact program ks id (instance.Init i) home kept leads is = ap (λ o. unwrap_or o (Init 0)) is
grows-fact program ks id (instance.Own f e) home kept leads is =
    let one = below program ks id f kept leads.premises.0 in
    (one, ap (λ o. unwrap_or o (Init 0)) (is ∙ ap (λ t. tree_over (instance.Own t e)) one.is_known.tree_is))
grows-fact program ks id (instance.Guar f e) home kept leads is =
    let one = below program ks id f kept leads.premises.0 in
    (one, ap (λ o. unwrap_or o (Init 0)) (is ∙ ap (λ t. tree_over (instance.Guar t e)) one.is_known.tree_is))
grows-fact program ks id (instance.Env f t) home kept leads is =
    let one = below program ks id f kept leads.premises.0 in
    let two = below program ks id t kept leads.premises.1.0 in
    (one, two, ap (λ o. unwrap_or o (Init 0)) (is ∙ ap₂ (λ x y. tree_over (instance.Env x y)) one.is_known.tree_is two.is_known.tree_is))
grows-fact program ks id (instance.Inter f g e) home kept leads is =
    let one = below program ks id f kept leads.premises.0 in
    let two = below program ks id g kept leads.premises.1.0 in
    (one, two, ap (λ o. unwrap_or o (Init 0)) (is ∙ ap₂ (λ x y. tree_over (instance.Inter x y e)) one.is_known.tree_is two.is_known.tree_is))

-- ---- stored facts

grows-entry : (program : Program) (facts : StoredFacts) (entry : FactId × StoredFact × StoredInstance) → AreKept program (kept_facts_of program facts) → Split facts entry → Grows program (kept_facts_of program facts) entry.0.0 (instance_of entry.2)
grows-entry program facts entry kept split =
    let f = kept_fact_of program entry in
    let there = reverse-split (map (kept_fact_of program) facts) f (map-split (kept_fact_of program) facts entry split) in
    let among = subst (λ ks. IsKeptFact program ks f) (sym there.is) (kept-among program there.front there.back f (subst (AreKept program) there.is kept)) in
    grows-fact program (kept_facts_of program facts) entry.0.0 (instance_of entry.2) f.fact.home kept among.leads among.tree_is

pub grows : (program : Program) (facts : StoredFacts) (id : ℕ) (kept : StoredInstance) → AreKept program (kept_facts_of program facts) → StandsWith facts id kept → Grows program (kept_facts_of program facts) id (instance_of kept)
grows program facts id kept are_kept stands =
    let entry = grows-entry program facts stands.entry are_kept (split_at facts stands.place stands.entry stands.there) in
    subst (λ n. Grows program (kept_facts_of program facts) n (instance_of kept)) stands.id_is
    (subst (λ k. Grows program (kept_facts_of program facts) stands.entry.0.0 (instance_of k)) stands.kept_is entry)

-- what is found is stored
found-stored : (program : Program) (xs : StoredFacts) (id : ℕ) (home : Home) → home_at (map (kept_fact_of program) xs) id ≡ Some home → (entry : FactId × StoredFact × StoredInstance) × (entry.0.0 ≡ id) × Split xs entry
found-stored program [] id home there = cc
found-stored program (entry ∷ xs) id home there = at (λ e. found-stored program xs id home e) (entry.0.0 == id) refl there
  where
    later : (other : FactId × StoredFact × StoredInstance) × (other.0.0 ≡ id) × Split xs other → (other : FactId × StoredFact × StoredInstance) × (other.0.0 ≡ id) × Split (entry ∷ xs) other
    later (other, same, split) = (other, same, record { front = entry ∷ split.front; back = split.back; is = ap (λ l. entry ∷ l) split.is })

    at : (home_at (map (kept_fact_of program) xs) id ≡ Some home → (other : FactId × StoredFact × StoredInstance) × (other.0.0 ≡ id) × Split xs other) → (b : Bool) → (entry.0.0 == id) ≡ b → option_map (λ (fact : Fact). fact.home) (if b then Some (kept_fact_of program entry).fact else fact_at (map (kept_fact_of program) xs) id) ≡ Some home
        → (other : FactId × StoredFact × StoredInstance) × (other.0.0 ≡ id) × Split (entry ∷ xs) other
    at rest true same e = elim (eqb_tells entry.0.0 id) [
      | inl (hit, one) ↦ (entry, one, record { front = []; back = xs; is = refl })
      | inr (miss, apart) ↦ let wrong : false ≡ true = sym miss ∙ same in cc
    ]
    at rest false same e = later (rest e)

map-reverse : {A B : Type 0} (f : A → B) (xs : List A) → reverse (map f xs) ≡ map f (reverse xs)
map-reverse f [] = refl
map-reverse f (x ∷ xs) =
    reverse-append (f x ∷ []) (map f xs) ∙ ap (λ l. l ++ f x ∷ []) (map-reverse f xs) ∙ sym (map-append f (reverse xs) (x ∷ [])) ∙ ap (map f) (sym (reverse-append (x ∷ []) xs))

pub stands : (program : Program) (facts : StoredFacts) (id : ℕ) → IsSome (home_at (kept_facts_of program facts) id) → Stands facts id
stands program facts id there =
    let (home, at) = some-there (home_at (kept_facts_of program facts) id) there in
    let (entry, same, split) = found-stored program (reverse facts) id home (ap (λ ks. home_at ks id) (sym (map-reverse (kept_fact_of program) facts)) ∙ at) in
    let back = subst (λ xs. Split xs entry) (reverse-reverse facts) (reverse-split (reverse facts) entry split) in
    record {
      kept = entry.2;
      stands = record { place = length back.front; entry = entry; there = ap (λ xs. slice_get xs (length back.front)) back.is ∙ slice_get-middle back.front back.back entry; id_is = same; kept_is = refl };
    }
