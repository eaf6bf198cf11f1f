-- Live facts: ids that fall along the list, each fact the post of its kept instance over those behind it.
use Rattle.std.proofs.Common.{◌≡◌, ◌<◌, ℕ, Bool, true, false, not, List, [], ◌∷◌, Option, Some, None, refl, sym, ap, ap₂, subst, ◌∙◌, inl, inr, arith}
use Rattle.std.specs.Prelude.{◌==◌, if◌then◌else◌, option_map}
use Rattle.std.specs.List.{AllByRecursion, Contains, list_all}
use Rattle.thr_base.specs.declared.names.RuleName.{RuleName}
use Rattle.thr_base.specs.declared.names.RuleName.TheVariants.{Rg, Og}
use Rattle.lin_rows.proofs.Lists.{AllByRecursion-weaken}
use Rattle.transition_formula.specs.Program.{Program}
use Rattle.horn_rules.specs.Home.{Home}
use Rattle.horn_rules.specs.Fact.{Fact}
use Rattle.horn_rules.specs.Instance.{Instance, Init, Own, Guar, Env, Inter, HasKind, premises_of, map_instance}
use Rattle.horn_rules.specs.Target.{target_of, target_at}
use Rattle.horn_rules.proofs.Lists.{Contains-first, Contains-later, first-or-later, contains-nothing, all-contained}
use Rattle.horn_rules.proofs.InstanceLists.{eq-is, is-eq}
use Rattle.derivation_tree.specs.Facts.{KeptFact, fact_at, target_among}
use Rattle.core_steps.specs.Withdrawn.{has_id, stays, remaining}
use Rattle.core_steps.proofs.Tests.{tells, both, any-from, any-at, not-true}

-- ---- ids

-- the ids fall
abbrev pub Falls : List KeptFact → Type 0
Falls [] = Unit {0}
Falls (f ∷ earlier) = AllByRecursion (λ (g : KeptFact). g.id < f.id) earlier × Falls earlier

-- facts with the same id are the same
pub one-id : (live : List KeptFact) (f g : KeptFact) → Falls live → Contains live f → Contains live g → f.id ≡ g.id → f ≡ g
one-id [] f g falls c d e = absurd (contains-nothing f c)
one-id (x ∷ xs) f g falls c d e = elim (first-or-later x f xs c) [
  | inl same_f ↦ elim (first-or-later x g xs d) [
    | inl same_g ↦ sym same_f ∙ same_g
    | inr later_g ↦
        let below : g.id < x.id = all-contained (λ (h : KeptFact). h.id < x.id) xs g falls.0 later_g in
        let same : x.id ≡ f.id = ap (λ h. KeptFact.id h) same_f in
        absurd (omega (arith, below, same, e))
  ]
  | inr later_f ↦ elim (first-or-later x g xs d) [
    | inl same_g ↦
        let below : f.id < x.id = all-contained (λ (h : KeptFact). h.id < x.id) xs f falls.0 later_f in
        let same : x.id ≡ g.id = ap (λ h. KeptFact.id h) same_g in
        absurd (omega (arith, below, same, e))
    | inr later_g ↦ one-id xs f g falls.1 later_f later_g e
  ]
]

-- what is found by its id is there
pub fact_at-found : (live : List KeptFact) (id : ℕ) (fact : Fact) → fact_at live id ≡ Some fact → (f : KeptFact) × Contains live f × (f.id ≡ id) × (f.fact ≡ fact)
fact_at-found [] id fact e = absurd cc
fact_at-found (f ∷ earlier) id fact e = elim (tells (f.id == id)) [
  | inl hit ↦
      let at : fact_at (f ∷ earlier) id ≡ Some f.fact = rw hit refl in
      let same : f.fact ≡ fact = let both_some : Some f.fact ≡ Some fact = sym at ∙ e in cc in
      (f, Contains-first f earlier, eq-is f.id id hit, same)
  | inr miss ↦
      let at : fact_at (f ∷ earlier) id ≡ fact_at earlier id = rw miss refl in
      let (g, there, id_is, is) = fact_at-found earlier id fact (sym at ∙ e) in
      (g, Contains-later f g earlier there, id_is, is)
]

-- and what is there is found
pub found-fact_at : (live : List KeptFact) (f : KeptFact) → Falls live → Contains live f → fact_at live f.id ≡ Some f.fact
found-fact_at [] f falls c = absurd (contains-nothing f c)
found-fact_at (x ∷ xs) f falls c = elim (first-or-later x f xs c) [
  | inl same ↦
      let hit : (x.id == f.id) ≡ true = is-eq x.id f.id (ap (λ h. KeptFact.id h) same) in
      let at : fact_at (x ∷ xs) f.id ≡ Some x.fact = rw hit refl in
      at ∙ ap (λ h. Some (KeptFact.fact h)) same
  | inr later ↦ elim (tells (x.id == f.id)) [
    | inl hit ↦
        let below : f.id < x.id = all-contained (λ (h : KeptFact). h.id < x.id) xs f falls.0 later in
        let same : x.id ≡ f.id = eq-is x.id f.id hit in
        absurd (omega (arith, below, same))
    | inr miss ↦ let at : fact_at (x ∷ xs) f.id ≡ fact_at xs f.id = rw miss refl in at ∙ found-fact_at xs f falls.1 later
  ]
]

-- an id that is there is a fact's
pub has_id-from : (live : List KeptFact) (id : ℕ) → has_id live id ≡ true → (f : KeptFact) × Contains live f × (f.id ≡ id)
has_id-from live id e = let (f, there, hit) = any-from (λ (f : KeptFact). f.id == id) live e in (f, there, eq-is f.id id hit)

pub has_id-at : (live : List KeptFact) (f : KeptFact) → Contains live f → has_id live f.id ≡ true
has_id-at live f there = any-at (λ (g : KeptFact). g.id == f.id) live f there (is-eq f.id f.id refl)

-- ---- what remains

-- what remains was live
pub remaining-from : (changed : Home → Bool) (live : List KeptFact) (f : KeptFact) → Contains (remaining changed live) f → Contains live f
remaining-from changed [] f c = absurd (contains-nothing f c)
remaining-from changed (x ∷ xs) f c = elim (tells (stays changed (remaining changed xs) x)) [
  | inl hit ↦
      let at : remaining changed (x ∷ xs) ≡ x ∷ remaining changed xs = rw hit refl in
      elim (first-or-later x f (remaining changed xs) (subst (λ l. Contains l f) at c)) [
        | inl same ↦ subst (Contains (x ∷ xs)) same (Contains-first x xs)
        | inr later ↦ Contains-later x f xs (remaining-from changed xs f later)
      ]
  | inr miss ↦
      let at : remaining changed (x ∷ xs) ≡ remaining changed xs = rw miss refl in
      Contains-later x f xs (remaining-from changed xs f (subst (λ l. Contains l f) at c))
]

-- and stands at a home that is not changed
pub remaining-home : (changed : Home → Bool) (live : List KeptFact) (f : KeptFact) → Contains (remaining changed live) f → changed f.fact.home ≡ false
remaining-home changed [] f c = absurd (contains-nothing f c)
remaining-home changed (x ∷ xs) f c = elim (tells (stays changed (remaining changed xs) x)) [
  | inl hit ↦
      let at : remaining changed (x ∷ xs) ≡ x ∷ remaining changed xs = rw hit refl in
      elim (first-or-later x f (remaining changed xs) (subst (λ l. Contains l f) at c)) [
        | inl same ↦
            let (kept, rest) = both (not (changed x.fact.home)) (list_all (has_id (remaining changed xs)) (premises_of x.kept)) hit in
            subst (λ h. changed (KeptFact.fact h).home ≡ false) same (not-true (changed x.fact.home) kept)
        | inr later ↦ remaining-home changed xs f later
      ]
  | inr miss ↦
      let at : remaining changed (x ∷ xs) ≡ remaining changed xs = rw miss refl in
      remaining-home changed xs f (subst (λ l. Contains l f) at c)
]

pub all-remaining : (P : KeptFact → Type 0) (changed : Home → Bool) (live : List KeptFact) → AllByRecursion P live → AllByRecursion P (remaining changed live)
all-remaining P changed [] all = tt
all-remaining P changed (x ∷ xs) all = elim (tells (stays changed (remaining changed xs) x)) [
  | inl hit ↦
      let at : remaining changed (x ∷ xs) ≡ x ∷ remaining changed xs = rw hit refl in
      subst (AllByRecursion P) (sym at) (all.0, all-remaining P changed xs all.1)
  | inr miss ↦
      let at : remaining changed (x ∷ xs) ≡ remaining changed xs = rw miss refl in
      subst (AllByRecursion P) (sym at) (all-remaining P changed xs all.1)
]

-- its ids fall
pub remaining-falls : (changed : Home → Bool) (live : List KeptFact) → Falls live → Falls (remaining changed live)
remaining-falls changed [] falls = tt
remaining-falls changed (x ∷ xs) falls = elim (tells (stays changed (remaining changed xs) x)) [
  | inl hit ↦
      let at : remaining changed (x ∷ xs) ≡ x ∷ remaining changed xs = rw hit refl in
      subst Falls (sym at) (all-remaining (λ (g : KeptFact). g.id < x.id) changed xs falls.0, remaining-falls changed xs falls.1)
  | inr miss ↦
      let at : remaining changed (x ∷ xs) ≡ remaining changed xs = rw miss refl in
      subst Falls (sym at) (remaining-falls changed xs falls.1)
]

-- what was live and whose id remains, remains
pub remaining-at : (changed : Home → Bool) (live : List KeptFact) (f : KeptFact) → Falls live → Contains live f → has_id (remaining changed live) f.id ≡ true → Contains (remaining changed live) f
remaining-at changed live f falls there has =
    let (g, kept, same) = has_id-from (remaining changed live) f.id has in
    subst (Contains (remaining changed live)) (one-id live g f falls (remaining-from changed live g kept) there same) kept

-- ---- instances over facts

-- each premise of what stands for the ids
all-map : {A B : Type 0} (P : B → Type 0) (g : A → B) (instance : Instance A) → AllByRecursion P (premises_of (map_instance g instance)) → AllByRecursion (λ x. P (g x)) (premises_of instance)
all-map P g (Init i) all = tt
all-map P g (Own f e) all = (all.0, tt)
all-map P g (Guar f e) all = (all.0, tt)
all-map P g (Env f t) all = (all.0, (all.1.0, tt))
all-map P g (Inter f h e) all = (all.0, (all.1.0, tt))

pub all-unmap : {A B : Type 0} (P : B → Type 0) (g : A → B) (instance : Instance A) → AllByRecursion (λ x. P (g x)) (premises_of instance) → AllByRecursion P (premises_of (map_instance g instance))
all-unmap P g (Init i) all = tt
all-unmap P g (Own f e) all = (all.0, tt)
all-unmap P g (Guar f e) all = (all.0, tt)
all-unmap P g (Env f t) all = (all.0, (all.1.0, tt))
all-unmap P g (Inter f h e) all = (all.0, (all.1.0, tt))

pub all-mapped : {A B : Type 0} (P : B → Type 0) (g : A → B) (instance : Instance A) → AllByRecursion P (premises_of (map_instance g instance)) → AllByRecursion (λ x. P (g x)) (premises_of instance)
all-mapped P g instance all = all-map P g instance all

-- one after the other
pub map-map : {A B C : Type 0} (g : A → B) (h : B → C) (instance : Instance A) → map_instance h (map_instance g instance) ≡ map_instance (λ x. h (g x)) instance
map-map g h (Init i) = refl
map-map g h (Own f e) = refl
map-map g h (Guar f e) = refl
map-map g h (Env f t) = refl
map-map g h (Inter f k e) = refl

-- what is the same at each premise
pub map-same : {A B : Type 0} (g h : A → B) (instance : Instance A) → AllByRecursion (λ x. g x ≡ h x) (premises_of instance) → map_instance g instance ≡ map_instance h instance
map-same g h (Init i) all = refl
map-same g h (Own f e) all = ap (λ x. Own x e) all.0
map-same g h (Guar f e) all = ap (λ x. Guar x e) all.0
map-same g h (Env f t) all = ap₂ (λ x y. Env x y) all.0 all.1.0
map-same g h (Inter f k e) all = ap₂ (λ x y. Inter x y e) all.0 all.1.0

kind-map : {F G : Type 0} (rule : RuleName) (f : F → G) (instance : Instance F) → HasKind rule (map_instance f instance) → HasKind rule instance
kind-map Rg f (Init i) has = tt
kind-map Rg f (Own g e) has = tt
kind-map Rg f (Guar g e) has = tt
kind-map Rg f (Env g t) has = tt
kind-map Rg f (Inter g h e) has = has
kind-map Og f (Init i) has = tt
kind-map Og f (Own g e) has = tt
kind-map Og f (Guar g e) has = has
kind-map Og f (Env g t) has = has
kind-map Og f (Inter g h e) has = tt

kind-mapped : {F G : Type 0} (rule : RuleName) (f : F → G) (instance : Instance F) → HasKind rule instance → HasKind rule (map_instance f instance)
kind-mapped Rg f (Init i) has = tt
kind-mapped Rg f (Own g e) has = tt
kind-mapped Rg f (Guar g e) has = tt
kind-mapped Rg f (Env g t) has = tt
kind-mapped Rg f (Inter g h e) has = has
kind-mapped Og f (Init i) has = tt
kind-mapped Og f (Own g e) has = tt
kind-mapped Og f (Guar g e) has = has
kind-mapped Og f (Env g t) has = has
kind-mapped Og f (Inter g h e) has = tt

pub kind-other : {F G H : Type 0} (rule : RuleName) (f : F → G) (h : F → H) (instance : Instance F) → HasKind rule (map_instance f instance) → HasKind rule (map_instance h instance)
kind-other rule f h instance has = kind-mapped rule h instance (kind-map rule f instance has)

-- ---- lookups of instances

-- an instance over options, where each is there
abbrev together : {A : Type 0} → Instance (Option A) → Option (Instance A)
together (Init i) = Some (Init i)
together (Own (Some f) e) = Some (Own f e)
together (Guar (Some f) e) = Some (Guar f e)
together (Env (Some f) (Some t)) = Some (Env f t)
together (Inter (Some f) (Some g) e) = Some (Inter f g e)
together instance = None

together-some : {A : Type 0} (instance : Instance A) → together (map_instance (λ x. Some x) instance) ≡ Some instance
together-some (Init i) = refl
together-some (Own f e) = refl
together-some (Guar f e) = refl
together-some (Env f t) = refl
together-some (Inter f g e) = refl

-- the fact of an id
abbrev kept_at : List KeptFact → ℕ → Option KeptFact
kept_at [] id = None
kept_at (f ∷ earlier) id = if f.id == id then Some f else kept_at earlier id

found-kept_at : (live : List KeptFact) (f : KeptFact) → Falls live → Contains live f → kept_at live f.id ≡ Some f
found-kept_at [] f falls c = absurd (contains-nothing f c)
found-kept_at (x ∷ xs) f falls c = elim (first-or-later x f xs c) [
  | inl same ↦
      let hit : (x.id == f.id) ≡ true = is-eq x.id f.id (ap (λ h. KeptFact.id h) same) in
      let at : kept_at (x ∷ xs) f.id ≡ Some x = rw hit refl in
      at ∙ ap (λ h. Some h) same
  | inr later ↦ elim (tells (x.id == f.id)) [
    | inl hit ↦
        let below : f.id < x.id = all-contained (λ (h : KeptFact). h.id < x.id) xs f falls.0 later in
        let same : x.id ≡ f.id = eq-is x.id f.id hit in
        absurd (omega (arith, below, same))
    | inr miss ↦ let at : kept_at (x ∷ xs) f.id ≡ kept_at xs f.id = rw miss refl in at ∙ found-kept_at xs f falls.1 later
  ]
]

-- premises with the same ids are the same
pub premises-same : (live : List KeptFact) (one other : Instance KeptFact) → Falls live → AllByRecursion (Contains live) (premises_of one) → AllByRecursion (Contains live) (premises_of other)
    → map_instance (λ (f : KeptFact). f.id) one ≡ map_instance (λ (f : KeptFact). f.id) other → one ≡ other
premises-same live one other falls all all_other same =
    let of_one = kept-found live one falls all in
    let of_other = kept-found live other falls all_other in
    let found : Some one ≡ Some other = sym (together-some one) ∙ ap together (sym of_one ∙ ap (map_instance (kept_at live)) same ∙ of_other) ∙ together-some other in
    cc
  where
    kept-found : (live : List KeptFact) (one : Instance KeptFact) → Falls live → AllByRecursion (Contains live) (premises_of one)
        → map_instance (kept_at live) (map_instance (λ (f : KeptFact). f.id) one) ≡ map_instance (λ (f : KeptFact). Some f) one
    kept-found live one falls all =
        map-map (λ (f : KeptFact). f.id) (kept_at live) one
        ∙ map-same (λ (f : KeptFact). kept_at live f.id) (λ (f : KeptFact). Some f) one
        (AllByRecursion-weaken (Contains live) (λ (f : KeptFact). kept_at live f.id ≡ Some f) (λ f there. found-kept_at live f falls there) (premises_of one) all)

-- ---- targets

-- among live facts the target is by the homes of the premises
pub target_among-premises : (program : Program) (live : List KeptFact) (premises : Instance KeptFact) → Falls live → AllByRecursion (Contains live) (premises_of premises)
    → target_among program live (map_instance (λ (f : KeptFact). f.id) premises) ≡ target_of program (map_instance (λ (f : KeptFact). f.fact.home) premises)
target_among-premises program live (Init i) falls all = refl
target_among-premises program live (Own f e) falls all = ap (λ o. target_at program (Own f.fact.home e) (option_map (λ fact. Fact.home fact) o) None) (found-fact_at live f falls all.0)
target_among-premises program live (Guar f e) falls all = ap (λ o. target_at program (Guar f.fact.home e) (option_map (λ fact. Fact.home fact) o) None) (found-fact_at live f falls all.0)
target_among-premises program live (Env f t) falls all =
    ap₂ (λ o p. target_at program (Env f.fact.home t.fact.home) (option_map (λ fact. Fact.home fact) o) (option_map (λ fact. Fact.home fact) p)) (found-fact_at live f falls all.0) (found-fact_at live t falls all.1.0)
target_among-premises program live (Inter f g e) falls all =
    ap₂ (λ o p. target_at program (Inter f.fact.home g.fact.home e) (option_map (λ fact. Fact.home fact) o) (option_map (λ fact. Fact.home fact) p)) (found-fact_at live f falls all.0) (found-fact_at live g falls all.1.0)
