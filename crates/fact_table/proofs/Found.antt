-- What an index finds when one more fact comes in.
use Rattle.std.proofs.Common.{◌≡◌, ◌≢◌, ℕ, zero, suc, ◌+◌, ◌<◌, eqb, Bool, true, false, not, cond, List, [], ◌∷◌, ◌++◌, length, map, get_or, Option, Some, None, inl, inr, ◌⊎◌, replicate, eq-eqb, refl, ap, ◌∙◌, arith}
use Rattle.std.proofs.lemmas.Bool.{eqb-true}
use Rattle.std.specs.List.{filter, range_with_len}
use Rattle.thr_base.specs.declared.names.Fact.{Fact}
use Rattle.thr_base.specs.declared.names.FactId.{FactId}
use Rattle.fact_table.specs.declared.live_fact.LiveFact.{LiveFact}
use Rattle.fact_table.specs.Live.{ids_at, HasFact, IsLive, Lacks, NoneIsMarked, unmarked_facts}
use Rattle.fact_table.specs.inside.FactIds.{key_of, is_key}
use Rattle.fact_table.specs.inside.HomeIds.{with_id}
use Rattle.fact_table.specs.inside.Index.{id_of, later}

-- ---- by what it says

later-cond : (b : Bool) (id : FactId) (rest other : Option FactId) → later (cond b (Some id) rest) other ≡ cond b (Some id) (later rest other)
later-cond true id rest other = refl
later-cond false id rest other = refl

pub id_of-push : (live : List LiveFact) (f : LiveFact) (key : ℕ × ℕ) → id_of (live ++ f ∷ []) key ≡ cond (is_key (key_of f.fact) key) (Some f.id) (id_of live key)
id_of-push [] f key = refl
id_of-push (g ∷ live) f key =
    let given : Option FactId = cond (is_key (key_of g.fact) key) (Some g.id) None in
    ap (λ (o : Option FactId). later o given) (id_of-push live f key) ∙ later-cond (is_key (key_of f.fact) key) f.id (id_of live key) given

is_key-refl : (fact : Fact) → is_key (key_of fact) (key_of fact) ≡ true
is_key-refl fact = grind arith

is_key-same : (one other : Fact) → is_key (key_of one) (key_of other) ≡ true → one ≡ other
is_key-same one other e = grind arith

none_none : (rest : Option FactId) (b : Bool) (id : FactId) → later rest (cond b (Some id) None) ≡ None → (rest ≡ None) × (b ≡ false)
none_none None true id e = cc
none_none None false id e = (refl, refl)
none_none (Some x) b id e = cc

pub Lacks-from_none : (live : List LiveFact) (fact : Fact) → id_of live (key_of fact) ≡ None → Lacks live fact
Lacks-from_none [] fact none = tt
Lacks-from_none (f ∷ live) fact none =
    let both = none_none (id_of live (key_of fact)) (is_key (key_of f.fact) (key_of fact)) f.id none in
    let apart : f.fact ≢ fact = λ e. let same : is_key (key_of f.fact) (key_of fact) ≡ true = rw e (is_key-refl fact) in cc in
    (apart, Lacks-from_none live fact both.0)

both_none : (rest : Option FactId) (b : Bool) (id : FactId) → rest ≡ None → b ≡ false → later rest (cond b (Some id) None) ≡ None
both_none rest b id e d = rw (e, d) refl

pub not_true : (b : Bool) → (b ≡ true → ⊥) → b ≡ false
not_true true never = absurd (never refl)
not_true false never = refl

pub id_of-lacking : (live : List LiveFact) (fact : Fact) → Lacks live fact → id_of live (key_of fact) ≡ None
id_of-lacking [] fact lacks = refl
id_of-lacking (f ∷ live) fact lacks =
    both_none (id_of live (key_of fact)) (is_key (key_of f.fact) (key_of fact)) f.id (id_of-lacking live fact lacks.1)
    (not_true _ (λ same. lacks.0 (is_key-same f.fact fact same)))

some_cases : (rest : Option FactId) (b : Bool) (id wanted : FactId) → later rest (cond b (Some id) None) ≡ Some wanted → (rest ≡ Some wanted) ⊎ ((b ≡ true) × (id ≡ wanted))
some_cases (Some x) b id wanted e = inl e
some_cases None true id wanted e = inr (refl, cc)
some_cases None false id wanted e = cc

behind : (f : LiveFact) (live : List LiveFact) (id : FactId) (fact : Fact) → HasFact live id fact → HasFact (f ∷ live) id fact
behind f live id fact has = (has.0, (suc has.1.0, omega (arith, has.1.1), has.1.2), has.2, has.3)

pub HasFact-from_some : (live : List LiveFact) (fact : Fact) (id : FactId) → id_of live (key_of fact) ≡ Some id → HasFact live id fact
HasFact-from_some [] fact id is = cc
HasFact-from_some (f ∷ live) fact id is =
    elim (some_cases (id_of live (key_of fact)) (is_key (key_of f.fact) (key_of fact)) f.id id is) [
      | inl rest ↦ behind f live id fact (HasFact-from_some live fact id rest)
      | inr here ↦ (f, (0, omega arith, refl), here.1, is_key-same f.fact fact here.0)
    ]

-- ---- by home

pushed : (b c : Bool) (g f : LiveFact) (more live : List LiveFact)
    → map (λ (h : LiveFact). h.id) more ≡ cond c (map (λ (h : LiveFact). h.id) live ++ f.id ∷ []) (map (λ (h : LiveFact). h.id) live)
    → map (λ (h : LiveFact). h.id) (cond b (g ∷ more) more) ≡ cond c (map (λ (h : LiveFact). h.id) (cond b (g ∷ live) live) ++ f.id ∷ []) (map (λ (h : LiveFact). h.id) (cond b (g ∷ live) live))
pushed true true g f more live e = ap (λ (xs : List FactId). g.id ∷ xs) e
pushed true false g f more live e = ap (λ (xs : List FactId). g.id ∷ xs) e
pushed false true g f more live e = e
pushed false false g f more live e = e

pub ids_at-push : (home : ℕ) (live : List LiveFact) (f : LiveFact) → ids_at home (live ++ f ∷ []) ≡ cond (eqb f.fact.home.0 home) (ids_at home live ++ f.id ∷ []) (ids_at home live)
ids_at-push home [] f = elim (eqb f.fact.home.0 home) as (λ b. map (λ (g : LiveFact). g.id) (cond b (f ∷ []) []) ≡ cond b (f.id ∷ []) []) [ true ↦ refl | false ↦ refl ]
ids_at-push home (g ∷ live) f = pushed (eqb g.fact.home.0 home) (eqb f.fact.home.0 home) g f (filter (λ (h : LiveFact). eqb h.fact.home.0 home) (live ++ f ∷ [])) (filter (λ (h : LiveFact). eqb h.fact.home.0 home) live) (ids_at-push home live f)

ids_at-elsewhere : (home : ℕ) (live : List LiveFact) (f : LiveFact) → f.fact.home.0 ≢ home → ids_at home (live ++ f ∷ []) ≡ ids_at home live
ids_at-elsewhere home live f apart =
    let other : eqb f.fact.home.0 home ≡ false = not_true _ (λ e. apart (eqb-true _ _ e)) in
    ids_at-push home live f ∙ ap (λ (b : Bool). cond b (ids_at home live ++ f.id ∷ []) (ids_at home live)) other

ids_at-here : (home : ℕ) (live : List LiveFact) (f : LiveFact) → f.fact.home.0 ≡ home → ids_at home (live ++ f ∷ []) ≡ ids_at home live ++ f.id ∷ []
ids_at-here home live f here =
    let yes : eqb f.fact.home.0 home ≡ true = eq-eqb _ _ here in
    ids_at-push home live f ∙ ap (λ (b : Bool). cond b (ids_at home live ++ f.id ∷ []) (ids_at home live)) yes

abbrev pub lists_from : ℕ → ℕ → List LiveFact → List (List FactId)
lists_from k n live = map (λ home. ids_at home live) (range_with_len k n)

lists_from-above : (k n : ℕ) (live : List LiveFact) (f : LiveFact) → f.fact.home.0 < k → lists_from k n (live ++ f ∷ []) ≡ lists_from k n live
lists_from-above k zero live f below = refl
lists_from-above k (suc n) live f below =
    let here = ids_at-elsewhere k live f (λ e. omega (arith, e)) in
    let rest = lists_from-above (k + 1) n live f (omega arith) in
    cc

pub lists_from-push : (k n place : ℕ) (live : List LiveFact) (f : LiveFact) → f.fact.home.0 ≡ k + place → place < n
    → lists_from k n (live ++ f ∷ []) ≡ with_id (lists_from k n live) place f.id
lists_from-push k zero place live f is within = absurd (omega arith)
lists_from-push k (suc n) zero live f is within =
    let here = ids_at-here k live f (omega (arith, is)) in
    let rest = lists_from-above (k + 1) n live f (omega (arith, is)) in
    cc
lists_from-push k (suc n) (suc place) live f is within =
    let here = ids_at-elsewhere k live f (λ e. omega (arith, e, is)) in
    let rest = lists_from-push (k + 1) n place live f (omega (arith, is)) (omega arith) in
    cc

pub length-lists_from : (k n : ℕ) (live : List LiveFact) → length (lists_from k n live) ≡ n
length-lists_from k zero live = refl
length-lists_from k (suc n) live = ap (λ m. suc m) (length-lists_from (k + 1) n live)

-- where nothing is live
pub lists_from-nothing : (k n : ℕ) → lists_from k n [] ≡ replicate n []
lists_from-nothing k zero = refl
lists_from-nothing k (suc n) = ap (λ (lists : List (List FactId)). [] ∷ lists) (lists_from-nothing (k + 1) n)

-- the list of a home
pub lists_from-at : (k n place : ℕ) (live : List LiveFact) → place < n → get_or (lists_from k n live) place [] ≡ ids_at (k + place) live
lists_from-at k zero place live within = absurd (omega arith)
lists_from-at k (suc n) zero live within = ap (λ h. ids_at h live) (omega arith)
lists_from-at k (suc n) (suc place) live within =
    lists_from-at (k + 1) n place live (omega arith) ∙ ap (λ h. ids_at h live) (omega arith)

-- ---- live

pub IsLive-fact : (live : List LiveFact) (id : FactId) (fact : Fact) → HasFact live id fact → IsLive live id
IsLive-fact live id fact has = (has.0, has.1, ap (λ (x : FactId). x.0) has.2)

last_is : (live : List LiveFact) (f : LiveFact) → (length live < length (live ++ f ∷ [])) × (get_or (live ++ f ∷ []) (length live) f ≡ f)
last_is [] f = (omega arith, refl)
last_is (g ∷ live) f = let rest = last_is live f in (omega (arith, rest.0), rest.1)

pub IsLive-push : (live : List LiveFact) (f : LiveFact) → IsLive (live ++ f ∷ []) f.id
IsLive-push live f = let last = last_is live f in (f, (length live, last.0, last.1), refl)

kept_unmarked : (b : Bool) (f : LiveFact) (kept : List LiveFact) → f.marked ≡ b → NoneIsMarked kept → NoneIsMarked (cond (not b) (f ∷ kept) kept)
kept_unmarked true f kept is none = none
kept_unmarked false f kept is none = (is, none)

pub NoneIsMarked-unmarked : (live : List LiveFact) → NoneIsMarked (unmarked_facts live)
NoneIsMarked-unmarked [] = tt
NoneIsMarked-unmarked (f ∷ live) = kept_unmarked f.marked f (unmarked_facts live) refl (NoneIsMarked-unmarked live)
