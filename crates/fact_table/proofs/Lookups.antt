-- What is found by id in facts whose ids rise.
use Rattle.std.proofs.Common.{◌≡◌, ◌≢◌, ℕ, zero, suc, ◌<◌, ◌≤◌, eqb, ltb, Bool, true, false, cond, List, [], ◌∷◌, length, map, get_or, Some, None, inl, inr, eq-eqb, refl, ap, sym, subst, ◌∙◌, set, arith}
use Rattle.std.specs.List.{AllByRecursion, slice_get}
use Rattle.std.specs.List.Sorted.{IsNonDecreasingBy, IsPartitionPoint}
use Rattle.std.proofs.lemmas.Bool.{cases_lt, eqb-true, ltb-true, ltb-false}
use Rattle.thr_base.specs.Held.{Rise}
use Rattle.thr_base.specs.declared.names.FactId.{FactId}
use Rattle.fact_table.specs.declared.live_fact.LiveFact.{LiveFact}
use Rattle.fact_table.specs.Live.{IsLive, live_at, with_mark}
use Rattle.fact_table.specs.inside.Stored.{marked_at}
use Rattle.fact_table.proofs.Found.{not_true}

-- each is above the last
pub Rise-above : (last : ℕ) (ks : List ℕ) (i : ℕ) → Rise last ks → i < length ks → last < get_or ks i 0
Rise-above last [] i rise lt = absurd (omega arith)
Rise-above last (k ∷ ks) zero rise lt = rise.0
Rise-above last (k ∷ ks) (suc i) rise lt = let above = Rise-above k ks i rise.1 (omega arith) in omega (arith, above, rise.0)

same_id : (one other : FactId) → one.0 ≡ other.0 → one ≡ other
same_id one other e = let made : ℕ → FactId = λ n. record { 0 = n } in ap made e

first_is : {X : Type 0} (x y : X) → Some x ≡ Some y → x ≡ y
first_is x y e = cc

id_above : (low : ℕ) (live : List LiveFact) (place : ℕ) (f : LiveFact) → Rise low (map (λ f. f.id.0) live) → slice_get live place ≡ Some f → low < f.id.0
id_above low [] place f rise is = cc
id_above low (g ∷ live) zero f rise is = let same = ap (λ (h : LiveFact). h.id.0) (first_is g f is) in omega (arith, same, rise.0)
id_above low (g ∷ live) (suc place) f rise is = let above = id_above g.id.0 live place f rise.1 is in omega (arith, above, rise.0)

with_mark-none : (low : ℕ) (live : List LiveFact) (id : ℕ) → Rise low (map (λ f. f.id.0) live) → id ≤ low → map (with_mark id) live ≡ live
with_mark-none low [] id rise le = refl
with_mark-none low (g ∷ live) id rise le =
    let differs : eqb g.id.0 id ≡ false = not_true _ (λ e. let same = eqb-true g.id.0 id e in omega (arith, same, rise.0)) in
    let head : with_mark id g ≡ g = ap (λ (b : Bool). cond b (record g { marked = true }) g) differs in
    let rest = with_mark-none g.id.0 live id rise.1 (omega (arith, rise.0)) in
    cc

-- the fact at a place is the one with its id
find-below : (low : ℕ) (live : List LiveFact) (id : ℕ) → Rise low (map (λ f. f.id.0) live) → id ≤ low → live_at live id ≡ None
find-below low [] id rise le = refl
find-below low (f ∷ live) id rise le =
    let differs : eqb f.id.0 id ≡ false = not_true _ (λ e. let same = eqb-true f.id.0 id e in omega (arith, same, rise.0)) in
    ap (λ (b : Bool). cond b (Some f) (live_at live id)) differs ∙ find-below f.id.0 live id rise.1 (omega (arith, rise.0))

pub live_at-place : (low : ℕ) (live : List LiveFact) (place : ℕ) (f : LiveFact) → Rise low (map (λ f. f.id.0) live) → slice_get live place ≡ Some f → live_at live f.id.0 ≡ Some f
live_at-place low [] place f rise is = cc
live_at-place low (g ∷ live) zero f rise is =
    let same : g ≡ f = cc in
    let yes : eqb g.id.0 f.id.0 ≡ true = eq-eqb _ _ (ap (λ (h : LiveFact). h.id.0) same) in
    ap (λ (b : Bool). cond b (Some g) (live_at live f.id.0)) yes ∙ ap (λ (h : LiveFact). Some h) same
live_at-place low (g ∷ live) (suc place) f rise is =
    let above = id_above g.id.0 live place f rise.1 is in
    let differs : eqb g.id.0 f.id.0 ≡ false = not_true _ (λ e. let same = eqb-true g.id.0 f.id.0 e in omega (arith, same, above)) in
    ap (λ (b : Bool). cond b (Some g) (live_at live f.id.0)) differs ∙ live_at-place g.id.0 live place f rise.1 is

-- an id that is at no place
pub live_at-lacking : (live : List LiveFact) (id : FactId) → AllByRecursion (λ each. each ≢ id) (map (λ f. f.id) live) → live_at live id.0 ≡ None
live_at-lacking [] id lacks = refl
live_at-lacking (f ∷ live) id lacks =
    let differs : eqb f.id.0 id.0 ≡ false = not_true _ (λ e. lacks.0 (same_id f.id id (eqb-true f.id.0 id.0 e))) in
    ap (λ (b : Bool). cond b (Some f) (live_at live id.0)) differs ∙ live_at-lacking live id lacks.1

-- marking by place and by id
pub marked_at-is : (low : ℕ) (live : List LiveFact) (place : ℕ) (id : ℕ) → Rise low (map (λ f. f.id.0) live) → (f : LiveFact) → slice_get live place ≡ Some f → f.id.0 ≡ id
    → marked_at live place ≡ map (with_mark id) live
marked_at-is low [] place id rise f is same = cc
marked_at-is low (g ∷ live) zero id rise f is same =
    let here : g.id.0 ≡ id = ap (λ (h : LiveFact). h.id.0) (first_is g f is) ∙ same in
    let yes : eqb g.id.0 id ≡ true = eq-eqb _ _ here in
    let rest : live ≡ map (with_mark id) live = sym (with_mark-none g.id.0 live id rise.1 (omega (arith, here))) in
    let head : record g { marked = true } ≡ with_mark id g = sym (ap (λ (b : Bool). cond b (record g { marked = true }) g) yes) in
    cc
marked_at-is low (g ∷ live) (suc place) id rise f is same =
    let above = id_above g.id.0 live place f rise.1 is in
    let differs : eqb g.id.0 id ≡ false = not_true _ (λ e. let other = eqb-true g.id.0 id e in omega (arith, other, above, same)) in
    let head : g ≡ with_mark id g = sym (ap (λ (b : Bool). cond b (record g { marked = true }) g) differs) in
    let rest = marked_at-is g.id.0 live place id rise.1 f is same in
    cc

place_is : (f : LiveFact) (live : List LiveFact) (id : FactId) (g : LiveFact) (k : ℕ) → k < length (f ∷ live) → get_or (f ∷ live) k g ≡ g → g.id.0 ≡ id.0
    → AllByRecursion (λ each. each ≢ id) (map (λ f. f.id) (f ∷ live)) → ⊥
place_is f live id g zero lt is same lacks = lacks.0 (same_id f.id id (ap (λ (h : LiveFact). h.id.0) is ∙ same))
place_is f [] id g (suc k) lt is same lacks = omega arith
place_is f (h ∷ live) id g (suc k) lt is same lacks = place_is h live id g k (omega arith) is same lacks.1

-- a live fact's id is at some place
pub IsLive-place : (live : List LiveFact) (id : FactId) → IsLive live id → AllByRecursion (λ each. each ≢ id) (map (λ f. f.id) live) → ⊥
IsLive-place [] id is lacks = omega (arith, is.1.1)
IsLive-place (f ∷ live) id is lacks = place_is f live id is.0 is.1.0 is.1.1 is.1.2 is.2 lacks

-- ---- by place

id_at_above : (last : ℕ) (ids : List FactId) (j : ℕ) (d : FactId) → Rise last (map (λ each. each.0) ids) → j < length ids → last < (get_or ids j d).0
id_at_above last [] j d rise lt = absurd (omega arith)
id_at_above last (x ∷ ids) zero d rise lt = rise.0
id_at_above last (x ∷ ids) (suc j) d rise lt = let above = id_at_above x.0 ids j d rise.1 (omega arith) in omega (arith, above, rise.0)

map-map : (live : List LiveFact) → map (λ (x : FactId). x.0) (map (λ (f : LiveFact). f.id) live) ≡ map (λ (f : LiveFact). f.id.0) live
map-map [] = refl
map-map (f ∷ live) = ap (λ (ks : List ℕ). f.id.0 ∷ ks) (map-map live)

nondecreasing : (last : ℕ) (ids : List FactId) → Rise last (map (λ each. each.0) ids) → (i j : ℕ) (d : FactId) → i ≤ j → j < length ids → (get_or ids i d).0 ≤ (get_or ids j d).0
nondecreasing last [] rise i j d le lt = absurd (omega arith)
nondecreasing last (x ∷ ids) rise zero zero d le lt = omega arith
nondecreasing last (x ∷ ids) rise (suc i) zero d le lt = absurd (omega arith)
nondecreasing last (x ∷ ids) rise zero (suc j) d le lt = let above = id_at_above x.0 ids j d rise.1 (omega arith) in omega (arith, above)
nondecreasing last (x ∷ ids) rise (suc i) (suc j) d le lt = nondecreasing x.0 ids rise.1 i j d (omega arith) (omega arith)

pub ids_rise : (ids : List FactId) → Rise 0 (map (λ each. each.0) ids) → IsNonDecreasingBy (λ each. each.0) ids
ids_rise ids rise = nondecreasing 0 ids rise

strictly : (last : ℕ) (ids : List FactId) → Rise last (map (λ each. each.0) ids) → (i j : ℕ) (d : FactId) → i < j → j < length ids → (get_or ids i d).0 < (get_or ids j d).0
strictly last [] rise i j d le lt = absurd (omega arith)
strictly last (x ∷ ids) rise i zero d le lt = absurd (omega arith)
strictly last (x ∷ ids) rise zero (suc j) d le lt = id_at_above x.0 ids j d rise.1 (omega arith)
strictly last (x ∷ ids) rise (suc i) (suc j) d le lt = strictly x.0 ids rise.1 i j d (omega arith) (omega arith)

all_from_places : {X : Type 0} (P : X → Type 0) (xs : List X) (d : X) → ((k : ℕ) → k < length xs → P (get_or xs k d)) → AllByRecursion P xs
all_from_places P [] d all = tt
all_from_places P (x ∷ xs) d all = (all 0 (omega arith), all_from_places P xs d (λ k lt. all (suc k) (omega arith)))

-- the id stands nowhere, where it does not stand at the first place that is not below it
pub lacks_from_first : (ids : List FactId) (id : FactId) (place : ℕ) → Rise 0 (map (λ each. each.0) ids) → IsPartitionPoint (λ each. ltb each.0 id.0 ≡ true) (λ each. ltb each.0 id.0 ≡ false) ids place
    → (place < length ids → (get_or ids place id).0 ≢ id.0) → AllByRecursion (λ each. each ≢ id) ids
lacks_from_first ids id place rise parts apart =
    all_from_places (λ each. each ≢ id) ids id (λ k lt e.
    let same : (get_or ids k id).0 ≡ id.0 = ap (λ (x : FactId). x.0) e in
    elim (cases_lt k place) [
      | inl below ↦ let less = ltb-true _ _ (parts.0 k id (omega arith) below) in omega (arith, less, same)
      | inr at_least ↦ elim (cases_lt place k) [
        | inl above ↦
            let more = strictly 0 ids rise place k id above lt in
            let not_less = ltb-false _ _ (parts.1 place id (omega arith) (omega arith)) in
            omega (arith, more, not_less, same)
        | inr not_above ↦
            let here : k ≡ place = omega arith in
            apart (omega arith) (ap (λ n. (get_or ids n id).0) (sym here) ∙ same)
      ]
    ])

-- what stands at a place
pub place_has : (ids : List FactId) (id : FactId) (place : ℕ) (at : FactId) → place < length ids → at ≡ get_or ids place at → at.0 ≡ id.0 → slice_get ids place ≡ Some id
place_has [] id place at lt is same = absurd (omega arith)
place_has (x ∷ ids) id zero at lt is same = ap (λ (y : FactId). Some y) (sym is ∙ same_id at id same)
place_has (x ∷ ids) id (suc place) at lt is same = place_has ids id place at (omega arith) is same

pub fact_at_place : (live : List LiveFact) (place : ℕ) (id : FactId) → slice_get (map (λ f. f.id) live) place ≡ Some id
    → (f : LiveFact) × (slice_get live place ≡ Some f) × (f.id ≡ id) × (place < length live)
fact_at_place [] place id is = cc
fact_at_place (f ∷ live) zero id is = (f, refl, first_is f.id id is, omega arith)
fact_at_place (f ∷ live) (suc place) id is = let rest = fact_at_place live place id is in (rest.0, rest.1, rest.2, omega (arith, rest.3))

get_or-slice_get : (live : List LiveFact) (place : ℕ) (f d : LiveFact) → slice_get live place ≡ Some f → get_or live place d ≡ f
get_or-slice_get [] place f d is = cc
get_or-slice_get (g ∷ live) zero f d is = first_is g f is
get_or-slice_get (g ∷ live) (suc place) f d is = get_or-slice_get live place f d is

pub within_from_id : (live : List LiveFact) (ids : List FactId) (place : ℕ) (id : FactId) → ids ≡ map (λ f. f.id) live → slice_get ids place ≡ Some id → place < length live
within_from_id live ids place id ids_is is = (fact_at_place live place id (ap (λ (xs : List FactId). slice_get xs place) (sym ids_is) ∙ is)).3

pub live_at-found : (live : List LiveFact) (ids : List FactId) (place : ℕ) (id : FactId) (d : LiveFact) → ids ≡ map (λ f. f.id) live → Rise 0 (map (λ f. f.id.0) live)
    → slice_get ids place ≡ Some id → Some (get_or live place d) ≡ live_at live id.0
live_at-found live ids place id d ids_is rise is =
    let at = fact_at_place live place id (ap (λ (xs : List FactId). slice_get xs place) (sym ids_is) ∙ is) in
    let here = live_at-place 0 live place at.0 rise at.1 in
    ap (λ (f : LiveFact). Some f) (get_or-slice_get live place at.0 d at.1) ∙ (sym here ∙ ap (λ (x : FactId). live_at live x.0) at.2)

pub live_at-missing : (live : List LiveFact) (ids : List FactId) (id : FactId) → ids ≡ map (λ f. f.id) live → AllByRecursion (λ each. each ≢ id) ids → None ≡ live_at live id.0
live_at-missing live ids id ids_is lacks =
    let Lack : List FactId → Type 0 = λ xs. AllByRecursion (λ each. each ≢ id) xs in
    sym (live_at-lacking live id (subst Lack ids_is lacks))

pub Rise-ids : (live : List LiveFact) (ids : List FactId) → ids ≡ map (λ f. f.id) live → Rise 0 (map (λ f. f.id.0) live) → Rise 0 (map (λ each. each.0) ids)
Rise-ids live ids ids_is rise =
    let Up : List ℕ → Type 0 = λ ks. Rise 0 ks in
    subst Up (sym (ap (λ (xs : List FactId). map (λ (x : FactId). x.0) xs) ids_is ∙ map-map live)) rise

pub marked_at-id : (live : List LiveFact) (ids : List FactId) (place : ℕ) (id : FactId) → ids ≡ map (λ f. f.id) live → Rise 0 (map (λ f. f.id.0) live) → slice_get ids place ≡ Some id
    → marked_at live place ≡ map (with_mark id.0) live
marked_at-id live ids place id ids_is rise is =
    let at = fact_at_place live place id (ap (λ (xs : List FactId). slice_get xs place) (sym ids_is) ∙ is) in
    marked_at-is 0 live place id.0 rise at.0 at.1 (ap (λ (x : FactId). x.0) at.2)

pub set-marked : (live : List LiveFact) (place : ℕ) (f : LiveFact) → place < length live → f ≡ get_or live place f → set live place (record f { marked = true }) ≡ marked_at live place
set-marked [] place f lt is = absurd (omega arith)
set-marked (g ∷ live) zero f lt is = ap (λ (h : LiveFact). record h { marked = true } ∷ live) is
set-marked (g ∷ live) (suc place) f lt is = ap (λ (xs : List LiveFact). g ∷ xs) (set-marked live place f (omega arith) is)
