-- What lists contain, and stand at their places.
use Rattle.std.proofs.Common.{◌≡◌, ℕ, zero, suc, ◌<◌, ◌⊎◌, inl, inr, Bool, true, false, cond, List, [], ◌∷◌, ◌++◌, length, map, get_or, Some, refl, ap, sym, ◌∙◌, subst, arith}
use Rattle.std.proofs.lemmas.Bool.{cases_eq}
use Rattle.std.specs.List.{AllByRecursion, Contains, filter, slice_get}
use Rattle.instance_cursors.specs.declared.turns.Cursor.{Cursor}
use Rattle.instance_cursors.specs.declared.turns.Series.{Series}
use Rattle.instance_cursors.specs.declared.turns.Turn.{Turn}
use Rattle.instance_cursors.specs.Cursors.{AreDistinct, passed_at}

-- ---- what is contained

pub contains_more : {X : Type 0} (y : X) (xs : List X) (x : X) → Contains xs x → Contains (y ∷ xs) x
contains_more y xs x has = (suc has.0, omega (arith, has.1), has.2)

map_at : {X Y : Type 0} (f : X → Y) (xs : List X) (y : Y) (k : ℕ) → k < length (map f xs) → get_or (map f xs) k y ≡ y → (x : X) × Contains xs x × (f x ≡ y)
map_at f [] y k lt is = absurd (omega arith)
map_at f (x ∷ xs) y zero lt is = (x, (0, omega arith, refl), is)
map_at f (x ∷ xs) y (suc k) lt is = let more = map_at f xs y k (omega arith) is in (more.0, contains_more x xs more.0 more.1, more.2)

pub contains_from_map : {X Y : Type 0} (f : X → Y) (xs : List X) (y : Y) → Contains (map f xs) y → (x : X) × Contains xs x × (f x ≡ y)
contains_from_map f xs y has = map_at f xs y has.0 has.1 has.2

map_from : {X Y : Type 0} (f : X → Y) (xs : List X) (x : X) (k : ℕ) → k < length xs → get_or xs k x ≡ x → Contains (map f xs) (f x)
map_from f [] x k lt is = absurd (omega arith)
map_from f (y ∷ xs) x zero lt is = (0, omega arith, ap f is)
map_from f (y ∷ xs) x (suc k) lt is = contains_more (f y) (map f xs) (f x) (map_from f xs x k (omega arith) is)

pub contains_map : {X Y : Type 0} (f : X → Y) (xs : List X) (x : X) → Contains xs x → Contains (map f xs) (f x)
contains_map f xs x has = map_from f xs x has.0 has.1 has.2

-- what a filter leaves
record Kept {X : Type 0} (test : X → Bool) (xs : List X) (x : X) : Type 0 where
  there : Contains xs x
  passes : test x ≡ true

kept_step : {X : Type 0} (test : X → Bool) (y : X) (xs : List X) (x : X) (b : Bool) → test y ≡ b → ((k : ℕ) → k < length (filter test xs) → get_or (filter test xs) k x ≡ x → Kept test xs x)
    → (k : ℕ) → k < length (cond b (y ∷ filter test xs) (filter test xs)) → get_or (cond b (y ∷ filter test xs) (filter test xs)) k x ≡ x → Kept test (y ∷ xs) x
kept_step test y xs x true is more zero lt at = record { there = (0, omega arith, at); passes = ap test (sym at) ∙ is }
kept_step test y xs x true is more (suc k) lt at = let rest = more k (omega arith) at in record { there = contains_more y xs x rest.there; passes = rest.passes }
kept_step test y xs x false is more k lt at = let rest = more k lt at in record { there = contains_more y xs x rest.there; passes = rest.passes }

kept_at : {X : Type 0} (test : X → Bool) (xs : List X) (x : X) (k : ℕ) → k < length (filter test xs) → get_or (filter test xs) k x ≡ x → Kept test xs x
kept_at test [] x k lt at = absurd (omega arith)
kept_at test (y ∷ xs) x k lt at = kept_step test y xs x (test y) refl (λ n less is. kept_at test xs x n less is) k lt at

pub contains_from_filter : {X : Type 0} (test : X → Bool) (xs : List X) (x : X) → Contains (filter test xs) x → Contains xs x × (test x ≡ true)
contains_from_filter test xs x has = let kept = kept_at test xs x has.0 has.1 has.2 in (kept.there, kept.passes)

cond_front : {X : Type 0} (b : Bool) (x : X) (xs : List X) → b ≡ true → Contains (cond b (x ∷ xs) xs) x
cond_front true x xs is = (0, omega arith, refl)
cond_front false x xs is = cc

cond_behind : {X : Type 0} (b : Bool) (y x : X) (xs : List X) → Contains xs x → Contains (cond b (y ∷ xs) xs) x
cond_behind true y x xs has = contains_more y xs x has
cond_behind false y x xs has = has

filter_from : {X : Type 0} (test : X → Bool) (xs : List X) (x : X) (k : ℕ) → k < length xs → get_or xs k x ≡ x → test x ≡ true → Contains (filter test xs) x
filter_from test [] x k lt is passes = absurd (omega arith)
filter_from test (y ∷ xs) x zero lt is passes =
    let Has : _ → Type 0 = λ z. Contains (cond (test y) (y ∷ filter test xs) (filter test xs)) z in
    subst Has is (cond_front (test y) y (filter test xs) (ap test is ∙ passes))
filter_from test (y ∷ xs) x (suc k) lt is passes = cond_behind (test y) y x (filter test xs) (filter_from test xs x k (omega arith) is passes)

pub contains_filter : {X : Type 0} (test : X → Bool) (xs : List X) (x : X) → Contains xs x → test x ≡ true → Contains (filter test xs) x
contains_filter test xs x has passes = filter_from test xs x has.0 has.1 has.2 passes

-- ---- places

pub contains_place : {X : Type 0} (xs : List X) (k : ℕ) (x : X) → slice_get xs k ≡ Some x → Contains xs x
contains_place [] k x is = cc
contains_place (y ∷ xs) zero x is = let same : y ≡ x = cc in (0, omega arith, same)
contains_place (y ∷ xs) (suc k) x is = contains_more y xs x (contains_place xs k x is)

place_at : {X : Type 0} (xs : List X) (x : X) (k : ℕ) → k < length xs → get_or xs k x ≡ x → slice_get xs k ≡ Some x
place_at [] x k lt is = absurd (omega arith)
place_at (y ∷ xs) x zero lt is = ap (λ z. Some z) is
place_at (y ∷ xs) x (suc k) lt is = place_at xs x k (omega arith) is

pub place_of : {X : Type 0} (xs : List X) (x : X) → Contains xs x → (k : ℕ) × (slice_get xs k ≡ Some x)
place_of xs x has = (has.0, place_at xs x has.0 has.1 has.2)

pub all_at : {X : Type 0} (P : X → Type 0) (xs : List X) (k : ℕ) (x : X) → AllByRecursion P xs → slice_get xs k ≡ Some x → P x
all_at P [] k x all is = cc
all_at P (y ∷ xs) zero x all is = let same : y ≡ x = cc in subst P same all.0
all_at P (y ∷ xs) (suc k) x all is = all_at P xs k x all.1 is

pub push_at_end : {X : Type 0} (xs : List X) (x : X) → slice_get (xs ++ x ∷ []) (length xs) ≡ Some x
push_at_end [] x = refl
push_at_end (y ∷ xs) x = push_at_end xs x

pub push_before : {X : Type 0} (xs : List X) (y : X) (k : ℕ) (x : X) → slice_get xs k ≡ Some x → slice_get (xs ++ y ∷ []) k ≡ Some x
push_before [] y k x is = cc
push_before (z ∷ xs) y zero x is = is
push_before (z ∷ xs) y (suc k) x is = push_before xs y k x is

pub push_cases : {X : Type 0} (xs : List X) (y : X) (k : ℕ) (x : X) → slice_get (xs ++ y ∷ []) k ≡ Some x → (slice_get xs k ≡ Some x) ⊎ ((k ≡ length xs) × (y ≡ x))
push_cases [] y zero x is = inr (refl, cc)
push_cases [] y (suc k) x is = cc
push_cases (z ∷ xs) y zero x is = inl is
push_cases (z ∷ xs) y (suc k) x is = elim (push_cases xs y k x is) [ inl old ↦ inl old | inr new ↦ inr (ap (λ n. suc n) new.0, new.1) ]

-- ---- a cursor that moved

pub passed_at-same : (cursors : List Cursor) (place : ℕ) (turn : Turn) (cursor : Cursor) → slice_get cursors place ≡ Some cursor
    → slice_get (passed_at cursors place turn) place ≡ Some (record cursor { passed = turn })
passed_at-same [] place turn cursor is = cc
passed_at-same (c ∷ cursors) zero turn cursor is = let same : c ≡ cursor = cc in ap (λ (x : Cursor). Some (record x { passed = turn })) same
passed_at-same (c ∷ cursors) (suc place) turn cursor is = passed_at-same cursors place turn cursor is

pub passed_at-other : (cursors : List Cursor) (place n : ℕ) (turn : Turn) → (n ≡ place → ⊥) → slice_get (passed_at cursors place turn) n ≡ slice_get cursors n
passed_at-other [] place n turn apart = refl
passed_at-other (c ∷ cursors) zero zero turn apart = absurd (apart refl)
passed_at-other (c ∷ cursors) zero (suc n) turn apart = refl
passed_at-other (c ∷ cursors) (suc place) zero turn apart = refl
passed_at-other (c ∷ cursors) (suc place) (suc n) turn apart = passed_at-other cursors place n turn (λ e. apart (ap (λ k. suc k) e))

pub passed_at-cases : (cursors : List Cursor) (place n : ℕ) (turn : Turn) (cursor moved : Cursor) → slice_get cursors place ≡ Some cursor → slice_get (passed_at cursors place turn) n ≡ Some moved
    → ((n ≡ place) × (record cursor { passed = turn } ≡ moved)) ⊎ ((n ≡ place → ⊥) × (slice_get cursors n ≡ Some moved))
passed_at-cases cursors place n turn cursor moved at is =
    elim (cases_eq n place) [
      | inl same ↦
          let here : Some (record cursor { passed = turn }) ≡ Some moved = sym (passed_at-same cursors place turn cursor at) ∙ (ap (λ k. slice_get (passed_at cursors place turn) k) (sym same) ∙ is) in
          inl (same, cc)
      | inr apart ↦ inr (apart, sym (passed_at-other cursors place n turn apart) ∙ is)
    ]

pub series-passed_at : (cursors : List Cursor) (place : ℕ) (turn : Turn) → map (λ c. c.series) (passed_at cursors place turn) ≡ map (λ (c : Cursor). c.series) cursors
series-passed_at [] place turn = refl
series-passed_at (c ∷ cursors) zero turn = refl
series-passed_at (c ∷ cursors) (suc place) turn = ap (λ (s : List Series). c.series ∷ s) (series-passed_at cursors place turn)

-- ---- no series stands twice

pub distinct_at : (cursors : List Cursor) (k n : ℕ) (c d : Cursor) → AreDistinct cursors → slice_get cursors k ≡ Some c → slice_get cursors n ≡ Some d → c.series ≡ d.series → k ≡ n
distinct_at [] k n c d apart c_at d_at same = cc
distinct_at (x ∷ cursors) zero zero c d apart c_at d_at same = refl
distinct_at (x ∷ cursors) zero (suc n) c d apart c_at d_at same =
    let here : x ≡ c = cc in
    absurd (all_at (λ o. o.series ≡ x.series → ⊥) cursors n d apart.0 d_at (sym same ∙ ap (λ (o : Cursor). o.series) (sym here)))
distinct_at (x ∷ cursors) (suc k) zero c d apart c_at d_at same =
    let here : x ≡ d = cc in
    absurd (all_at (λ o. o.series ≡ x.series → ⊥) cursors k c apart.0 c_at (same ∙ ap (λ (o : Cursor). o.series) (sym here)))
distinct_at (x ∷ cursors) (suc k) (suc n) c d apart c_at d_at same = ap (λ m. suc m) (distinct_at cursors k n c d apart.1 c_at d_at same)

differ_all : (one other : List Cursor) (s t : Series) → map (λ (c : Cursor). c.series) one ≡ map (λ (c : Cursor). c.series) other → s ≡ t
    → AllByRecursion (λ o. o.series ≡ s → ⊥) one → AllByRecursion (λ (o : Cursor). o.series ≡ t → ⊥) other
differ_all [] [] s t same e all = tt
differ_all [] (d ∷ other) s t same e all = cc
differ_all (c ∷ one) [] s t same e all = cc
differ_all (c ∷ one) (d ∷ other) s t same e all =
    let heads : c.series ≡ d.series = cc in
    let tails : map (λ (x : Cursor). x.series) one ≡ map (λ (x : Cursor). x.series) other = cc in
    ((λ is. all.0 (heads ∙ (is ∙ sym e))), differ_all one other s t tails e all.1)

pub distinct_same : (one other : List Cursor) → map (λ (c : Cursor). c.series) one ≡ map (λ (c : Cursor). c.series) other → AreDistinct one → AreDistinct other
distinct_same [] [] same apart = tt
distinct_same [] (d ∷ other) same apart = cc
distinct_same (c ∷ one) [] same apart = cc
distinct_same (c ∷ one) (d ∷ other) same apart =
    let heads : c.series ≡ d.series = cc in
    let tails : map (λ (x : Cursor). x.series) one ≡ map (λ (x : Cursor). x.series) other = cc in
    (differ_all one other c.series d.series tails heads apart.0, distinct_same one other tails apart.1)

filter_all : (test : Cursor → Bool) (P : Cursor → Type 0) (cursors : List Cursor) → AllByRecursion P cursors → AllByRecursion P (filter test cursors)
filter_all test P [] all = tt
filter_all test P (c ∷ cursors) all = cond_all (test c) P c (filter test cursors) all.0 (filter_all test P cursors all.1) where
  cond_all : (b : Bool) (P : Cursor → Type 0) (c : Cursor) (rest : List Cursor) → P c → AllByRecursion P rest → AllByRecursion P (cond b (c ∷ rest) rest)
  cond_all true P c rest here all = (here, all)
  cond_all false P c rest here all = all

pub distinct_filter : (test : Cursor → Bool) (cursors : List Cursor) → AreDistinct cursors → AreDistinct (filter test cursors)
distinct_filter test [] apart = tt
distinct_filter test (c ∷ cursors) apart =
    cond_distinct (test c) c (filter test cursors) (filter_all test (λ o. o.series ≡ c.series → ⊥) cursors apart.0) (distinct_filter test cursors apart.1) where
      cond_distinct : (b : Bool) (c : Cursor) (rest : List Cursor) → AllByRecursion (λ o. o.series ≡ c.series → ⊥) rest → AreDistinct rest → AreDistinct (cond b (c ∷ rest) rest)
      cond_distinct true c rest all apart = (all, apart)
      cond_distinct false c rest all apart = apart

all_push : (P : Cursor → Type 0) (cursors : List Cursor) (c : Cursor) → AllByRecursion P cursors → P c → AllByRecursion P (cursors ++ c ∷ [])
all_push P [] c all here = (here, tt)
all_push P (d ∷ cursors) c all here = (all.0, all_push P cursors c all.1 here)

pub distinct_push : (cursors : List Cursor) (c : Cursor) → AreDistinct cursors → ((k : ℕ) (d : Cursor) → slice_get cursors k ≡ Some d → c.series ≡ d.series → ⊥) → AreDistinct (cursors ++ c ∷ [])
distinct_push [] c apart new = (tt, tt)
distinct_push (d ∷ cursors) c apart new =
    (all_push (λ o. o.series ≡ d.series → ⊥) cursors c apart.0 (new 0 d refl), distinct_push cursors c apart.1 (λ k x at. new (suc k) x at))
