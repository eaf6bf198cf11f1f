-- Two paths of an atomic body at different places pick differently.
use Rattle.std.proofs.Common.{◌≡◌, ◌⊎◌, ℕ, zero, suc, ◌<◌, true, false, List, [], ◌∷◌, ◌++◌, map, length, AllPairs, Contains, slice_index_or, inl, inr, refl, arith}
use Rattle.c_check.specs.declared.operation.Mark.{Mark}
use Rattle.c_check.specs.declared.operation.Mark.TheVariants as mark
use Rattle.c_check.specs.Plan.{Arithmetic, Test, Condition, Stmt, Stmts}
use Rattle.thread_cfg.specs.declared.relation.Relation.{Relation}
use Rattle.thread_cfg.specs.Path.{Event, when_true, when_false}
use Rattle.thread_cfg.specs.Picks.{Pick, PickedPath, PicksDiffer, begun_picked, block_picked, condition_picked, ended_picked, relations_picked, stmt_picked, stmts_picked, test_picked, took, went}

-- ---- what is in a list

-- The element is in the list.
abbrev pub IsIn : {X : Type 0} → List X → X → Type 0
IsIn [] x = ⊥
IsIn (y ∷ ys) x = (y ≡ x) ⊎ IsIn ys x

-- what stands at a place is in the list
in-at : {X : Type 0} (xs : List X) (x : X) (k : ℕ) → k < length xs → slice_index_or xs k x ≡ x → IsIn xs x
in-at [] x k below e = absurd (omega arith)
in-at (y ∷ ys) x zero below e = inl e
in-at (y ∷ ys) x (suc k) below e = inr (in-at ys x k (omega arith) e)

-- what a list contains is in it
pub in-Contains : {X : Type 0} (xs : List X) (x : X) → Contains xs x → IsIn xs x
in-Contains xs x h = in-at xs x h.0 h.1 h.2

-- what is in a list it contains
pub Contains-in : {X : Type 0} (xs : List X) (x : X) → IsIn xs x → Contains xs x
Contains-in [] x h = absurd h
Contains-in (y ∷ ys) x h = elim h [
  | inl e ↦ (0, omega arith, e)
  | inr more ↦ let m = Contains-in ys x more in (suc m.0, (let below : m.0 < length ys = m.1 in omega arith), m.2)
]

-- ---- paths that pick this

-- One of the paths picks just this.
abbrev pub IsPicked : List PickedPath → List Pick → Type 0
IsPicked [] picks = ⊥
IsPicked (p ∷ ps) picks = (p.picks ≡ picks) ⊎ IsPicked ps picks

-- No two of the paths pick the same.
abbrev pub AreApart : List PickedPath → Type 0
AreApart [] = Unit {0}
AreApart (p ∷ ps) = ¬ IsPicked ps p.picks × AreApart ps

-- what paths behind others pick
picked-++ : (ps qs : List PickedPath) (picks : List Pick) → IsPicked (ps ++ qs) picks → IsPicked ps picks ⊎ IsPicked qs picks
picked-++ [] qs picks h = inr h
picked-++ (p ∷ ps) qs picks h = elim h [ inl e ↦ inl (inl e) | inr more ↦ elim (picked-++ ps qs picks more) [ inl g ↦ inl (inr g) | inr g ↦ inr g ] ]

-- paths behind others that pick differently
apart-++ : (ps qs : List PickedPath) → AreApart ps → AreApart qs → ((picks : List Pick) → IsPicked ps picks → ¬ IsPicked qs picks) → AreApart (ps ++ qs)
apart-++ [] qs a b differ = b
apart-++ (p ∷ ps) qs a b differ = (
  λ h. elim (picked-++ ps qs p.picks h) [ inl g ↦ a.0 g | inr g ↦ differ p.picks (inl refl) g ],
  apart-++ ps qs a.1 b (λ picks g. differ picks (inr g)),
)

-- what is picked behind one pick
module _ (pick : Pick) (f : PickedPath → PickedPath) (adds : (p : PickedPath) → (f p).picks ≡ pick ∷ p.picks) where
  -- what is picked begins with what is put in front
  picked-adds : (ps : List PickedPath) (picks : List Pick) → IsPicked (map f ps) picks → (left : List Pick) × (picks ≡ pick ∷ left) × IsPicked ps left
  picked-adds [] picks h = absurd h
  picked-adds (p ∷ ps) picks h = elim h [
    | inl e ↦ (p.picks, (let added = adds p in cc), inl refl)
    | inr more ↦ let m = picked-adds ps picks more in (m.0, m.1, inr m.2)
  ]

  -- the same pick in front of paths that pick differently leaves them so
  apart-adds : (ps : List PickedPath) → AreApart ps → AreApart (map f ps)
  apart-adds [] a = tt
  apart-adds (p ∷ ps) a = (
    λ h. let m = picked-adds ps (f p).picks h in let added = adds p in let same : m.0 ≡ p.picks = cc in a.0 (rw same at m.2),
    apart-adds ps a.1,
  )

-- an event picks nothing
picked-begun : (event : Event) (ps : List PickedPath) (picks : List Pick) → IsPicked (map (begun_picked event) ps) picks → IsPicked ps picks
picked-begun event [] picks h = h
picked-begun event (p ∷ ps) picks h = elim h [ inl e ↦ inl e | inr more ↦ inr (picked-begun event ps picks more) ]

-- an event in front of paths that pick differently leaves them so
apart-begun : (event : Event) (ps : List PickedPath) → AreApart ps → AreApart (map (begun_picked event) ps)
apart-begun event [] a = tt
apart-begun event (p ∷ ps) a = (λ h. a.0 (picked-begun event ps p.picks h), apart-begun event ps a.1)

-- ---- comparisons

-- No relation is there twice.
abbrev AreSeparate : List Relation → Type 0
AreSeparate [] = Unit {0}
AreSeparate (r ∷ rs) = ¬ IsIn rs r × AreSeparate rs

-- the relations of the sides of a mark are all different
separate : (m : Mark) → AreSeparate (when_true m) × AreSeparate (when_false m) × ((r : Relation) → IsIn (when_true m) r → ¬ IsIn (when_false m) r)
separate mark.Equal = (
  (λ h. h, tt),
  (λ h. elim h [ inl e ↦ cc | inr h ↦ h ], (λ h. h, tt)),
  λ r h g. elim h [ inl e ↦ elim g [ inl d ↦ cc | inr g ↦ elim g [ inl d ↦ cc | inr g ↦ g ] ] | inr h ↦ h ],
)
separate mark.Unequal = (
  (λ h. elim h [ inl e ↦ cc | inr h ↦ h ], (λ h. h, tt)),
  (λ h. h, tt),
  λ r h g. elim g [ inl d ↦ elim h [ inl e ↦ cc | inr h ↦ elim h [ inl e ↦ cc | inr h ↦ h ] ] | inr g ↦ g ],
)
separate mark.Less = ((λ h. h, tt), (λ h. h, tt), λ r h g. elim h [ inl e ↦ elim g [ inl d ↦ cc | inr g ↦ g ] | inr h ↦ h ])
separate mark.AtMost = ((λ h. h, tt), (λ h. h, tt), λ r h g. elim h [ inl e ↦ elim g [ inl d ↦ cc | inr g ↦ g ] | inr h ↦ h ])
separate mark.Greater = ((λ h. h, tt), (λ h. h, tt), λ r h g. elim h [ inl e ↦ elim g [ inl d ↦ cc | inr g ↦ g ] | inr h ↦ h ])
separate mark.AtLeast = ((λ h. h, tt), (λ h. h, tt), λ r h g. elim h [ inl e ↦ elim g [ inl d ↦ cc | inr g ↦ g ] | inr h ↦ h ])

module _ (from : ℕ) (a b : Arithmetic) where
  -- what is picked of relations is one of them
  picked-relations : (rs : List Relation) (ps : List PickedPath) (picks : List Pick) → IsPicked (relations_picked from a b rs ps) picks
      → (r : Relation) × (left : List Pick) × (picks ≡ Pick.Took r ∷ left) × IsIn rs r
  picked-relations [] ps picks h = absurd h
  picked-relations (r ∷ rs) ps picks h = elim (picked-++ (map (took from r a b) ps) (relations_picked from a b rs ps) picks h) [
    | inl g ↦ let m = picked-adds (Pick.Took r) (took from r a b) (λ p. refl) ps picks g in (r, m.0, m.1, inl refl)
    | inr g ↦ let m = picked-relations rs ps picks g in (m.0, m.1, m.2, inr m.3)
  ]

  -- relations that differ in front of paths that pick differently leave them so
  apart-relations : (rs : List Relation) (ps : List PickedPath) → AreSeparate rs → AreApart ps → AreApart (relations_picked from a b rs ps)
  apart-relations [] ps s apart = tt
  apart-relations (r ∷ rs) ps s apart =
      apart-++ (map (took from r a b) ps) (relations_picked from a b rs ps)
      (apart-adds (Pick.Took r) (took from r a b) (λ p. refl) ps apart) (apart-relations rs ps s.1 apart)
      (λ picks h g.
      let here = picked-adds (Pick.Took r) (took from r a b) (λ p. refl) ps picks h in
      let there = picked-relations rs ps picks g in
      let same : there.0 ≡ r = cc in s.0 (rw same at there.3))

  -- the paths of a comparison pick differently, where those of each side do
  apart-compare : (m : Mark) (ts fs : List PickedPath) → AreApart ts → AreApart fs
      → AreApart (relations_picked from a b (when_true m) ts ++ relations_picked from a b (when_false m) fs)
  apart-compare m ts fs at af =
      let s = separate m in
      apart-++ (relations_picked from a b (when_true m) ts) (relations_picked from a b (when_false m) fs)
      (apart-relations (when_true m) ts s.0 at) (apart-relations (when_false m) fs s.1 af)
      (λ picks h g.
      let here = picked-relations (when_true m) ts picks h in
      let there = picked-relations (when_false m) fs picks g in
      let same : there.0 ≡ here.0 = cc in s.2 here.0 here.3 (rw same at there.3))

-- ---- statements

-- the paths of a test pick differently, where those of each side do
apart-test : (test : Test) (ts fs : List PickedPath) → AreApart ts → AreApart fs → AreApart (test_picked test ts fs)
apart-test (Test.Compare from m a b) ts fs at af = apart-compare from a b m ts fs at af
apart-test (Test.Not t) ts fs at af = apart-test t fs ts af at
apart-test (Test.And t u) ts fs at af = apart-test t (test_picked u ts fs) fs (apart-test u ts fs at af) af
apart-test (Test.Or t u) ts fs at af = apart-test t ts (test_picked u ts fs) at (apart-test u ts fs at af)

-- the paths of a condition pick differently, where those of each side do
apart-condition : (c : Condition) (ts fs : List PickedPath) → AreApart ts → AreApart fs → AreApart (condition_picked c ts fs)
apart-condition (Condition.Tested from t) ts fs at af = apart-test t ts fs at af
apart-condition (Condition.Choice from) ts fs at af =
    apart-++ (map (went true) ts) (map (went false) fs)
    (apart-adds (Pick.Went true) (went true) (λ p. refl) ts at) (apart-adds (Pick.Went false) (went false) (λ p. refl) fs af)
    (λ picks h g.
    let here = picked-adds (Pick.Went true) (went true) (λ p. refl) ts picks h in
    let there = picked-adds (Pick.Went false) (went false) (λ p. refl) fs picks g in cc)

mutual
  -- the paths of a statement pick differently, where those behind it do
  apart-stmt : (s : Stmt) (more : List PickedPath) → AreApart more → AreApart (stmt_picked s more)
  apart-stmt (Stmt.Assign from place v e) more h = apart-begun (Event.Sets place v e) more h
  apart-stmt (Stmt.AssignAny from v) more h = apart-begun (Event.SetsAny v) more h
  apart-stmt (Stmt.If from c ts es) more h = apart-condition c (stmts_picked ts more) (stmts_picked es more) (apart-stmts ts more h) (apart-stmts es more h)
  apart-stmt (Stmt.Loop from c body last) more h = tt
  apart-stmt (Stmt.Break from) more h = tt
  apart-stmt (Stmt.Exit from) more h = tt
  apart-stmt (Stmt.Lock from lock) more h = tt
  apart-stmt (Stmt.Unlock from lock) more h = tt
  apart-stmt (Stmt.Assert from t) more h = apart-test t more (ended_picked true ∷ []) h (λ g. g, tt)
  apart-stmt (Stmt.Assume from t) more h = apart-test t more [] h tt
  apart-stmt (Stmt.Atomic from inner) more h = tt

  -- the paths of statements pick differently, where those behind them do
  apart-stmts : (ss : Stmts) (more : List PickedPath) → AreApart more → AreApart (stmts_picked ss more)
  apart-stmts Stmts.End more h = h
  apart-stmts (Stmts.Then s rest) more h = apart-stmt s (stmts_picked rest more) (apart-stmts rest more h)

-- no two paths of a body pick the same
pub block-apart : (inner : Stmts) → AreApart (block_picked inner)
block-apart inner = apart-stmts inner (ended_picked false ∷ []) (λ g. g, tt)

-- ---- places

-- a path that stands at a place is picked by its picks
picked-at : (ps : List PickedPath) (k : ℕ) (d : PickedPath) → k < length ps → IsPicked ps (slice_index_or ps k d).picks
picked-at [] k d below = absurd (omega arith)
picked-at (p ∷ ps) zero d below = inl refl
picked-at (p ∷ ps) (suc k) d below = inr (picked-at ps k d (omega arith))

-- where paths pick differently, no two at different places pick the same
apart-pairs : (ps : List PickedPath) → AreApart ps → AllPairs (λ p q. ¬ (p.picks ≡ q.picks)) ps
apart-pairs [] apart i j d below within = absurd (omega arith)
apart-pairs (p ∷ ps) apart i zero d below within = absurd (omega arith)
apart-pairs (p ∷ ps) apart zero (suc j) d below within = λ e. apart.0 (rw e (picked-at ps j d (omega arith)))
apart-pairs (p ∷ ps) apart (suc i) (suc j) d below within = apart-pairs ps apart.1 i j d (omega arith) (omega arith)

-- two paths at different places pick differently
pub picks-differ : PicksDiffer
picks-differ inner = apart-pairs (block_picked inner) (block-apart inner)
