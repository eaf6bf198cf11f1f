-- The paths of statements are gone where ways through their items take what they pick, and then one of the paths behind them is gone.
use Rattle.std.proofs.Common.{◌≡◌, ◌⊎◌, ◌↔◌, ℕ, ℤ, Bool, true, false, List, [], ◌∷◌, ◌++◌, map, Contains, Some, None, inl, inr, refl, sym, ap, subst}
use Rattle.c_check.specs.declared.meaning.Variable.{Variable}
use Rattle.c_check.specs.declared.operation.Mark.{Mark}
use Rattle.c_check.specs.Plan.{Arithmetic, Test, Condition, Stmt, Stmts}
use Rattle.c_check.specs.Items.{Grain, Item, Items, Side, joined, branch, guard, test_guard, items, stmt_items}
use Rattle.thread_cfg.specs.declared.relation.Relation.{Relation}
use Rattle.thread_cfg.specs.Source.{Frame, WayEnd, compared, value, with_value}
use Rattle.thread_cfg.specs.Path.{Event, when_true, when_false}
use Rattle.thread_cfg.specs.Happen.{Holds}
use Rattle.thread_cfg.specs.Picks.{Course, Pick, PickedPath, Takes, TakesItem, TakesSide, arrived, begun_picked, condition_picked, ended_picked, relations_picked, stmt_picked, stmts_picked, test_picked, went}
use Rattle.thread_cfg.proofs.Comparisons.{SomeHolds, compared-exact}
use Rattle.thread_cfg.proofs.PicksWays.{at}
use Rattle.thread_cfg.proofs.PicksDistinct.{Contains-in, IsIn, in-Contains}
use Rattle.thread_cfg.proofs.PicksGone.{SomeGone, gone-++, gone-sets, gone-no-input, gone-any, gone-went, gone-nothing, gone-side, gone-relation}

-- ---- ways

-- items are gone through, and then one of the paths is gone; or they fail
abbrev pub Follows : Frame → List ℤ → Items → List PickedPath → List Pick → List ℤ → List ℤ → WayEnd → Type 0
Follows frame values is more picks inputs after end =
    ((between : Course) × Takes frame values is picks inputs between WayEnd.Through × SomeGone frame between.values more between.picks between.inputs after end)
    ⊎ (Takes frame values is picks inputs (arrived after) WayEnd.Fails × (end ≡ WayEnd.Fails))

-- the same of a side
abbrev SideFollows : Frame → List ℤ → Side → List PickedPath → List Pick → List ℤ → List ℤ → WayEnd → Type 0
SideFollows frame values side more picks inputs after end =
    ((between : Course) × TakesSide frame values side picks inputs between WayEnd.Through × SomeGone frame between.values more between.picks between.inputs after end)
    ⊎ (TakesSide frame values side picks inputs (arrived after) WayEnd.Fails × (end ≡ WayEnd.Fails))

-- the ways of one item
one-way : (frame : Frame) (values : List ℤ) (item : Item) (picks : List Pick) (inputs : List ℤ) (after : Course) (end : WayEnd)
    → Takes frame values (Items.Then item Items.End) picks inputs after end ↔ TakesItem frame values item picks inputs after end
one-way frame values item picks inputs after WayEnd.Through = (
  λ h. elim h [ inl w ↦ subst (λ l. TakesItem frame values item picks inputs l WayEnd.Through) (sym w.2.0) w.1 | inr w ↦ absurd (let e = w.1 in cc) ],
  λ h. inl (after, h, (refl, refl)),
)
one-way frame values item picks inputs after WayEnd.Fails = (
  λ h. elim h [ inl w ↦ absurd (let e = w.2.1 in cc) | inr w ↦ w.0 ],
  λ h. inr (h, refl),
)

-- the ways of items behind others
way-joined : (frame : Frame) (values : List ℤ) (is more : Items) (picks : List Pick) (inputs : List ℤ) (after : Course) (end : WayEnd)
    → Takes frame values (joined is more) picks inputs after end
    ↔ (((between : Course) × Takes frame values is picks inputs between WayEnd.Through × Takes frame between.values more between.picks between.inputs after end)
    ⊎ (Takes frame values is picks inputs after WayEnd.Fails × (end ≡ WayEnd.Fails)))
way-joined frame values Items.End more picks inputs after end = (
  λ h. inl (at values picks inputs, (refl, refl), h),
  λ h. elim h [
    | inl w ↦ subst (λ (l : Course). Takes frame l.values more l.picks l.inputs after end) w.1.0 w.2
    | inr w ↦ absurd (let e = w.0.1 in cc)
  ],
)
way-joined frame values (Items.Then item rest) more picks inputs after end = (
  λ h. elim h [
    | inl w ↦ elim ((way-joined frame w.0.values rest more w.0.picks w.0.inputs after end).0 w.2) [
      | inl v ↦ inl (v.0, inl (w.0, w.1, v.1), v.2)
      | inr v ↦ inr (inl (w.0, w.1, v.0), v.1)
    ]
    | inr w ↦ inr (inr (w.0, refl), w.1)
  ],
  λ h. elim h [
    | inl w ↦ elim w.1 [
      | inl v ↦ inl (v.0, v.1, (way-joined frame v.0.values rest more v.0.picks v.0.inputs after end).1 (inl (w.0, v.2, w.2)))
      | inr v ↦ absurd (let e = v.1 in cc)
    ]
    | inr w ↦ elim w.0 [
      | inl v ↦ inl (v.0, v.1, (way-joined frame v.0.values rest more v.0.picks v.0.inputs after end).1 (inr (v.2, w.1)))
      | inr v ↦ inr (v.0, w.1)
    ]
  ],
)

-- The paths are those of the side, with more behind it.
abbrev AreOfSide : Frame → List PickedPath → Side → List PickedPath → Type 0
AreOfSide frame ps side more = (values : List ℤ) (picks : List Pick) (inputs after : List ℤ) (end : WayEnd)
    → SomeGone frame values ps picks inputs after end ↔ SideFollows frame values side more picks inputs after end

-- The paths are those of the items, with more behind them.
abbrev pub AreOf : Frame → List PickedPath → Items → List PickedPath → Type 0
AreOf frame ps is more = (values : List ℤ) (picks : List Pick) (inputs after : List ℤ) (end : WayEnd)
    → SomeGone frame values ps picks inputs after end ↔ Follows frame values is more picks inputs after end

-- an item that takes nothing of these has no way
nowhere-follow : (frame : Frame) (values : List ℤ) (item : Item) (more : List PickedPath) (picks : List Pick) (inputs after : List ℤ) (end : WayEnd)
    → ((l : Course) (e : WayEnd) → ¬ TakesItem frame values item picks inputs l e) → ¬ Follows frame values (Items.Then item Items.End) more picks inputs after end
nowhere-follow frame values item more picks inputs after end n w = elim w [
  | inl v ↦ n v.0 WayEnd.Through ((one-way frame values item picks inputs v.0 WayEnd.Through).0 v.1)
  | inr v ↦ n (arrived after) WayEnd.Fails ((one-way frame values item picks inputs (arrived after) WayEnd.Fails).0 v.0)
]

-- one item goes on where the side that it takes does, by what it asks
side-follow : (frame : Frame) (values : List ℤ) (item : Item) (picks : List Pick) (side : Side) (left : List Pick) (inputs : List ℤ) (Q : Type 0) (more : List PickedPath)
    (after : List ℤ) (end : WayEnd)
    → ((l : Course) (e : WayEnd) → TakesItem frame values item picks inputs l e ↔ (Q × TakesSide frame values side left inputs l e))
    → Follows frame values (Items.Then item Items.End) more picks inputs after end ↔ (Q × SideFollows frame values side more left inputs after end)
side-follow frame values item picks side left inputs Q more after end h = (
  λ w. elim w [
    | inl v ↦ let s = (h v.0 WayEnd.Through).0 ((one-way frame values item picks inputs v.0 WayEnd.Through).0 v.1) in (s.0, inl (v.0, s.1, v.2))
    | inr v ↦ let s = (h (arrived after) WayEnd.Fails).0 ((one-way frame values item picks inputs (arrived after) WayEnd.Fails).0 v.0) in (s.0, inr (s.1, v.1))
  ],
  λ w. elim w.1 [
    | inl v ↦ inl (v.0, (one-way frame values item picks inputs v.0 WayEnd.Through).1 ((h v.0 WayEnd.Through).1 (w.0, v.1)), v.2)
    | inr v ↦ inr ((one-way frame values item picks inputs (arrived after) WayEnd.Fails).1 ((h (arrived after) WayEnd.Fails).1 (w.0, v.0)), v.1)
  ],
)

-- one item that sets values goes on from them
set-follow : (frame : Frame) (values : List ℤ) (item : Item) (more : List PickedPath) (picks : List Pick) (inputs set left after : List ℤ) (end : WayEnd)
    → ((l : Course) (e : WayEnd) → TakesItem frame values item picks inputs l e ↔ ((l ≡ at set picks left) × (e ≡ WayEnd.Through)))
    → SomeGone frame set more picks left after end ↔ Follows frame values (Items.Then item Items.End) more picks inputs after end
set-follow frame values item more picks inputs set left after end h = (
  λ g. inl (at set picks left, (one-way frame values item picks inputs (at set picks left) WayEnd.Through).1 ((h (at set picks left) WayEnd.Through).1 (refl, refl)), g),
  λ w. elim w [
    | inl v ↦
        let s = (h v.0 WayEnd.Through).0 ((one-way frame values item picks inputs v.0 WayEnd.Through).0 v.1) in
        subst (λ (l : Course). SomeGone frame l.values more l.picks l.inputs after end) s.0 v.2
    | inr v ↦
        let s = (h (arrived after) WayEnd.Fails).0 ((one-way frame values item picks inputs (arrived after) WayEnd.Fails).0 v.0) in
        absurd (let e = s.1 in cc)
  ],
)

-- ---- tests

-- a relation that holds is one that does
some-holds : (rs : List Relation) (r : Relation) (x y : ℤ) → IsIn rs r → Holds r x y → SomeHolds rs x y
some-holds [] r x y h holds = h
some-holds (q ∷ rs) r x y h holds = elim h [ inl e ↦ inl (rw e holds) | inr more ↦ inr (some-holds rs r x y more holds) ]

-- the item that asks a comparison
abbrev compared_item : Mark → Arithmetic → Arithmetic → Side → Side → Item
compared_item m a b t f = Item.Branch (Some (record { mark = m; left = a; right = b })) t f

-- a comparison of which a relation is taken
module _ (frame : Frame) (from : ℕ) (m : Mark) (a b : Arithmetic) (ts fs more : List PickedPath) (t f : Side)
    (ht : AreOfSide frame ts t more) (hf : AreOfSide frame fs f more) where
  -- a way takes a relation and goes on exactly where one of the paths that pick it is gone
  relation-follow : (values : List ℤ) (r : Relation) (left : List Pick) (inputs after : List ℤ) (end : WayEnd)
      (c : Bool) → compared m (value frame values a) (value frame values b) ≡ c
      → SomeGone frame values (relations_picked from a b (when_true m) ts ++ relations_picked from a b (when_false m) fs) (Pick.Took r ∷ left) inputs after end
      ↔ Follows frame values (Items.Then (compared_item m a b t f) Items.End) more (Pick.Took r ∷ left) inputs after end
  relation-follow values r left inputs after end true is =
      let parts = gone-++ frame values (relations_picked from a b (when_true m) ts) (relations_picked from a b (when_false m) fs) (Pick.Took r ∷ left) inputs after end in
      let trues = gone-relation frame values from a b (when_true m) ts r left inputs after end in
      let falses = gone-relation frame values from a b (when_false m) fs r left inputs after end in
      let exact = compared-exact m (value frame values a) (value frame values b) true is in
      let follow = side-follow frame values (compared_item m a b t f) (Pick.Took r ∷ left) t left inputs
      (Holds r (value frame values a) (value frame values b) × Contains (when_true m) r) more after end
      (λ l e. (λ h. let s = rw is at h.1 in ((h.0, s.0), s.1), λ h. (h.0.0, rw is (h.0.1, h.1)))) in (
        λ h. elim (parts.0 h) [
          | inl g ↦ let s = trues.0 g in follow.1 ((s.1, Contains-in (when_true m) r s.0), (ht values left inputs after end).0 s.2)
          | inr g ↦ let s = falses.0 g in absurd (exact.1 (some-holds (when_false m) r (value frame values a) (value frame values b) s.0 s.1))
        ],
        λ w. let s = follow.0 w in parts.1 (inl (trues.1 (in-Contains (when_true m) r s.0.1, s.0.0, (ht values left inputs after end).1 s.1))),
      )
  relation-follow values r left inputs after end false is =
      let parts = gone-++ frame values (relations_picked from a b (when_true m) ts) (relations_picked from a b (when_false m) fs) (Pick.Took r ∷ left) inputs after end in
      let trues = gone-relation frame values from a b (when_true m) ts r left inputs after end in
      let falses = gone-relation frame values from a b (when_false m) fs r left inputs after end in
      let exact = compared-exact m (value frame values a) (value frame values b) false is in
      let follow = side-follow frame values (compared_item m a b t f) (Pick.Took r ∷ left) f left inputs
      (Holds r (value frame values a) (value frame values b) × Contains (when_false m) r) more after end
      (λ l e. (λ h. let s = rw is at h.1 in ((h.0, s.0), s.1), λ h. (h.0.0, rw is (h.0.1, h.1)))) in (
        λ h. elim (parts.0 h) [
          | inl g ↦ let s = trues.0 g in absurd (exact.1 (some-holds (when_true m) r (value frame values a) (value frame values b) s.0 s.1))
          | inr g ↦ let s = falses.0 g in follow.1 ((s.1, Contains-in (when_false m) r s.0), (hf values left inputs after end).0 s.2)
        ],
        λ w. let s = follow.0 w in parts.1 (inr (falses.1 (in-Contains (when_false m) r s.0.1, s.0.0, (hf values left inputs after end).1 s.1))),
      )

  -- the paths of a comparison are those through its branch
  compare-follow : AreOf frame (test_picked (Test.Compare from m a b) ts fs) (branch (test_guard Grain.Whole (Test.Compare from m a b)) t f) more
  compare-follow values [] inputs after end = (
    λ h. absurd (elim ((gone-++ frame values (relations_picked from a b (when_true m) ts) (relations_picked from a b (when_false m) fs) [] inputs after end).0 h) [
      | inl g ↦ gone-nothing frame values from a b (when_true m) ts inputs after end g
      | inr g ↦ gone-nothing frame values from a b (when_false m) fs inputs after end g
    ]),
    λ w. absurd (nowhere-follow frame values (compared_item m a b t f) more [] inputs after end (λ l e h. h) w),
  )
  compare-follow values (Pick.Went side ∷ left) inputs after end = (
    λ h. absurd (elim ((gone-++ frame values (relations_picked from a b (when_true m) ts) (relations_picked from a b (when_false m) fs) (Pick.Went side ∷ left) inputs after end).0 h) [
      | inl g ↦ gone-side frame values from a b (when_true m) ts side left inputs after end g
      | inr g ↦ gone-side frame values from a b (when_false m) fs side left inputs after end g
    ]),
    λ w. absurd (nowhere-follow frame values (compared_item m a b t f) more (Pick.Went side ∷ left) inputs after end (λ l e h. h) w),
  )
  compare-follow values (Pick.Took r ∷ left) inputs after end =
      relation-follow values r left inputs after end (compared m (value frame values a) (value frame values b)) refl

-- a test, with its two sides
test-follow : (frame : Frame) (test : Test) (ts fs more : List PickedPath) (t f : Side)
    → AreOfSide frame ts t more → AreOfSide frame fs f more → AreOf frame (test_picked test ts fs) (branch (test_guard Grain.Whole test) t f) more
test-follow frame (Test.Compare from m a b) ts fs more t f ht hf = compare-follow frame from m a b ts fs more t f ht hf
test-follow frame (Test.Not u) ts fs more t f ht hf = test-follow frame u fs ts more f t hf ht
test-follow frame (Test.And u v) ts fs more t f ht hf =
    test-follow frame u (test_picked v ts fs) fs more (Side.Goes (branch (test_guard Grain.Whole v) t f)) f (test-follow frame v ts fs more t f ht hf) hf
test-follow frame (Test.Or u v) ts fs more t f ht hf =
    test-follow frame u ts (test_picked v ts fs) more t (Side.Goes (branch (test_guard Grain.Whole v) t f)) ht (test-follow frame v ts fs more t f ht hf)

-- a choice, with its two sides
choice-follow : (frame : Frame) (ts fs more : List PickedPath) (t f : Side) → AreOfSide frame ts t more → AreOfSide frame fs f more
    → AreOf frame (map (went true) ts ++ map (went false) fs) (Items.Then (Item.Branch None t f) Items.End) more
choice-follow frame ts fs more t f ht hf values [] inputs after end = (
  λ h. absurd (elim ((gone-++ frame values (map (went true) ts) (map (went false) fs) [] inputs after end).0 h) [
    | inl g ↦ let m = (gone-went frame values true ts [] inputs after end).0 g in let e = m.1 in cc
    | inr g ↦ let m = (gone-went frame values false fs [] inputs after end).0 g in let e = m.1 in cc
  ]),
  λ w. absurd (nowhere-follow frame values (Item.Branch None t f) more [] inputs after end (λ l e h. h) w),
)
choice-follow frame ts fs more t f ht hf values (Pick.Took r ∷ left) inputs after end = (
  λ h. absurd (elim ((gone-++ frame values (map (went true) ts) (map (went false) fs) (Pick.Took r ∷ left) inputs after end).0 h) [
    | inl g ↦ let m = (gone-went frame values true ts (Pick.Took r ∷ left) inputs after end).0 g in let e = m.1 in cc
    | inr g ↦ let m = (gone-went frame values false fs (Pick.Took r ∷ left) inputs after end).0 g in let e = m.1 in cc
  ]),
  λ w. absurd (nowhere-follow frame values (Item.Branch None t f) more (Pick.Took r ∷ left) inputs after end (λ l e h. h) w),
)
choice-follow frame ts fs more t f ht hf values (Pick.Went true ∷ left) inputs after end =
    let parts = gone-++ frame values (map (went true) ts) (map (went false) fs) (Pick.Went true ∷ left) inputs after end in
    let follow = side-follow frame values (Item.Branch None t f) (Pick.Went true ∷ left) t left inputs (Unit {0}) more after end (λ l e. (λ h. (tt, h), λ h. h.1)) in (
      λ h. elim (parts.0 h) [
        | inl g ↦
            let m = (gone-went frame values true ts (Pick.Went true ∷ left) inputs after end).0 g in
            let e = m.1 in let same : m.0 ≡ left = cc in follow.1 (tt, (ht values left inputs after end).0 (rw same at m.2))
        | inr g ↦ absurd (let m = (gone-went frame values false fs (Pick.Went true ∷ left) inputs after end).0 g in let e = m.1 in cc)
      ],
      λ w. parts.1 (inl ((gone-went frame values true ts (Pick.Went true ∷ left) inputs after end).1 (left, refl, (ht values left inputs after end).1 (follow.0 w).1))),
    )
choice-follow frame ts fs more t f ht hf values (Pick.Went false ∷ left) inputs after end =
    let parts = gone-++ frame values (map (went true) ts) (map (went false) fs) (Pick.Went false ∷ left) inputs after end in
    let follow = side-follow frame values (Item.Branch None t f) (Pick.Went false ∷ left) f left inputs (Unit {0}) more after end (λ l e. (λ h. (tt, h), λ h. h.1)) in (
      λ h. elim (parts.0 h) [
        | inl g ↦ absurd (let m = (gone-went frame values true ts (Pick.Went false ∷ left) inputs after end).0 g in let e = m.1 in cc)
        | inr g ↦
            let m = (gone-went frame values false fs (Pick.Went false ∷ left) inputs after end).0 g in
            let e = m.1 in let same : m.0 ≡ left = cc in follow.1 (tt, (hf values left inputs after end).0 (rw same at m.2))
      ],
      λ w. parts.1 (inr ((gone-went frame values false fs (Pick.Went false ∷ left) inputs after end).1 (left, refl, (hf values left inputs after end).1 (follow.0 w).1))),
    )

-- the paths of a condition are those through its branch
condition-follow : (frame : Frame) (condition : Condition) (ts fs more : List PickedPath) (t f : Side)
    → AreOfSide frame ts t more → AreOfSide frame fs f more → AreOf frame (condition_picked condition ts fs) (branch (guard Grain.Whole condition) t f) more
condition-follow frame (Condition.Tested from test) ts fs more t f ht hf = test-follow frame test ts fs more t f ht hf
condition-follow frame (Condition.Choice from) ts fs more t f ht hf = choice-follow frame ts fs more t f ht hf

-- ---- statements

-- nothing more is done on the side
empty-side : (frame : Frame) (more : List PickedPath) → AreOfSide frame more (Side.Goes Items.End) more
empty-side frame more values picks inputs after end = (
  λ h. inl (at values picks inputs, (refl, refl), h),
  λ h. elim h [
    | inl w ↦ subst (λ (l : Course). SomeGone frame l.values more l.picks l.inputs after end) w.1.0 w.2
    | inr w ↦ absurd (let e = w.0.1 in cc)
  ],
)

-- the assertion is false
failed-side : (frame : Frame) (more : List PickedPath) → AreOfSide frame (ended_picked true ∷ []) Side.Failed more
failed-side frame more values picks inputs after end = (
  λ h. elim h [
    | inl g ↦ inr ((let a = g.picked in let b = g.happen.0 in let c = g.happen.1 in rw (sym a, b, c) refl, refl), g.ends)
    | inr g ↦ absurd g
  ],
  λ h. elim h [
    | inl w ↦ absurd (let e = w.1.1 in cc)
    | inr w ↦ inl (record {
      picked = ap (λ (l : Course). l.picks) w.0.0;
      happen = (sym (ap (λ (l : Course). l.inputs) w.0.0), ap (λ (l : Course). l.values) w.0.0);
      ends = w.1;
    })
  ],
)

-- nothing goes on
nowhere-side : (frame : Frame) (more : List PickedPath) → AreOfSide frame [] Side.Nowhere more
nowhere-side frame more values picks inputs after end = (λ h. absurd h, λ h. elim h [ inl w ↦ absurd w.1 | inr w ↦ absurd w.0 ])

-- what has no paths and no ways
none-follow : (frame : Frame) (item : Item) (more : List PickedPath)
    → ((values : List ℤ) (picks : List Pick) (inputs : List ℤ) (l : Course) (e : WayEnd) → ¬ TakesItem frame values item picks inputs l e)
    → AreOf frame [] (Items.Then item Items.End) more
none-follow frame item more n values picks inputs after end =
    (λ h. absurd h, λ w. nowhere-follow frame values item more picks inputs after end (n values picks inputs) w)

-- an assignment
assign-follow : (frame : Frame) (place : ℕ) (v : Variable) (e : Arithmetic) (more : List PickedPath)
    → AreOf frame (map (begun_picked (Event.Sets place v e)) more) (Items.Then (Item.Assign v e) Items.End) more
assign-follow frame place v e more values picks inputs after end =
    let sets = gone-sets frame values place v e more picks inputs after end in
    let follow = set-follow frame values (Item.Assign v e) more picks inputs (with_value frame values v (value frame values e)) inputs after end (λ l d. (λ h. h, λ h. h)) in
    (λ h. follow.0 (sets.0 h), λ w. sets.1 (follow.1 w))

-- an assignment of any integer
any-follow : (frame : Frame) (v : Variable) (more : List PickedPath)
    → AreOf frame (map (begun_picked (Event.SetsAny v)) more) (Items.Then (Item.AssignAny v) Items.End) more
any-follow frame v more values picks [] after end = (
  λ h. absurd (gone-no-input frame values v more picks after end h),
  λ w. absurd (nowhere-follow frame values (Item.AssignAny v) more picks [] after end (λ l e h. h) w),
)
any-follow frame v more values picks (k ∷ inputs) after end =
    let sets = gone-any frame values v more picks k inputs after end in
    let follow = set-follow frame values (Item.AssignAny v) more picks (k ∷ inputs) (with_value frame values v k) inputs after end (λ l d. (λ h. h, λ h. h)) in
    (λ h. follow.0 (sets.0 h), λ w. sets.1 (follow.1 w))

mutual
  -- the paths of a statement are those through its items
  stmt-follow : (frame : Frame) (s : Stmt) (more : List PickedPath) → AreOf frame (stmt_picked s more) (stmt_items Grain.Whole s) more
  stmt-follow frame (Stmt.Assign from place v e) more = assign-follow frame place v e more
  stmt-follow frame (Stmt.AssignAny from v) more = any-follow frame v more
  stmt-follow frame (Stmt.If from c ts es) more =
      condition-follow frame c (stmts_picked ts more) (stmts_picked es more) more (Side.Goes (items Grain.Whole ts)) (Side.Goes (items Grain.Whole es))
      (stmts-follow frame ts more) (stmts-follow frame es more)
  stmt-follow frame (Stmt.Loop from c body last) more =
      none-follow frame (Item.Loop (guard Grain.Whole c) (items Grain.Whole body) (items Grain.Whole last)) more (λ values picks inputs l e h. h)
  stmt-follow frame (Stmt.Break from) more = none-follow frame Item.Break more (λ values picks inputs l e h. h)
  stmt-follow frame (Stmt.Exit from) more = none-follow frame Item.Exit more (λ values picks inputs l e h. h)
  stmt-follow frame (Stmt.Lock from lock) more = none-follow frame (Item.Lock lock) more (λ values picks inputs l e h. h)
  stmt-follow frame (Stmt.Unlock from lock) more = none-follow frame (Item.Unlock lock) more (λ values picks inputs l e h. h)
  stmt-follow frame (Stmt.Assert from t) more =
      test-follow frame t more (ended_picked true ∷ []) more (Side.Goes Items.End) Side.Failed (empty-side frame more) (failed-side frame more)
  stmt-follow frame (Stmt.Assume from t) more =
      test-follow frame t more [] more (Side.Goes Items.End) Side.Nowhere (empty-side frame more) (nowhere-side frame more)
  stmt-follow frame (Stmt.Atomic from inner) more = none-follow frame (Item.Atomic (items Grain.Whole inner)) more (λ values picks inputs l e h. h)

  -- the paths of statements are those through their items
  pub stmts-follow : (frame : Frame) (ss : Stmts) (more : List PickedPath) → AreOf frame (stmts_picked ss more) (items Grain.Whole ss) more
  stmts-follow frame Stmts.End more values picks inputs after end = empty-side frame more values picks inputs after end
  stmts-follow frame (Stmts.Then s rest) more values picks inputs after end =
      let here = stmt-follow frame s (stmts_picked rest more) values picks inputs after end in
      let joins = λ (l : Course) (e : WayEnd). way-joined frame values (stmt_items Grain.Whole s) (items Grain.Whole rest) picks inputs l e in (
        λ h. elim (here.0 h) [
          | inl w ↦ elim ((stmts-follow frame rest more w.0.values w.0.picks w.0.inputs after end).0 w.2) [
            | inl v ↦ inl (v.0, (joins v.0 WayEnd.Through).1 (inl (w.0, w.1, v.1)), v.2)
            | inr v ↦ inr ((joins (arrived after) WayEnd.Fails).1 (inl (w.0, w.1, v.0)), v.1)
          ]
          | inr w ↦ inr ((joins (arrived after) WayEnd.Fails).1 (inr (w.0, refl)), w.1)
        ],
        λ h. here.1 (elim h [
          | inl w ↦ elim ((joins w.0 WayEnd.Through).0 w.1) [
            | inl v ↦ inl (v.0, v.1, (stmts-follow frame rest more v.0.values v.0.picks v.0.inputs after end).1 (inl (w.0, v.2, w.2)))
            | inr v ↦ absurd (let e = v.1 in cc)
          ]
          | inr w ↦ elim ((joins (arrived after) WayEnd.Fails).0 w.0) [
            | inl v ↦ inl (v.0, v.1, (stmts-follow frame rest more v.0.values v.0.picks v.0.inputs after end).1 (inr (v.2, w.1)))
            | inr v ↦ inr (v.0, w.1)
          ]
        ]),
      )
