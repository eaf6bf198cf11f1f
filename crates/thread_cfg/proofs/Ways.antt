-- The ways through the items of an atomic body are those that its paths are gone by.
use Rattle.std.proofs.Common.{◌≡◌, ◌⊎◌, ◌↔◌, ℕ, ℤ, Bool, true, false, List, [], ◌∷◌, ◌++◌, map, MatchBool, Some, None, inl, inr, refl, sym, subst}
use Rattle.c_check.specs.declared.meaning.Variable.{Variable}
use Rattle.c_check.specs.declared.operation.Mark.{Mark}
use Rattle.c_check.specs.Plan.{Arithmetic, Test, Condition, Stmt, Stmts}
use Rattle.c_check.specs.Items.{Grain, Item, Items, Side, joined, branch, guard, test_guard, items, stmt_items}
use Rattle.thread_cfg.specs.declared.relation.Relation.{Relation}
use Rattle.thread_cfg.specs.Source.{Frame, IsWay, IsItemWay, IsSideWay, WayEnd, compared, value, with_value}
use Rattle.thread_cfg.specs.Path.{Event, Path, begun, ended, picked, test_paths, condition_paths, stmt_paths, paths, block_paths, when_true, when_false}
use Rattle.thread_cfg.specs.inside.GonePaths.{IsGone, SomeGone}
use Rattle.thread_cfg.specs.Happen.{Happen, Holds}
use Rattle.thread_cfg.proofs.Comparisons.{SomeHolds, compared-exact}

-- ---- paths that are gone

-- of paths behind others one is gone where it is one of these or of those
gone-++ : (frame : Frame) (values : List ℤ) (ps qs : List Path) (after : List ℤ) (end : WayEnd)
    → SomeGone frame values (ps ++ qs) after end ↔ (SomeGone frame values ps after end ⊎ SomeGone frame values qs after end)
gone-++ frame values [] qs after end = (λ h. inr h, λ h. elim h [ inl g ↦ absurd g | inr g ↦ g ])
gone-++ frame values (p ∷ ps) qs after end = (
  λ h. elim h [ inl g ↦ inl (inl g) | inr g ↦ elim ((gone-++ frame values ps qs after end).0 g) [ inl g ↦ inl (inr g) | inr g ↦ inr g ] ],
  λ h. elim h [
    | inl g ↦ elim g [ inl g ↦ inl g | inr g ↦ inr ((gone-++ frame values ps qs after end).1 (inl g)) ]
    | inr g ↦ inr ((gone-++ frame values ps qs after end).1 (inr g))
  ],
)

-- a variable is set, and then a path is gone
gone-sets : (frame : Frame) (values : List ℤ) (at : ℕ) (v : Variable) (e : Arithmetic) (ps : List Path) (after : List ℤ) (end : WayEnd)
    → SomeGone frame values (map (begun (Event.Sets at v e)) ps) after end ↔ SomeGone frame (with_value frame values v (value frame values e)) ps after end
gone-sets frame values at v e [] after end = (λ h. h, λ h. h)
gone-sets frame values at v e (p ∷ ps) after end = (
  λ h. elim h [ inl g ↦ inl (record { inputs = g.inputs; happen = g.happen; ends = g.ends }) | inr g ↦ inr ((gone-sets frame values at v e ps after end).0 g) ],
  λ h. elim h [ inl g ↦ inl (record { inputs = g.inputs; happen = g.happen; ends = g.ends }) | inr g ↦ inr ((gone-sets frame values at v e ps after end).1 g) ],
)

-- a variable is set to some integer, and then a path is gone
gone-any : (frame : Frame) (values : List ℤ) (v : Variable) (ps : List Path) (after : List ℤ) (end : WayEnd)
    → SomeGone frame values (map (begun (Event.SetsAny v)) ps) after end ↔ ((k : ℤ) × SomeGone frame (with_value frame values v k) ps after end)
gone-any frame values v [] after end = (λ h. absurd h, λ h. h.1)
gone-any frame values v (p ∷ ps) after end = (
  λ h. elim h [
    | inl g ↦ let f = first g.inputs g.happen in (f.0, inl (record { inputs = f.1; happen = f.2; ends = g.ends }))
    | inr g ↦ let more = (gone-any frame values v ps after end).0 g in (more.0, inr more.1)
  ],
  λ h. elim h.1 [
    | inl g ↦ inl (record { inputs = h.0 ∷ g.inputs; happen = g.happen; ends = g.ends })
    | inr g ↦ inr ((gone-any frame values v ps after end).1 (h.0, g))
  ],
)
  where
    first : (inputs : List ℤ) → Happen frame values (Event.SetsAny v ∷ p.events) inputs after
        → (k : ℤ) × (rest : List ℤ) × Happen frame (with_value frame values v k) p.events rest after
    first [] h = absurd h
    first (k ∷ rest) h = (k, rest, h)

-- two numbers are related so, and then a path is gone
gone-requires : (frame : Frame) (values : List ℤ) (from : ℕ) (r : Relation) (a b : Arithmetic) (ps : List Path) (after : List ℤ) (end : WayEnd)
    → SomeGone frame values (map (begun (Event.Requires from r a b)) ps) after end
    ↔ (Holds r (value frame values a) (value frame values b) × SomeGone frame values ps after end)
gone-requires frame values from r a b [] after end = (λ h. absurd h, λ h. h.1)
gone-requires frame values from r a b (p ∷ ps) after end = (
  λ h. elim h [
    | inl g ↦ (g.happen.0, inl (record { inputs = g.inputs; happen = g.happen.1; ends = g.ends }))
    | inr g ↦ let more = (gone-requires frame values from r a b ps after end).0 g in (more.0, inr more.1)
  ],
  λ h. elim h.1 [
    | inl g ↦ inl (record { inputs = g.inputs; happen = (h.0, g.happen); ends = g.ends })
    | inr g ↦ inr ((gone-requires frame values from r a b ps after end).1 (h.0, g))
  ],
)

-- one of the relations holds, and then a path is gone
gone-picked : (frame : Frame) (values : List ℤ) (from : ℕ) (a b : Arithmetic) (rs : List Relation) (ps : List Path) (after : List ℤ) (end : WayEnd)
    → SomeGone frame values (picked from a b rs ps) after end
    ↔ (SomeHolds rs (value frame values a) (value frame values b) × SomeGone frame values ps after end)
gone-picked frame values from a b [] ps after end = (λ h. absurd h, λ h. h.0)
gone-picked frame values from a b (r ∷ rs) ps after end = (
  λ h. elim ((gone-++ frame values (map (begun (Event.Requires from r a b)) ps) (picked from a b rs ps) after end).0 h) [
    | inl g ↦ let here = (gone-requires frame values from r a b ps after end).0 g in (inl here.0, here.1)
    | inr g ↦ let more = (gone-picked frame values from a b rs ps after end).0 g in (inr more.0, more.1)
  ],
  λ h. (gone-++ frame values (map (begun (Event.Requires from r a b)) ps) (picked from a b rs ps) after end).1 (elim h.0 [
    | inl holds ↦ inl ((gone-requires frame values from r a b ps after end).1 (holds, h.1))
    | inr more ↦ inr ((gone-picked frame values from a b rs ps after end).1 (more, h.1))
  ]),
)

-- the side of a comparison that its truth names is gone to
gone-compared : (frame : Frame) (values : List ℤ) (from : ℕ) (m : Mark) (a b : Arithmetic) (ts fs : List Path) (after : List ℤ) (end : WayEnd)
    → SomeGone frame values (picked from a b (when_true m) ts ++ picked from a b (when_false m) fs) after end
    ↔ MatchBool (compared m (value frame values a) (value frame values b)) (SomeGone frame values ts after end) (SomeGone frame values fs after end)
gone-compared frame values from m a b ts fs after end =
    by (compared m (value frame values a) (value frame values b)) (compared-exact m (value frame values a) (value frame values b) _ refl)
  where
    by : (c : Bool)
        → MatchBool c (SomeHolds (when_true m) (value frame values a) (value frame values b) × ¬ SomeHolds (when_false m) (value frame values a) (value frame values b))
        (SomeHolds (when_false m) (value frame values a) (value frame values b) × ¬ SomeHolds (when_true m) (value frame values a) (value frame values b))
        → SomeGone frame values (picked from a b (when_true m) ts ++ picked from a b (when_false m) fs) after end
        ↔ MatchBool c (SomeGone frame values ts after end) (SomeGone frame values fs after end)
    by true h =
        let parts = gone-++ frame values (picked from a b (when_true m) ts) (picked from a b (when_false m) fs) after end in
        let trues = gone-picked frame values from a b (when_true m) ts after end in
        let falses = gone-picked frame values from a b (when_false m) fs after end in (
          λ g. elim (parts.0 g) [ inl t ↦ (trues.0 t).1 | inr f ↦ absurd (h.1 (falses.0 f).0) ],
          λ g. parts.1 (inl (trues.1 (h.0, g))),
        )
    by false h =
        let parts = gone-++ frame values (picked from a b (when_true m) ts) (picked from a b (when_false m) fs) after end in
        let trues = gone-picked frame values from a b (when_true m) ts after end in
        let falses = gone-picked frame values from a b (when_false m) fs after end in (
          λ g. elim (parts.0 g) [ inl t ↦ absurd (h.1 (trues.0 t).0) | inr f ↦ (falses.0 f).1 ],
          λ g. parts.1 (inr (falses.1 (h.0, g))),
        )

-- ---- ways

-- items are gone through, and then one of the paths is gone; or they fail
abbrev Follows : Frame → List ℤ → Items → List Path → List ℤ → WayEnd → Type 0
Follows frame values is more after end =
    ((between : List ℤ) × IsWay frame values is between WayEnd.Through × SomeGone frame between more after end)
    ⊎ (IsWay frame values is after WayEnd.Fails × (end ≡ WayEnd.Fails))

-- the same of a side
abbrev SideFollows : Frame → List ℤ → Side → List Path → List ℤ → WayEnd → Type 0
SideFollows frame values side more after end =
    ((between : List ℤ) × IsSideWay frame values side between WayEnd.Through × SomeGone frame between more after end)
    ⊎ (IsSideWay frame values side after WayEnd.Fails × (end ≡ WayEnd.Fails))

-- two ends differ
through-fails : ¬ (WayEnd.Through ≡ WayEnd.Fails)
through-fails e = subst tell e tt
  where
    tell : WayEnd → Type 0
    tell WayEnd.Through = Unit {0}
    tell WayEnd.Fails = ⊥

-- the ways of one item
one-way : (frame : Frame) (values : List ℤ) (item : Item) (after : List ℤ) (end : WayEnd)
    → IsWay frame values (Items.Then item Items.End) after end ↔ IsItemWay frame values item after end
one-way frame values item after WayEnd.Through = (
  λ h. elim h [ inl w ↦ subst (λ l. IsItemWay frame values item l WayEnd.Through) (sym w.2.0) w.1 | inr w ↦ absurd (through-fails w.1) ],
  λ h. inl (after, h, (refl, refl)),
)
one-way frame values item after WayEnd.Fails = (
  λ h. elim h [ inl w ↦ absurd (through-fails (sym w.2.1)) | inr w ↦ w.0 ],
  λ h. inr (h, refl),
)

-- the ways of items behind others
way-joined : (frame : Frame) (values : List ℤ) (is more : Items) (after : List ℤ) (end : WayEnd)
    → IsWay frame values (joined is more) after end
    ↔ (((between : List ℤ) × IsWay frame values is between WayEnd.Through × IsWay frame between more after end)
    ⊎ (IsWay frame values is after WayEnd.Fails × (end ≡ WayEnd.Fails)))
way-joined frame values Items.End more after end = (
  λ h. inl (values, (refl, refl), h),
  λ h. elim h [ inl w ↦ subst (λ l. IsWay frame l more after end) w.1.0 w.2 | inr w ↦ absurd (through-fails (sym w.0.1)) ],
)
way-joined frame values (Items.Then item rest) more after end = (
  λ h. elim h [
    | inl w ↦ elim ((way-joined frame w.0 rest more after end).0 w.2) [
      | inl v ↦ inl (v.0, inl (w.0, w.1, v.1), v.2)
      | inr v ↦ inr (inl (w.0, w.1, v.0), v.1)
    ]
    | inr w ↦ inr (inr (w.0, refl), w.1)
  ],
  λ h. elim h [
    | inl w ↦ elim w.1 [
      | inl v ↦ inl (v.0, v.1, (way-joined frame v.0 rest more after end).1 (inl (w.0, v.2, w.2)))
      | inr v ↦ absurd (through-fails v.1)
    ]
    | inr w ↦ elim w.0 [
      | inl v ↦ inl (v.0, v.1, (way-joined frame v.0 rest more after end).1 (inr (v.2, w.1)))
      | inr v ↦ inr (v.0, w.1)
    ]
  ],
)

-- ---- tests

-- The paths are those of the side, with more behind it.
abbrev AreOfSide : Frame → List Path → Side → List Path → Type 0
AreOfSide frame ps side more =
    (values after : List ℤ) (end : WayEnd) → SomeGone frame values ps after end ↔ SideFollows frame values side more after end

-- The paths are those of the items, with more behind them.
abbrev AreOf : Frame → List Path → Items → List Path → Type 0
AreOf frame ps is more = (values after : List ℤ) (end : WayEnd) → SomeGone frame values ps after end ↔ Follows frame values is more after end

-- the item that asks a comparison
abbrev compared_item : Mark → Arithmetic → Arithmetic → Side → Side → Item
compared_item m a b t f = Item.Branch (Some (record { mark = m; left = a; right = b })) t f

-- a comparison that is made at once
compare-follow : (frame : Frame) (from : ℕ) (m : Mark) (a b : Arithmetic) (ts fs more : List Path) (t f : Side)
    → AreOfSide frame ts t more → AreOfSide frame fs f more
    → AreOf frame (test_paths (Test.Compare from m a b) ts fs) (branch (test_guard Grain.Whole (Test.Compare from m a b)) t f) more
compare-follow frame from m a b ts fs more t f ht hf values after end = by (compared m (value frame values a) (value frame values b)) refl
  where
    side : (c : Bool) (l : List ℤ) (e : WayEnd) → compared m (value frame values a) (value frame values b) ≡ c
        → IsWay frame values (Items.Then (compared_item m a b t f) Items.End) l e ↔ MatchBool c (IsSideWay frame values t l e) (IsSideWay frame values f l e)
    side c l e is =
        subst (λ x. IsWay frame values (Items.Then (compared_item m a b t f) Items.End) l e ↔ MatchBool x (IsSideWay frame values t l e) (IsSideWay frame values f l e)) is
        (one-way frame values (compared_item m a b t f) l e)

    by : (c : Bool) → compared m (value frame values a) (value frame values b) ≡ c
        → SomeGone frame values (test_paths (Test.Compare from m a b) ts fs) after end ↔ Follows frame values (Items.Then (compared_item m a b t f) Items.End) more after end
    by true is =
        let g = rw is at (gone-compared frame values from m a b ts fs after end) in (
          λ h. elim ((ht values after end).0 (g.0 h)) [ inl w ↦ inl (w.0, (side true w.0 WayEnd.Through is).1 w.1, w.2) | inr w ↦ inr ((side true after WayEnd.Fails is).1 w.0, w.1) ],
          λ h. g.1 ((ht values after end).1 (elim h [ inl w ↦ inl (w.0, (side true w.0 WayEnd.Through is).0 w.1, w.2) | inr w ↦ inr ((side true after WayEnd.Fails is).0 w.0, w.1) ])),
        )
    by false is =
        let g = rw is at (gone-compared frame values from m a b ts fs after end) in (
          λ h. elim ((hf values after end).0 (g.0 h)) [ inl w ↦ inl (w.0, (side false w.0 WayEnd.Through is).1 w.1, w.2) | inr w ↦ inr ((side false after WayEnd.Fails is).1 w.0, w.1) ],
          λ h. g.1 ((hf values after end).1 (elim h [ inl w ↦ inl (w.0, (side false w.0 WayEnd.Through is).0 w.1, w.2) | inr w ↦ inr ((side false after WayEnd.Fails is).0 w.0, w.1) ])),
        )

-- a test, with its two sides
test-follow : (frame : Frame) (test : Test) (ts fs more : List Path) (t f : Side)
    → AreOfSide frame ts t more → AreOfSide frame fs f more → AreOf frame (test_paths test ts fs) (branch (test_guard Grain.Whole test) t f) more
test-follow frame (Test.Compare from m a b) ts fs more t f ht hf = compare-follow frame from m a b ts fs more t f ht hf
test-follow frame (Test.Not u) ts fs more t f ht hf = test-follow frame u fs ts more f t hf ht
test-follow frame (Test.And u v) ts fs more t f ht hf =
    test-follow frame u (test_paths v ts fs) fs more (Side.Goes (branch (test_guard Grain.Whole v) t f)) f (test-follow frame v ts fs more t f ht hf) hf
test-follow frame (Test.Or u v) ts fs more t f ht hf =
    test-follow frame u ts (test_paths v ts fs) more t (Side.Goes (branch (test_guard Grain.Whole v) t f)) ht (test-follow frame v ts fs more t f ht hf)

-- the paths of a condition are those through its branch
condition-follow : (frame : Frame) (condition : Condition) (ts fs more : List Path) (t f : Side)
    → AreOfSide frame ts t more → AreOfSide frame fs f more → AreOf frame (condition_paths condition ts fs) (branch (guard Grain.Whole condition) t f) more
condition-follow frame (Condition.Tested from test) ts fs more t f ht hf values after end = test-follow frame test ts fs more t f ht hf values after end
condition-follow frame (Condition.Choice from) ts fs more t f ht hf values after end = (
  λ h. elim ((gone-++ frame values ts fs after end).0 h) [
    | inl g ↦ elim ((ht values after end).0 g) [ inl w ↦ inl (w.0, (way w.0 WayEnd.Through).1 (inl w.1), w.2) | inr w ↦ inr ((way after WayEnd.Fails).1 (inl w.0), w.1) ]
    | inr g ↦ elim ((hf values after end).0 g) [ inl w ↦ inl (w.0, (way w.0 WayEnd.Through).1 (inr w.1), w.2) | inr w ↦ inr ((way after WayEnd.Fails).1 (inr w.0), w.1) ]
  ],
  λ h. (gone-++ frame values ts fs after end).1 (elim h [
    | inl w ↦ elim ((way w.0 WayEnd.Through).0 w.1) [ inl s ↦ inl ((ht values after end).1 (inl (w.0, s, w.2))) | inr s ↦ inr ((hf values after end).1 (inl (w.0, s, w.2))) ]
    | inr w ↦ elim ((way after WayEnd.Fails).0 w.0) [ inl s ↦ inl ((ht values after end).1 (inr (s, w.1))) | inr s ↦ inr ((hf values after end).1 (inr (s, w.1))) ]
  ]),
)
  where
    way : (l : List ℤ) (e : WayEnd) → IsWay frame values (Items.Then (Item.Branch None t f) Items.End) l e ↔ (IsSideWay frame values t l e ⊎ IsSideWay frame values f l e)
    way l e = one-way frame values (Item.Branch None t f) l e

-- ---- statements

-- nothing more is done on the side
empty-side : (frame : Frame) (more : List Path) → AreOfSide frame more (Side.Goes Items.End) more
empty-side frame more values after end = (
  λ h. inl (values, (refl, refl), h),
  λ h. elim h [ inl w ↦ subst (λ l. SomeGone frame l more after end) w.1.0 w.2 | inr w ↦ absurd (through-fails (sym w.0.1)) ],
)

-- the assertion is false
failed-side : (frame : Frame) (more : List Path) → AreOfSide frame (ended true ∷ []) Side.Failed more
failed-side frame more values after end = (
  λ h. elim h [ inl g ↦ inr ((g.happen.1, refl), g.ends) | inr g ↦ absurd g ],
  λ h. elim h [ inl w ↦ absurd (through-fails w.1.1) | inr w ↦ inl (record { inputs = []; happen = (refl, w.0.0); ends = w.1 }) ],
)

-- nothing goes on
nowhere-side : (frame : Frame) (more : List Path) → AreOfSide frame [] Side.Nowhere more
nowhere-side frame more values after end = (λ h. absurd h, λ h. elim h [ inl w ↦ absurd w.1 | inr w ↦ absurd w.0 ])

-- one item, the ways of which go through alone
through-follow : (frame : Frame) (values : List ℤ) (item : Item) (more : List Path) (after : List ℤ) (end : WayEnd) (P : List ℤ → Type 0)
    → ((l : List ℤ) → IsItemWay frame values item l WayEnd.Through ↔ P l) → ((l : List ℤ) → ¬ IsItemWay frame values item l WayEnd.Fails)
    → Follows frame values (Items.Then item Items.End) more after end ↔ ((between : List ℤ) × P between × SomeGone frame between more after end)
through-follow frame values item more after end P h n = (
  λ w. elim w [
    | inl v ↦ (v.0, (h v.0).0 ((one-way frame values item v.0 WayEnd.Through).0 v.1), v.2)
    | inr v ↦ absurd (n after ((one-way frame values item after WayEnd.Fails).0 v.0))
  ],
  λ w. inl (w.0, (one-way frame values item w.0 WayEnd.Through).1 ((h w.0).1 w.1), w.2),
)

-- an item that has no way
nowhere-follow : (frame : Frame) (values : List ℤ) (item : Item) (more : List Path) (after : List ℤ) (end : WayEnd)
    → ((l : List ℤ) (e : WayEnd) → ¬ IsItemWay frame values item l e) → ¬ Follows frame values (Items.Then item Items.End) more after end
nowhere-follow frame values item more after end n w = elim w [
  | inl v ↦ n v.0 WayEnd.Through ((one-way frame values item v.0 WayEnd.Through).0 v.1)
  | inr v ↦ n after WayEnd.Fails ((one-way frame values item after WayEnd.Fails).0 v.0)
]

-- what has no paths and no ways
none-follow : (frame : Frame) (item : Item) (more : List Path) → ((values l : List ℤ) (e : WayEnd) → ¬ IsItemWay frame values item l e)
    → AreOf frame [] (Items.Then item Items.End) more
none-follow frame item more n values after end = (λ h. absurd h, λ w. nowhere-follow frame values item more after end (n values) w)

-- an assignment
assign-follow : (frame : Frame) (at : ℕ) (v : Variable) (e : Arithmetic) (more : List Path)
    → AreOf frame (map (begun (Event.Sets at v e)) more) (Items.Then (Item.Assign v e) Items.End) more
assign-follow frame at v e more values after end =
    let set = with_value frame values v (value frame values e) in
    let one = through-follow frame values (Item.Assign v e) more after end (λ l. l ≡ set) (λ l. (λ h. h.0, λ h. (h, refl))) (λ l h. through-fails (sym h.1)) in (
      λ h. one.1 (set, refl, (gone-sets frame values at v e more after end).0 h),
      λ w. (gone-sets frame values at v e more after end).1 (let o = one.0 w in subst (λ l. SomeGone frame l more after end) o.1 o.2),
    )

-- an assignment of any integer
any-follow : (frame : Frame) (v : Variable) (more : List Path)
    → AreOf frame (map (begun (Event.SetsAny v)) more) (Items.Then (Item.AssignAny v) Items.End) more
any-follow frame v more values after end =
    let one = through-follow frame values (Item.AssignAny v) more after end (λ l. (k : ℤ) × (l ≡ with_value frame values v k))
    (λ l. (λ h. (h.0, h.1), λ h. (h.0, h.1, refl))) (λ l h. through-fails (sym h.2)) in (
      λ h. let g = (gone-any frame values v more after end).0 h in one.1 (with_value frame values v g.0, (g.0, refl), g.1),
      λ w. (gone-any frame values v more after end).1 (let o = one.0 w in (o.1.0, subst (λ l. SomeGone frame l more after end) o.1.1 o.2)),
    )

mutual
  -- the paths of a statement are those through its items
  stmt-follow : (frame : Frame) (s : Stmt) (more : List Path) → AreOf frame (stmt_paths s more) (stmt_items Grain.Whole s) more
  stmt-follow frame (Stmt.Assign from at v e) more = assign-follow frame at v e more
  stmt-follow frame (Stmt.AssignAny from v) more = any-follow frame v more
  stmt-follow frame (Stmt.If from c ts es) more =
      condition-follow frame c (paths ts more) (paths es more) more (Side.Goes (items Grain.Whole ts)) (Side.Goes (items Grain.Whole es))
      (stmts-follow frame ts more) (stmts-follow frame es more)
  stmt-follow frame (Stmt.Loop from c body last) more =
      none-follow frame (Item.Loop (guard Grain.Whole c) (items Grain.Whole body) (items Grain.Whole last)) more (λ values l e h. h)
  stmt-follow frame (Stmt.Break from) more = none-follow frame Item.Break more (λ values l e h. h)
  stmt-follow frame (Stmt.Exit from) more = none-follow frame Item.Exit more (λ values l e h. h)
  stmt-follow frame (Stmt.Lock from lock) more = none-follow frame (Item.Lock lock) more (λ values l e h. h)
  stmt-follow frame (Stmt.Unlock from lock) more = none-follow frame (Item.Unlock lock) more (λ values l e h. h)
  stmt-follow frame (Stmt.Assert from t) more =
      test-follow frame t more (ended true ∷ []) more (Side.Goes Items.End) Side.Failed (empty-side frame more) (failed-side frame more)
  stmt-follow frame (Stmt.Assume from t) more =
      test-follow frame t more [] more (Side.Goes Items.End) Side.Nowhere (empty-side frame more) (nowhere-side frame more)
  stmt-follow frame (Stmt.Atomic from inner) more = none-follow frame (Item.Atomic (items Grain.Whole inner)) more (λ values l e h. h)

  -- the paths of statements are those through their items
  stmts-follow : (frame : Frame) (ss : Stmts) (more : List Path) → AreOf frame (paths ss more) (items Grain.Whole ss) more
  stmts-follow frame Stmts.End more values after end = empty-side frame more values after end
  stmts-follow frame (Stmts.Then s rest) more values after end =
      let here = stmt-follow frame s (paths rest more) values after end in
      let joins = λ (l : List ℤ) (e : WayEnd). way-joined frame values (stmt_items Grain.Whole s) (items Grain.Whole rest) l e in (
        λ h. elim (here.0 h) [
          | inl w ↦ elim ((stmts-follow frame rest more w.0 after end).0 w.2) [
            | inl v ↦ inl (v.0, (joins v.0 WayEnd.Through).1 (inl (w.0, w.1, v.1)), v.2)
            | inr v ↦ inr ((joins after WayEnd.Fails).1 (inl (w.0, w.1, v.0)), v.1)
          ]
          | inr w ↦ inr ((joins after WayEnd.Fails).1 (inr (w.0, refl)), w.1)
        ],
        λ h. here.1 (elim h [
          | inl w ↦ elim ((joins w.0 WayEnd.Through).0 w.1) [
            | inl v ↦ inl (v.0, v.1, (stmts-follow frame rest more v.0 after end).1 (inl (w.0, v.2, w.2)))
            | inr v ↦ absurd (through-fails v.1)
          ]
          | inr w ↦ elim ((joins after WayEnd.Fails).0 w.0) [
            | inl v ↦ inl (v.0, v.1, (stmts-follow frame rest more v.0 after end).1 (inr (v.2, w.1)))
            | inr v ↦ inr (v.0, w.1)
          ]
        ]),
      )

-- the ways through the items of an atomic body are those that its paths are gone by
pub ways-are-paths : (frame : Frame) (inner : Stmts) (values after : List ℤ) (end : WayEnd)
    → IsWay frame values (items Grain.Whole inner) after end ↔ SomeGone frame values (block_paths inner) after end
ways-are-paths frame inner values after end = (
  λ h. (stmts-follow frame inner (ended false ∷ []) values after end).1 (split end h),
  λ h. elim ((stmts-follow frame inner (ended false ∷ []) values after end).0 h) [
    | inl w ↦ elim w.2 [ inl g ↦ meet w.0 g w.1 | inr g ↦ absurd g ]
    | inr w ↦ subst (λ e. IsWay frame values (items Grain.Whole inner) after e) (sym w.1) w.0
  ],
)
  where
    split : (end : WayEnd) → IsWay frame values (items Grain.Whole inner) after end → Follows frame values (items Grain.Whole inner) (ended false ∷ []) after end
    split WayEnd.Through h = inl (after, h, inl (record { inputs = []; happen = (refl, refl); ends = refl }))
    split WayEnd.Fails h = inr (h, refl)

    meet : (between : List ℤ) → IsGone frame between (ended false) after end → IsWay frame values (items Grain.Whole inner) between WayEnd.Through
        → IsWay frame values (items Grain.Whole inner) after end
    meet between g h = rw (g.happen.1, g.ends) h
