-- What is left at a location and the action there do the same.
use Rattle.std.proofs.Common.{◌≡◌, ◌⊎◌, ◌↔◌, ℕ, ◌+◌, ℤ, pos, Bool, true, false, List, [], ◌∷◌, ◌++◌, length, map, MatchBool, Option, Some, None, inl, inr, refl, sym, subst, arith, int_eq}
use Rattle.std.proofs.lemmas.Bool.Decides.{Decides-int_eq, not_from_Decides}
use Rattle.c_check.specs.declared.meaning.Variable.{Variable}
use Rattle.c_check.specs.declared.meaning.Variable.TheVariants as variable
use Rattle.c_check.specs.declared.operation.Mark.{Mark}
use Rattle.c_check.specs.Plan.{Arithmetic, Stmts}
use Rattle.c_check.specs.Items.{Grain, Item, Items, Side, items, joined}
use Rattle.thread_cfg.specs.declared.relation.Relation.{Relation}
use Rattle.thread_cfg.specs.declared.relation.Relation.TheVariants as related
use Rattle.thread_cfg.specs.Source.{DoesFirst, Frame, Standing, WayEnd, behind_way, compared, gone, lock_column, read_as, value, value_at, with_value}
use Rattle.thread_cfg.specs.Path.{Event, Path, block_paths, when_false, when_true}
use Rattle.thread_cfg.specs.inside.GonePaths.{SomeGone}
use Rattle.thread_cfg.specs.Happen.{Happen, end_of}
use Rattle.thread_cfg.specs.Action.{Action, block_action, choice, jump, lock_action, path_alternative, path_target, requiring, simple, test_action, unlock_action}
use Rattle.thread_cfg.specs.SameSteps.{Lefts, standing_as}
use Rattle.thread_cfg.proofs.Comparisons.{SomeHolds, apart, compared-exact, differs}
use Rattle.thread_cfg.proofs.Taken.{IsTaken, SomeTaken, taken-++, taken-requiring}
use Rattle.thread_cfg.proofs.Ways.{ways-are-paths}

-- The location has that left which the thread's standing then is.
abbrev pub Lands : Lefts → ℕ → Standing → Type 0
Lands left to next = left to ≡ Some (standing_as next)

-- What is left steps as the action does.
pub record Matches (frame : Frame) (left : Lefts) (is : Items) (action : Action) : Type 0 where
  pub reads_as : read_as is ≡ is
  pub by_action : (values after : List ℤ) (next : Standing) → DoesFirst frame values is after next
      → (to : ℕ) × SomeTaken frame values action.alternatives after to × Lands left to next
  pub by_items : (values after : List ℤ) (to : ℕ) → SomeTaken frame values action.alternatives after to
      → (next : Standing) × DoesFirst frame values is after next × Lands left to next

-- Lists of what is left and of actions match one by one.
abbrev pub AllMatch : Frame → Lefts → List Items → List Action → Type 0
AllMatch frame left [] [] = Unit {0}
AllMatch frame left [] (a ∷ as') = ⊥
AllMatch frame left (x ∷ xs) [] = ⊥
AllMatch frame left (x ∷ xs) (a ∷ as') = Matches frame left x a × AllMatch frame left xs as'

-- joined actions match joined items
pub match-++ : (frame : Frame) (left : Lefts) (xs ys : List Items) (as' bs : List Action)
    → AllMatch frame left xs as' → AllMatch frame left ys bs → AllMatch frame left (xs ++ ys) (as' ++ bs)
match-++ frame left [] ys [] bs h k = k
match-++ frame left [] ys (a ∷ as') bs h k = absurd h
match-++ frame left (x ∷ xs) ys [] bs h k = absurd h
match-++ frame left (x ∷ xs) ys (a ∷ as') bs h k = (h.0, match-++ frame left xs ys as' bs h.1 k)

-- The list is what is left from a location on.
abbrev pub StandsFrom : Lefts → ℕ → List Items → Type 0
StandsFrom left at [] = Unit {0}
StandsFrom left at (x ∷ xs) = (left at ≡ Some (Standing.Doing x)) × StandsFrom left (at + 1) xs

-- where joined items stand at locations, the first ones do
pub stands-front : (left : Lefts) (at : ℕ) (xs ys : List Items) → StandsFrom left at (xs ++ ys) → StandsFrom left at xs
stands-front left at [] ys h = tt
stands-front left at (x ∷ xs) ys h = (h.0, stands-front left (at + 1) xs ys h.1)

-- where joined items stand at locations, the second ones stand behind the first
pub stands-behind : (left : Lefts) (at : ℕ) (xs ys : List Items) → StandsFrom left at (xs ++ ys) → StandsFrom left (at + length xs) ys
stands-behind left at [] ys h = subst (λ l. StandsFrom left l ys) (omega arith) h
stands-behind left at (x ∷ xs) ys h = subst (λ l. StandsFrom left l ys) (omega arith) (stands-behind left (at + 1) xs ys h.1)

-- ---- where a side leads to

-- The location, perhaps none, has that left which the side leaves, perhaps nothing.
abbrev pub LeadsTo : Lefts → Option ℕ → Option Standing → Type 0
LeadsTo left None None = Unit {0}
LeadsTo left None (Some next) = ⊥
LeadsTo left (Some to) None = ⊥
LeadsTo left (Some to) (Some next) = Lands left to next

-- nothing is not something
none-some : (X : Type 0) (x : X) → ¬ (None ≡ Some x)
none-some X x e = subst (λ o. elim o as (λ _. Type 0) [ None ↦ Unit {0} | Some y ↦ ⊥ ]) e tt

-- one of the relations of a side holds: the side is gone to, and the other way round
side-taken : (frame : Frame) (left : Lefts) (values : List ℤ) (from : ℕ) (a b : Arithmetic) (target : Option ℕ) (left_by : Option Standing)
    (rs : List Relation) → LeadsTo left target left_by → SomeHolds rs (value frame values a) (value frame values b)
    → (next : Standing) → left_by ≡ Some next → (to : ℕ) × SomeTaken frame values (requiring from rs a b target) values to × Lands left to next
side-taken frame left values from a b None None rs leads holds next is = absurd (none-some Standing next is)
side-taken frame left values from a b None (Some st) rs leads holds next is = absurd leads
side-taken frame left values from a b (Some to) None rs leads holds next is = absurd leads
side-taken frame left values from a b (Some to) (Some st) rs leads holds next is =
    (to, (taken-requiring frame values from rs a b to values to).1 (holds, refl, refl), subst (λ o. LeadsTo left (Some to) o) is leads)

-- an alternative of a side is taken: one of its relations holds, and the side is gone to
taken-side : (frame : Frame) (left : Lefts) (values : List ℤ) (from : ℕ) (a b : Arithmetic) (target : Option ℕ) (left_by : Option Standing)
    (rs : List Relation) → LeadsTo left target left_by → (after : List ℤ) (to : ℕ) → SomeTaken frame values (requiring from rs a b target) after to
    → SomeHolds rs (value frame values a) (value frame values b) × (after ≡ values) × ((next : Standing) × (left_by ≡ Some next) × Lands left to next)
taken-side frame left values from a b None left_by rs leads after to h = absurd h
taken-side frame left values from a b (Some target) None rs leads after to h = absurd leads
taken-side frame left values from a b (Some target) (Some st) rs leads after to h =
    let t = (taken-requiring frame values from rs a b target after to).0 h in
    (t.0, t.1, (st, refl, subst (λ l. Lands left l st) (sym t.2) leads))

-- ---- actions

-- a comparison
pub compare-matches : (frame : Frame) (left : Lefts) (from : ℕ) (m : Mark) (a b : Arithmetic) (t f : Option ℕ) (ts fs : Side) (rest : Items)
    → LeadsTo left t (gone ts rest) → LeadsTo left f (gone fs rest)
    → Matches frame left (Items.Then (Item.Branch (Some (record { mark = m; left = a; right = b })) ts fs) rest) (test_action from m a b t f)
compare-matches frame left from m a b t f ts fs rest ht hf = record {
  reads_as = refl;
  by_action = λ values after next h. forth values after next (compared m (value frame values a) (value frame values b)) (compared-exact m (value frame values a) (value frame values b) _ refl) h;
  by_items = λ values after to h. back values after to (compared m (value frame values a) (value frame values b)) (compared-exact m (value frame values a) (value frame values b) _ refl)
      ((taken-++ frame values (requiring from (when_true m) a b t) (requiring from (when_false m) a b f) after to).0 h);
}
  where
    forth : (values after : List ℤ) (next : Standing) (c : Bool)
        → MatchBool c (SomeHolds (when_true m) (value frame values a) (value frame values b) × ¬ SomeHolds (when_false m) (value frame values a) (value frame values b))
        (SomeHolds (when_false m) (value frame values a) (value frame values b) × ¬ SomeHolds (when_true m) (value frame values a) (value frame values b))
        → (after ≡ values) × MatchBool c (gone ts rest ≡ Some next) (gone fs rest ≡ Some next)
        → (to : ℕ) × SomeTaken frame values (requiring from (when_true m) a b t ++ requiring from (when_false m) a b f) after to × Lands left to next
    forth values after next true d h =
        let s = side-taken frame left values from a b t (gone ts rest) (when_true m) ht d.0 next h.1 in (
          s.0,
          subst (λ l. SomeTaken frame values (requiring from (when_true m) a b t ++ requiring from (when_false m) a b f) l s.0) (sym h.0)
              ((taken-++ frame values (requiring from (when_true m) a b t) (requiring from (when_false m) a b f) values s.0).1 (inl s.1)),
          s.2,
        )
    forth values after next false d h =
        let s = side-taken frame left values from a b f (gone fs rest) (when_false m) hf d.0 next h.1 in (
          s.0,
          subst (λ l. SomeTaken frame values (requiring from (when_true m) a b t ++ requiring from (when_false m) a b f) l s.0) (sym h.0)
              ((taken-++ frame values (requiring from (when_true m) a b t) (requiring from (when_false m) a b f) values s.0).1 (inr s.1)),
          s.2,
        )

    back : (values after : List ℤ) (to : ℕ) (c : Bool)
        → MatchBool c (SomeHolds (when_true m) (value frame values a) (value frame values b) × ¬ SomeHolds (when_false m) (value frame values a) (value frame values b))
        (SomeHolds (when_false m) (value frame values a) (value frame values b) × ¬ SomeHolds (when_true m) (value frame values a) (value frame values b))
        → SomeTaken frame values (requiring from (when_true m) a b t) after to ⊎ SomeTaken frame values (requiring from (when_false m) a b f) after to
        → (next : Standing) × ((after ≡ values) × MatchBool c (gone ts rest ≡ Some next) (gone fs rest ≡ Some next)) × Lands left to next
    back values after to true d h = elim h [
      | inl g ↦ let s = taken-side frame left values from a b t (gone ts rest) (when_true m) ht after to g in (s.2.0, (s.1, s.2.1), s.2.2)
      | inr g ↦ absurd (d.1 (taken-side frame left values from a b f (gone fs rest) (when_false m) hf after to g).0)
    ]
    back values after to false d h = elim h [
      | inl g ↦ absurd (d.1 (taken-side frame left values from a b t (gone ts rest) (when_true m) ht after to g).0)
      | inr g ↦ let s = taken-side frame left values from a b f (gone fs rest) (when_false m) hf after to g in (s.2.0, (s.1, s.2.1), s.2.2)
    ]

-- a choice
pub choice-matches : (frame : Frame) (left : Lefts) (from t f : ℕ) (ts fs : Items) (rest : Items)
    → Lands left t (Standing.Doing (joined ts rest)) → Lands left f (Standing.Doing (joined fs rest))
    → Matches frame left (Items.Then (Item.Branch None (Side.Goes ts) (Side.Goes fs)) rest) (choice from t f)
choice-matches frame left from t f ts fs rest ht hf = record {
  reads_as = refl;
  by_action = λ values after next h. elim h.1 [
    | inl e ↦ (t, inl (record { inputs = []; happen = (refl, h.0); leads = refl }), lands t (joined ts rest) next ht e)
    | inr e ↦ (f, inr (inl (record { inputs = []; happen = (refl, h.0); leads = refl })), lands f (joined fs rest) next hf e)
  ];
  by_items = λ values after to h. elim h [
    | inl g ↦ (Standing.Doing (joined ts rest), (g.happen.1, inl refl), subst (λ l. Lands left l (Standing.Doing (joined ts rest))) (sym g.leads) ht)
    | inr h ↦ elim h [
      | inl g ↦ (Standing.Doing (joined fs rest), (g.happen.1, inr refl), subst (λ l. Lands left l (Standing.Doing (joined fs rest))) (sym g.leads) hf)
      | inr h ↦ absurd h
    ]
  ];
}
  where
    lands : (to : ℕ) (is : Items) (next : Standing) → Lands left to (Standing.Doing is) → Some (Standing.Doing is) ≡ Some next → Lands left to next
    lands to is next h e = some-lands e h
      where
        some-lands : Some (Standing.Doing is) ≡ Some next → Lands left to (Standing.Doing is) → Lands left to next
        some-lands e h = subst (λ o. LeadsTo left (Some to) o) e h

-- an action of one event, which leads to what is behind the item
pub simple-matches : (frame : Frame) (left : Lefts) (from : ℕ) (event : Event) (next : ℕ) (item : Item) (rest : Items)
    → read_as (Items.Then item rest) ≡ Items.Then item rest → Lands left next (Standing.Doing rest)
    → ((values after : List ℤ) (standing : Standing) → DoesFirst frame values (Items.Then item rest) after standing
    → IsTaken frame values (record { events = event ∷ []; to = next }) after next × (standing ≡ Standing.Doing rest))
    → ((values after : List ℤ) → IsTaken frame values (record { events = event ∷ []; to = next }) after next → DoesFirst frame values (Items.Then item rest) after (Standing.Doing rest))
    → Matches frame left (Items.Then item rest) (simple from event next)
simple-matches frame left from event next item rest e lands there back = record {
  reads_as = e;
  by_action = λ values after standing h. let t = there values after standing h in (next, inl t.0, subst (λ s. Lands left next s) (sym t.1) lands);
  by_items = λ values after to h. elim h [
    | inl g ↦ (Standing.Doing rest, back values after (record { inputs = g.inputs; happen = g.happen; leads = refl }), subst (λ l. Lands left l (Standing.Doing rest)) (sym g.leads) lands)
    | inr h ↦ absurd h
  ];
}

-- the action of a read does what a read does
pub read-matches : (frame : Frame) (left : Lefts) (from at : ℕ) (t v : Variable) (next : ℕ) (rest : Items) → Lands left next (Standing.Doing rest)
    → Matches frame left (Items.Then (Item.Read t v) rest) (simple from (Event.Sets at t (Arithmetic.Value v)) next)
read-matches frame left from at t v next rest lands = simple-matches frame left from (Event.Sets at t (Arithmetic.Value v)) next (Item.Read t v) rest refl lands
    (λ values after standing h. (record { inputs = []; happen = (refl, h.0); leads = refl }, h.1)) (λ values after g. (g.happen.1, refl))

-- the action of an assignment does what an assignment does
pub assign-matches : (frame : Frame) (left : Lefts) (from at : ℕ) (v : Variable) (e : Arithmetic) (next : ℕ) (rest : Items) → Lands left next (Standing.Doing rest)
    → Matches frame left (Items.Then (Item.Assign v e) rest) (simple from (Event.Sets at v e) next)
assign-matches frame left from at v e next rest lands = simple-matches frame left from (Event.Sets at v e) next (Item.Assign v e) rest refl lands
    (λ values after standing h. (record { inputs = []; happen = (refl, h.0); leads = refl }, h.1)) (λ values after g. (g.happen.1, refl))

-- the action of an assignment of any integer does what that does
pub any-matches : (frame : Frame) (left : Lefts) (from : ℕ) (v : Variable) (next : ℕ) (rest : Items) → Lands left next (Standing.Doing rest)
    → Matches frame left (Items.Then (Item.AssignAny v) rest) (simple from (Event.SetsAny v) next)
any-matches frame left from v next rest lands = simple-matches frame left from (Event.SetsAny v) next (Item.AssignAny v) rest refl lands
    (λ values after standing h. (record { inputs = h.0 ∷ []; happen = (refl, h.1); leads = refl }, h.2)) (λ values after g. input values after g.inputs g.happen)
  where
    input : (values after inputs : List ℤ) → Happen frame values (Event.SetsAny v ∷ []) inputs after → (k : ℤ) × (after ≡ with_value frame values v k) × (Standing.Doing rest ≡ Standing.Doing rest)
    input values after [] h = absurd h
    input values after (k ∷ inputs) h = (k, h.1, refl)

-- the thread goes on elsewhere
pub jump-matches : (frame : Frame) (left : Lefts) (from : ℕ) (to : ℕ) (item : Item) (rest behind : Items)
    → read_as (Items.Then item rest) ≡ Items.Then item rest → Lands left to (Standing.Doing behind)
    → ((values after : List ℤ) (next : Standing) → DoesFirst frame values (Items.Then item rest) after next → (after ≡ values) × (next ≡ Standing.Doing behind))
    → ((values : List ℤ) → DoesFirst frame values (Items.Then item rest) values (Standing.Doing behind))
    → Matches frame left (Items.Then item rest) (jump from to)
jump-matches frame left from to item rest behind e lands there back = record {
  reads_as = e;
  by_action = λ values after next h. let t = there values after next h in
      (to, inl (record { inputs = []; happen = (refl, t.0); leads = refl }), subst (λ s. Lands left to s) (sym t.1) lands);
  by_items = λ values after target h. elim h [
    | inl g ↦ (
      Standing.Doing behind,
      subst (λ l. DoesFirst frame values (Items.Then item rest) l (Standing.Doing behind)) (sym g.happen.1) (back values),
      subst (λ l. Lands left l (Standing.Doing behind)) (sym g.leads) lands,
    )
    | inr h ↦ absurd h
  ];
}

-- the action of a lock does what a lock does
pub lock-matches : (frame : Frame) (left : Lefts) (from lock next : ℕ) (rest : Items) → Lands left next (Standing.Doing rest)
    → Matches frame left (Items.Then (Item.Lock lock) rest) (lock_action frame from lock next)
lock-matches frame left from lock next rest lands = record {
  reads_as = refl;
  by_action = λ values after standing h.
      (next, inl (record { inputs = []; happen = (h.0, (refl, h.1)); leads = refl }), subst (λ s. Lands left next s) (sym h.2) lands);
  by_items = λ values after to h. elim h [
    | inl g ↦ (Standing.Doing rest, (g.happen.0, g.happen.1.1, refl), subst (λ l. Lands left l (Standing.Doing rest)) (sym g.leads) lands)
    | inr h ↦ absurd h
  ];
}

-- the action of an unlock does what an unlock does
pub unlock-matches : (frame : Frame) (left : Lefts) (from lock next : ℕ) (rest : Items) → Lands left next (Standing.Doing rest) → left 0 ≡ Some Standing.Failed
    → Matches frame left (Items.Then (Item.Unlock lock) rest) (unlock_action frame from lock next)
unlock-matches frame left from lock next rest lands fails = record {
  reads_as = refl;
  by_action = λ values after standing h. forth values after standing (int_eq (value_at values (lock_column frame lock)) (pos frame.thread)) refl h;
  by_items = λ values after to h. elim h [
    | inl g ↦ (Standing.Doing rest, rw (held values g.happen.0) (g.happen.1.1, refl), subst (λ l. Lands left l (Standing.Doing rest)) (sym g.leads) lands)
    | inr h ↦ let t = taken values after to h in (Standing.Failed, rw (other values t.0) (t.1, refl), subst (λ l. Lands left l Standing.Failed) (sym t.2) fails)
  ];
}
  where
    held : (values : List ℤ) → value_at values (lock_column frame lock) ≡ pos frame.thread → int_eq (value_at values (lock_column frame lock)) (pos frame.thread) ≡ true
    held values e = (Decides-int_eq (value_at values (lock_column frame lock)) (pos frame.thread)).1 e

    other : (values : List ℤ) → SomeHolds (related.Less ∷ related.Greater ∷ []) (value_at values (lock_column frame lock)) (pos frame.thread)
        → int_eq (value_at values (lock_column frame lock)) (pos frame.thread) ≡ false
    other values h = differs (value_at values (lock_column frame lock)) (pos frame.thread) h

    forth : (values after : List ℤ) (standing : Standing) (c : Bool) → int_eq (value_at values (lock_column frame lock)) (pos frame.thread) ≡ c
        → DoesFirst frame values (Items.Then (Item.Unlock lock) rest) after standing
        → (to : ℕ) × SomeTaken frame values (unlock_action frame from lock next).alternatives after to × Lands left to standing
    forth values after standing true is h =
        let d = rw is at h in (
          next,
          inl (record { inputs = []; happen = ((Decides-int_eq (value_at values (lock_column frame lock)) (pos frame.thread)).0 is, (refl, d.0)); leads = refl }),
          subst (λ s. Lands left next s) (sym d.1) lands,
        )
    forth values after standing false is h =
        let d = rw is at h in
        let differ = not_from_Decides (int_eq (value_at values (lock_column frame lock)) (pos frame.thread)) (Decides-int_eq (value_at values (lock_column frame lock)) (pos frame.thread)) is in (
          0,
          inr ((taken-requiring frame values from (related.Less ∷ related.Greater ∷ []) (Arithmetic.Value (variable.Shared (lock_column frame lock))) (Arithmetic.Number (pos frame.thread)) 0 after 0).1
              (apart (value_at values (lock_column frame lock)) (pos frame.thread) differ, d.0, refl)),
          subst (λ s. Lands left 0 s) (sym d.1) fails,
        )

    taken : (values after : List ℤ) (to : ℕ)
        → SomeTaken frame values (requiring from (related.Less ∷ related.Greater ∷ []) (Arithmetic.Value (variable.Shared (lock_column frame lock))) (Arithmetic.Number (pos frame.thread)) (Some 0)) after to
        → SomeHolds (related.Less ∷ related.Greater ∷ []) (value_at values (lock_column frame lock)) (pos frame.thread) × (after ≡ values) × (to ≡ 0)
    taken values after to h =
        (taken-requiring frame values from (related.Less ∷ related.Greater ∷ []) (Arithmetic.Value (variable.Shared (lock_column frame lock))) (Arithmetic.Number (pos frame.thread)) 0 after to).0 h

-- where a way of a block leads to
abbrev target : ℕ → WayEnd → ℕ
target next WayEnd.Through = next
target next WayEnd.Fails = 0

-- the paths of a block, as alternatives
paths-taken : (frame : Frame) (values : List ℤ) (next : ℕ) (ps : List Path) (after : List ℤ) (to : ℕ)
    → SomeTaken frame values (map (path_alternative next) ps) after to ↔ ((end : WayEnd) × SomeGone frame values ps after end × (to ≡ target next end))
paths-taken frame values next [] after to = (λ h. absurd h, λ h. h.1)
paths-taken frame values next (p ∷ ps) after to = (
  λ h. elim h [
    | inl g ↦ (end_of p, inl (record { inputs = g.inputs; happen = g.happen; ends = refl }), leads-there p g.leads)
    | inr g ↦ let m = (paths-taken frame values next ps after to).0 g in (m.0, inr m.1, m.2)
  ],
  λ h. elim h.1 [
    | inl g ↦ inl (record { inputs = g.inputs; happen = g.happen; leads = leads-here p h.0 g.ends h.2 })
    | inr g ↦ inr ((paths-taken frame values next ps after to).1 (h.0, g, h.2))
  ],
)
  where
    leads-there : (p : Path) → to ≡ path_target next p.fails → to ≡ target next (end_of p)
    leads-there p e = by p.fails e
      where
        by : (fails : Bool) → to ≡ path_target next fails → to ≡ target next (end_of (record { events = []; fails = fails }))
        by true e = e
        by false e = e

    leads-here : (p : Path) (end : WayEnd) → end ≡ end_of p → to ≡ target next end → to ≡ path_target next p.fails
    leads-here p end is e = by p.fails (subst (λ x. to ≡ target next x) is e)
      where
        by : (fails : Bool) → to ≡ target next (end_of (record { events = []; fails = fails })) → to ≡ path_target next fails
        by true e = e
        by false e = e

-- the action of an atomic block does what an atomic body does
pub block-matches : (frame : Frame) (left : Lefts) (from : ℕ) (inner : Stmts) (next : ℕ) (rest : Items)
    → Lands left next (Standing.Doing rest) → left 0 ≡ Some Standing.Failed
    → Matches frame left (Items.Then (Item.Atomic (items Grain.Whole inner)) rest) (block_action from inner next)
block-matches frame left from inner next rest lands fails = record {
  reads_as = refl;
  by_action = λ values after standing h. (
    target next h.0,
    (paths-taken frame values next (block_paths inner) after (target next h.0)).1 (h.0, (ways-are-paths frame inner values after h.0).0 h.1, refl),
    subst (λ s. Lands left (target next h.0) s) (sym h.2) (behind h.0),
  );
  by_items = λ values after to h. let p = (paths-taken frame values next (block_paths inner) after to).0 h in
      (behind_way p.0 rest, (p.0, (ways-are-paths frame inner values after p.0).1 p.1, refl), subst (λ l. Lands left l (behind_way p.0 rest)) (sym p.2) (behind p.0));
}
  where
    behind : (end : WayEnd) → Lands left (target next end) (behind_way end rest)
    behind WayEnd.Through = lands
    behind WayEnd.Fails = fails
