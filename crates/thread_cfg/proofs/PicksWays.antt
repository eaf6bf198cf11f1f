-- Each way takes some picks and inputs, and nothing else is a way.
use Rattle.std.proofs.Common.{◌≡◌, suc, ℤ, ◌<◌, length, Bool, true, false, List, [], ◌∷◌, ◌++◌, MatchBool, Some, None, Contains, inl, inr, refl, ap, arith}
use Rattle.std.proofs.lemmas.List.{append-nil, append_assoc}
use Rattle.c_check.specs.Items.{Comparison, Item, Items, Side}
use Rattle.thread_cfg.specs.declared.relation.Relation.{Relation}
use Rattle.thread_cfg.specs.Source.{Frame, IsWay, IsItemWay, IsSideWay, WayEnd, is_true, value}
use Rattle.thread_cfg.specs.Path.{when_true, when_false}
use Rattle.thread_cfg.specs.Happen.{Holds}
use Rattle.thread_cfg.specs.Picks.{Pick, Course, Takes, TakesItem, TakesSide, WaysTakePicks, arrived}
use Rattle.thread_cfg.proofs.Comparisons.{SomeHolds, compared-exact}

-- what follows on each side follows on the side that a truth names
pub match-maps : (b : Bool) (P Q R S : Type 0) → (P → R) → (Q → S) → MatchBool b P Q → MatchBool b R S
match-maps true P Q R S f g h = f h
match-maps false P Q R S f g h = g h

-- where a way stands
abbrev pub at : List ℤ → List Pick → List ℤ → Course
at values picks inputs = record { values = values; picks = picks; inputs = inputs }

-- ---- what takes something is a way

mutual
  -- what takes something through items is a way through them
  way-taken : (frame : Frame) (values : List ℤ) (is : Items) (picks : List Pick) (inputs : List ℤ) (after : Course) (end : WayEnd)
      → Takes frame values is picks inputs after end → IsWay frame values is after.values end
  way-taken frame values Items.End picks inputs after end h = (ap (λ (c : Course). c.values) h.0, h.1)
  way-taken frame values (Items.Then item rest) picks inputs after end h = elim h [
    | inl w ↦ inl (w.0.values, item-taken frame values item picks inputs w.0 WayEnd.Through w.1, way-taken frame w.0.values rest w.0.picks w.0.inputs after end w.2)
    | inr w ↦ inr (item-taken frame values item picks inputs after WayEnd.Fails w.0, w.1)
  ]

  -- what takes something through an item is a way through it
  item-taken : (frame : Frame) (values : List ℤ) (item : Item) (picks : List Pick) (inputs : List ℤ) (after : Course) (end : WayEnd)
      → TakesItem frame values item picks inputs after end → IsItemWay frame values item after.values end
  item-taken frame values (Item.Read t v) picks inputs after end h = (ap (λ (c : Course). c.values) h.0, h.1)
  item-taken frame values (Item.Assign v e) picks inputs after end h = (ap (λ (c : Course). c.values) h.0, h.1)
  item-taken frame values (Item.AssignAny v) picks [] after end h = absurd h
  item-taken frame values (Item.AssignAny v) picks (k ∷ inputs) after end h = (k, ap (λ (c : Course). c.values) h.0, h.1)
  item-taken frame values (Item.Branch None t f) [] inputs after end h = absurd h
  item-taken frame values (Item.Branch None t f) (Pick.Took r ∷ picks) inputs after end h = absurd h
  item-taken frame values (Item.Branch None t f) (Pick.Went true ∷ picks) inputs after end h = inl (side-taken frame values t picks inputs after end h)
  item-taken frame values (Item.Branch None t f) (Pick.Went false ∷ picks) inputs after end h = inr (side-taken frame values f picks inputs after end h)
  item-taken frame values (Item.Branch (Some c) t f) [] inputs after end h = absurd h
  item-taken frame values (Item.Branch (Some c) t f) (Pick.Went side ∷ picks) inputs after end h = absurd h
  item-taken frame values (Item.Branch (Some c) t f) (Pick.Took r ∷ picks) inputs after end h =
      match-maps (is_true frame values c)
      (Contains (when_true c.mark) r × TakesSide frame values t picks inputs after end) (Contains (when_false c.mark) r × TakesSide frame values f picks inputs after end)
      (IsSideWay frame values t after.values end) (IsSideWay frame values f after.values end)
      (λ w. side-taken frame values t picks inputs after end w.1) (λ w. side-taken frame values f picks inputs after end w.1) h.1
  item-taken frame values (Item.Lock n) picks inputs after end h = absurd h
  item-taken frame values (Item.Unlock n) picks inputs after end h = absurd h
  item-taken frame values (Item.Loop g body last) picks inputs after end h = absurd h
  item-taken frame values (Item.Again g body last) picks inputs after end h = absurd h
  item-taken frame values Item.Break picks inputs after end h = absurd h
  item-taken frame values Item.Exit picks inputs after end h = absurd h
  item-taken frame values (Item.Atomic inner) picks inputs after end h = absurd h

  -- what takes something through a side is a way through it
  side-taken : (frame : Frame) (values : List ℤ) (side : Side) (picks : List Pick) (inputs : List ℤ) (after : Course) (end : WayEnd)
      → TakesSide frame values side picks inputs after end → IsSideWay frame values side after.values end
  side-taken frame values (Side.Goes is) picks inputs after end h = way-taken frame values is picks inputs after end h
  side-taken frame values Side.Failed picks inputs after end h = (ap (λ (c : Course). c.values) h.0, h.1)
  side-taken frame values Side.Nowhere picks inputs after end h = absurd h

-- ---- a way takes something

-- It takes some picks and inputs, whatever is left behind them.
abbrev IsTakable : (List Pick → List ℤ → Course → Type 0) → List ℤ → Type 0
IsTakable takes after =
    (picks : List Pick) × (inputs : List ℤ)
    × ((more : List Pick) (others : List ℤ) → takes (picks ++ more) (inputs ++ others) (at after more others))

-- one of the relations that holds
one-holds : (rs : List Relation) (x y : ℤ) → SomeHolds rs x y → (r : Relation) × Contains rs r × Holds r x y
one-holds [] x y h = absurd h
one-holds (r ∷ rs) x y h = elim h [
  | inl holds ↦ (r, (0, omega arith, refl), holds)
  | inr more ↦ let m = one-holds rs x y more in (m.0, (suc m.1.0, (let below : m.1.0 < length rs = m.1.1 in omega arith), m.1.2), m.2)
]

-- a comparison is taken where the side that its truth names is
branch-takable : (frame : Frame) (values : List ℤ) (c : Comparison) (t f : Side) (after : List ℤ) (end : WayEnd) (b : Bool) → is_true frame values c ≡ b
    → MatchBool b (IsTakable (λ picks inputs l. TakesSide frame values t picks inputs l end) after) (IsTakable (λ picks inputs l. TakesSide frame values f picks inputs l end) after)
    → IsTakable (λ picks inputs l. TakesItem frame values (Item.Branch (Some c) t f) picks inputs l end) after
branch-takable frame values c t f after end true is h =
    let one = one-holds (when_true c.mark) _ _ (compared-exact c.mark (value frame values c.left) (value frame values c.right) true is).0 in
    (Pick.Took one.0 ∷ h.0, h.1, λ more others. (one.2, rw is (one.1, h.2 more others)))
branch-takable frame values c t f after end false is h =
    let one = one-holds (when_false c.mark) _ _ (compared-exact c.mark (value frame values c.left) (value frame values c.right) false is).0 in
    (Pick.Took one.0 ∷ h.0, h.1, λ more others. (one.2, rw is (one.1, h.2 more others)))

mutual
  -- a way through items takes something
  way-takable : (frame : Frame) (values : List ℤ) (is : Items) (after : List ℤ) (end : WayEnd)
      → IsWay frame values is after end → IsTakable (λ picks inputs l. Takes frame values is picks inputs l end) after
  way-takable frame values Items.End after end h = ([], [], λ more others. (ap (λ l. at l more others) h.0, h.1))
  way-takable frame values (Items.Then item rest) after end h = elim h [
    | inl w ↦
        let first = item-takable frame values item w.0 WayEnd.Through w.1 in
        let second = way-takable frame w.0 rest after end w.2 in (
          first.0 ++ second.0,
          first.1 ++ second.1,
          λ more others.
              inl (
                at w.0 (second.0 ++ more) (second.1 ++ others),
                rw (append_assoc first.0 second.0 more, append_assoc first.1 second.1 others) (first.2 (second.0 ++ more) (second.1 ++ others)),
                second.2 more others,
              ),
        )
    | inr w ↦ let first = item-takable frame values item after WayEnd.Fails w.0 in (first.0, first.1, λ more others. inr (first.2 more others, w.1))
  ]

  -- a way through an item takes something
  item-takable : (frame : Frame) (values : List ℤ) (item : Item) (after : List ℤ) (end : WayEnd)
      → IsItemWay frame values item after end → IsTakable (λ picks inputs l. TakesItem frame values item picks inputs l end) after
  item-takable frame values (Item.Read t v) after end h = ([], [], λ more others. (ap (λ l. at l more others) h.0, h.1))
  item-takable frame values (Item.Assign v e) after end h = ([], [], λ more others. (ap (λ l. at l more others) h.0, h.1))
  item-takable frame values (Item.AssignAny v) after end h = ([], h.0 ∷ [], λ more others. (ap (λ l. at l more others) h.1, h.2))
  item-takable frame values (Item.Branch None t f) after end h = elim h [
    | inl w ↦ let side = side-takable frame values t after end w in (Pick.Went true ∷ side.0, side.1, side.2)
    | inr w ↦ let side = side-takable frame values f after end w in (Pick.Went false ∷ side.0, side.1, side.2)
  ]
  item-takable frame values (Item.Branch (Some c) t f) after end h =
      branch-takable frame values c t f after end (is_true frame values c) refl
      (match-maps (is_true frame values c) (IsSideWay frame values t after end) (IsSideWay frame values f after end)
      (IsTakable (λ picks inputs l. TakesSide frame values t picks inputs l end) after) (IsTakable (λ picks inputs l. TakesSide frame values f picks inputs l end) after)
      (λ w. side-takable frame values t after end w) (λ w. side-takable frame values f after end w) h)
  item-takable frame values (Item.Lock n) after end h = absurd h
  item-takable frame values (Item.Unlock n) after end h = absurd h
  item-takable frame values (Item.Loop g body last) after end h = absurd h
  item-takable frame values (Item.Again g body last) after end h = absurd h
  item-takable frame values Item.Break after end h = absurd h
  item-takable frame values Item.Exit after end h = absurd h
  item-takable frame values (Item.Atomic inner) after end h = absurd h

  -- a way through a side takes something
  side-takable : (frame : Frame) (values : List ℤ) (side : Side) (after : List ℤ) (end : WayEnd)
      → IsSideWay frame values side after end → IsTakable (λ picks inputs l. TakesSide frame values side picks inputs l end) after
  side-takable frame values (Side.Goes is) after end h = way-takable frame values is after end h
  side-takable frame values Side.Failed after end h = ([], [], λ more others. (ap (λ l. at l more others) h.0, h.1))
  side-takable frame values Side.Nowhere after end h = absurd h

-- each way takes some picks and inputs, and nothing else is a way
pub ways-take-picks : WaysTakePicks
ways-take-picks frame is values after end = (
  λ h. let taken = way-takable frame values is after end h in
      (taken.0, taken.1, rw (append-nil taken.0, append-nil taken.1) at (taken.2 [] [])),
  λ h. way-taken frame values is h.0 h.1 (arrived after) end h.2,
)
