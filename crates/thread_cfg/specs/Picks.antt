-- What each path of an atomic body picks, and the ways that take just these picks.
use Rattle.std.specs.Prelude.{◌≡◌, ◌≢◌, ◌⊎◌, ◌↔◌, ℕ, ℤ, Bool, true, false, List, [], ◌∷◌, ◌++◌, map, flat_map, AllPairs, Contains, MatchBool, Some, None}
use Rattle.c_check.specs.Plan.{Arithmetic, Test, Condition, Stmt, Stmts}
use Rattle.c_check.specs.Items.{Grain, Item, Items, Side, items}
use Rattle.thread_cfg.specs.declared.relation.Relation.{Relation}
use Rattle.thread_cfg.specs.Source.{Frame, IsWay, WayEnd, column_of, is_true, value, value_at, with_value}
use Rattle.thread_cfg.specs.Path.{Event, Path, begun, block_paths, ended, when_false, when_true}
use Rattle.thread_cfg.specs.Happen.{Happen, Holds, end_of}

-- what is picked of a comparison, one of the relations of a side; and of a choice, whether it goes to the true side
pub data Pick : Type 0 where
  Took : Relation → Pick
  Went : Bool → Pick

-- ---- paths, each with what it picks, in order

-- a path with what it picks
pub record PickedPath : Type 0 where
  pub picks : List Pick
  pub path : Path

-- nothing is picked, and nothing happens
abbrev pub ended_picked : Bool → PickedPath
ended_picked fails = record { picks = []; path = ended fails }

-- an event that picks nothing, and then the path
abbrev pub begun_picked : Event → PickedPath → PickedPath
begun_picked event p = record p { path = begun event p.path }

-- a relation is picked of a comparison, and then the path
abbrev pub took : ℕ → Relation → Arithmetic → Arithmetic → PickedPath → PickedPath
took from r a b p = record { picks = Pick.Took r ∷ p.picks; path = begun (Event.Requires from r a b) p.path }

-- a side is picked of a choice, and then the path
abbrev pub went : Bool → PickedPath → PickedPath
went side p = record p { picks = Pick.Went side ∷ p.picks }

-- one of the relations is picked, and then one of the paths
abbrev pub relations_picked : ℕ → Arithmetic → Arithmetic → List Relation → List PickedPath → List PickedPath
relations_picked from a b relations more = flat_map (λ r. map (took from r a b) more) relations

-- the paths of a test, with those behind its two sides
abbrev pub test_picked : Test → List PickedPath → List PickedPath → List PickedPath
test_picked (Test.Compare from m a b) ts fs = relations_picked from a b (when_true m) ts ++ relations_picked from a b (when_false m) fs
test_picked (Test.Not t) ts fs = test_picked t fs ts
test_picked (Test.And t u) ts fs = test_picked t (test_picked u ts fs) fs
test_picked (Test.Or t u) ts fs = test_picked t ts (test_picked u ts fs)

-- the paths of a condition, with those behind its two sides
abbrev pub condition_picked : Condition → List PickedPath → List PickedPath → List PickedPath
condition_picked (Condition.Choice from) ts fs = map (went true) ts ++ map (went false) fs
condition_picked (Condition.Tested from t) ts fs = test_picked t ts fs

abbrev mutual
  -- the paths of a statement, with those behind it
  pub stmt_picked : Stmt → List PickedPath → List PickedPath
  stmt_picked (Stmt.Assign from at v e) more = map (begun_picked (Event.Sets at v e)) more
  stmt_picked (Stmt.AssignAny from v) more = map (begun_picked (Event.SetsAny v)) more
  stmt_picked (Stmt.If from c ts es) more = condition_picked c (stmts_picked ts more) (stmts_picked es more)
  stmt_picked (Stmt.Loop from c body last) more = []
  stmt_picked (Stmt.Break from) more = []
  stmt_picked (Stmt.Exit from) more = []
  stmt_picked (Stmt.Lock from lock) more = []
  stmt_picked (Stmt.Unlock from lock) more = []
  stmt_picked (Stmt.Assert from t) more = test_picked t more (ended_picked true ∷ [])
  stmt_picked (Stmt.Assume from t) more = test_picked t more []
  stmt_picked (Stmt.Atomic from inner) more = []

  -- the paths of statements, with those behind them
  pub stmts_picked : Stmts → List PickedPath → List PickedPath
  stmts_picked Stmts.End more = more
  stmts_picked (Stmts.Then s rest) more = stmt_picked s (stmts_picked rest more)

-- the paths of an atomic body, each with what it picks
abbrev pub block_picked : Stmts → List PickedPath
block_picked inner = stmts_picked inner (ended_picked false ∷ [])

-- ---- ways through items, with what they take

-- where a way stands: at these values, with these picks and inputs left to take
pub record Course : Type 0 where
  pub values : List ℤ
  pub picks : List Pick
  pub inputs : List ℤ

-- nothing is left to take
abbrev pub arrived : List ℤ → Course
arrived values = record { values = values; picks = []; inputs = [] }

-- From these values a way goes through the items, and takes of these picks and inputs those in front: it comes to where it stands
-- after, and ends so. It is a way as `IsWay` says. Of a comparison it takes a relation that holds at its values, one of those of the
-- side that it goes to; of a choice that side; and for each variable that is set to any integer the next input.
abbrev mutual
  -- through all items
  pub Takes : Frame → List ℤ → Items → List Pick → List ℤ → Course → WayEnd → Type 0
  Takes frame values Items.End picks inputs after end = (after ≡ record { values = values; picks = picks; inputs = inputs }) × (end ≡ WayEnd.Through)
  Takes frame values (Items.Then item rest) picks inputs after end =
      ((between : Course) × TakesItem frame values item picks inputs between WayEnd.Through
      × Takes frame between.values rest between.picks between.inputs after end)
      ⊎ (TakesItem frame values item picks inputs after WayEnd.Fails × (end ≡ WayEnd.Fails))

  -- through one item
  pub TakesItem : Frame → List ℤ → Item → List Pick → List ℤ → Course → WayEnd → Type 0
  TakesItem frame values (Item.Read t v) picks inputs after end =
      (after ≡ record { values = with_value frame values t (value_at values (column_of frame v)); picks = picks; inputs = inputs }) × (end ≡ WayEnd.Through)
  TakesItem frame values (Item.Assign v e) picks inputs after end =
      (after ≡ record { values = with_value frame values v (value frame values e); picks = picks; inputs = inputs }) × (end ≡ WayEnd.Through)
  TakesItem frame values (Item.AssignAny v) picks [] after end = ⊥
  TakesItem frame values (Item.AssignAny v) picks (k ∷ inputs) after end =
      (after ≡ record { values = with_value frame values v k; picks = picks; inputs = inputs }) × (end ≡ WayEnd.Through)
  TakesItem frame values (Item.Branch None t f) (Pick.Went side ∷ picks) inputs after end =
      MatchBool side (TakesSide frame values t picks inputs after end) (TakesSide frame values f picks inputs after end)
  TakesItem frame values (Item.Branch None t f) picks inputs after end = ⊥
  TakesItem frame values (Item.Branch (Some c) t f) (Pick.Took r ∷ picks) inputs after end =
      Holds r (value frame values c.left) (value frame values c.right)
      × MatchBool (is_true frame values c)
      (Contains (when_true c.mark) r × TakesSide frame values t picks inputs after end)
      (Contains (when_false c.mark) r × TakesSide frame values f picks inputs after end)
  TakesItem frame values (Item.Branch (Some c) t f) picks inputs after end = ⊥
  TakesItem frame values (Item.Lock n) picks inputs after end = ⊥
  TakesItem frame values (Item.Unlock n) picks inputs after end = ⊥
  TakesItem frame values (Item.Loop g body last) picks inputs after end = ⊥
  TakesItem frame values (Item.Again g body last) picks inputs after end = ⊥
  TakesItem frame values Item.Break picks inputs after end = ⊥
  TakesItem frame values Item.Exit picks inputs after end = ⊥
  TakesItem frame values (Item.Atomic inner) picks inputs after end = ⊥

  -- through a side of a branch
  pub TakesSide : Frame → List ℤ → Side → List Pick → List ℤ → Course → WayEnd → Type 0
  TakesSide frame values (Side.Goes is) picks inputs after end = Takes frame values is picks inputs after end
  TakesSide frame values Side.Failed picks inputs after end =
      (after ≡ record { values = values; picks = picks; inputs = inputs }) × (end ≡ WayEnd.Fails)
  TakesSide frame values Side.Nowhere picks inputs after end = ⊥

-- ---- laws

-- The ways that take something are the ways that there are: each way takes some picks and inputs, and nothing else is a way.
abbrev pub WaysTakePicks : Type 0
WaysTakePicks = (frame : Frame) (is : Items) (values after : List ℤ) (end : WayEnd)
    → IsWay frame values is after end ↔ ((picks : List Pick) × (inputs : List ℤ) × Takes frame values is picks inputs (arrived after) end)

-- The paths with their picks are the paths of the body, in their order.
abbrev pub PickedPathsAreThePaths : Type 0
PickedPathsAreThePaths = (inner : Stmts) → map (λ p. p.path) (block_picked inner) ≡ block_paths inner

-- Two paths at different places pick differently.
abbrev pub PicksDiffer : Type 0
PicksDiffer = (inner : Stmts) → AllPairs (λ p q. p.picks ≢ q.picks) (block_picked inner)

-- A way from these values takes just the picks of a path and just these inputs exactly where the events of the path happen with these
-- inputs. It then comes to the values that these leave, and ends as the path does.
abbrev pub PathsTellWays : Type 0
PathsTellWays = (frame : Frame) (inner : Stmts) (p : PickedPath) (values inputs after : List ℤ) (end : WayEnd) → Contains (block_picked inner) p
    → Takes frame values (items Grain.Whole inner) p.picks inputs (arrived after) end
    ↔ (Happen frame values p.path.events inputs after × (end ≡ end_of p.path))

-- What a way takes from its beginning to its end is what one of the paths picks.
abbrev pub TakenArePicked : Type 0
TakenArePicked = (frame : Frame) (inner : Stmts) (values inputs after : List ℤ) (picks : List Pick) (end : WayEnd)
    → Takes frame values (items Grain.Whole inner) picks inputs (arrived after) end
    → (p : PickedPath) × Contains (block_picked inner) p × (p.picks ≡ picks)
