-- What happens on a way: events, one after another; and the paths through an atomic body, in the order of their edges.
use Rattle.std.specs.Prelude.{ℕ, Bool, true, false, List, [], ◌∷◌, ◌++◌, map, flat_map}
use Rattle.c_check.specs.declared.meaning.Variable.{Variable}
use Rattle.c_check.specs.declared.operation.Mark.{Mark}
use Rattle.c_check.specs.declared.operation.Mark.TheVariants as mark
use Rattle.c_check.specs.Plan.{Arithmetic, Test, Condition, Stmt, Stmts}
use Rattle.thread_cfg.specs.declared.relation.Relation.{Relation}
use Rattle.thread_cfg.specs.declared.relation.Relation.TheVariants as related

-- ---- what a mark asks, on each of its sides: one of these

-- what holds of the two numbers where the mark is true
abbrev pub when_true : Mark → List Relation
when_true mark.Equal = related.Equal ∷ []
when_true mark.Unequal = related.Less ∷ related.Greater ∷ []
when_true mark.Less = related.Less ∷ []
when_true mark.AtMost = related.AtMost ∷ []
when_true mark.Greater = related.Greater ∷ []
when_true mark.AtLeast = related.AtLeast ∷ []

-- and where it is false
abbrev pub when_false : Mark → List Relation
when_false mark.Equal = related.Less ∷ related.Greater ∷ []
when_false mark.Unequal = related.Equal ∷ []
when_false mark.Less = related.AtLeast ∷ []
when_false mark.AtMost = related.Greater ∷ []
when_false mark.Greater = related.AtMost ∷ []
when_false mark.AtLeast = related.Less ∷ []

-- ---- events

-- what happens
pub data Event : Type 0 where
  -- two numbers are related so, at the place of their comparison
  Requires : ℕ → Relation → Arithmetic → Arithmetic → Event
  -- a variable is set to what is computed, at the place of that
  Sets : ℕ → Variable → Arithmetic → Event
  -- a variable is set to any integer
  SetsAny : Variable → Event

-- a path: what happens on it, in order
pub record Path : Type 0 where
  pub events : List Event
  -- whether it ends at an assertion that is false
  pub fails : Bool

-- a path on which nothing happens
abbrev pub ended : Bool → Path
ended fails = record { events = []; fails = fails }

-- an event, and then the path
abbrev pub begun : Event → Path → Path
begun event path = record path { events = event ∷ path.events }

-- one of the relations is picked, and then one of the paths
abbrev pub picked : ℕ → Arithmetic → Arithmetic → List Relation → List Path → List Path
picked from a b relations more = flat_map (λ r. map (begun (Event.Requires from r a b)) more) relations

-- the paths of a test, with those behind its true side and those behind its false side
abbrev pub test_paths : Test → List Path → List Path → List Path
test_paths (Test.Compare from m a b) ts fs = picked from a b (when_true m) ts ++ picked from a b (when_false m) fs
test_paths (Test.Not t) ts fs = test_paths t fs ts
test_paths (Test.And t u) ts fs = test_paths t (test_paths u ts fs) fs
test_paths (Test.Or t u) ts fs = test_paths t ts (test_paths u ts fs)

-- the paths of a condition, with those behind its true side and those behind its false side
abbrev pub condition_paths : Condition → List Path → List Path → List Path
condition_paths (Condition.Choice from) ts fs = ts ++ fs
condition_paths (Condition.Tested from t) ts fs = test_paths t ts fs

abbrev mutual
  -- the paths of a statement, with those behind it; what may not stand in an atomic body has none
  pub stmt_paths : Stmt → List Path → List Path
  stmt_paths (Stmt.Assign from at v e) more = map (begun (Event.Sets at v e)) more
  stmt_paths (Stmt.AssignAny from v) more = map (begun (Event.SetsAny v)) more
  stmt_paths (Stmt.If from c ts es) more = condition_paths c (paths ts more) (paths es more)
  stmt_paths (Stmt.Loop from c body last) more = []
  stmt_paths (Stmt.Break from) more = []
  stmt_paths (Stmt.Exit from) more = []
  stmt_paths (Stmt.Lock from lock) more = []
  stmt_paths (Stmt.Unlock from lock) more = []
  stmt_paths (Stmt.Assert from t) more = test_paths t more (ended true ∷ [])
  stmt_paths (Stmt.Assume from t) more = test_paths t more []
  stmt_paths (Stmt.Atomic from inner) more = []

  -- the paths of statements, with those behind them
  pub paths : Stmts → List Path → List Path
  paths Stmts.End more = more
  paths (Stmts.Then s rest) more = stmt_paths s (paths rest more)

-- the paths of an atomic body
abbrev pub block_paths : Stmts → List Path
block_paths inner = paths inner (ended false ∷ [])
