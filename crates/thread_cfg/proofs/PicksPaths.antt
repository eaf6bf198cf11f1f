-- The paths with their picks are the paths of the body, in their order.
use Rattle.std.proofs.Common.{◌≡◌, ◌∙◌, ℕ, Bool, true, false, List, [], ◌∷◌, map, refl, ap}
use Rattle.std.proofs.lemmas.List.{map-append}
use Rattle.c_check.specs.Plan.{Arithmetic, Test, Condition, Stmt, Stmts}
use Rattle.thread_cfg.specs.declared.relation.Relation.{Relation}
use Rattle.thread_cfg.specs.Path.{Event, Path, begun, picked, test_paths, condition_paths, stmt_paths, paths, when_true, when_false}
use Rattle.thread_cfg.specs.Picks.{PickedPath, PickedPathsAreThePaths, begun_picked, condition_picked, ended_picked, relations_picked, stmt_picked, stmts_picked, test_picked, took, went}

-- the paths, without what they pick
abbrev paths_of : List PickedPath → List Path
paths_of ps = map (λ p. p.path) ps

-- what begins each path begins each path with its picks
map-begun : (f : PickedPath → PickedPath) (event : Event) → ((p : PickedPath) → (f p).path ≡ begun event p.path)
    → (ps : List PickedPath) → paths_of (map f ps) ≡ map (begun event) (paths_of ps)
map-begun f event same [] = refl
map-begun f event same (p ∷ ps) = rw (same p, map-begun f event same ps)

-- a choice leaves the paths as they are
map-went : (side : Bool) (ps : List PickedPath) → paths_of (map (went side) ps) ≡ paths_of ps
map-went side [] = refl
map-went side (p ∷ ps) = rw (map-went side ps)

-- the paths that pick relations, without what they pick
map-relations : (from : ℕ) (a b : Arithmetic) (rs : List Relation) (ps : List PickedPath)
    → paths_of (relations_picked from a b rs ps) ≡ picked from a b rs (paths_of ps)
map-relations from a b [] ps = refl
map-relations from a b (r ∷ rs) ps =
    rw (
      map-append (λ (p : PickedPath). p.path) (map (took from r a b) ps) (relations_picked from a b rs ps),
      map-begun (took from r a b) (Event.Requires from r a b) (λ p. refl) ps,
      map-relations from a b rs ps,
    )

-- the paths of a test, without what they pick
map-test : (test : Test) (ts fs : List PickedPath) → paths_of (test_picked test ts fs) ≡ test_paths test (paths_of ts) (paths_of fs)
map-test (Test.Compare from m a b) ts fs =
    rw (
      map-append (λ (p : PickedPath). p.path) (relations_picked from a b (when_true m) ts) (relations_picked from a b (when_false m) fs),
      map-relations from a b (when_true m) ts,
      map-relations from a b (when_false m) fs,
    )
map-test (Test.Not t) ts fs = map-test t fs ts
map-test (Test.And t u) ts fs = map-test t (test_picked u ts fs) fs ∙ ap (λ ps. test_paths t ps (paths_of fs)) (map-test u ts fs)
map-test (Test.Or t u) ts fs = map-test t ts (test_picked u ts fs) ∙ ap (λ ps. test_paths t (paths_of ts) ps) (map-test u ts fs)

-- the paths of a condition, without what they pick
map-condition : (c : Condition) (ts fs : List PickedPath) → paths_of (condition_picked c ts fs) ≡ condition_paths c (paths_of ts) (paths_of fs)
map-condition (Condition.Tested from t) ts fs = map-test t ts fs
map-condition (Condition.Choice from) ts fs =
    rw (map-append (λ (p : PickedPath). p.path) (map (went true) ts) (map (went false) fs), map-went true ts, map-went false fs)

mutual
  -- the paths of a statement, without what they pick
  map-stmt : (s : Stmt) (more : List PickedPath) → paths_of (stmt_picked s more) ≡ stmt_paths s (paths_of more)
  map-stmt (Stmt.Assign from at v e) more = map-begun (begun_picked (Event.Sets at v e)) (Event.Sets at v e) (λ p. refl) more
  map-stmt (Stmt.AssignAny from v) more = map-begun (begun_picked (Event.SetsAny v)) (Event.SetsAny v) (λ p. refl) more
  map-stmt (Stmt.If from c ts es) more =
      let whole = map-condition c (stmts_picked ts more) (stmts_picked es more) in rw (map-stmts ts more, map-stmts es more) at whole
  map-stmt (Stmt.Loop from c body last) more = refl
  map-stmt (Stmt.Break from) more = refl
  map-stmt (Stmt.Exit from) more = refl
  map-stmt (Stmt.Lock from lock) more = refl
  map-stmt (Stmt.Unlock from lock) more = refl
  map-stmt (Stmt.Assert from t) more = map-test t more (ended_picked true ∷ [])
  map-stmt (Stmt.Assume from t) more = map-test t more []
  map-stmt (Stmt.Atomic from inner) more = refl

  -- the paths of statements, without what they pick
  map-stmts : (ss : Stmts) (more : List PickedPath) → paths_of (stmts_picked ss more) ≡ paths ss (paths_of more)
  map-stmts Stmts.End more = refl
  map-stmts (Stmts.Then s rest) more = map-stmt s (stmts_picked rest more) ∙ ap (λ ps. stmt_paths s ps) (map-stmts rest more)

-- the paths with their picks are the paths of the body
pub picked-paths-are-the-paths : PickedPathsAreThePaths
picked-paths-are-the-paths inner = map-stmts inner (ended_picked false ∷ [])
