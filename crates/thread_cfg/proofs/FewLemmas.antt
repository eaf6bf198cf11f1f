-- The paths that are found from behind are those of the statements, where these are few.
use Rattle.std.proofs.Common.{◌≡◌, ℕ, suc, ◌<◌, ◌≤◌, nat_lt, Bool, true, false, List, [], ◌∷◌, ◌++◌, length, map, Option, Some, None, refl, sym, ap, ap₂, ◌∙◌, arith}
use Rattle.std.proofs.lemmas.List.{append-nil, length-append, length-map, map-append}
use Rattle.thr_base.specs.Limits.{most_paths}
use Rattle.c_check.specs.declared.operation.Mark.{Mark}
use Rattle.c_check.specs.declared.operation.Mark.TheVariants as mark
use Rattle.c_check.specs.declared.test.Comparison.{Comparison}
use Rattle.c_check.specs.declared.test.TestOperation.{TestOperation}
use Rattle.c_check.specs.declared.test.TestOperation.TheVariants as test_operation
use Rattle.c_check.specs.declared.instruction.Instruction.{Instruction}
use Rattle.c_check.specs.declared.instruction.Instruction.TheVariants as instruction
use Rattle.c_check.specs.Plan.{Arithmetic, Test, Condition, Stmt, Stmts, code, postfix, stmt_code, stored_condition_of, test_postfix}
use Rattle.thread_cfg.specs.declared.relation.Relation.{Relation}
use Rattle.thread_cfg.specs.Path.{Event, Path, begun, block_paths, condition_paths, ended, paths, picked, stmt_paths, test_paths, when_false, when_true}
use Rattle.thread_cfg.specs.inside.Few.{Branch, Branches, Going, Parting, WrittenEvent, WrittenPath, after, all_after, all_picked, both, compared, condition_ways, event_written, few, going_start, gone, gone_all, left_by, parted, parted_all, path_written, taken, test_ways, where_few}

-- paths as they are written, or none where they are too many
abbrev Ways : Type 0
Ways = Option (List WrittenPath)

-- paths as they are written, where they are few
abbrev pub ways : List Path → Ways
ways ps = few (map path_written ps)

-- ---- lists

-- too many paths are none
few-none : (ps : List WrittenPath) → most_paths < length ps → few ps ≡ None
few-none ps h = let e : nat_lt most_paths (length ps) ≡ true = grind arith in rw e refl

-- paths that are not too many stay
few-some : (ps : List WrittenPath) → length ps ≤ most_paths → few ps ≡ Some ps
few-some ps h = let e : nat_lt most_paths (length ps) ≡ false = grind arith in rw e refl

-- both are few where each is, and they are together
both-few : (ps qs : List WrittenPath) → both (few ps) (few qs) ≡ few (ps ++ qs)
both-few ps qs = by (nat_lt most_paths (length ps)) refl (nat_lt most_paths (length qs)) refl
  where
    by : (x : Bool) → nat_lt most_paths (length ps) ≡ x → (y : Bool) → nat_lt most_paths (length qs) ≡ y → both (few ps) (few qs) ≡ few (ps ++ qs)
    by true e y f =
        let many : most_paths < length ps = grind arith in
        rw e (sym (few-none (ps ++ qs) (omega (arith, length-append ps qs, many))))
    by false e true f =
        let many : most_paths < length qs = grind arith in
        rw (e, f) (sym (few-none (ps ++ qs) (omega (arith, length-append ps qs, many))))
    by false e false f = rw (e, f) refl

-- an event in front of each
all_after-few : (e : WrittenEvent) (ps : List WrittenPath) → all_after e (few ps) ≡ few (map (after e) ps)
all_after-few e ps = by (nat_lt most_paths (length ps)) refl
  where
    by : (x : Bool) → nat_lt most_paths (length ps) ≡ x → all_after e (few ps) ≡ few (map (after e) ps)
    by true h = let many : nat_lt most_paths (length (map (after e) ps)) ≡ true = rw (length-map ps (after e)) h in rw (h, many) refl
    by false h = let one : nat_lt most_paths (length (map (after e) ps)) ≡ false = rw (length-map ps (after e)) h in rw (h, one) refl

-- events in front of paths, as they are written
map-begun : (e : Event) (ps : List Path) → map path_written (map (begun e) ps) ≡ map (after (event_written e)) (map path_written ps)
map-begun e [] = refl
map-begun e (p ∷ ps) = ap (λ l. path_written (begun e p) ∷ l) (map-begun e ps)

-- an event in front of paths, whether they are few or not
pub ways-begun : (e : Event) (ps : List Path) → all_after (event_written e) (ways ps) ≡ ways (map (begun e) ps)
ways-begun e ps = all_after-few (event_written e) (map path_written ps) ∙ ap few (sym (map-begun e ps))

-- paths of one side and of the other, whether they are few or not
pub ways-both : (ps qs : List Path) → both (ways ps) (ways qs) ≡ ways (ps ++ qs)
ways-both ps qs = both-few (map path_written ps) (map path_written qs) ∙ ap few (sym (map-append path_written ps qs))

-- ---- comparisons

-- a comparison as a plan has it
abbrev comparison : ℕ → Mark → Arithmetic → Arithmetic → Comparison
comparison from m a b = record { from = from; mark = m; left = postfix a; right = postfix b }

-- the picks of relations in front of paths, whether they are few or not
ways-picked : (from : ℕ) (m : Mark) (a b : Arithmetic) (rs : List Relation) (ps : List Path)
    → all_picked (comparison from m a b) rs (ways ps) ≡ ways (picked from a b rs ps)
ways-picked from m a b [] ps = refl
ways-picked from m a b (r ∷ []) ps =
    ways-begun (Event.Requires from r a b) ps ∙ ap ways (sym (append-nil (map (begun (Event.Requires from r a b)) ps)))
ways-picked from m a b (r ∷ (s ∷ rs)) ps =
    let here = map (begun (Event.Requires from r a b)) ps in
    ap₂ both (ways-begun (Event.Requires from r a b) ps) (ways-picked from m a b (s ∷ rs) ps) ∙ ways-both here (picked from a b (s ∷ rs) ps)

-- the paths of a comparison, whether they are few or not
ways-compared : (from : ℕ) (m : Mark) (a b : Arithmetic) (ts fs : List Path)
    → compared (comparison from m a b) (ways ts) (ways fs) ≡ ways (test_paths (Test.Compare from m a b) ts fs)
ways-compared from m a b ts fs =
    ap₂ both (ways-picked from m a b (when_true m) ts) (ways-picked from m a b (when_false m) fs)
    ∙ ways-both (picked from a b (when_true m) ts) (picked from a b (when_false m) fs)

-- ---- tests

-- the paths of a test, where those of its sides may be too many
abbrev tree_ways : Test → Ways → Ways → Ways
tree_ways (Test.Compare from m a b) t f = compared (comparison from m a b) t f
tree_ways (Test.Not u) t f = tree_ways u f t
tree_ways (Test.And u v) t f = tree_ways u (tree_ways v t f) f
tree_ways (Test.Or u v) t f = tree_ways u t (tree_ways v t f)

-- the paths of a test as a tree, whether they are few or not
tree_ways-paths : (test : Test) (ts fs : List Path) → tree_ways test (ways ts) (ways fs) ≡ ways (test_paths test ts fs)
tree_ways-paths (Test.Compare from m a b) ts fs = ways-compared from m a b ts fs
tree_ways-paths (Test.Not u) ts fs = tree_ways-paths u fs ts
tree_ways-paths (Test.And u v) ts fs = ap (λ w. tree_ways u w (ways fs)) (tree_ways-paths v ts fs) ∙ tree_ways-paths u (test_paths v ts fs) fs
tree_ways-paths (Test.Or u v) ts fs = ap (tree_ways u (ways ts)) (tree_ways-paths v ts fs) ∙ tree_ways-paths u ts (test_paths v ts fs)

-- where the paths of a side are too many, so are those of the test
both-none : (w : Ways) → both w None ≡ None
both-none None = refl
both-none (Some ps) = refl

-- in front of too many paths a pick has too many
picked-none : (from : ℕ) (m : Mark) (a b : Arithmetic) (r : Relation) (rs : List Relation) → all_picked (comparison from m a b) (r ∷ rs) None ≡ None
picked-none from m a b r [] = refl
picked-none from m a b r (s ∷ rs) = refl

-- a comparison whose true side has too many paths has too many
compared-true : (from : ℕ) (m : Mark) (a b : Arithmetic) (f : Ways) → compared (comparison from m a b) None f ≡ None
compared-true from mark.Equal a b f = refl
compared-true from mark.Unequal a b f = refl
compared-true from mark.Less a b f = refl
compared-true from mark.AtMost a b f = refl
compared-true from mark.Greater a b f = refl
compared-true from mark.AtLeast a b f = refl

-- a comparison whose false side has too many paths has too many
compared-false : (from : ℕ) (m : Mark) (a b : Arithmetic) (t : Ways) → compared (comparison from m a b) t None ≡ None
compared-false from mark.Equal a b t = both-none _
compared-false from mark.Unequal a b t = both-none _
compared-false from mark.Less a b t = both-none _
compared-false from mark.AtMost a b t = both-none _
compared-false from mark.Greater a b t = both-none _
compared-false from mark.AtLeast a b t = both-none _

mutual
  -- a test whose true side has too many paths has too many
  tree-true : (test : Test) (f : Ways) → tree_ways test None f ≡ None
  tree-true (Test.Compare from m a b) f = compared-true from m a b f
  tree-true (Test.Not u) f = tree-false u f
  tree-true (Test.And u v) f = ap (λ w. tree_ways u w f) (tree-true v f) ∙ tree-true u f
  tree-true (Test.Or u v) f = tree-true u (tree_ways v None f)

  -- a test whose false side has too many paths has too many
  tree-false : (test : Test) (t : Ways) → tree_ways test t None ≡ None
  tree-false (Test.Compare from m a b) t = compared-false from m a b t
  tree-false (Test.Not u) t = tree-true u t
  tree-false (Test.And u v) t = tree-false u (tree_ways v t None)
  tree-false (Test.Or u v) t = ap (tree_ways u t) (tree-false v t) ∙ tree-false u t

-- what is too many beside others need not be known
where_few-and : (u v : Test) (t f : Ways) → tree_ways u (tree_ways v t (where_few t f)) (where_few t f) ≡ tree_ways u (tree_ways v t f) f
where_few-and u v (Some ps) f = refl
where_few-and u v None f = tree-false u (tree_ways v None None) ∙ sym (tree-true (Test.And u v) f)

-- paths that are left out of `||` where the other side has too many change nothing
where_few-or : (u v : Test) (t f : Ways) → tree_ways u (where_few f t) (tree_ways v (where_few f t) f) ≡ tree_ways u t (tree_ways v t f)
where_few-or u v t (Some ps) = refl
where_few-or u v t None = tree-true u (tree_ways v None None) ∙ sym (tree-false (Test.Or u v) t)

-- joined operations are gone through from the last one on
parted_all-append : (xs ys : List TestOperation) (s : Parting) → parted_all (xs ++ ys) s ≡ parted_all xs (parted_all ys s)
parted_all-append [] ys s = refl
parted_all-append (x ∷ xs) ys s = ap (parted x) (parted_all-append xs ys s)

-- the two branches of a test
abbrev branches : Branch → Branch → Branches
branches t f = record { on_true = t; on_false = f }

-- what is known behind an operation
abbrev parting : Ways → List Branches → Parting
parting behind bs = record { behind = behind; branches = bs }

-- a test, from its end to its beginning
parted-postfix : (test : Test) (behind : Ways) (t f : Branch) (more : List Branches)
    → parted_all (test_postfix test) (parting behind (branches t f ∷ more)) ≡ parting (tree_ways test (taken behind t) (taken (left_by behind t) f)) more
parted-postfix (Test.Compare from m a b) behind t f more = refl
parted-postfix (Test.Not u) behind t f more =
    let left = left_by (left_by behind t) f in
    parted_all-append (test_postfix u) (test_operation.Not ∷ []) (parting behind (branches t f ∷ more))
    ∙ parted-postfix u left (Branch.Ways (taken (left_by behind t) f)) (Branch.Ways (taken behind t)) more
parted-postfix (Test.And u v) behind t f more =
    let left = left_by (left_by behind t) f in
    let x = taken behind t in let y = where_few x (taken (left_by behind t) f) in
    let first = branches Branch.Behind (Branch.Ways y) in
    let second = branches (Branch.Ways x) (Branch.Ways y) in
    parted_all-append (test_postfix u ++ test_postfix v) (test_operation.And ∷ []) (parting behind (branches t f ∷ more))
    ∙ parted_all-append (test_postfix u) (test_postfix v) (parting left (second ∷ (first ∷ more)))
    ∙ ap (parted_all (test_postfix u)) (parted-postfix v left (Branch.Ways x) (Branch.Ways y) (first ∷ more))
    ∙ parted-postfix u (tree_ways v x y) Branch.Behind (Branch.Ways y) more
    ∙ ap (λ w. parting w more) (where_few-and u v x (taken (left_by behind t) f))
parted-postfix (Test.Or u v) behind t f more =
    let left = left_by (left_by behind t) f in
    let y = taken (left_by behind t) f in let x = where_few y (taken behind t) in
    let first = branches (Branch.Ways x) Branch.Behind in
    let second = branches (Branch.Ways x) (Branch.Ways y) in
    parted_all-append (test_postfix u ++ test_postfix v) (test_operation.Or ∷ []) (parting behind (branches t f ∷ more))
    ∙ parted_all-append (test_postfix u) (test_postfix v) (parting left (second ∷ (first ∷ more)))
    ∙ ap (parted_all (test_postfix u)) (parted-postfix v left (Branch.Ways x) (Branch.Ways y) (first ∷ more))
    ∙ parted-postfix u (tree_ways v x y) (Branch.Ways x) Branch.Behind more
    ∙ ap (λ w. parting w more) (where_few-or u v (taken behind t) y)

-- the paths of a test, found operation by operation, are those of the definition
ways-test : (test : Test) (ts fs : List Path) → test_ways (test_postfix test) (ways ts) (ways fs) ≡ ways (test_paths test ts fs)
ways-test test ts fs =
    ap (λ (s : Parting). s.behind) (parted-postfix test (Some []) (Branch.Ways (ways ts)) (Branch.Ways (ways fs)) []) ∙ tree_ways-paths test ts fs

-- the paths of a condition, found operation by operation, are those of the definition
ways-condition : (c : Condition) (ts fs : List Path) → condition_ways (stored_condition_of c) (ways ts) (ways fs) ≡ ways (condition_paths c ts fs)
ways-condition (Condition.Choice from) ts fs = ways-both ts fs
ways-condition (Condition.Tested from test) ts fs = ways-test test ts fs

-- ---- instructions

-- joined instructions are gone through from the last one on
gone_all-append : (xs ys : List Instruction) (s : Going) → gone_all (xs ++ ys) s ≡ gone_all xs (gone_all ys s)
gone_all-append [] ys s = refl
gone_all-append (x ∷ xs) ys s = ap (gone x) (gone_all-append xs ys s)

-- what is known behind an instruction
abbrev going : Ways → List Ways → ℕ → Going
going w opened depth = record { ways = w; opened = opened; depth = depth }

-- in a loop or block nothing is done
mutual
  -- a statement in a loop or block leaves the paths behind it
  stmt-within : (s : Stmt) (w : Ways) (opened : List Ways) (more : ℕ) → gone_all (stmt_code s) (going w opened (suc more)) ≡ going w opened (suc more)
  stmt-within (Stmt.Assign from place v e) w opened more = refl
  stmt-within (Stmt.AssignAny from v) w opened more = refl
  stmt-within (Stmt.If from c ts es) w opened more =
      let back = instruction.Else ∷ (code es ++ instruction.EndIf ∷ []) in
      ap (gone (instruction.If from (stored_condition_of c))) (
      gone_all-append (code ts) back (going w opened (suc more))
      ∙ ap (λ s. gone_all (code ts) (gone instruction.Else s)) (
      gone_all-append (code es) (instruction.EndIf ∷ []) (going w opened (suc more)) ∙ stmts-within es w opened more)
      ∙ stmts-within ts w opened more)
  stmt-within (Stmt.Loop from c body last) w opened more =
      let back = instruction.Last ∷ (code last ++ instruction.EndLoop ∷ []) in
      ap (gone (instruction.Loop from (stored_condition_of c))) (
      gone_all-append (code body) back (going w opened (suc more))
      ∙ ap (λ s. gone_all (code body) (gone instruction.Last s)) (
      gone_all-append (code last) (instruction.EndLoop ∷ []) (going w opened (suc more)) ∙ stmts-within last w opened (suc more))
      ∙ stmts-within body w opened (suc more))
  stmt-within (Stmt.Break from) w opened more = refl
  stmt-within (Stmt.Exit from) w opened more = refl
  stmt-within (Stmt.Lock from lock) w opened more = refl
  stmt-within (Stmt.Unlock from lock) w opened more = refl
  stmt-within (Stmt.Assert from t) w opened more = refl
  stmt-within (Stmt.Assume from t) w opened more = refl
  stmt-within (Stmt.Atomic from inner) w opened more =
      ap (gone (instruction.Atomic from)) (
      gone_all-append (code inner) (instruction.EndAtomic ∷ []) (going w opened (suc more)) ∙ stmts-within inner w opened (suc more))

  -- statements in a loop or block leave the paths behind them
  stmts-within : (ss : Stmts) (w : Ways) (opened : List Ways) (more : ℕ) → gone_all (code ss) (going w opened (suc more)) ≡ going w opened (suc more)
  stmts-within Stmts.End w opened more = refl
  stmts-within (Stmts.Then s rest) w opened more =
      gone_all-append (stmt_code s) (code rest) (going w opened (suc more))
      ∙ ap (gone_all (stmt_code s)) (stmts-within rest w opened more) ∙ stmt-within s w opened more

mutual
  -- the paths of a statement, found instruction by instruction
  stmt-gone : (s : Stmt) (ps : List Path) (opened : List Ways) → gone_all (stmt_code s) (going (ways ps) opened 0) ≡ going (ways (stmt_paths s ps)) opened 0
  stmt-gone (Stmt.Assign from place v e) ps opened = ap (λ w. going w opened 0) (ways-begun (Event.Sets place v e) ps)
  stmt-gone (Stmt.AssignAny from v) ps opened = ap (λ w. going w opened 0) (ways-begun (Event.SetsAny v) ps)
  stmt-gone (Stmt.If from c ts es) ps opened =
      let back = instruction.Else ∷ (code es ++ instruction.EndIf ∷ []) in
      ap (gone (instruction.If from (stored_condition_of c))) (
      gone_all-append (code ts) back (going (ways ps) opened 0)
      ∙ ap (λ s. gone_all (code ts) (gone instruction.Else s)) (
      gone_all-append (code es) (instruction.EndIf ∷ []) (going (ways ps) opened 0) ∙ stmts-gone es ps (ways ps ∷ opened))
      ∙ stmts-gone ts ps (ways (paths es ps) ∷ opened))
      ∙ ap (λ w. going w opened 0) (ways-condition c (paths ts ps) (paths es ps))
  stmt-gone (Stmt.Loop from c body last) ps opened =
      let back = instruction.Last ∷ (code last ++ instruction.EndLoop ∷ []) in
      ap (gone (instruction.Loop from (stored_condition_of c))) (
      gone_all-append (code body) back (going (ways ps) opened 0)
      ∙ ap (λ s. gone_all (code body) (gone instruction.Last s)) (
      gone_all-append (code last) (instruction.EndLoop ∷ []) (going (ways ps) opened 0) ∙ stmts-within last (ways ps) opened 0)
      ∙ stmts-within body (ways ps) opened 0)
  stmt-gone (Stmt.Break from) ps opened = refl
  stmt-gone (Stmt.Exit from) ps opened = refl
  stmt-gone (Stmt.Lock from lock) ps opened = refl
  stmt-gone (Stmt.Unlock from lock) ps opened = refl
  stmt-gone (Stmt.Assert from t) ps opened = ap (λ w. going w opened 0) (ways-test t ps (ended true ∷ []))
  stmt-gone (Stmt.Assume from t) ps opened = ap (λ w. going w opened 0) (ways-test t ps [])
  stmt-gone (Stmt.Atomic from inner) ps opened =
      ap (gone (instruction.Atomic from)) (
      gone_all-append (code inner) (instruction.EndAtomic ∷ []) (going (ways ps) opened 0) ∙ stmts-within inner (ways ps) opened 0)

  -- the paths of statements, found instruction by instruction
  stmts-gone : (ss : Stmts) (ps : List Path) (opened : List Ways) → gone_all (code ss) (going (ways ps) opened 0) ≡ going (ways (paths ss ps)) opened 0
  stmts-gone Stmts.End ps opened = refl
  stmts-gone (Stmts.Then s rest) ps opened =
      gone_all-append (stmt_code s) (code rest) (going (ways ps) opened 0)
      ∙ ap (gone_all (stmt_code s)) (stmts-gone rest ps opened) ∙ stmt-gone s (paths rest ps) opened

-- The paths of an atomic body are found from behind.
pub gone-code : (inner : Stmts) → (gone_all (code inner) going_start).ways ≡ ways (block_paths inner)
gone-code inner = ap (λ (s : Going). s.ways) (stmts-gone inner (ended false ∷ []) [])
