-- What a thread does reads and sets only columns of variables and locks, where its function names only what there is.
use Rattle.std.proofs.Common.{◌≡◌, ℕ, ◌+◌, ◌<◌, ◌≤◌, Bool, true, false, List, [], ◌∷◌, ◌++◌, map, length, length-append, Option, Some, None, refl, arith}
use Rattle.std.specs.List.{AllByRecursion}
use Rattle.lin_rows.proofs.Lists.{AllByRecursion-append, AllByRecursion-front, AllByRecursion-map, AllByRecursion-rest}
use Rattle.c_check.specs.declared.meaning.Variable.{Variable}
use Rattle.c_check.specs.declared.meaning.Variable.TheVariants as variable
use Rattle.c_check.specs.declared.operation.Operation.TheVariants as operation
use Rattle.c_check.specs.declared.test.TestOperation.TheVariants as test_operation
use Rattle.c_check.specs.declared.instruction.Instruction.{Instruction}
use Rattle.c_check.specs.declared.instruction.Instruction.TheVariants as instruction
use Rattle.c_check.specs.Plan.{Arithmetic, Test, Condition, Stmt, Stmts, code, postfix, stmt_code, stored_condition_of, test_postfix}
use Rattle.c_check.specs.Items.{few, over_temporaries, reads, shared_in}
use Rattle.c_check.specs.Temporaries.{condition_need, need, reads_of, stmt_need, test_need}
use Rattle.c_check.specs.WellFormed.{Counts, HasCode, HasCondition, HasInstruction, HasOperation, HasOperations, HasTest, HasTests, HasVariable}
use Rattle.thread_cfg.specs.declared.relation.Relation.{Relation}
use Rattle.thread_cfg.specs.Source.{Frame, column_of, lock_column}
use Rattle.thread_cfg.specs.Path.{Event, Path, begun, block_paths, condition_paths, ended, paths, picked, stmt_paths, test_paths, when_false, when_true}
use Rattle.thread_cfg.specs.Action.{Action, Alternative, Around, actions, assign_accesses, assign_reads, compare_accesses, compare_reads, condition_actions, condition_size, entry, exit_of, over_reads, path_alternative, read_actions, reads_before, requiring, simple, size, stmt_actions, stmt_size, test_actions, test_size, thread_actions}
use Rattle.thread_cfg.specs.inside.Within.{ActionWithin, ActionsWithin, PathsWithin}
use Rattle.thread_cfg.specs.Within.{EventWithin, EventsWithin, IsWithin}

-- There is room for a function that names only what these numbers count: of n columns the first are the variables and locks that all
-- threads share, and from the frame's first there are those of its locals and of so many temporaries.
pub record HasRoom (counts : Counts) (temporaries n : ℕ) (frame : Frame) : Type 0 where
  pub variables_are : frame.variables ≡ counts.variables
  pub shared : counts.variables + counts.locks ≤ n
  pub own : frame.first + (counts.locals + temporaries) ≤ n

-- reads that are made are as many as are needed
reads_of-cut : (accesses count most : ℕ) → reads_of accesses count ≤ most → few accesses ≡ false → count ≤ most
reads_of-cut accesses count most h cut = rw cut at h

module _ (counts : Counts) (temporaries n : ℕ) (frame : Frame) (room : HasRoom counts temporaries n frame) where
  -- ---- expressions
  abbrev VariableWithin : Variable → Type 0
  VariableWithin v = column_of frame v < n

  -- a variable that is there is within the columns
  variable-within : (v : Variable) → HasVariable counts v → VariableWithin v
  variable-within (variable.Shared k) h = omega (arith, h, room.shared)
  variable-within (variable.Own k) h = omega (arith, h, room.own)

  -- what an expression reads is within the columns
  postfix-within : (a : Arithmetic) → HasOperations counts (postfix a) → IsWithin n frame a
  postfix-within (Arithmetic.Number k) h = tt
  postfix-within (Arithmetic.Value v) h = variable-within v h.0
  postfix-within (Arithmetic.Negated a) h = postfix-within a (AllByRecursion-front (HasOperation counts) (postfix a) (operation.Negate ∷ []) h)
  postfix-within (Arithmetic.Sum a b) h =
      let both = AllByRecursion-front (HasOperation counts) (postfix a ++ postfix b) (operation.Add ∷ []) h in
      (postfix-within a (AllByRecursion-front (HasOperation counts) (postfix a) (postfix b) both), postfix-within b (AllByRecursion-rest (HasOperation counts) (postfix a) (postfix b) both))
  postfix-within (Arithmetic.Difference a b) h =
      let both = AllByRecursion-front (HasOperation counts) (postfix a ++ postfix b) (operation.Subtract ∷ []) h in
      (postfix-within a (AllByRecursion-front (HasOperation counts) (postfix a) (postfix b) both), postfix-within b (AllByRecursion-rest (HasOperation counts) (postfix a) (postfix b) both))
  postfix-within (Arithmetic.Product a b) h =
      let both = AllByRecursion-front (HasOperation counts) (postfix a ++ postfix b) (operation.Multiply ∷ []) h in
      (postfix-within a (AllByRecursion-front (HasOperation counts) (postfix a) (postfix b) both), postfix-within b (AllByRecursion-rest (HasOperation counts) (postfix a) (postfix b) both))

  -- and so it is over temporaries that have columns
  over-within : (next : ℕ) (a : Arithmetic) → IsWithin n frame a → frame.first + (next + length (shared_in a)) ≤ n → IsWithin n frame (over_temporaries next a)
  over-within next (Arithmetic.Number k) h fits = tt
  over-within next (Arithmetic.Value (variable.Shared k)) h fits = omega (arith, fits)
  over-within next (Arithmetic.Value (variable.Own k)) h fits = h
  over-within next (Arithmetic.Negated a) h fits = over-within next a h fits
  over-within next (Arithmetic.Sum a b) h fits =
      let both = length-append (shared_in a) (shared_in b) in
      (over-within next a h.0 (omega (arith, fits)), over-within (next + length (shared_in a)) b h.1 (omega (arith, fits)))
  over-within next (Arithmetic.Difference a b) h fits =
      let both = length-append (shared_in a) (shared_in b) in
      (over-within next a h.0 (omega (arith, fits)), over-within (next + length (shared_in a)) b h.1 (omega (arith, fits)))
  over-within next (Arithmetic.Product a b) h fits =
      let both = length-append (shared_in a) (shared_in b) in
      (over-within next a h.0 (omega (arith, fits)), over-within (next + length (shared_in a)) b h.1 (omega (arith, fits)))

  -- and so it is where it is over temporaries only if it was read into them
  over_reads-within : (next accesses : ℕ) (a : Arithmetic) → IsWithin n frame a → (few accesses ≡ false → frame.first + (next + length (shared_in a)) ≤ n)
      → IsWithin n frame (over_reads next accesses a)
  over_reads-within next accesses a h fits = by (few accesses) refl
    where
      by : (b : Bool) → few accesses ≡ b → IsWithin n frame (over_reads next accesses a)
      by true e = rw e h
      by false e = rw e (over-within next a h (fits e))

  -- the shared variables of an expression are within the columns
  shared-within : (a : Arithmetic) → IsWithin n frame a → AllByRecursion VariableWithin (shared_in a)
  shared-within (Arithmetic.Number k) h = tt
  shared-within (Arithmetic.Value (variable.Shared k)) h = (h, tt)
  shared-within (Arithmetic.Value (variable.Own k)) h = tt
  shared-within (Arithmetic.Negated a) h = shared-within a h
  shared-within (Arithmetic.Sum a b) h = AllByRecursion-append VariableWithin (shared_in a) (shared_in b) (shared-within a h.0) (shared-within b h.1)
  shared-within (Arithmetic.Difference a b) h = AllByRecursion-append VariableWithin (shared_in a) (shared_in b) (shared-within a h.0) (shared-within b h.1)
  shared-within (Arithmetic.Product a b) h = AllByRecursion-append VariableWithin (shared_in a) (shared_in b) (shared-within a h.0) (shared-within b h.1)

  -- ---- reads
  reads-within : (from at next : ℕ) (vs : List Variable) → AllByRecursion VariableWithin vs → frame.first + (next + length vs) ≤ n
      → ActionsWithin n frame (read_actions from (reads next vs) at)
  reads-within from at next [] all fits = tt
  reads-within from at next (v ∷ vs) all fits =
      let own : frame.first + next < n = omega (arith, fits) in
      ((((own, all.0), tt), tt), reads-within from (at + 1) (next + 1) vs all.1 (omega (arith, fits)))

  -- reads are within the columns, where they are made at all
  reads_before-within : (from at next accesses : ℕ) (vs : List Variable) → AllByRecursion VariableWithin vs → (few accesses ≡ false → frame.first + (next + length vs) ≤ n)
      → ActionsWithin n frame (read_actions from (reads_before next accesses vs) at)
  reads_before-within from at next accesses vs all fits = by (few accesses) refl
    where
      by : (b : Bool) → few accesses ≡ b → ActionsWithin n frame (read_actions from (reads_before next accesses vs) at)
      by true e = rw e tt
      by false e = rw e (reads-within from at next vs all (fits e))

  -- ---- tests
  abbrev AlternativesWithin : List Alternative → Type 0
  AlternativesWithin alternatives = AllByRecursion (λ a. EventsWithin n frame a.events) alternatives

  -- what leads to a side is within the columns
  requiring-within : (from : ℕ) (rs : List Relation) (a b : Arithmetic) (to : Option ℕ) → IsWithin n frame a → IsWithin n frame b → AlternativesWithin (requiring from rs a b to)
  requiring-within from rs a b None left right = tt
  requiring-within from [] a b (Some to) left right = tt
  requiring-within from (r ∷ rs) a b (Some to) left right = (((left, right), tt), requiring-within from rs a b (Some to) left right)

  -- the actions of a test are within the columns
  test-within : (at : ℕ) (t f : Option ℕ) (u : Test) → HasTests counts (test_postfix u) → test_need u ≤ temporaries
      → ActionsWithin n frame (test_actions counts.locals at t f u)
  test-within at t f (Test.Compare from m a b) h few_needed =
      let next = counts.locals in
      let accesses = compare_accesses a b in
      let both = length-append (shared_in a) (shared_in b) in
      let left = postfix-within a h.0.0 in
      let right = postfix-within b h.0.1 in
      let fits : few accesses ≡ false → frame.first + (next + length (shared_in a ++ shared_in b)) ≤ n =
      λ cut. omega (arith, room.own, reads_of-cut accesses (length (shared_in a ++ shared_in b)) temporaries few_needed cut) in
      let x = over_reads-within next accesses a left (λ cut. omega (arith, fits cut)) in
      let y = over_reads-within (next + length (shared_in a)) accesses b right (λ cut. omega (arith, fits cut)) in
      AllByRecursion-append (ActionWithin n frame) (read_actions from (compare_reads next a b) at) _
      (reads_before-within from at next accesses (shared_in a ++ shared_in b)
      (AllByRecursion-append VariableWithin (shared_in a) (shared_in b) (shared-within a left) (shared-within b right)) fits) (
        AllByRecursion-append (λ z. EventsWithin n frame z.events) (requiring from (when_true m) _ _ t) (requiring from (when_false m) _ _ f)
            (requiring-within from (when_true m) _ _ t x y) (requiring-within from (when_false m) _ _ f x y),
        tt,
      )
  test-within at t f (Test.Not u) h few_needed = test-within at f t u (AllByRecursion-front (HasTest counts) (test_postfix u) (test_operation.Not ∷ []) h) few_needed
  test-within at t f (Test.And u v) h few_needed =
      let both = AllByRecursion-front (HasTest counts) (test_postfix u ++ test_postfix v) (test_operation.And ∷ []) h in
      AllByRecursion-append (ActionWithin n frame) (test_actions counts.locals at (Some (at + test_size u)) f u) (test_actions counts.locals (at + test_size u) t f v)
      (test-within at (Some (at + test_size u)) f u (AllByRecursion-front (HasTest counts) (test_postfix u) (test_postfix v) both) (omega (arith, few_needed)))
      (test-within (at + test_size u) t f v (AllByRecursion-rest (HasTest counts) (test_postfix u) (test_postfix v) both) (omega (arith, few_needed)))
  test-within at t f (Test.Or u v) h few_needed =
      let both = AllByRecursion-front (HasTest counts) (test_postfix u ++ test_postfix v) (test_operation.Or ∷ []) h in
      AllByRecursion-append (ActionWithin n frame) (test_actions counts.locals at t (Some (at + test_size u)) u) (test_actions counts.locals (at + test_size u) t f v)
      (test-within at t (Some (at + test_size u)) u (AllByRecursion-front (HasTest counts) (test_postfix u) (test_postfix v) both) (omega (arith, few_needed)))
      (test-within (at + test_size u) t f v (AllByRecursion-rest (HasTest counts) (test_postfix u) (test_postfix v) both) (omega (arith, few_needed)))

  -- and those of a condition
  condition-within : (at t f : ℕ) (c : Condition) → HasCondition counts (stored_condition_of c) → condition_need c ≤ temporaries
      → ActionsWithin n frame (condition_actions counts.locals at t f c)
  condition-within at t f (Condition.Choice from) h few_needed = ((tt, (tt, tt)), tt)
  condition-within at t f (Condition.Tested from u) h few_needed = test-within at (Some t) (Some f) u h few_needed

  -- ---- paths
  begun-within : (event : Event) (ps : List Path) → EventWithin n frame event → PathsWithin n frame ps → PathsWithin n frame (map (begun event) ps)
  begun-within event [] h all = tt
  begun-within event (p ∷ ps) h all = ((h, all.0), begun-within event ps h all.1)

  -- paths behind one of some relations are within the columns
  picked-within : (from : ℕ) (a b : Arithmetic) (rs : List Relation) (ps : List Path) → IsWithin n frame a → IsWithin n frame b → PathsWithin n frame ps
      → PathsWithin n frame (picked from a b rs ps)
  picked-within from a b [] ps left right all = tt
  picked-within from a b (r ∷ rs) ps left right all =
      AllByRecursion-append (λ p. EventsWithin n frame p.events) (map (begun (Event.Requires from r a b)) ps) (picked from a b rs ps)
      (begun-within (Event.Requires from r a b) ps (left, right) all) (picked-within from a b rs ps left right all)

  -- the paths of a test are within the columns
  test_paths-within : (u : Test) (ts fs : List Path) → HasTests counts (test_postfix u) → PathsWithin n frame ts → PathsWithin n frame fs
      → PathsWithin n frame (test_paths u ts fs)
  test_paths-within (Test.Compare from m a b) ts fs h t f =
      let left = postfix-within a h.0.0 in
      let right = postfix-within b h.0.1 in
      AllByRecursion-append (λ p. EventsWithin n frame p.events) (picked from a b (when_true m) ts) (picked from a b (when_false m) fs)
      (picked-within from a b (when_true m) ts left right t) (picked-within from a b (when_false m) fs left right f)
  test_paths-within (Test.Not u) ts fs h t f = test_paths-within u fs ts (AllByRecursion-front (HasTest counts) (test_postfix u) (test_operation.Not ∷ []) h) f t
  test_paths-within (Test.And u v) ts fs h t f =
      let both = AllByRecursion-front (HasTest counts) (test_postfix u ++ test_postfix v) (test_operation.And ∷ []) h in
      test_paths-within u (test_paths v ts fs) fs (AllByRecursion-front (HasTest counts) (test_postfix u) (test_postfix v) both)
      (test_paths-within v ts fs (AllByRecursion-rest (HasTest counts) (test_postfix u) (test_postfix v) both) t f) f
  test_paths-within (Test.Or u v) ts fs h t f =
      let both = AllByRecursion-front (HasTest counts) (test_postfix u ++ test_postfix v) (test_operation.Or ∷ []) h in
      test_paths-within u ts (test_paths v ts fs) (AllByRecursion-front (HasTest counts) (test_postfix u) (test_postfix v) both) t
      (test_paths-within v ts fs (AllByRecursion-rest (HasTest counts) (test_postfix u) (test_postfix v) both) t f)

  -- and those of a condition
  condition_paths-within : (c : Condition) (ts fs : List Path) → HasCondition counts (stored_condition_of c) → PathsWithin n frame ts → PathsWithin n frame fs
      → PathsWithin n frame (condition_paths c ts fs)
  condition_paths-within (Condition.Choice from) ts fs h t f = AllByRecursion-append (λ p. EventsWithin n frame p.events) ts fs t f
  condition_paths-within (Condition.Tested from u) ts fs h t f = test_paths-within u ts fs h t f

  -- ---- statements
  -- what is known of the code of two parts, with what stands between and behind them
  two-parts : (p q : List Instruction) (middle last : Instruction) → HasCode counts (p ++ middle ∷ (q ++ last ∷ [])) → HasCode counts p × HasCode counts q
  two-parts p q middle last h =
      let more = AllByRecursion-rest (HasInstruction counts) p (middle ∷ (q ++ last ∷ [])) h in
      (AllByRecursion-front (HasInstruction counts) p (middle ∷ (q ++ last ∷ [])) h, AllByRecursion-front (HasInstruction counts) q (last ∷ []) more.1)

  mutual
    -- the paths of a statement are within the columns
    stmt_paths-within : (s : Stmt) (more : List Path) → HasCode counts (stmt_code s) → PathsWithin n frame more → PathsWithin n frame (stmt_paths s more)
    stmt_paths-within (Stmt.Assign from at v e) more h all = begun-within (Event.Sets at v e) more (variable-within v h.0.0, postfix-within e h.0.1) all
    stmt_paths-within (Stmt.AssignAny from v) more h all = begun-within (Event.SetsAny v) more (variable-within v h.0) all
    stmt_paths-within (Stmt.If from c ts es) more h all =
        let parts = two-parts (code ts) (code es) instruction.Else instruction.EndIf h.1 in
        condition_paths-within c (paths ts more) (paths es more) h.0 (paths-within ts more parts.0 all) (paths-within es more parts.1 all)
    stmt_paths-within (Stmt.Loop from c body last) more h all = tt
    stmt_paths-within (Stmt.Break from) more h all = tt
    stmt_paths-within (Stmt.Exit from) more h all = tt
    stmt_paths-within (Stmt.Lock from lock) more h all = tt
    stmt_paths-within (Stmt.Unlock from lock) more h all = tt
    stmt_paths-within (Stmt.Assert from t) more h all = test_paths-within t more (ended true ∷ []) h.0 all (tt, tt)
    stmt_paths-within (Stmt.Assume from t) more h all = test_paths-within t more [] h.0 all tt
    stmt_paths-within (Stmt.Atomic from inner) more h all = tt

    -- and those of statements
    paths-within : (ss : Stmts) (more : List Path) → HasCode counts (code ss) → PathsWithin n frame more → PathsWithin n frame (paths ss more)
    paths-within Stmts.End more h all = all
    paths-within (Stmts.Then s rest) more h all =
        stmt_paths-within s (paths rest more) (AllByRecursion-front (HasInstruction counts) (stmt_code s) (code rest) h)
        (paths-within rest more (AllByRecursion-rest (HasInstruction counts) (stmt_code s) (code rest) h) all)

  -- what stands around the statements of the thread
  abbrev around_of : ℕ → ℕ → Around
  around_of exit out = record { frame = frame; temporary = counts.locals; exit = exit; out = out }

  -- a lock that is there is within the columns
  lock-within : (k : ℕ) → k < counts.locks → lock_column frame k < n
  lock-within k h = omega (arith, h, room.shared, room.variables_are)

  -- the actions of an assignment are within the columns
  assign-within : (at next from place : ℕ) (v : Variable) (e : Arithmetic) → HasVariable counts v → HasOperations counts (postfix e)
      → reads_of (assign_accesses v e) (length (shared_in e)) ≤ temporaries
      → ActionsWithin n frame (read_actions from (assign_reads counts.locals v e) at ++ simple from (Event.Sets place v (over_reads counts.locals (assign_accesses v e) e)) next ∷ [])
  assign-within at next from place v e h k few_needed =
      let accesses = assign_accesses v e in
      let within = postfix-within e k in
      let fits : few accesses ≡ false → frame.first + (counts.locals + length (shared_in e)) ≤ n =
      λ cut. omega (arith, room.own, reads_of-cut accesses (length (shared_in e)) temporaries few_needed cut) in
      AllByRecursion-append (ActionWithin n frame) (read_actions from (assign_reads counts.locals v e) at) _
      (reads_before-within from at counts.locals accesses (shared_in e) (shared-within e within) fits)
      ((((variable-within v h, over_reads-within counts.locals accesses e within fits), tt), tt), tt)

  -- actions put together of three parts are within the columns
  three-within : (one two three : List Action) → ActionsWithin n frame one → ActionsWithin n frame two → ActionsWithin n frame three
      → ActionsWithin n frame (one ++ (two ++ three))
  three-within one two three p q r = AllByRecursion-append (ActionWithin n frame) one (two ++ three) p (AllByRecursion-append (ActionWithin n frame) two three q r)

  mutual
    -- the actions of a statement are within the columns
    stmt-within : (exit out at next : ℕ) (s : Stmt) → HasCode counts (stmt_code s) → stmt_need s ≤ temporaries
        → ActionsWithin n frame (stmt_actions (around_of exit out) at next s)
    stmt-within exit out at next (Stmt.Assign from place v e) h few_needed = assign-within at next from place v e h.0.0 h.0.1 few_needed
    stmt-within exit out at next (Stmt.AssignAny from v) h few_needed = (((variable-within v h.0, tt), tt), tt)
    stmt-within exit out at next (Stmt.If from c ts es) h few_needed =
        let parts = two-parts (code ts) (code es) instruction.Else instruction.EndIf h.1 in
        let front : ℕ = at + condition_size c in
        let t = entry ts front next in
        let f = entry es (front + size ts) next in
        three-within (condition_actions counts.locals at t f c) (actions (around_of exit out) front next ts) (actions (around_of exit out) (front + size ts) next es)
        (condition-within at t f c h.0 (omega (arith, few_needed))) (stmts-within exit out front next ts parts.0 (omega (arith, few_needed)))
        (stmts-within exit out (front + size ts) next es parts.1 (omega (arith, few_needed)))
    stmt-within exit out at next (Stmt.Loop from c body last) h few_needed =
        let parts = two-parts (code body) (code last) instruction.Last instruction.EndLoop h.1 in
        let front : ℕ = at + condition_size c in
        let behind = entry last (front + size body) at in
        let t = entry body front behind in
        three-within (condition_actions counts.locals at t next c) (actions (around_of exit next) front behind body) (actions (around_of exit next) (front + size body) at last)
        (condition-within at t next c h.0 (omega (arith, few_needed))) (stmts-within exit next front behind body parts.0 (omega (arith, few_needed)))
        (stmts-within exit next (front + size body) at last parts.1 (omega (arith, few_needed)))
    stmt-within exit out at next (Stmt.Break from) h few_needed = ((tt, tt), tt)
    stmt-within exit out at next (Stmt.Exit from) h few_needed = ((tt, tt), tt)
    stmt-within exit out at next (Stmt.Lock from lock) h few_needed = let held = lock-within lock h.0 in ((((held, tt), ((held, tt), tt)), tt), tt)
    stmt-within exit out at next (Stmt.Unlock from lock) h few_needed =
        let held = lock-within lock h.0 in ((((held, tt), ((held, tt), tt)), (((held, tt), tt), (((held, tt), tt), tt))), tt)
    stmt-within exit out at next (Stmt.Assert from t) h few_needed = test-within at (Some next) (Some 0) t h.0 few_needed
    stmt-within exit out at next (Stmt.Assume from t) h few_needed = test-within at (Some next) None t h.0 few_needed
    stmt-within exit out at next (Stmt.Atomic from inner) h few_needed =
        let all = paths-within inner (ended false ∷ []) (AllByRecursion-front (HasInstruction counts) (code inner) (instruction.EndAtomic ∷ []) h.1) (tt, tt) in
        (AllByRecursion-map (λ p. EventsWithin n frame p.events) (λ a. EventsWithin n frame a.events) (path_alternative next) (λ p k. k) (block_paths inner) all, tt)

    -- and those of statements
    stmts-within : (exit out at next : ℕ) (ss : Stmts) → HasCode counts (code ss) → need ss ≤ temporaries → ActionsWithin n frame (actions (around_of exit out) at next ss)
    stmts-within exit out at next Stmts.End h few_needed = tt
    stmts-within exit out at next (Stmts.Then s rest) h few_needed =
        let then = entry rest (at + stmt_size s) next in
        AllByRecursion-append (ActionWithin n frame) (stmt_actions (around_of exit out) at then s) (actions (around_of exit out) (at + stmt_size s) next rest)
        (stmt-within exit out at then s (AllByRecursion-front (HasInstruction counts) (stmt_code s) (code rest) h) (omega (arith, few_needed)))
        (stmts-within exit out (at + stmt_size s) next rest (AllByRecursion-rest (HasInstruction counts) (stmt_code s) (code rest) h) (omega (arith, few_needed)))

  -- All that a thread does is within the columns, where its function names only what is counted and needs no more temporaries.
  pub thread_actions-within : (body : Stmts) → HasCode counts (code body) → need body ≤ temporaries → ActionsWithin n frame (thread_actions frame counts.locals body)
  thread_actions-within body h few_needed = stmts-within (exit_of body) (exit_of body) 1 (exit_of body) body h few_needed
