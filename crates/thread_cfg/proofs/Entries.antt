-- Where tests, statements and reads begin: with what is left there, read as it is read.
use Rattle.std.proofs.Common.{◌≡◌, ℕ, ◌+◌, Bool, true, false, List, [], ◌∷◌, ◌++◌, length, suc, Some, refl, sym, ap, subst, arith, length-append}
use Rattle.c_check.specs.declared.meaning.Variable.{Variable}
use Rattle.c_check.specs.Plan.{Arithmetic, Test, Condition, Stmt, Stmts}
use Rattle.c_check.specs.Items.{Grain, Guard, Item, Items, Side, branch, few, guard, items, joined, one, read_items, reads, shared_in, stmt_items, test_guard}
use Rattle.thread_cfg.specs.Source.{Standing, behind_loop, read_as}
use Rattle.thread_cfg.specs.Action.{assign_accesses, assign_reads, compare_accesses, compare_reads, condition_size, over_reads, entry, reads_before, size, stmt_size, test_size}
use Rattle.thread_cfg.specs.SameSteps.{Lefts}
use Rattle.thread_cfg.specs.inside.Left.{again, compared_over, condition_left, left, reads_left, round, stmt_left, test_left}
use Rattle.thread_cfg.proofs.Matching.{StandsFrom}

-- ---- items behind items

-- items joined of three lists, whichever two are joined first
pub joined-joined : (is more rest : Items) → joined (joined is more) rest ≡ joined is (joined more rest)
joined-joined Items.End more rest = refl
joined-joined (Items.Then i is) more rest = ap (λ x. Items.Then i x) (joined-joined is more rest)

-- reads in front of joined items are reads in front of the first of them
pub joined-reads : (rs : List (Variable × Variable)) (is rest : Items) → joined (read_items rs is) rest ≡ read_items rs (joined is rest)
joined-reads [] is rest = refl
joined-reads (r ∷ rs) is rest = ap (λ x. Items.Then (Item.Read r.0 r.1) x) (joined-reads rs is rest)

-- ---- lists begin

-- The list begins with the items.
pub record Begins (xs : List Items) (is : Items) : Type 0 where
  pub more : List Items
  pub begins : xs ≡ is ∷ more

-- what begins a list begins it joined with another
begins-++ : (xs ys : List Items) (is : Items) → Begins xs is → Begins (xs ++ ys) is
begins-++ xs ys is b = record { more = b.more ++ ys; begins = ap (λ l. l ++ ys) b.begins }

-- reads begin with the first of them
begins-reads : (rs : List (Variable × Variable)) (more : Items) → read_as more ≡ more → Begins (reads_left rs more) (read_as (read_items rs more))
begins-reads [] more e = record { more = []; begins = ap (λ x. x ∷ []) (sym e) }
begins-reads (r ∷ rs) more e = record { more = reads_left rs more; begins = refl }

-- a test begins with what its guard asks first
pub begins-test : (temporary : ℕ) (t : Test) (ts fs : Side) (rest : Items)
    → Begins (test_left temporary t ts fs rest) (read_as (joined (branch (test_guard (Grain.Cut temporary) t) ts fs) rest))
begins-test temporary (Test.Compare from m a b) ts fs rest = by (few (length (shared_in a ++ shared_in b))) refl
  where
    by : (c : Bool) → few (length (shared_in a ++ shared_in b)) ≡ c
        → Begins (test_left temporary (Test.Compare from m a b) ts fs rest) (read_as (joined (branch (test_guard (Grain.Cut temporary) (Test.Compare from m a b)) ts fs) rest))
    by true e = rw e (record { more = []; begins = refl })
    by false e = rw (e, joined-reads (reads temporary (shared_in a ++ shared_in b))) (begins-reads (reads temporary (shared_in a ++ shared_in b)) _ refl)
begins-test temporary (Test.Not u) ts fs rest = begins-test temporary u fs ts rest
begins-test temporary (Test.And u v) ts fs rest =
    begins-++ (test_left temporary u (Side.Goes (branch (test_guard (Grain.Cut temporary) v) ts fs)) fs rest) (test_left temporary v ts fs rest) _
    (begins-test temporary u (Side.Goes (branch (test_guard (Grain.Cut temporary) v) ts fs)) fs rest)
begins-test temporary (Test.Or u v) ts fs rest =
    begins-++ (test_left temporary u ts (Side.Goes (branch (test_guard (Grain.Cut temporary) v) ts fs)) rest) (test_left temporary v ts fs rest) _
    (begins-test temporary u ts (Side.Goes (branch (test_guard (Grain.Cut temporary) v) ts fs)) rest)

-- what is left at the locations of a condition begins with its branch and what stands behind
pub begins-condition : (temporary : ℕ) (c : Condition) (ts fs : Side) (rest : Items)
    → Begins (condition_left temporary c ts fs rest) (read_as (joined (branch (guard (Grain.Cut temporary) c) ts fs) rest))
begins-condition temporary (Condition.Choice from) ts fs rest = record { more = []; begins = refl }
begins-condition temporary (Condition.Tested from t) ts fs rest = begins-test temporary t ts fs rest

-- a branch is read as it is
pub read-branch : (g : Guard) (ts fs : Side) (rest : Items) → read_as (joined (branch g ts fs) rest) ≡ joined (branch g ts fs) rest
read-branch Guard.Choice ts fs rest = refl
read-branch (Guard.Compared [] c) ts fs rest = refl
read-branch (Guard.Compared (r ∷ rs) c) ts fs rest = refl
read-branch (Guard.Not g) ts fs rest = read-branch g fs ts rest
read-branch (Guard.And g h) ts fs rest = read-branch g (Side.Goes (branch h ts fs)) fs rest
read-branch (Guard.Or g h) ts fs rest = read-branch g ts (Side.Goes (branch h ts fs)) rest

-- what is left at the locations of a statement begins with its items and what stands behind
pub begins-stmt : (temporary : ℕ) (s : Stmt) (rest : Items) → Begins (stmt_left temporary s rest) (read_as (joined (stmt_items (Grain.Cut temporary) s) rest))
begins-stmt temporary (Stmt.Assign from at v e) rest = by (few (assign_accesses v e)) refl
  where
    by : (c : Bool) → few (assign_accesses v e) ≡ c
        → Begins (stmt_left temporary (Stmt.Assign from at v e) rest) (read_as (joined (stmt_items (Grain.Cut temporary) (Stmt.Assign from at v e)) rest))
    by true is = rw is (record { more = []; begins = refl })
    by false is = rw (is, joined-reads (reads temporary (shared_in e))) (begins-reads (reads temporary (shared_in e)) _ refl)
begins-stmt temporary (Stmt.AssignAny from v) rest = record { more = []; begins = refl }
begins-stmt temporary (Stmt.If from c ts es) rest =
    begins-++ (condition_left temporary c (Side.Goes (items (Grain.Cut temporary) ts)) (Side.Goes (items (Grain.Cut temporary) es)) rest) _ _
    (begins-condition temporary c (Side.Goes (items (Grain.Cut temporary) ts)) (Side.Goes (items (Grain.Cut temporary) es)) rest)
begins-stmt temporary (Stmt.Loop from c body last) rest =
    begins-++ (condition_left temporary c (Side.Goes (round temporary c body last)) (Side.Goes Items.End) rest) _ _
    (rw (read-branch (guard (Grain.Cut temporary) c) (Side.Goes (round temporary c body last)) (Side.Goes Items.End) rest)
    at (begins-condition temporary c (Side.Goes (round temporary c body last)) (Side.Goes Items.End) rest))
begins-stmt temporary (Stmt.Break from) rest = record { more = []; begins = refl }
begins-stmt temporary (Stmt.Exit from) rest = record { more = []; begins = refl }
begins-stmt temporary (Stmt.Lock from lock) rest = record { more = []; begins = refl }
begins-stmt temporary (Stmt.Unlock from lock) rest = record { more = []; begins = refl }
begins-stmt temporary (Stmt.Assert from t) rest = begins-test temporary t (Side.Goes Items.End) Side.Failed rest
begins-stmt temporary (Stmt.Assume from t) rest = begins-test temporary t (Side.Goes Items.End) Side.Nowhere rest
begins-stmt temporary (Stmt.Atomic from inner) rest = record { more = []; begins = refl }

-- ---- where statements begin

-- what stands first is left at the first location
stands-first : (lefts : Lefts) (at : ℕ) (xs : List Items) (is : Items) → Begins xs is → StandsFrom lefts at xs → lefts at ≡ Some (Standing.Doing is)
stands-first lefts at xs is b h = (subst (λ l. StandsFrom lefts at l) b.begins h).0

-- a test is come to
pub test-stands : (lefts : Lefts) (temporary at : ℕ) (t : Test) (ts fs : Side) (rest : Items) → StandsFrom lefts at (test_left temporary t ts fs rest)
    → lefts at ≡ Some (Standing.Doing (read_as (joined (branch (test_guard (Grain.Cut temporary) t) ts fs) rest)))
test-stands lefts temporary at t ts fs rest h = stands-first lefts at (test_left temporary t ts fs rest) _ (begins-test temporary t ts fs rest) h

-- a loop is come to again
pub loop-stands : (lefts : Lefts) (temporary at : ℕ) (c : Condition) (body last : Stmts) (rest : Items)
    → StandsFrom lefts at (condition_left temporary c (Side.Goes (round temporary c body last)) (Side.Goes Items.End) rest)
    → lefts at ≡ Some (Standing.Doing (read_as (Items.Then (again temporary c body last) rest)))
loop-stands lefts temporary at c body last rest h =
    rw (read-branch (guard (Grain.Cut temporary) c) (Side.Goes (round temporary c body last)) (Side.Goes Items.End) rest)
    at (stands-first lefts at (condition_left temporary c (Side.Goes (round temporary c body last)) (Side.Goes Items.End) rest) _
    (begins-condition temporary c (Side.Goes (round temporary c body last)) (Side.Goes Items.End) rest) h)

-- statements are come to, or what is next where there are none
pub entry-stands : (lefts : Lefts) (temporary at next : ℕ) (ss : Stmts) (rest : Items) → StandsFrom lefts at (left temporary ss rest)
    → lefts next ≡ Some (Standing.Doing (read_as rest)) → lefts (entry ss at next) ≡ Some (Standing.Doing (read_as (joined (items (Grain.Cut temporary) ss) rest)))
entry-stands lefts temporary at next Stmts.End rest h lands = lands
entry-stands lefts temporary at next (Stmts.Then s more) rest h lands =
    rw (joined-joined (stmt_items (Grain.Cut temporary) s) (items (Grain.Cut temporary) more) rest)
    (stands-first lefts at (left temporary (Stmts.Then s more) rest) _
    (begins-++ (stmt_left temporary s (joined (items (Grain.Cut temporary) more) rest)) _ _ (begins-stmt temporary s (joined (items (Grain.Cut temporary) more) rest))) h)

-- ---- sizes

-- there is one read for each variable
pub reads-length : (next : ℕ) (vs : List Variable) → length (reads next vs) ≡ length vs
reads-length next [] = refl
reads-length next (v ∷ vs) = ap suc (reads-length (next + 1) vs)

-- there is a location for each read, and one behind them
pub left-length : (rs : List (Variable × Variable)) (more : Items) → length (reads_left rs more) ≡ length rs + 1
left-length [] more = refl
left-length (r ∷ rs) more = let e = left-length rs more in omega (arith, e)

-- so many reads, whatever the number of the first temporary
pub reads-before-length : (temporary accesses : ℕ) (vs : List Variable) → length (reads_before temporary accesses vs) ≡ length (reads_before 0 accesses vs)
reads-before-length temporary accesses vs = by (few accesses) refl
  where
    by : (c : Bool) → few accesses ≡ c → length (reads_before temporary accesses vs) ≡ length (reads_before 0 accesses vs)
    by true e = rw e refl
    by false e = rw (e, reads-length temporary vs, reads-length 0 vs) refl

-- a test has as many things left as it has locations
pub test-length : (temporary : ℕ) (t : Test) (ts fs : Side) (rest : Items) → length (test_left temporary t ts fs rest) ≡ test_size t
test-length temporary (Test.Compare from m a b) ts fs rest =
    let e = left-length (compare_reads temporary a b) (Items.Then (Item.Branch (Some (compared_over temporary m a b)) ts fs) rest) in
    let f = reads-before-length temporary (compare_accesses a b) (shared_in a ++ shared_in b) in omega (arith, e, f)
test-length temporary (Test.Not u) ts fs rest = test-length temporary u fs ts rest
test-length temporary (Test.And u v) ts fs rest =
    let e = test-length temporary u (Side.Goes (branch (test_guard (Grain.Cut temporary) v) ts fs)) fs rest in
    let f = test-length temporary v ts fs rest in
    rw (length-append (test_left temporary u (Side.Goes (branch (test_guard (Grain.Cut temporary) v) ts fs)) fs rest)) (omega (arith, e, f))
test-length temporary (Test.Or u v) ts fs rest =
    let e = test-length temporary u ts (Side.Goes (branch (test_guard (Grain.Cut temporary) v) ts fs)) rest in
    let f = test-length temporary v ts fs rest in
    rw (length-append (test_left temporary u ts (Side.Goes (branch (test_guard (Grain.Cut temporary) v) ts fs)) rest)) (omega (arith, e, f))

-- a condition has as many things left as it has locations
pub condition-length : (temporary : ℕ) (c : Condition) (ts fs : Side) (rest : Items) → length (condition_left temporary c ts fs rest) ≡ condition_size c
condition-length temporary (Condition.Choice from) ts fs rest = refl
condition-length temporary (Condition.Tested from t) ts fs rest = test-length temporary t ts fs rest

mutual
  -- a statement has as many things left as it has locations
  pub stmt-length : (temporary : ℕ) (s : Stmt) (rest : Items) → length (stmt_left temporary s rest) ≡ stmt_size s
  stmt-length temporary (Stmt.Assign from at v e) rest =
      let l = left-length (assign_reads temporary v e) (Items.Then (Item.Assign v (over_reads temporary (assign_accesses v e) e)) rest) in
      let f = reads-before-length temporary (assign_accesses v e) (shared_in e) in omega (arith, l, f)
  stmt-length temporary (Stmt.AssignAny from v) rest = refl
  stmt-length temporary (Stmt.If from c ts es) rest =
      let one = condition-length temporary c (Side.Goes (items (Grain.Cut temporary) ts)) (Side.Goes (items (Grain.Cut temporary) es)) rest in
      let t = stmts-length temporary ts rest in
      let e = stmts-length temporary es rest in
      rw (length-append (condition_left temporary c (Side.Goes (items (Grain.Cut temporary) ts)) (Side.Goes (items (Grain.Cut temporary) es)) rest), length-append (left temporary ts rest))
      (omega (arith, one, t, e))
  stmt-length temporary (Stmt.Loop from c body last) rest =
      let one = condition-length temporary c (Side.Goes (round temporary c body last)) (Side.Goes Items.End) rest in
      let b = stmts-length temporary body (joined (items (Grain.Cut temporary) last) (Items.Then (again temporary c body last) rest)) in
      let l = stmts-length temporary last (Items.Then (again temporary c body last) rest) in
      rw (
        length-append (condition_left temporary c (Side.Goes (round temporary c body last)) (Side.Goes Items.End) rest),
        length-append (left temporary body (joined (items (Grain.Cut temporary) last) (Items.Then (again temporary c body last) rest))),
      )
      (omega (arith, one, b, l))
  stmt-length temporary (Stmt.Break from) rest = refl
  stmt-length temporary (Stmt.Exit from) rest = refl
  stmt-length temporary (Stmt.Lock from lock) rest = refl
  stmt-length temporary (Stmt.Unlock from lock) rest = refl
  stmt-length temporary (Stmt.Assert from t) rest = test-length temporary t (Side.Goes Items.End) Side.Failed rest
  stmt-length temporary (Stmt.Assume from t) rest = test-length temporary t (Side.Goes Items.End) Side.Nowhere rest
  stmt-length temporary (Stmt.Atomic from inner) rest = refl

  -- statements have as many things left as they have locations
  pub stmts-length : (temporary : ℕ) (ss : Stmts) (rest : Items) → length (left temporary ss rest) ≡ size ss
  stmts-length temporary Stmts.End rest = refl
  stmts-length temporary (Stmts.Then s more) rest =
      let one = stmt-length temporary s (joined (items (Grain.Cut temporary) more) rest) in
      let m = stmts-length temporary more rest in
      rw (length-append (stmt_left temporary s (joined (items (Grain.Cut temporary) more) rest))) (omega (arith, one, m))

-- ---- behind a loop

-- no mark stands in what a guard asks
behind-branch : (g : Guard) (ts fs : Side) (rest : Items) → behind_loop (joined (branch g ts fs) rest) ≡ behind_loop rest
behind-branch Guard.Choice ts fs rest = refl
behind-branch (Guard.Compared rs c) ts fs rest = reads-behind rs
  where
    reads-behind : (rs : List (Variable × Variable)) → behind_loop (joined (read_items rs (one (Item.Branch (Some c) ts fs))) rest) ≡ behind_loop rest
    reads-behind [] = refl
    reads-behind (r ∷ rs) = reads-behind rs
behind-branch (Guard.Not g) ts fs rest = behind-branch g fs ts rest
behind-branch (Guard.And g h) ts fs rest = behind-branch g (Side.Goes (branch h ts fs)) fs rest
behind-branch (Guard.Or g h) ts fs rest = behind-branch g ts (Side.Goes (branch h ts fs)) rest

-- behind the loop of an assignment and what follows is what is behind the loop of what follows
behind-assigned : (temporary : ℕ) (v : Variable) (e : Arithmetic) (from at : ℕ) (rest : Items)
    → behind_loop (joined (stmt_items (Grain.Cut temporary) (Stmt.Assign from at v e)) rest) ≡ behind_loop rest
behind-assigned temporary v e from at rest = by (few (assign_accesses v e)) refl
  where
    reads-behind : (rs : List (Variable × Variable)) (x : Arithmetic) → behind_loop (joined (read_items rs (one (Item.Assign v x))) rest) ≡ behind_loop rest
    reads-behind [] x = refl
    reads-behind (r ∷ rs) x = reads-behind rs x

    by : (c : Bool) → few (assign_accesses v e) ≡ c → behind_loop (joined (stmt_items (Grain.Cut temporary) (Stmt.Assign from at v e)) rest) ≡ behind_loop rest
    by true is = rw is refl
    by false is = rw is (reads-behind (reads temporary (shared_in e)) _)

-- behind the loop of a statement and what follows is what is behind the loop of what follows: a statement ends its own loops
behind-stmt : (temporary : ℕ) (s : Stmt) (rest : Items) → behind_loop (joined (stmt_items (Grain.Cut temporary) s) rest) ≡ behind_loop rest
behind-stmt temporary (Stmt.Assign from at v e) rest = behind-assigned temporary v e from at rest
behind-stmt temporary (Stmt.AssignAny from v) rest = refl
behind-stmt temporary (Stmt.If from c ts es) rest = behind-branch (guard (Grain.Cut temporary) c) (Side.Goes (items (Grain.Cut temporary) ts)) (Side.Goes (items (Grain.Cut temporary) es)) rest
behind-stmt temporary (Stmt.Loop from c body last) rest = refl
behind-stmt temporary (Stmt.Break from) rest = refl
behind-stmt temporary (Stmt.Exit from) rest = refl
behind-stmt temporary (Stmt.Lock from lock) rest = refl
behind-stmt temporary (Stmt.Unlock from lock) rest = refl
behind-stmt temporary (Stmt.Assert from t) rest = behind-branch (test_guard (Grain.Cut temporary) t) (Side.Goes Items.End) Side.Failed rest
behind-stmt temporary (Stmt.Assume from t) rest = behind-branch (test_guard (Grain.Cut temporary) t) (Side.Goes Items.End) Side.Nowhere rest
behind-stmt temporary (Stmt.Atomic from inner) rest = refl

-- no mark stands in the items of statements, but within those
pub behind-items : (temporary : ℕ) (ss : Stmts) (rest : Items) → behind_loop (joined (items (Grain.Cut temporary) ss) rest) ≡ behind_loop rest
behind-items temporary Stmts.End rest = refl
behind-items temporary (Stmts.Then s more) rest =
    rw (joined-joined (stmt_items (Grain.Cut temporary) s) (items (Grain.Cut temporary) more) rest, behind-stmt temporary s (joined (items (Grain.Cut temporary) more) rest))
    (behind-items temporary more rest)
