-- Temporaries are enough for the items of statements where they are as many as these need, and nowhere else.
use Rattle.std.proofs.Common.{◌≡◌, ◌↔◌, ℕ, ◌+◌, ◌≤◌, max, Bool, true, false, List, [], ◌∷◌, ◌++◌, length, Some, refl, sym, subst, arith}
use Rattle.std.specs.List.{AllByRecursion}
use Rattle.c_check.specs.declared.meaning.Variable.{Variable}
use Rattle.c_check.specs.declared.operation.Mark.{Mark}
use Rattle.c_check.specs.Plan.{Arithmetic, Condition, Stmt, Stmts, Test}
use Rattle.c_check.specs.Items.{Grain, Guard, Item, Items, Side, assigned, branch, compared, few, guard, items, joined, one, over_temporaries, read_items, reads, shared_in, stmt_items, test_guard, written}
use Rattle.c_check.specs.Temporaries.{GuardReads, IsTemporary, ItemsRead, NeedIsLeast, SideReads, compare_need, condition_need, need, reads_of, stmt_need, test_need}

module _ (first count : ℕ) where
  abbrev AreRead : List (Variable × Variable) → Type 0
  AreRead rs = AllByRecursion (λ (r : Variable × Variable). IsTemporary first count r.0) rs

  -- ---- reads

  -- so many are read, the first into this one
  reads-count : (j : ℕ) (vs : List Variable) → AreRead (reads (first + j) vs) → j + length vs ≤ max count j
  reads-count j [] all = omega arith
  reads-count j (v ∷ vs) all =
      let next : first + j + 1 ≡ first + (j + 1) = omega arith in
      let more = reads-count (j + 1) vs (subst (λ (n : ℕ). AreRead (reads n vs)) next all.1) in
      omega (arith, all.0.1, more)

  reads-within : (j : ℕ) (vs : List Variable) → j + length vs ≤ count → AreRead (reads (first + j) vs)
  reads-within j [] fits = tt
  reads-within j (v ∷ vs) fits =
      let next : first + (j + 1) ≡ first + j + 1 = omega arith in
      ((omega arith, omega (arith, fits)), subst (λ (n : ℕ). AreRead (reads n vs)) next (reads-within (j + 1) vs (omega (arith, fits))))

  reads-are : (vs : List Variable) → AreRead (reads first vs) ↔ (length vs ≤ count)
  reads-are vs =
      let here : first ≡ first + 0 = omega arith in (
        λ all. (let most = reads-count 0 vs (subst (λ (n : ℕ). AreRead (reads n vs)) here all) in omega (arith, most)),
        λ fits. subst (λ (n : ℕ). AreRead (reads n vs)) (sym here) (reads-within 0 vs (omega (arith, fits))),
      )

  -- ---- items one behind another

  reads-joined : (xs ys : Items) → ItemsRead first count (joined xs ys) ↔ (ItemsRead first count xs × ItemsRead first count ys)
  reads-joined Items.End ys = (λ all. (tt, all), λ both. both.1)
  reads-joined (Items.Then i rest) ys = (let more = reads-joined rest ys in (λ all. (let both = more.0 all.1 in ((all.0, both.0), both.1)), λ both. (both.0.0, more.1 (both.0.1, both.1))))

  reads-read_items : (rs : List (Variable × Variable)) (more : Items) → ItemsRead first count (read_items rs more) ↔ (AreRead rs × ItemsRead first count more)
  reads-read_items [] more = (λ all. (tt, all), λ both. both.1)
  reads-read_items (r ∷ rs) more = (let rest = reads-read_items rs more in (λ all. (let both = rest.0 all.1 in ((all.0, both.0), both.1)), λ both. (both.0.0, rest.1 (both.0.1, both.1))))

  abbrev Parts : Guard → Side → Side → Type 0
  Parts g t f = GuardReads first count g × SideReads first count t × SideReads first count f

  reads-branch : (g : Guard) (t f : Side) → ItemsRead first count (branch g t f) ↔ Parts g t f
  reads-branch Guard.Choice t f = (λ all. (tt, all.0.0, all.0.1), λ parts. ((parts.1, parts.2), tt))
  reads-branch (Guard.Compared rs c) t f =
      let both = reads-read_items rs (one (Item.Branch (Some c) t f)) in
      (λ all. (let parts = both.0 all in (parts.0, parts.1.0.0, parts.1.0.1)), λ parts. both.1 (parts.0, ((parts.1, parts.2), tt)))
  reads-branch (Guard.Not g) t f = (let inner = reads-branch g f t in (λ all. (let parts = inner.0 all in (parts.0, parts.2, parts.1)), λ parts. inner.1 (parts.0, parts.2, parts.1)))
  reads-branch (Guard.And g h) t f =
      let right = reads-branch h t f in
      let left = reads-branch g (Side.Goes (branch h t f)) f in (
        λ all. (let parts = left.0 all in let behind = right.0 parts.1 in ((parts.0, behind.0), behind.1, parts.2)),
        λ parts. left.1 (parts.0.0, right.1 (parts.0.1, parts.1, parts.2), parts.2),
      )
  reads-branch (Guard.Or g h) t f =
      let right = reads-branch h t f in
      let left = reads-branch g t (Side.Goes (branch h t f)) in (
        λ all. (let parts = left.0 all in let behind = right.0 parts.2 in ((parts.0, behind.0), parts.1, behind.2)),
        λ parts. left.1 (parts.0.0, parts.1, right.1 (parts.0.1, parts.1, parts.2)),
      )

  -- ---- what is cut into reads

  reads-compared : (m : Mark) (a b : Arithmetic) → GuardReads first count (compared (Grain.Cut first) m a b) ↔ (compare_need a b ≤ count)
  reads-compared m a b = by (few (length (shared_in a ++ shared_in b))) refl
    where
      by : (is_few : Bool) → few (length (shared_in a ++ shared_in b)) ≡ is_few → GuardReads first count (compared (Grain.Cut first) m a b) ↔ (compare_need a b ≤ count)
      by true e = rw e (λ all. omega arith, λ fits. tt)
      by false e = rw e (reads-are (shared_in a ++ shared_in b))

  reads-assigned : (v : Variable) (e : Arithmetic) → ItemsRead first count (assigned (Grain.Cut first) v e) ↔ (reads_of (written v (length (shared_in e))) (length (shared_in e)) ≤ count)
  reads-assigned v e = by (few (written v (length (shared_in e)))) refl
    where
      by : (is_few : Bool) → few (written v (length (shared_in e))) ≡ is_few → ItemsRead first count (assigned (Grain.Cut first) v e) ↔ (reads_of (written v (length (shared_in e))) (length (shared_in e)) ≤ count)
      by true is = rw is (λ all. omega arith, λ fits. (tt, tt))
      by false is =
          let rs = reads-read_items (reads first (shared_in e)) (one (Item.Assign v (over_temporaries first e))) in
          let most = reads-are (shared_in e) in
          rw is (λ all. most.0 (rs.0 all).0, λ fits. rs.1 (most.1 fits, (tt, tt)))

  both-most : {P Q : Type 0} (m n : ℕ) → P ↔ (m ≤ count) → Q ↔ (n ≤ count) → (P × Q) ↔ (max m n ≤ count)
  both-most m n one other = (λ both. (let left = one.0 both.0 in let right = other.0 both.1 in omega (arith, left, right)), λ fits. (one.1 (omega (arith, fits)), other.1 (omega (arith, fits))))

  reads-test : (t : Test) → GuardReads first count (test_guard (Grain.Cut first) t) ↔ (test_need t ≤ count)
  reads-test (Test.Compare from m a b) = reads-compared m a b
  reads-test (Test.Not t) = reads-test t
  reads-test (Test.And t u) = both-most (test_need t) (test_need u) (reads-test t) (reads-test u)
  reads-test (Test.Or t u) = both-most (test_need t) (test_need u) (reads-test t) (reads-test u)

  reads-condition : (c : Condition) → GuardReads first count (guard (Grain.Cut first) c) ↔ (condition_need c ≤ count)
  reads-condition (Condition.Choice from) = (λ all. omega arith, λ fits. tt)
  reads-condition (Condition.Tested from t) = reads-test t

  -- ---- an atomic block reads into none

  whole-test : (t : Test) → GuardReads first count (test_guard Grain.Whole t)
  whole-test (Test.Compare from m a b) = tt
  whole-test (Test.Not t) = whole-test t
  whole-test (Test.And t u) = (whole-test t, whole-test u)
  whole-test (Test.Or t u) = (whole-test t, whole-test u)

  whole-condition : (c : Condition) → GuardReads first count (guard Grain.Whole c)
  whole-condition (Condition.Choice from) = tt
  whole-condition (Condition.Tested from t) = whole-test t

  mutual
    whole-stmt : (s : Stmt) → ItemsRead first count (stmt_items Grain.Whole s)
    whole-stmt (Stmt.Assign from at v e) = (tt, tt)
    whole-stmt (Stmt.AssignAny from v) = (tt, tt)
    whole-stmt (Stmt.If from c ts es) = (reads-branch (guard Grain.Whole c) (Side.Goes (items Grain.Whole ts)) (Side.Goes (items Grain.Whole es))).1 (whole-condition c, whole-stmts ts, whole-stmts es)
    whole-stmt (Stmt.Loop from c body last) = ((whole-condition c, whole-stmts body, whole-stmts last), tt)
    whole-stmt (Stmt.Break from) = (tt, tt)
    whole-stmt (Stmt.Exit from) = (tt, tt)
    whole-stmt (Stmt.Lock from lock) = (tt, tt)
    whole-stmt (Stmt.Unlock from lock) = (tt, tt)
    whole-stmt (Stmt.Assert from t) = (reads-branch (test_guard Grain.Whole t) (Side.Goes Items.End) Side.Failed).1 (whole-test t, tt, tt)
    whole-stmt (Stmt.Assume from t) = (reads-branch (test_guard Grain.Whole t) (Side.Goes Items.End) Side.Nowhere).1 (whole-test t, tt, tt)
    whole-stmt (Stmt.Atomic from inner) = (whole-stmts inner, tt)

    whole-stmts : (ss : Stmts) → ItemsRead first count (items Grain.Whole ss)
    whole-stmts Stmts.End = tt
    whole-stmts (Stmts.Then s rest) = (reads-joined (stmt_items Grain.Whole s) (items Grain.Whole rest)).1 (whole-stmt s, whole-stmts rest)

  -- ---- statements

  -- a statement of one item that reads nothing
  nothing-read : (ItemsRead first count Items.End × Unit {0}) ↔ (0 ≤ count)
  nothing-read = (λ all. omega arith, λ fits. (tt, tt))

  alone-test : (t : Test) (other : Side) → SideReads first count other → ItemsRead first count (branch (test_guard (Grain.Cut first) t) (Side.Goes Items.End) other) ↔ (test_need t ≤ count)
  alone-test t other reads =
      let parts = reads-branch (test_guard (Grain.Cut first) t) (Side.Goes Items.End) other in
      (λ all. (reads-test t).0 (parts.0 all).0, λ fits. parts.1 ((reads-test t).1 fits, tt, reads))

  mutual
    reads-stmt : (s : Stmt) → ItemsRead first count (stmt_items (Grain.Cut first) s) ↔ (stmt_need s ≤ count)
    reads-stmt (Stmt.Assign from at v e) = reads-assigned v e
    reads-stmt (Stmt.AssignAny from v) = nothing-read
    reads-stmt (Stmt.If from c ts es) =
        let parts = reads-branch (guard (Grain.Cut first) c) (Side.Goes (items (Grain.Cut first) ts)) (Side.Goes (items (Grain.Cut first) es)) in
        let most = both-most (condition_need c) (max (need ts) (need es)) (reads-condition c) (both-most (need ts) (need es) (reads-stmts ts) (reads-stmts es)) in
        (λ all. (let three = parts.0 all in most.0 (three.0, (three.1, three.2))), λ fits. (let three = most.1 fits in parts.1 (three.0, three.1.0, three.1.1)))
    reads-stmt (Stmt.Loop from c body last) =
        let most = both-most (condition_need c) (max (need body) (need last)) (reads-condition c) (both-most (need body) (need last) (reads-stmts body) (reads-stmts last)) in
        (λ all. most.0 (all.0.0, (all.0.1, all.0.2)), λ fits. (let three = most.1 fits in ((three.0, three.1.0, three.1.1), tt)))
    reads-stmt (Stmt.Break from) = nothing-read
    reads-stmt (Stmt.Exit from) = nothing-read
    reads-stmt (Stmt.Lock from lock) = nothing-read
    reads-stmt (Stmt.Unlock from lock) = nothing-read
    reads-stmt (Stmt.Assert from t) = alone-test t Side.Failed tt
    reads-stmt (Stmt.Assume from t) = alone-test t Side.Nowhere tt
    reads-stmt (Stmt.Atomic from inner) = (λ all. omega arith, λ fits. (whole-stmts inner, tt))

    reads-stmts : (ss : Stmts) → ItemsRead first count (items (Grain.Cut first) ss) ↔ (need ss ≤ count)
    reads-stmts Stmts.End = (λ all. omega arith, λ fits. tt)
    reads-stmts (Stmts.Then s rest) =
        let parts = reads-joined (stmt_items (Grain.Cut first) s) (items (Grain.Cut first) rest) in
        let most = both-most (stmt_need s) (need rest) (reads-stmt s) (reads-stmts rest) in
        (λ all. most.0 (parts.0 all), λ fits. parts.1 (most.1 fits))

pub need_is_least : NeedIsLeast
need_is_least = reads-stmts
