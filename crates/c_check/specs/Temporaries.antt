-- How many temporaries the statements of a function need: as many as the most reads that one of them, or one comparison, is cut into.
use Rattle.std.specs.Prelude.{ℕ, ◌+◌, ◌<◌, ◌≤◌, ◌↔◌, max, length, ◌++◌, Bool, true, false}
use Rattle.std.specs.List.{AllByRecursion}
use Rattle.c_check.specs.declared.meaning.Variable.{Variable}
use Rattle.c_check.specs.declared.meaning.Variable.TheVariants as variable
use Rattle.c_check.specs.Plan.{Arithmetic, Test, Condition, Stmt, Stmts}
use Rattle.c_check.specs.Items.{Grain, Guard, Item, Items, Side, few, items, shared_in, written}

-- so many reads, where the accesses are more than one
abbrev pub reads_of : ℕ → ℕ → ℕ
reads_of accesses count = needed (few accesses)
  where
    needed : Bool → ℕ
    needed true = 0
    needed false = count

abbrev pub compare_need : Arithmetic → Arithmetic → ℕ
compare_need a b = reads_of (length (shared_in a ++ shared_in b)) (length (shared_in a ++ shared_in b))

abbrev pub test_need : Test → ℕ
test_need (Test.Compare from m a b) = compare_need a b
test_need (Test.Not t) = test_need t
test_need (Test.And t u) = max (test_need t) (test_need u)
test_need (Test.Or t u) = max (test_need t) (test_need u)

abbrev pub condition_need : Condition → ℕ
condition_need (Condition.Choice from) = 0
condition_need (Condition.Tested from t) = test_need t

abbrev mutual
  pub stmt_need : Stmt → ℕ
  stmt_need (Stmt.Assign from at v e) = reads_of (written v (length (shared_in e))) (length (shared_in e))
  stmt_need (Stmt.AssignAny from v) = 0
  stmt_need (Stmt.If from c ts es) = max (condition_need c) (max (need ts) (need es))
  stmt_need (Stmt.Loop from c body last) = max (condition_need c) (max (need body) (need last))
  stmt_need (Stmt.Break from) = 0
  stmt_need (Stmt.Exit from) = 0
  stmt_need (Stmt.Lock from lock) = 0
  stmt_need (Stmt.Unlock from lock) = 0
  stmt_need (Stmt.Assert from t) = test_need t
  stmt_need (Stmt.Assume from t) = test_need t
  stmt_need (Stmt.Atomic from inner) = 0

  pub need : Stmts → ℕ
  need Stmts.End = 0
  need (Stmts.Then s rest) = max (stmt_need s) (need rest)

-- ---- that so many are needed, and no fewer

-- a temporary of so many, the first of which has this number
abbrev pub IsTemporary : ℕ → ℕ → Variable → Type 0
IsTemporary first count (variable.Shared n) = ⊥
IsTemporary first count (variable.Own n) = (first ≤ n) × (n < first + count)

module _ (first count : ℕ) where
  -- All that is read is read into such temporaries.
  abbrev pub GuardReads : Guard → Type 0
  GuardReads Guard.Choice = Unit {0}
  GuardReads (Guard.Compared rs c) = AllByRecursion (λ r. IsTemporary first count r.0) rs
  GuardReads (Guard.Not g) = GuardReads g
  GuardReads (Guard.And g h) = GuardReads g × GuardReads h
  GuardReads (Guard.Or g h) = GuardReads g × GuardReads h

  abbrev mutual
    pub ItemReads : Item → Type 0
    ItemReads (Item.Read temporary v) = IsTemporary first count temporary
    ItemReads (Item.Assign v e) = Unit {0}
    ItemReads (Item.AssignAny v) = Unit {0}
    ItemReads (Item.Branch c t f) = SideReads t × SideReads f
    ItemReads (Item.Lock lock) = Unit {0}
    ItemReads (Item.Unlock lock) = Unit {0}
    ItemReads (Item.Loop g body last) = GuardReads g × ItemsRead body × ItemsRead last
    ItemReads (Item.Again g body last) = GuardReads g × ItemsRead body × ItemsRead last
    ItemReads Item.Break = Unit {0}
    ItemReads Item.Exit = Unit {0}
    ItemReads (Item.Atomic inner) = ItemsRead inner

    pub ItemsRead : Items → Type 0
    ItemsRead Items.End = Unit {0}
    ItemsRead (Items.Then i rest) = ItemReads i × ItemsRead rest

    pub SideReads : Side → Type 0
    SideReads (Side.Goes is) = ItemsRead is
    SideReads Side.Failed = Unit {0}
    SideReads Side.Nowhere = Unit {0}

-- Temporaries are enough for the items of statements exactly where they are as many as these need.
abbrev pub NeedIsLeast : Type 0
NeedIsLeast = (first count : ℕ) (ss : Stmts) → ItemsRead first count (items (Grain.Cut first) ss) ↔ (need ss ≤ count)
