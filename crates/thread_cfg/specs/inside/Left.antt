-- What is left to do at each location of a thread, read as it is read: one list of items for each action, in their order.
use Rattle.std.specs.Prelude.{ℕ, zero, suc, ◌+◌, List, [], ◌∷◌, ◌++◌, length, Option, Some, None, option_map, slice_get}
use Rattle.c_check.specs.declared.meaning.Variable.{Variable}
use Rattle.c_check.specs.declared.operation.Mark.{Mark}
use Rattle.c_check.specs.Plan.{Arithmetic, Test, Condition, Stmt, Stmts}
use Rattle.c_check.specs.Items.{Comparison, Grain, Item, Items, Side, branch, guard, items, joined, one, read_items, shared_in, test_guard}
use Rattle.thread_cfg.specs.Source.{Standing}
use Rattle.thread_cfg.specs.Action.{assign_accesses, assign_reads, compare_accesses, compare_reads, over_reads}

-- reads, and what is behind them
abbrev pub reads_left : List (Variable × Variable) → Items → List Items
reads_left [] more = more ∷ []
reads_left (r ∷ rs) more = Items.Then (Item.Read r.0 r.1) (read_items rs more) ∷ reads_left rs more

-- a comparison, over temporaries where it was read into them
abbrev pub compared_over : ℕ → Mark → Arithmetic → Arithmetic → Comparison
compared_over temporary m a b = record {
  mark = m;
  left = over_reads temporary (compare_accesses a b) a;
  right = over_reads (temporary + length (shared_in a)) (compare_accesses a b) b;
}

-- what is left at the locations of a test, with its two sides and the rest
abbrev pub test_left : ℕ → Test → Side → Side → Items → List Items
test_left temporary (Test.Compare from m a b) t f rest =
    reads_left (compare_reads temporary a b) (Items.Then (Item.Branch (Some (compared_over temporary m a b)) t f) rest)
test_left temporary (Test.Not u) t f rest = test_left temporary u f t rest
test_left temporary (Test.And u v) t f rest =
    test_left temporary u (Side.Goes (branch (test_guard (Grain.Cut temporary) v) t f)) f rest ++ test_left temporary v t f rest
test_left temporary (Test.Or u v) t f rest =
    test_left temporary u t (Side.Goes (branch (test_guard (Grain.Cut temporary) v) t f)) rest ++ test_left temporary v t f rest

-- what is left at the locations of a condition
abbrev pub condition_left : ℕ → Condition → Side → Side → Items → List Items
condition_left temporary (Condition.Choice from) t f rest = Items.Then (Item.Branch None t f) rest ∷ []
condition_left temporary (Condition.Tested from test) t f rest = test_left temporary test t f rest

-- the mark behind the body and the last part of a loop
abbrev pub again : ℕ → Condition → Stmts → Stmts → Item
again temporary c body last = Item.Again (guard (Grain.Cut temporary) c) (items (Grain.Cut temporary) body) (items (Grain.Cut temporary) last)

-- what is left where a loop goes on
abbrev pub round : ℕ → Condition → Stmts → Stmts → Items
round temporary c body last =
    joined (items (Grain.Cut temporary) body) (joined (items (Grain.Cut temporary) last) (one (again temporary c body last)))

abbrev mutual
  -- what is left at the locations of a statement, with the rest
  pub stmt_left : ℕ → Stmt → Items → List Items
  stmt_left temporary (Stmt.Assign from at v e) rest =
      reads_left (assign_reads temporary v e) (Items.Then (Item.Assign v (over_reads temporary (assign_accesses v e) e)) rest)
  stmt_left temporary (Stmt.AssignAny from v) rest = Items.Then (Item.AssignAny v) rest ∷ []
  stmt_left temporary (Stmt.If from c ts es) rest =
      condition_left temporary c (Side.Goes (items (Grain.Cut temporary) ts)) (Side.Goes (items (Grain.Cut temporary) es)) rest
      ++ (left temporary ts rest ++ left temporary es rest)
  stmt_left temporary (Stmt.Loop from c body last) rest =
      condition_left temporary c (Side.Goes (round temporary c body last)) (Side.Goes Items.End) rest
      ++ (left temporary body (joined (items (Grain.Cut temporary) last) (Items.Then (again temporary c body last) rest))
      ++ left temporary last (Items.Then (again temporary c body last) rest))
  stmt_left temporary (Stmt.Break from) rest = Items.Then Item.Break rest ∷ []
  stmt_left temporary (Stmt.Exit from) rest = Items.Then Item.Exit rest ∷ []
  stmt_left temporary (Stmt.Lock from lock) rest = Items.Then (Item.Lock lock) rest ∷ []
  stmt_left temporary (Stmt.Unlock from lock) rest = Items.Then (Item.Unlock lock) rest ∷ []
  stmt_left temporary (Stmt.Assert from t) rest = test_left temporary t (Side.Goes Items.End) Side.Failed rest
  stmt_left temporary (Stmt.Assume from t) rest = test_left temporary t (Side.Goes Items.End) Side.Nowhere rest
  stmt_left temporary (Stmt.Atomic from inner) rest = Items.Then (Item.Atomic (items Grain.Whole inner)) rest ∷ []

  -- statements, with what is left behind them
  pub left : ℕ → Stmts → Items → List Items
  left temporary Stmts.End rest = []
  left temporary (Stmts.Then s more) rest = stmt_left temporary s (joined (items (Grain.Cut temporary) more) rest) ++ left temporary more rest

-- at 0 the thread has failed; behind the others is the last location, where nothing is left
abbrev pub standing_in : List Items → ℕ → Option Standing
standing_in lefts zero = Some Standing.Failed
standing_in lefts (suc l) = option_map Standing.Doing (slice_get lefts l)

-- what is left at a location of a thread
abbrev pub standing_at : ℕ → Stmts → ℕ → Option Standing
standing_at temporary body l = standing_in (left temporary body Items.End ++ Items.End ∷ []) l
