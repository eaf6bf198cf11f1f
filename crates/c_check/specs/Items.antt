-- What is left for a thread to do, as a list of items. One item at a time is a step that the other threads may come between.
use Rattle.std.specs.Prelude.{ℕ, ◌+◌, nat_lt, Bool, true, false, List, [], ◌∷◌, ◌++◌, length, Option, Some, None}
use Rattle.c_check.specs.declared.meaning.Variable.{Variable}
use Rattle.c_check.specs.declared.meaning.Variable.TheVariants as variable
use Rattle.c_check.specs.declared.operation.Mark.{Mark}
use Rattle.c_check.specs.Plan.{Arithmetic, Test, Condition, Stmt, Stmts}

-- a comparison that is made at once
pub record Comparison : Type 0 where
  pub mark : Mark
  pub left : Arithmetic
  pub right : Arithmetic

-- what is asked where a thread's way parts; each comparison with the shared variables that are read in front of it, into
-- temporaries
pub data Guard : Type 0 where
  Choice : Guard
  Compared : List (Variable × Variable) → Comparison → Guard
  Not : Guard → Guard
  And : Guard → Guard → Guard
  Or : Guard → Guard → Guard

mutual
  pub data Item : Type 0 where
    -- a temporary, and the shared variable that is read into it
    Read : Variable → Variable → Item
    Assign : Variable → Arithmetic → Item
    AssignAny : Variable → Item
    -- a choice where nothing is compared; where it is true, and where not
    Branch : Option Comparison → Side → Side → Item
    Lock : ℕ → Item
    Unlock : ℕ → Item
    -- what is asked, the body, and what is done behind it each time
    Loop : Guard → Items → Items → Item
    -- the same, when the body was gone through
    Again : Guard → Items → Items → Item
    -- out of the innermost loop
    Break : Item
    -- the thread ends
    Exit : Item
    Atomic : Items → Item

  -- items in order
  pub data Items : Type 0 where
    End : Items
    Then : Item → Items → Items

  -- how a thread goes on
  pub data Side : Type 0 where
    Goes : Items → Side
    Failed : Side
    -- it has no step
    Nowhere : Side

abbrev pub one : Item → Items
one i = Items.Then i Items.End

abbrev pub joined : Items → Items → Items
joined Items.End more = more
joined (Items.Then i rest) more = Items.Then i (joined rest more)

-- ---- shared accesses

-- the variables of an expression that all threads share, left to right, each as often as it stands there
abbrev pub shared_in : Arithmetic → List Variable
shared_in (Arithmetic.Number value) = []
shared_in (Arithmetic.Value (variable.Shared n)) = variable.Shared n ∷ []
shared_in (Arithmetic.Value (variable.Own n)) = []
shared_in (Arithmetic.Negated a) = shared_in a
shared_in (Arithmetic.Sum a b) = shared_in a ++ shared_in b
shared_in (Arithmetic.Difference a b) = shared_in a ++ shared_in b
shared_in (Arithmetic.Product a b) = shared_in a ++ shared_in b

-- an expression over temporaries, the first of which has this number, in place of the variables that all threads share
abbrev pub over_temporaries : ℕ → Arithmetic → Arithmetic
over_temporaries next (Arithmetic.Number value) = Arithmetic.Number value
over_temporaries next (Arithmetic.Value (variable.Shared n)) = Arithmetic.Value (variable.Own next)
over_temporaries next (Arithmetic.Value (variable.Own n)) = Arithmetic.Value (variable.Own n)
over_temporaries next (Arithmetic.Negated a) = Arithmetic.Negated (over_temporaries next a)
over_temporaries next (Arithmetic.Sum a b) = Arithmetic.Sum (over_temporaries next a) (over_temporaries (next + length (shared_in a)) b)
over_temporaries next (Arithmetic.Difference a b) = Arithmetic.Difference (over_temporaries next a) (over_temporaries (next + length (shared_in a)) b)
over_temporaries next (Arithmetic.Product a b) = Arithmetic.Product (over_temporaries next a) (over_temporaries (next + length (shared_in a)) b)

-- variables are read into temporaries, the first of which has this number
abbrev pub reads : ℕ → List Variable → List (Variable × Variable)
reads next [] = []
reads next (v ∷ vs) = (variable.Own next, v) ∷ reads (next + 1) vs

-- How finely a thread's statements are cut: outside atomic blocks into reads, where they come to more than one access to what
-- is shared; inside not at all.
pub data Grain : Type 0 where
  -- with the number of the first temporary
  Cut : ℕ → Grain
  Whole : Grain

-- one access is made at once
abbrev pub few : ℕ → Bool
few accesses = nat_lt accesses 2

-- ---- conditions

abbrev compared_by : Bool → ℕ → Mark → Arithmetic → Arithmetic → Guard
compared_by true next m a b = Guard.Compared [] (record { mark = m; left = a; right = b })
compared_by false next m a b = Guard.Compared (reads next (shared_in a ++ shared_in b))
    (record { mark = m; left = over_temporaries next a; right = over_temporaries (next + length (shared_in a)) b })

abbrev pub compared : Grain → Mark → Arithmetic → Arithmetic → Guard
compared Grain.Whole m a b = Guard.Compared [] (record { mark = m; left = a; right = b })
compared (Grain.Cut next) m a b = compared_by (few (length (shared_in a ++ shared_in b))) next m a b

abbrev pub test_guard : Grain → Test → Guard
test_guard g (Test.Compare from m a b) = compared g m a b
test_guard g (Test.Not t) = Guard.Not (test_guard g t)
test_guard g (Test.And t u) = Guard.And (test_guard g t) (test_guard g u)
test_guard g (Test.Or t u) = Guard.Or (test_guard g t) (test_guard g u)

abbrev pub guard : Grain → Condition → Guard
guard g (Condition.Choice from) = Guard.Choice
guard g (Condition.Tested from t) = test_guard g t

abbrev pub read_items : List (Variable × Variable) → Items → Items
read_items [] more = more
read_items (r ∷ rs) more = Items.Then (Item.Read r.0 r.1) (read_items rs more)

-- the items that ask a guard, and go on by its two sides: `&&` and `||` ask the left operand first and the right one only where
-- it matters, and `!` exchanges the sides
abbrev pub branch : Guard → Side → Side → Items
branch Guard.Choice t f = one (Item.Branch None t f)
branch (Guard.Compared rs c) t f = read_items rs (one (Item.Branch (Some c) t f))
branch (Guard.Not g) t f = branch g f t
branch (Guard.And g h) t f = branch g (Side.Goes (branch h t f)) f
branch (Guard.Or g h) t f = branch g t (Side.Goes (branch h t f))

-- a loop that is come to, or come to again, is the branch of its guard
abbrev pub unrolled : Guard → Items → Items → Items
unrolled g body last = branch g (Side.Goes (joined body (joined last (one (Item.Again g body last))))) (Side.Goes Items.End)

-- ---- statements

-- the accesses that an assignment makes to what is shared: those of its expression, and perhaps that of the variable
abbrev pub written : Variable → ℕ → ℕ
written (variable.Shared n) accesses = accesses + 1
written (variable.Own n) accesses = accesses

abbrev assigned_by : Bool → ℕ → Variable → Arithmetic → Items
assigned_by true next v e = one (Item.Assign v e)
assigned_by false next v e = read_items (reads next (shared_in e)) (one (Item.Assign v (over_temporaries next e)))

abbrev pub assigned : Grain → Variable → Arithmetic → Items
assigned Grain.Whole v e = one (Item.Assign v e)
assigned (Grain.Cut next) v e = assigned_by (few (written v (length (shared_in e)))) next v e

abbrev mutual
  pub stmt_items : Grain → Stmt → Items
  stmt_items g (Stmt.Assign from at v e) = assigned g v e
  stmt_items g (Stmt.AssignAny from v) = one (Item.AssignAny v)
  stmt_items g (Stmt.If from c ts es) = branch (guard g c) (Side.Goes (items g ts)) (Side.Goes (items g es))
  stmt_items g (Stmt.Loop from c body last) = one (Item.Loop (guard g c) (items g body) (items g last))
  stmt_items g (Stmt.Break from) = one Item.Break
  stmt_items g (Stmt.Exit from) = one Item.Exit
  stmt_items g (Stmt.Lock from lock) = one (Item.Lock lock)
  stmt_items g (Stmt.Unlock from lock) = one (Item.Unlock lock)
  stmt_items g (Stmt.Assert from t) = branch (test_guard g t) (Side.Goes Items.End) Side.Failed
  stmt_items g (Stmt.Assume from t) = branch (test_guard g t) (Side.Goes Items.End) Side.Nowhere
  stmt_items g (Stmt.Atomic from inner) = one (Item.Atomic (items Grain.Whole inner))

  pub items : Grain → Stmts → Items
  items g Stmts.End = Items.End
  items g (Stmts.Then s rest) = joined (stmt_items g s) (items g rest)
