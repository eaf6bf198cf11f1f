-- What the text of a function does, with its names resolved. A name that stands for nothing of its kind, and a comparison
-- that is used as a number, are refused elsewhere: what they are resolved to is never asked for.
use Rattle.std.specs.Prelude.{ℕ, ◌+◌, pos, List, [], ◌∷◌, ◌++◌, length, Option, Some, None}
use Rattle.c_tree.specs.declared.expr.Name.{Name}
use Rattle.c_tree.specs.declared.expr.UnaryKind.{UnaryKind}
use Rattle.c_tree.specs.declared.expr.UnaryKind.TheVariants as unary
use Rattle.c_tree.specs.Plain as plain
use Rattle.c_check.specs.declared.meaning.Variable.TheVariants as variable
use Rattle.c_check.specs.declared.meaning.Meaning.TheVariants as meaning
use Rattle.c_check.specs.declared.operation.Mark.TheVariants as mark
use Rattle.c_check.specs.Scope.{Scopes, declare, open_scope, variable_of, lock_of}
use Rattle.c_check.specs.Plan.{Arithmetic, Test, Condition, Stmt, Stmts, one, joined}

-- ---- expressions

abbrev pub prefixed : UnaryKind → Arithmetic → Arithmetic
prefixed unary.Minus a = Arithmetic.Negated a
prefixed unary.Plus a = a
prefixed unary.Not a = a

abbrev pub binary : plain.Operator → Arithmetic → Arithmetic → Arithmetic
binary plain.Operator.Plus a b = Arithmetic.Sum a b
binary plain.Operator.Minus a b = Arithmetic.Difference a b
binary plain.Operator.Times a b = Arithmetic.Product a b
binary plain.Operator.Or a b = a
binary plain.Operator.And a b = a
binary plain.Operator.Equal a b = a
binary plain.Operator.Unequal a b = a
binary plain.Operator.Less a b = a
binary plain.Operator.AtMost a b = a
binary plain.Operator.Greater a b = a
binary plain.Operator.AtLeast a b = a

-- an expression that is used as a number
abbrev pub arithmetic : Scopes → plain.Expr → Arithmetic
arithmetic ss (plain.Expr.Number from value) = Arithmetic.Number value
arithmetic ss (plain.Expr.Named name) = Arithmetic.Value (variable_of ss name)
arithmetic ss (plain.Expr.Prefixed from kind operand) = prefixed kind (arithmetic ss operand)
arithmetic ss (plain.Expr.Parens from inner) = arithmetic ss inner
arithmetic ss (plain.Expr.Binary operator from left right) = binary operator (arithmetic ss left) (arithmetic ss right)

-- a number is true where it is not 0
abbrev pub not_zero : ℕ → Arithmetic → Test
not_zero from a = Test.Compare from mark.Unequal a (Arithmetic.Number (pos 0))

-- an expression that is used as a condition: comparisons, and what `!`, `&&` and `||` make of conditions
abbrev pub test : Scopes → plain.Expr → Test
test ss (plain.Expr.Number from value) = not_zero from (Arithmetic.Number value)
test ss (plain.Expr.Named name) = not_zero name.from (Arithmetic.Value (variable_of ss name))
test ss (plain.Expr.Prefixed from unary.Not operand) = Test.Not (test ss operand)
test ss (plain.Expr.Prefixed from unary.Minus operand) = not_zero from (Arithmetic.Negated (arithmetic ss operand))
test ss (plain.Expr.Prefixed from unary.Plus operand) = not_zero from (arithmetic ss operand)
test ss (plain.Expr.Parens from inner) = test ss inner
test ss (plain.Expr.Binary plain.Operator.Or from left right) = Test.Or (test ss left) (test ss right)
test ss (plain.Expr.Binary plain.Operator.And from left right) = Test.And (test ss left) (test ss right)
test ss (plain.Expr.Binary plain.Operator.Equal from left right) = Test.Compare (plain.expr_place left) mark.Equal (arithmetic ss left) (arithmetic ss right)
test ss (plain.Expr.Binary plain.Operator.Unequal from left right) = Test.Compare (plain.expr_place left) mark.Unequal (arithmetic ss left) (arithmetic ss right)
test ss (plain.Expr.Binary plain.Operator.Less from left right) = Test.Compare (plain.expr_place left) mark.Less (arithmetic ss left) (arithmetic ss right)
test ss (plain.Expr.Binary plain.Operator.AtMost from left right) = Test.Compare (plain.expr_place left) mark.AtMost (arithmetic ss left) (arithmetic ss right)
test ss (plain.Expr.Binary plain.Operator.Greater from left right) = Test.Compare (plain.expr_place left) mark.Greater (arithmetic ss left) (arithmetic ss right)
test ss (plain.Expr.Binary plain.Operator.AtLeast from left right) = Test.Compare (plain.expr_place left) mark.AtLeast (arithmetic ss left) (arithmetic ss right)
test ss (plain.Expr.Binary plain.Operator.Plus from left right) = not_zero (plain.expr_place left) (Arithmetic.Sum (arithmetic ss left) (arithmetic ss right))
test ss (plain.Expr.Binary plain.Operator.Minus from left right) = not_zero (plain.expr_place left) (Arithmetic.Difference (arithmetic ss left) (arithmetic ss right))
test ss (plain.Expr.Binary plain.Operator.Times from left right) = not_zero (plain.expr_place left) (Arithmetic.Product (arithmetic ss left) (arithmetic ss right))

abbrev pub condition : Scopes → plain.Value → Condition
condition ss (plain.Value.Input from) = Condition.Choice from
condition ss (plain.Value.Computed e) = Condition.Tested (plain.expr_place e) (test ss e)

-- the condition of a `for`: without one it goes on for ever
abbrev pub condition_if : Scopes → ℕ → Option plain.Value → Condition
condition_if ss from None = Condition.Tested from (not_zero from (Arithmetic.Number (pos 1)))
condition_if ss from (Some value) = condition ss value

-- ---- assignments

-- a variable is set to a value
abbrev pub set : Scopes → Name → plain.Value → Stmts
set ss x (plain.Value.Input from) = one (Stmt.AssignAny x.from (variable_of ss x))
set ss x (plain.Value.Computed e) = one (Stmt.Assign x.from (plain.expr_place e) (variable_of ss x) (arithmetic ss e))

-- a variable is set to what is computed of it, it being read first
abbrev pub changed : Scopes → ℕ → Name → (Arithmetic → Arithmetic → Arithmetic) → Arithmetic → Stmts
changed ss from x combined a = one (Stmt.Assign from x.from (variable_of ss x) (combined (Arithmetic.Value (variable_of ss x)) a))

abbrev pub assign : Scopes → plain.Assign → Stmts
assign ss (plain.Assign.Set x value) = set ss x value
assign ss (plain.Assign.Add x e) = changed ss x.from x Arithmetic.Sum (arithmetic ss e)
assign ss (plain.Assign.Subtract x e) = changed ss x.from x Arithmetic.Difference (arithmetic ss e)
assign ss (plain.Assign.Increment x) = changed ss x.from x Arithmetic.Sum (Arithmetic.Number (pos 1))
assign ss (plain.Assign.Decrement x) = changed ss x.from x Arithmetic.Difference (Arithmetic.Number (pos 1))
assign ss (plain.Assign.IncrementFirst from x) = changed ss from x Arithmetic.Sum (Arithmetic.Number (pos 1))
assign ss (plain.Assign.DecrementFirst from x) = changed ss from x Arithmetic.Difference (Arithmetic.Number (pos 1))

abbrev pub assign_if : Scopes → Option plain.Assign → Stmts
assign_if ss None = Stmts.End
assign_if ss (Some a) = assign ss a

-- ---- declarations: the locals of a function are numbered through, in the order of its text

-- the scopes behind declared locals, the first of which has this number
abbrev pub with_locals : Scopes → ℕ → List plain.Local → Scopes
with_locals ss next [] = ss
with_locals ss next (l ∷ ls) = with_locals (declare l.name (meaning.Integer (variable.Own next)) ss) (next + 1) ls

abbrev pub set_if : Scopes → Name → Option plain.Value → Stmts
set_if ss x None = Stmts.End
set_if ss x (Some value) = set ss x value

-- what declared locals start with; each is visible from its own name on
abbrev pub locals : Scopes → ℕ → List plain.Local → Stmts
locals ss next [] = Stmts.End
locals ss next (l ∷ ls) = joined (set_if behind l.name l.start) (locals behind (next + 1) ls)
  where
    behind : Scopes
    behind = declare l.name (meaning.Integer (variable.Own next)) ss

-- ---- the locals of a statement, in the order of the text

abbrev pub first_locals : plain.First → List plain.Local
first_locals (plain.First.Declares from ls) = ls
first_locals (plain.First.Assigns a) = []
first_locals (plain.First.Nothing from) = []

abbrev mutual
  pub stmt_locals : plain.Stmt → List plain.Local
  stmt_locals (plain.Stmt.Block from inner) = stmts_locals inner
  stmt_locals (plain.Stmt.Empty from) = []
  stmt_locals (plain.Stmt.Locals from ls) = ls
  stmt_locals (plain.Stmt.Assigns a) = []
  stmt_locals (plain.Stmt.If from c s) = stmt_locals s
  stmt_locals (plain.Stmt.IfElse from c s t) = stmt_locals s ++ stmt_locals t
  stmt_locals (plain.Stmt.While from c s) = stmt_locals s
  stmt_locals (plain.Stmt.For from first c last s) = first_locals first ++ stmt_locals s
  stmt_locals (plain.Stmt.Break from) = []
  stmt_locals (plain.Stmt.Return from) = []
  stmt_locals (plain.Stmt.Calls c) = []
  stmt_locals (plain.Stmt.Atomic from inner) = stmts_locals inner
  stmt_locals (plain.Stmt.Handles from names) = []

  pub stmts_locals : plain.Stmts → List plain.Local
  stmts_locals plain.Stmts.End = []
  stmts_locals (plain.Stmts.Then s rest) = stmt_locals s ++ stmts_locals rest

-- the number of the local behind those of a statement, where that in front of it is the first
abbrev pub past : ℕ → plain.Stmt → ℕ
past next s = next + length (stmt_locals s)

abbrev pub past_first : ℕ → plain.First → ℕ
past_first next f = next + length (first_locals f)

-- ---- statements: with the scopes in front of them and the number of the next local

-- handles of threads
abbrev pub with_handles : Scopes → List Name → Scopes
with_handles ss [] = ss
with_handles ss (x ∷ xs) = with_handles (declare x meaning.Handle ss) xs

abbrev pub with_first : Scopes → ℕ → plain.First → Scopes
with_first ss next (plain.First.Declares from ls) = with_locals ss next ls
with_first ss next (plain.First.Assigns a) = ss
with_first ss next (plain.First.Nothing from) = ss

abbrev mutual
  -- what is visible behind a statement; an atomic block has no scope of its own
  pub behind : Scopes → ℕ → plain.Stmt → Scopes
  behind ss next (plain.Stmt.Locals from ls) = with_locals ss next ls
  behind ss next (plain.Stmt.Handles from names) = with_handles ss names
  behind ss next (plain.Stmt.Atomic from inner) = behind_all ss next inner
  behind ss next (plain.Stmt.Block from inner) = ss
  behind ss next (plain.Stmt.Empty from) = ss
  behind ss next (plain.Stmt.Assigns a) = ss
  behind ss next (plain.Stmt.If from c s) = ss
  behind ss next (plain.Stmt.IfElse from c s t) = ss
  behind ss next (plain.Stmt.While from c s) = ss
  behind ss next (plain.Stmt.For from first c last s) = ss
  behind ss next (plain.Stmt.Break from) = ss
  behind ss next (plain.Stmt.Return from) = ss
  behind ss next (plain.Stmt.Calls c) = ss

  pub behind_all : Scopes → ℕ → plain.Stmts → Scopes
  behind_all ss next plain.Stmts.End = ss
  behind_all ss next (plain.Stmts.Then s rest) = behind_all (behind ss next s) (past next s) rest

abbrev pub first : Scopes → ℕ → plain.First → Stmts
first ss next (plain.First.Declares from ls) = locals ss next ls
first ss next (plain.First.Assigns a) = assign ss a
first ss next (plain.First.Nothing from) = Stmts.End

-- `assert(0)` and `__VERIFIER_assume(0)`
abbrev pub never : ℕ → Test
never from = not_zero from (Arithmetic.Number (pos 0))

-- what `main` alone may do does nothing
abbrev pub call : Scopes → plain.Call → Stmts
call ss (plain.Call.Assert from e) = one (Stmt.Assert from (test ss e))
call ss (plain.Call.Assume from e) = one (Stmt.Assume from (test ss e))
call ss (plain.Call.ReachError from) = one (Stmt.Assert from (never from))
call ss (plain.Call.Abort from) = one (Stmt.Assume from (never from))
call ss (plain.Call.Exit from) = one (Stmt.Exit from)
call ss (plain.Call.Lock from x) = one (Stmt.Lock from (lock_of ss x))
call ss (plain.Call.Unlock from x) = one (Stmt.Unlock from (lock_of ss x))
call ss (plain.Call.Destroy from x) = Stmts.End
call ss (plain.Call.Init from x) = Stmts.End
call ss (plain.Call.Create from handle function) = Stmts.End
call ss (plain.Call.Join from handle) = Stmts.End

-- Blocks, and the parts of `if`, `while` and `for`, are scopes of their own; the local of a `for` has the loop as its scope.
abbrev mutual
  pub stmt : Scopes → ℕ → plain.Stmt → Stmts
  stmt ss next (plain.Stmt.Block from inner) = stmts (open_scope ss) next inner
  stmt ss next (plain.Stmt.Empty from) = Stmts.End
  stmt ss next (plain.Stmt.Locals from ls) = locals ss next ls
  stmt ss next (plain.Stmt.Assigns a) = assign ss a
  stmt ss next (plain.Stmt.If from c s) = one (Stmt.If from (condition ss c) (stmt (open_scope ss) next s) Stmts.End)
  stmt ss next (plain.Stmt.IfElse from c s t) = one (Stmt.If from (condition ss c) (stmt (open_scope ss) next s) (stmt (open_scope ss) (past next s) t))
  stmt ss next (plain.Stmt.While from c s) = one (Stmt.Loop from (condition ss c) (stmt (open_scope ss) next s) Stmts.End)
  stmt ss next (plain.Stmt.For from f c last s) =
      joined (first (open_scope ss) next f) (one (Stmt.Loop from (condition_if inside from c) (stmt (open_scope inside) (past_first next f) s) (assign_if inside last)))
    where
      inside : Scopes
      inside = with_first (open_scope ss) next f
  stmt ss next (plain.Stmt.Break from) = one (Stmt.Break from)
  stmt ss next (plain.Stmt.Return from) = one (Stmt.Exit from)
  stmt ss next (plain.Stmt.Calls c) = call ss c
  stmt ss next (plain.Stmt.Atomic from inner) = one (Stmt.Atomic from (stmts ss next inner))
  stmt ss next (plain.Stmt.Handles from names) = Stmts.End

  pub stmts : Scopes → ℕ → plain.Stmts → Stmts
  stmts ss next plain.Stmts.End = Stmts.End
  stmts ss next (plain.Stmts.Then s rest) = joined (stmt ss next s) (stmts (behind ss next s) (past next s) rest)
