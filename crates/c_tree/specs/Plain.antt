-- The tree of a text as plain data: what the text says, with the places of first tokens and of marks. Words that change
-- nothing (types, `static`, `NULL` or `0`, commas) are left out.
use Rattle.std.specs.Prelude.{ℕ, ℤ, List, [], ◌∷◌, Option}
use Rattle.c_tree.specs.declared.expr.Name.{Name}
use Rattle.c_tree.specs.declared.expr.UnaryKind.{UnaryKind}

-- ---- expressions

-- the marks between two operands
pub data Operator : Type 0 where
  Or : Operator
  And : Operator
  Equal : Operator
  Unequal : Operator
  Less : Operator
  AtMost : Operator
  Greater : Operator
  AtLeast : Operator
  Plus : Operator
  Minus : Operator
  Times : Operator

pub data Expr : Type 0 where
  Number : ℕ → ℤ → Expr
  Named : Name → Expr
  -- a sign, and what stands behind it
  Prefixed : ℕ → UnaryKind → Expr → Expr
  Parens : ℕ → Expr → Expr
  -- the place is that of the mark
  Binary : Operator → ℕ → Expr → Expr → Expr

-- an expression, or what the environment gives
pub data Value : Type 0 where
  Input : ℕ → Value
  Computed : Expr → Value

-- ---- parts of statements

pub data Assign : Type 0 where
  Set : Name → Value → Assign
  Add : Name → Expr → Assign
  Subtract : Name → Expr → Assign
  Increment : Name → Assign
  Decrement : Name → Assign
  -- with the place of the mark in front of the name
  IncrementFirst : ℕ → Name → Assign
  DecrementFirst : ℕ → Name → Assign

pub data Call : Type 0 where
  Assert : ℕ → Expr → Call
  Assume : ℕ → Expr → Call
  ReachError : ℕ → Call
  Abort : ℕ → Call
  Exit : ℕ → Call
  Lock : ℕ → Name → Call
  Unlock : ℕ → Name → Call
  Destroy : ℕ → Name → Call
  Init : ℕ → Name → Call
  -- the handle and the function
  Create : ℕ → Name → Name → Call
  Join : ℕ → Name → Call

-- a variable of a function, perhaps with what it is set to
pub record Local : Type 0 where
  pub name : Name
  pub start : Option Value

-- the first part of a `for`
pub data First : Type 0 where
  Declares : ℕ → List Local → First
  Assigns : Assign → First
  Nothing : ℕ → First

-- ---- statements

mutual
  pub data Stmt : Type 0 where
    Block : ℕ → Stmts → Stmt
    Empty : ℕ → Stmt
    Locals : ℕ → List Local → Stmt
    Assigns : Assign → Stmt
    If : ℕ → Value → Stmt → Stmt
    IfElse : ℕ → Value → Stmt → Stmt → Stmt
    While : ℕ → Value → Stmt → Stmt
    -- the first part, the condition, the last part and the body
    For : ℕ → First → Option Value → Option Assign → Stmt → Stmt
    Break : ℕ → Stmt
    Return : ℕ → Stmt
    Calls : Call → Stmt
    Atomic : ℕ → Stmts → Stmt
    Handles : ℕ → List Name → Stmt

  -- statements in order
  pub data Stmts : Type 0 where
    End : Stmts
    Then : Stmt → Stmts → Stmts

abbrev pub stmt_list : List Stmt → Stmts
stmt_list [] = Stmts.End
stmt_list (s ∷ rest) = Stmts.Then s (stmt_list rest)

-- ---- texts

-- a global variable, perhaps with what it starts with
pub record Global : Type 0 where
  pub name : Name
  pub start : Option ℤ

pub data Item : Type 0 where
  Globals : List Global → Item
  Locks : List Name → Item
  Handles : ℕ → List Name → Item
  -- at the place of its word `main`
  Main : ℕ → Stmts → Item
  Thread : Name → Stmts → Item
  -- of a thread function
  Prototype : Name → Item
  -- a prototype of a function of the profile, or a function `reach_error`, at the place of its name
  Profile : ℕ → Item

-- the items, and the length of the text
pub record Tree : Type 0 where
  pub items : List Item
  pub end : ℕ

-- ---- places

-- where an expression begins
abbrev pub expr_place : Expr → ℕ
expr_place (Expr.Number from value) = from
expr_place (Expr.Named name) = name.from
expr_place (Expr.Prefixed from kind operand) = from
expr_place (Expr.Parens from inner) = from
expr_place (Expr.Binary operator from left right) = expr_place left

abbrev pub value_place : Value → ℕ
value_place (Value.Input from) = from
value_place (Value.Computed e) = expr_place e

abbrev pub assign_place : Assign → ℕ
assign_place (Assign.Set name value) = name.from
assign_place (Assign.Add name e) = name.from
assign_place (Assign.Subtract name e) = name.from
assign_place (Assign.Increment name) = name.from
assign_place (Assign.Decrement name) = name.from
assign_place (Assign.IncrementFirst from name) = from
assign_place (Assign.DecrementFirst from name) = from

abbrev pub call_place : Call → ℕ
call_place (Call.Assert from e) = from
call_place (Call.Assume from e) = from
call_place (Call.ReachError from) = from
call_place (Call.Abort from) = from
call_place (Call.Exit from) = from
call_place (Call.Lock from name) = from
call_place (Call.Unlock from name) = from
call_place (Call.Destroy from name) = from
call_place (Call.Init from name) = from
call_place (Call.Create from handle function) = from
call_place (Call.Join from handle) = from

-- where a statement begins
abbrev pub stmt_place : Stmt → ℕ
stmt_place (Stmt.Block from inner) = from
stmt_place (Stmt.Empty from) = from
stmt_place (Stmt.Locals from names) = from
stmt_place (Stmt.Assigns a) = assign_place a
stmt_place (Stmt.If from c s) = from
stmt_place (Stmt.IfElse from c s t) = from
stmt_place (Stmt.While from c s) = from
stmt_place (Stmt.For from first c last s) = from
stmt_place (Stmt.Break from) = from
stmt_place (Stmt.Return from) = from
stmt_place (Stmt.Calls c) = call_place c
stmt_place (Stmt.Atomic from inner) = from
stmt_place (Stmt.Handles from names) = from
