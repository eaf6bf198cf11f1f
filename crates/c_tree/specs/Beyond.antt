-- Which tokens open a level beyond a number of levels. A statement, a pair of parentheses and a sign open a level each
-- at their first token, and what they hold is one level deeper. Places are in the order of the text.
use Rattle.std.specs.Prelude.{ℕ, zero, suc, List, [], ◌∷◌, ◌++◌, Option, Some, None}
use Rattle.c_tree.specs.Plain.{Expr, Value, Assign, Call, Local, First, Stmt, Stmts, Item, assign_place, call_place}

-- what opens a level at a place, with what it holds
abbrev pub opened : ℕ → (ℕ → List ℕ) → ℕ → List ℕ
opened from inner zero = from ∷ []
opened from inner (suc levels) = inner levels

-- what holds nothing that opens a level
abbrev pub nothing : ℕ → List ℕ
nothing levels = []

-- ---- expressions

abbrev pub expr_beyond : Expr → ℕ → List ℕ
expr_beyond (Expr.Number from value) = nothing
expr_beyond (Expr.Named name) = nothing
expr_beyond (Expr.Prefixed from kind operand) = opened from (expr_beyond operand)
expr_beyond (Expr.Parens from inner) = opened from (expr_beyond inner)
expr_beyond (Expr.Binary operator from left right) = λ levels. expr_beyond left levels ++ expr_beyond right levels

abbrev pub value_beyond : Value → ℕ → List ℕ
value_beyond (Value.Input from) = nothing
value_beyond (Value.Computed e) = expr_beyond e

abbrev pub value_if_beyond : Option Value → ℕ → List ℕ
value_if_beyond None = nothing
value_if_beyond (Some value) = value_beyond value

-- ---- parts of statements

abbrev pub assign_beyond : Assign → ℕ → List ℕ
assign_beyond (Assign.Set name value) = value_beyond value
assign_beyond (Assign.Add name e) = expr_beyond e
assign_beyond (Assign.Subtract name e) = expr_beyond e
assign_beyond _ = nothing

abbrev pub assign_if_beyond : Option Assign → ℕ → List ℕ
assign_if_beyond None = nothing
assign_if_beyond (Some a) = assign_beyond a

abbrev pub call_beyond : Call → ℕ → List ℕ
call_beyond (Call.Assert from e) = expr_beyond e
call_beyond (Call.Assume from e) = expr_beyond e
call_beyond _ = nothing

abbrev pub locals_beyond : List Local → ℕ → List ℕ
locals_beyond [] levels = []
locals_beyond (l ∷ ls) levels = value_if_beyond l.start levels ++ locals_beyond ls levels

abbrev pub first_beyond : First → ℕ → List ℕ
first_beyond (First.Declares from ls) = locals_beyond ls
first_beyond (First.Assigns a) = assign_beyond a
first_beyond (First.Nothing from) = nothing

-- ---- statements

abbrev mutual
  pub stmt_beyond : Stmt → ℕ → List ℕ
  stmt_beyond (Stmt.Block from inner) = opened from (stmts_beyond inner)
  stmt_beyond (Stmt.Empty from) = opened from nothing
  stmt_beyond (Stmt.Locals from ls) = opened from (locals_beyond ls)
  stmt_beyond (Stmt.Assigns a) = opened (assign_place a) (assign_beyond a)
  stmt_beyond (Stmt.If from c s) = opened from (λ levels. value_beyond c levels ++ stmt_beyond s levels)
  stmt_beyond (Stmt.IfElse from c s t) = opened from (λ levels. value_beyond c levels ++ stmt_beyond s levels ++ stmt_beyond t levels)
  stmt_beyond (Stmt.While from c s) = opened from (λ levels. value_beyond c levels ++ stmt_beyond s levels)
  stmt_beyond (Stmt.For from first c last s) = opened from (λ levels. first_beyond first levels ++ value_if_beyond c levels ++ assign_if_beyond last levels ++ stmt_beyond s levels)
  stmt_beyond (Stmt.Break from) = opened from nothing
  stmt_beyond (Stmt.Return from) = opened from nothing
  stmt_beyond (Stmt.Calls c) = opened (call_place c) (call_beyond c)
  stmt_beyond (Stmt.Atomic from inner) = opened from (stmts_beyond inner)
  stmt_beyond (Stmt.Handles from names) = opened from nothing

  pub stmts_beyond : Stmts → ℕ → List ℕ
  stmts_beyond Stmts.End levels = []
  stmts_beyond (Stmts.Then s rest) levels = stmt_beyond s levels ++ stmts_beyond rest levels

-- ---- texts

abbrev pub item_beyond : Item → ℕ → List ℕ
item_beyond (Item.Main from body) = stmts_beyond body
item_beyond (Item.Thread name body) = stmts_beyond body
item_beyond _ = nothing

abbrev pub items_beyond : List Item → ℕ → List ℕ
items_beyond [] levels = []
items_beyond (i ∷ items) levels = item_beyond i levels ++ items_beyond items levels
