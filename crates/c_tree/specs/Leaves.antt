-- What a tree says in the order of its text: of its tokens, as far as it has them, and of the values of its numbers.
use Rattle.std.specs.Prelude.{◌≡◌, ℕ, ◌+◌, ◌<◌, ◌≤◌, ℤ, true, List, [], ◌∷◌, ◌++◌, Option, Some, None}
use Rattle.thr_base.specs.ColumnText.{is_c_name}
use Rattle.thr_base.specs.Number.{Fits}
use Rattle.c_lex.specs.Tokens.{Lexeme}
use Rattle.c_tree.specs.declared.expr.Name.{Name}
use Rattle.c_tree.specs.declared.term.Term.{Term}
use Rattle.c_tree.specs.declared.term.Term.TheVariants as terms
use Rattle.c_tree.specs.Term.{term_of}
use Rattle.c_tree.specs.Grammar.{sign_term}
use Rattle.c_tree.specs.Plain.{Operator, Expr, Value, Assign, Call, Local, First, Stmt, Stmts, Global, Item, Tree}

-- what a token is said to be
pub data Said : Type 0 where
  Anything : Said
  -- this word or mark
  Mark : Term → Said
  -- a name of these bytes
  Named : List ℕ → Said

pub data Leaf : Type 0 where
  -- a token at a place
  Token : Said → ℕ → Leaf
  Number : ℤ → Leaf

abbrev pub token : ℕ → Leaf
token from = Leaf.Token Said.Anything from

abbrev pub mark_leaf : Term → ℕ → Leaf
mark_leaf term from = Leaf.Token (Said.Mark term) from

abbrev pub name_leaf : Name → Leaf
name_leaf x = Leaf.Token (Said.Named x.text) x.from

-- the marks between operands
abbrev pub operator_term : Operator → Term
operator_term Operator.Or = terms.Or
operator_term Operator.And = terms.And
operator_term Operator.Equal = terms.Equal
operator_term Operator.Unequal = terms.Unequal
operator_term Operator.Less = terms.Less
operator_term Operator.AtMost = terms.AtMost
operator_term Operator.Greater = terms.Greater
operator_term Operator.AtLeast = terms.AtLeast
operator_term Operator.Plus = terms.Plus
operator_term Operator.Minus = terms.Minus
operator_term Operator.Times = terms.Star

-- ---- expressions

abbrev pub expr_leaves : Expr → List Leaf
expr_leaves (Expr.Number from value) = mark_leaf terms.Number from ∷ Leaf.Number value ∷ []
expr_leaves (Expr.Named name) = name_leaf name ∷ []
expr_leaves (Expr.Prefixed from kind operand) = mark_leaf (sign_term kind) from ∷ expr_leaves operand
expr_leaves (Expr.Parens from inner) = mark_leaf terms.LeftParen from ∷ expr_leaves inner
expr_leaves (Expr.Binary operator from left right) = expr_leaves left ++ (mark_leaf (operator_term operator) from ∷ expr_leaves right)

abbrev pub value_leaves : Value → List Leaf
value_leaves (Value.Input from) = token from ∷ []
value_leaves (Value.Computed e) = expr_leaves e

abbrev pub value_if_leaves : Option Value → List Leaf
value_if_leaves None = []
value_if_leaves (Some value) = value_leaves value

-- ---- parts of statements

abbrev pub name_leaves : List Name → List Leaf
name_leaves [] = []
name_leaves (x ∷ names) = name_leaf x ∷ name_leaves names

abbrev pub assign_leaves : Assign → List Leaf
assign_leaves (Assign.Set x value) = name_leaf x ∷ value_leaves value
assign_leaves (Assign.Add x e) = name_leaf x ∷ expr_leaves e
assign_leaves (Assign.Subtract x e) = name_leaf x ∷ expr_leaves e
assign_leaves (Assign.Increment x) = name_leaf x ∷ []
assign_leaves (Assign.Decrement x) = name_leaf x ∷ []
assign_leaves (Assign.IncrementFirst from x) = token from ∷ name_leaf x ∷ []
assign_leaves (Assign.DecrementFirst from x) = token from ∷ name_leaf x ∷ []

abbrev pub assign_if_leaves : Option Assign → List Leaf
assign_if_leaves None = []
assign_if_leaves (Some a) = assign_leaves a

abbrev pub call_leaves : Call → List Leaf
call_leaves (Call.Assert from e) = token from ∷ expr_leaves e
call_leaves (Call.Assume from e) = token from ∷ expr_leaves e
call_leaves (Call.ReachError from) = token from ∷ []
call_leaves (Call.Abort from) = token from ∷ []
call_leaves (Call.Exit from) = token from ∷ []
call_leaves (Call.Lock from x) = token from ∷ name_leaf x ∷ []
call_leaves (Call.Unlock from x) = token from ∷ name_leaf x ∷ []
call_leaves (Call.Destroy from x) = token from ∷ name_leaf x ∷ []
call_leaves (Call.Init from x) = token from ∷ name_leaf x ∷ []
call_leaves (Call.Create from handle function) = token from ∷ name_leaf handle ∷ name_leaf function ∷ []
call_leaves (Call.Join from handle) = token from ∷ name_leaf handle ∷ []

abbrev pub local_leaves : List Local → List Leaf
local_leaves [] = []
local_leaves (l ∷ ls) = (name_leaf l.name ∷ value_if_leaves l.start) ++ local_leaves ls

abbrev pub first_leaves : First → List Leaf
first_leaves (First.Declares from ls) = token from ∷ local_leaves ls
first_leaves (First.Assigns a) = assign_leaves a
first_leaves (First.Nothing from) = token from ∷ []

-- ---- statements

abbrev mutual
  pub stmt_leaves : Stmt → List Leaf
  stmt_leaves (Stmt.Block from inner) = token from ∷ stmts_leaves inner
  stmt_leaves (Stmt.Empty from) = token from ∷ []
  stmt_leaves (Stmt.Locals from ls) = token from ∷ local_leaves ls
  stmt_leaves (Stmt.Assigns a) = assign_leaves a
  stmt_leaves (Stmt.If from c s) = token from ∷ (value_leaves c ++ stmt_leaves s)
  stmt_leaves (Stmt.IfElse from c s t) = token from ∷ (value_leaves c ++ stmt_leaves s ++ stmt_leaves t)
  stmt_leaves (Stmt.While from c s) = token from ∷ (value_leaves c ++ stmt_leaves s)
  stmt_leaves (Stmt.For from first c last s) = token from ∷ (first_leaves first ++ value_if_leaves c ++ assign_if_leaves last ++ stmt_leaves s)
  stmt_leaves (Stmt.Break from) = token from ∷ []
  stmt_leaves (Stmt.Return from) = token from ∷ []
  stmt_leaves (Stmt.Calls c) = call_leaves c
  stmt_leaves (Stmt.Atomic from inner) = token from ∷ stmts_leaves inner
  stmt_leaves (Stmt.Handles from names) = token from ∷ name_leaves names

  pub stmts_leaves : Stmts → List Leaf
  stmts_leaves Stmts.End = []
  stmts_leaves (Stmts.Then s rest) = stmt_leaves s ++ stmts_leaves rest

-- ---- texts

abbrev pub start_leaves : Option ℤ → List Leaf
start_leaves None = []
start_leaves (Some value) = Leaf.Number value ∷ []

abbrev pub global_leaves : List Global → List Leaf
global_leaves [] = []
global_leaves (g ∷ gs) = (name_leaf g.name ∷ start_leaves g.start) ++ global_leaves gs

abbrev pub item_leaves : Item → List Leaf
item_leaves (Item.Globals gs) = global_leaves gs
item_leaves (Item.Locks names) = name_leaves names
item_leaves (Item.Handles from names) = token from ∷ name_leaves names
item_leaves (Item.Main from body) = mark_leaf terms.Main from ∷ stmts_leaves body
item_leaves (Item.Thread name body) = name_leaf name ∷ stmts_leaves body
item_leaves (Item.Prototype name) = name_leaf name ∷ []
item_leaves (Item.Profile from) = token from ∷ []

abbrev pub items_leaves : List Item → List Leaf
items_leaves [] = []
items_leaves (i ∷ items) = item_leaves i ++ items_leaves items

abbrev pub tree_leaves : Tree → List Leaf
tree_leaves t = items_leaves t.items

-- ---- what holds of them

-- The token is what it is said to be.
abbrev pub IsSaid : Said → Lexeme → Type 0
IsSaid Said.Anything t = Unit {0}
IsSaid (Said.Mark term) t = term_of t ≡ term
IsSaid (Said.Named text) t = (term_of t ≡ terms.Name) × (t.bytes ≡ text)

-- The leaves are those of these tokens, in their order, with others between.
abbrev pub AreLeaves : List Leaf → List Lexeme → Type 0
AreLeaves [] ts = Unit {0}
AreLeaves (Leaf.Token said place ∷ leaves) ts =
    (before : List Lexeme) × (t : Lexeme) × (after : List Lexeme) × (ts ≡ before ++ t ∷ after) × (t.from ≡ place) × IsSaid said t × AreLeaves leaves after
AreLeaves (Leaf.Number value ∷ leaves) ts = Fits value × AreLeaves leaves ts

-- The places rise, from the first on to below the second.
abbrev pub PlacesRise : ℕ → ℕ → List Leaf → Type 0
PlacesRise first end [] = Unit {0}
PlacesRise first end (Leaf.Token said place ∷ leaves) = (first ≤ place) × (place < end) × PlacesRise (place + 1) end leaves
PlacesRise first end (Leaf.Number value ∷ leaves) = PlacesRise first end leaves

abbrev pub NumbersFit : List Leaf → Type 0
NumbersFit [] = Unit {0}
NumbersFit (Leaf.Token said place ∷ leaves) = NumbersFit leaves
NumbersFit (Leaf.Number value ∷ leaves) = Fits value × NumbersFit leaves

-- What is said to be a name is a C name.
abbrev pub IsNamed : Said → Type 0
IsNamed Said.Anything = Unit {0}
IsNamed (Said.Mark term) = Unit {0}
IsNamed (Said.Named text) = is_c_name text ≡ true

abbrev pub NamesAreOfC : List Leaf → Type 0
NamesAreOfC [] = Unit {0}
NamesAreOfC (Leaf.Token said place ∷ leaves) = IsNamed said × NamesAreOfC leaves
NamesAreOfC (Leaf.Number value ∷ leaves) = NamesAreOfC leaves
