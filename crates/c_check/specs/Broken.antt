-- The rules that the statements of a function break, each at its place.
use Rattle.std.specs.Prelude.{ℕ, ◌+◌, Bool, true, false, not, ◌||◌, ◌&&◌, List, [], ◌∷◌, ◌++◌, Option, Some, None, is_some}
use Rattle.thr_base.specs.declared.stops.Refusal.{Refusal}
use Rattle.thr_base.specs.Refusals.{unknown_name, twice_named, not_linear, bad_main, atomic_body}
use Rattle.c_tree.specs.declared.expr.Name.{Name}
use Rattle.c_tree.specs.declared.expr.UnaryKind.{UnaryKind}
use Rattle.c_tree.specs.declared.expr.UnaryKind.TheVariants as unary
use Rattle.c_tree.specs.Plain as plain
use Rattle.c_check.specs.declared.meaning.Meaning.{Meaning}
use Rattle.c_check.specs.declared.meaning.Meaning.TheVariants as meaning
use Rattle.c_check.specs.declared.meaning.Variable.TheVariants as variable
use Rattle.c_check.specs.declared.place.Place.{Place}
use Rattle.c_check.specs.declared.uses.Kind.{Kind}
use Rattle.c_check.specs.declared.uses.Kind.TheVariants as kind
use Rattle.c_check.specs.declared.uses.Use.{Use}
use Rattle.c_check.specs.declared.uses.Use.TheVariants as use_as
use Rattle.c_check.specs.Scope.{Scopes, declare, in_scope, meaning_of, open_scope}
use Rattle.c_check.specs.Resolve.{behind, past, past_first, with_first}

-- a rule that is broken at a place
abbrev pub broken_at : ℕ → ℕ → List Refusal
broken_at rule from = record { code = rule; place = from } ∷ []

abbrev pub broken_if : Bool → ℕ → ℕ → List Refusal
broken_if true rule from = broken_at rule from
broken_if false rule from = []

-- ---- names

abbrev pub is_of_kind : Kind → Option Meaning → Bool
is_of_kind kind.Integer (Some (meaning.Integer v)) = true
is_of_kind kind.Lock (Some (meaning.Lock n)) = true
is_of_kind kind.Handle (Some meaning.Handle) = true
is_of_kind kind.Function (Some (meaning.Function n)) = true
is_of_kind _ _ = false

-- a name that does not stand for what it is used as
abbrev pub unknown_as : Kind → Scopes → Name → List Refusal
unknown_as k ss name = broken_if (not (is_of_kind k (meaning_of name.text ss))) unknown_name name.from

abbrev pub is_in_innermost : List ℕ → Scopes → Bool
is_in_innermost name [] = false
is_in_innermost name (s ∷ ss) = is_some (in_scope name s)

-- a name that the innermost scope has already
abbrev pub twice : Scopes → Name → List Refusal
twice ss name = broken_if (is_in_innermost name.text ss) twice_named name.from

-- ---- expressions

abbrev pub has_name : plain.Expr → Bool
has_name (plain.Expr.Number from value) = false
has_name (plain.Expr.Named name) = true
has_name (plain.Expr.Prefixed from kind operand) = has_name operand
has_name (plain.Expr.Parens from inner) = has_name inner
has_name (plain.Expr.Binary operator from left right) = has_name left || has_name right

-- a mark that makes a condition, where a number is asked for
abbrev pub no_number : Use → ℕ → List Refusal
no_number use_as.Number from = broken_at not_linear from
no_number use_as.Condition from = []

-- what `!` stands in front of is used as a condition, whatever the whole is used as; the signs stand in front of numbers
abbrev pub sign_use : UnaryKind → Use
sign_use unary.Not = use_as.Condition
sign_use unary.Minus = use_as.Number
sign_use unary.Plus = use_as.Number

-- `!` is no number
abbrev pub sign_broken : Use → UnaryKind → ℕ → List Refusal
sign_broken used unary.Not from = no_number used from
sign_broken used unary.Minus from = []
sign_broken used unary.Plus from = []

-- what `&&` and `||` stand between is used as conditions, whatever the whole is used as; all else stands between numbers
abbrev pub operand_use : plain.Operator → Use
operand_use plain.Operator.Or = use_as.Condition
operand_use plain.Operator.And = use_as.Condition
operand_use _ = use_as.Number

-- a product wants a side without a name; a comparison, `&&` and `||` are no numbers
abbrev pub mark_broken : Use → plain.Operator → ℕ → Bool → List Refusal
mark_broken used plain.Operator.Times from of_names = broken_if of_names not_linear from
mark_broken used plain.Operator.Plus from of_names = []
mark_broken used plain.Operator.Minus from of_names = []
mark_broken used _ from of_names = no_number used from

abbrev pub expr_broken : Scopes → Use → plain.Expr → List Refusal
expr_broken ss used (plain.Expr.Number from value) = []
expr_broken ss used (plain.Expr.Named name) = unknown_as kind.Integer ss name
expr_broken ss used (plain.Expr.Prefixed from kind operand) = sign_broken used kind from ++ expr_broken ss (sign_use kind) operand
expr_broken ss used (plain.Expr.Parens from inner) = expr_broken ss used inner
expr_broken ss used (plain.Expr.Binary operator from left right) =
    expr_broken ss (operand_use operator) left ++ mark_broken used operator from (has_name left && has_name right) ++ expr_broken ss (operand_use operator) right

abbrev pub value_broken : Scopes → Use → plain.Value → List Refusal
value_broken ss used (plain.Value.Input from) = []
value_broken ss used (plain.Value.Computed e) = expr_broken ss used e

abbrev pub value_if_broken : Scopes → Use → Option plain.Value → List Refusal
value_if_broken ss used None = []
value_if_broken ss used (Some value) = value_broken ss used value

-- ---- parts of statements

abbrev pub assign_broken : Scopes → plain.Assign → List Refusal
assign_broken ss (plain.Assign.Set x value) = unknown_as kind.Integer ss x ++ value_broken ss use_as.Number value
assign_broken ss (plain.Assign.Add x e) = unknown_as kind.Integer ss x ++ expr_broken ss use_as.Number e
assign_broken ss (plain.Assign.Subtract x e) = unknown_as kind.Integer ss x ++ expr_broken ss use_as.Number e
assign_broken ss (plain.Assign.Increment x) = unknown_as kind.Integer ss x
assign_broken ss (plain.Assign.Decrement x) = unknown_as kind.Integer ss x
assign_broken ss (plain.Assign.IncrementFirst from x) = unknown_as kind.Integer ss x
assign_broken ss (plain.Assign.DecrementFirst from x) = unknown_as kind.Integer ss x

abbrev pub assign_if_broken : Scopes → Option plain.Assign → List Refusal
assign_if_broken ss None = []
assign_if_broken ss (Some a) = assign_broken ss a

-- a local is visible from its own name on, so in what it starts with too
abbrev pub locals_broken : Scopes → ℕ → List plain.Local → List Refusal
locals_broken ss next [] = []
locals_broken ss next (l ∷ ls) = twice ss l.name ++ value_if_broken visible use_as.Number l.start ++ locals_broken visible (next + 1) ls
  where
    visible : Scopes
    visible = declare l.name (meaning.Integer (variable.Own next)) ss

abbrev pub handles_broken : Scopes → List Name → List Refusal
handles_broken ss [] = []
handles_broken ss (x ∷ xs) = twice ss x ++ handles_broken (declare x meaning.Handle ss) xs

abbrev pub first_broken : Scopes → ℕ → plain.First → List Refusal
first_broken ss next (plain.First.Declares from ls) = locals_broken ss next ls
first_broken ss next (plain.First.Assigns a) = assign_broken ss a
first_broken ss next (plain.First.Nothing from) = []

-- ---- where a statement stands

-- in an atomic block
abbrev pub in_atomic : Place → Place
in_atomic p = record p { is_in_atomic = true }

-- what may not stand in an atomic block
abbrev pub not_in_atomic : Place → ℕ → List Refusal
not_in_atomic p from = broken_if p.is_in_atomic atomic_body from

-- what `main` alone may do
abbrev pub only_in_main : Place → ℕ → List Refusal
only_in_main p from = broken_if p.is_in_thread bad_main from

abbrev pub call_broken : Place → Scopes → plain.Call → List Refusal
call_broken p ss (plain.Call.Assert from e) = expr_broken ss use_as.Condition e
call_broken p ss (plain.Call.Assume from e) = expr_broken ss use_as.Condition e
call_broken p ss (plain.Call.ReachError from) = []
call_broken p ss (plain.Call.Abort from) = []
call_broken p ss (plain.Call.Exit from) = not_in_atomic p from
call_broken p ss (plain.Call.Lock from x) = not_in_atomic p from ++ unknown_as kind.Lock ss x
call_broken p ss (plain.Call.Unlock from x) = not_in_atomic p from ++ unknown_as kind.Lock ss x
call_broken p ss (plain.Call.Destroy from x) = only_in_main p from ++ unknown_as kind.Lock ss x
call_broken p ss (plain.Call.Init from x) = only_in_main p from ++ unknown_as kind.Lock ss x
call_broken p ss (plain.Call.Create from handle function) = only_in_main p from ++ unknown_as kind.Handle ss handle ++ unknown_as kind.Function ss function
call_broken p ss (plain.Call.Join from handle) = only_in_main p from ++ unknown_as kind.Handle ss handle

-- ---- statements: with the scopes in front of them and the number of the next local

abbrev mutual
  pub stmt_broken : Place → Scopes → ℕ → plain.Stmt → List Refusal
  stmt_broken p ss next (plain.Stmt.Block from inner) = stmts_broken p (open_scope ss) next inner
  stmt_broken p ss next (plain.Stmt.Empty from) = []
  stmt_broken p ss next (plain.Stmt.Locals from ls) = locals_broken ss next ls
  stmt_broken p ss next (plain.Stmt.Assigns a) = assign_broken ss a
  stmt_broken p ss next (plain.Stmt.If from c s) = value_broken ss use_as.Condition c ++ stmt_broken p (open_scope ss) next s
  stmt_broken p ss next (plain.Stmt.IfElse from c s t) =
      value_broken ss use_as.Condition c ++ stmt_broken p (open_scope ss) next s ++ stmt_broken p (open_scope ss) (past next s) t
  stmt_broken p ss next (plain.Stmt.While from c s) = not_in_atomic p from ++ value_broken ss use_as.Condition c ++ stmt_broken p (open_scope ss) next s
  stmt_broken p ss next (plain.Stmt.For from f c last s) =
      not_in_atomic p from ++ first_broken (open_scope ss) next f ++ value_if_broken inside use_as.Condition c ++ assign_if_broken inside last
      ++ stmt_broken p (open_scope inside) (past_first next f) s
    where
      inside : Scopes
      inside = with_first (open_scope ss) next f
  stmt_broken p ss next (plain.Stmt.Break from) = not_in_atomic p from
  stmt_broken p ss next (plain.Stmt.Return from) = not_in_atomic p from
  stmt_broken p ss next (plain.Stmt.Calls c) = call_broken p ss c
  stmt_broken p ss next (plain.Stmt.Atomic from inner) = not_in_atomic p from ++ stmts_broken (in_atomic p) ss next inner
  stmt_broken p ss next (plain.Stmt.Handles from names) = only_in_main p from ++ handles_broken ss names

  pub stmts_broken : Place → Scopes → ℕ → plain.Stmts → List Refusal
  stmts_broken p ss next plain.Stmts.End = []
  stmts_broken p ss next (plain.Stmts.Then s rest) = stmt_broken p ss next s ++ stmts_broken p (behind ss next s) (past next s) rest
