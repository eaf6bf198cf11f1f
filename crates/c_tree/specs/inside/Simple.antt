-- How the parts of statements are read.
use Rattle.std.specs.Prelude.{ℕ, zero, suc, Bool, true, false, List, [], ◌∷◌, bytes_eq, codes, length, if◌then◌else◌, Option, Some, None}
use Rattle.c_tree.specs.declared.term.Term.{Term}
use Rattle.c_tree.specs.declared.term.Term.TheVariants as terms
use Rattle.c_tree.specs.declared.expr.Name.{Name}
use Rattle.c_tree.specs.declared.expr.Expr.{Expr}
use Rattle.c_tree.specs.declared.simple.Nondet.{Nondet}
use Rattle.c_tree.specs.declared.simple.Right.{Right}
use Rattle.c_tree.specs.declared.simple.Right.TheVariants as rights
use Rattle.c_tree.specs.declared.simple.Cond.{Cond}
use Rattle.c_tree.specs.declared.simple.Cond.TheVariants as conds
use Rattle.c_tree.specs.declared.simple.Nil.{Nil}
use Rattle.c_tree.specs.declared.simple.Nil.TheVariants as nils
use Rattle.c_tree.specs.declared.simple.Assign.{Assign}
use Rattle.c_tree.specs.declared.simple.Assign.TheVariants as assigns
use Rattle.c_tree.specs.declared.simple.Call.{Call}
use Rattle.c_tree.specs.declared.simple.Call.TheVariants as calls
use Rattle.c_tree.specs.declared.simple.Qual.{Qual}
use Rattle.c_tree.specs.declared.simple.QualKind.TheVariants as kinds
use Rattle.c_tree.specs.declared.simple.Itype.{Itype}
use Rattle.c_tree.specs.declared.simple.Itype.TheVariants as itypes
use Rattle.c_tree.specs.declared.simple.Lname.{Lname}
use Rattle.c_tree.specs.declared.simple.Local.{Local}
use Rattle.c_tree.specs.declared.simple.Handles.{Handles}
use Rattle.c_tree.specs.inside.Input.{Parser, ◌>>=◌, ◌>>◌, pure, refuse, look, here, take_token, eat, expect, bytes, peek}
use Rattle.c_tree.specs.inside.Chain.{more_of, mark_at}
use Rattle.c_tree.specs.inside.Expr.{name, expr}

abbrev pub comma_mark : Term → ℕ → Option ℕ
comma_mark terms.Comma from = Some from
comma_mark _ from = None

abbrev pub empty_parens : Parser ℕ
empty_parens = do
  opened ← expect terms.LeftParen
  expect terms.RightParen

unfoldable pub nondet : Parser Nondet
nondet = do
  from ← expect terms.Nondet
  closed ← empty_parens
  pure (record { from = from })

-- the next token is the number `0`
abbrev pub is_zero : Term → List ℕ → Bool
is_zero terms.Number text = bytes_eq text (codes "0")
is_zero _ text = false

unfoldable pub nil : Parser Nil
nil = λ i. (if is_zero (peek i) (bytes i) then (take_token >>= λ from. pure (nils.Zero from)) else (expect terms.Null >>= λ from. pure (nils.Null from))) i

-- `& name`
unfoldable pub address : Parser Name
address = do
  and ← expect terms.Address
  name

-- `( & name )`
unfoldable pub lock_argument : Parser Name
lock_argument = do
  opened ← expect terms.LeftParen
  m ← address
  closed ← expect terms.RightParen
  pure m

unfoldable pub exit_argument : Parser Nil
exit_argument = do
  opened ← expect terms.LeftParen
  n ← nil
  closed ← expect terms.RightParen
  pure n

-- behind the word, which stands at a place
unfoldable pub init : ℕ → Parser Call
init from = do
  opened ← expect terms.LeftParen
  m ← address
  comma ← expect terms.Comma
  n ← nil
  closed ← expect terms.RightParen
  pure (calls.Init from m n)

unfoldable pub create : ℕ → Parser Call
create from = do
  opened ← expect terms.LeftParen
  t ← address
  comma ← expect terms.Comma
  a ← nil
  second ← expect terms.Comma
  f ← name
  third ← expect terms.Comma
  x ← nil
  closed ← expect terms.RightParen
  pure (calls.Create from t a f x)

unfoldable pub join : ℕ → Parser Call
join from = do
  opened ← expect terms.LeftParen
  t ← name
  comma ← expect terms.Comma
  n ← nil
  closed ← expect terms.RightParen
  pure (calls.Join from t n)

-- ---- with expressions of at most so many levels

module _ (levels : ℕ) where
  abbrev pub right_by : Term → Parser Right
  right_by terms.Nondet = nondet >>= λ n. pure (rights.Nondet n)
  right_by _ = expr levels >>= λ e. pure (rights.Expr e)

  unfoldable pub right : Parser Right
  right = look >>= right_by

  abbrev pub cond_by : Term → Parser Cond
  cond_by terms.Nondet = nondet >>= λ n. pure (conds.Nondet n)
  cond_by _ = expr levels >>= λ e. pure (conds.Expr e)

  unfoldable pub cond : Parser Cond
  cond = look >>= cond_by

  -- behind a name
  abbrev pub assigned_by : Name → Term → Parser Assign
  assigned_by x terms.Assign = take_token >> (right >>= λ e. pure (assigns.Set x e))
  assigned_by x terms.AddTo = take_token >> (expr levels >>= λ e. pure (assigns.Add x e))
  assigned_by x terms.SubtractFrom = take_token >> (expr levels >>= λ e. pure (assigns.Subtract x e))
  assigned_by x terms.Increment = take_token >> pure (assigns.Increment x)
  assigned_by x terms.Decrement = take_token >> pure (assigns.Decrement x)
  assigned_by x _ = refuse

  unfoldable pub assigned : Parser Assign
  assigned = name >>= λ x. look >>= assigned_by x

  abbrev pub assign_by : Term → Parser Assign
  assign_by terms.Name = assigned
  assign_by terms.Increment = take_token >>= λ from. name >>= λ x. pure (assigns.IncrementFirst from x)
  assign_by terms.Decrement = take_token >>= λ from. name >>= λ x. pure (assigns.DecrementFirst from x)
  assign_by _ = refuse

  unfoldable pub assign : Parser Assign
  assign = look >>= assign_by

  -- `( expr )`
  unfoldable pub argument : Parser Expr
  argument = do
    opened ← expect terms.LeftParen
    e ← expr levels
    closed ← expect terms.RightParen
    pure e

  abbrev pub call_by : Term → Parser Call
  call_by terms.Assert = take_token >>= λ from. argument >>= λ e. pure (calls.Assert from e)
  call_by terms.Assume = take_token >>= λ from. argument >>= λ e. pure (calls.Assume from e)
  call_by terms.ReachError = take_token >>= λ from. empty_parens >>= λ _. pure (calls.ReachError from)
  call_by terms.Abort = take_token >>= λ from. empty_parens >>= λ _. pure (calls.Abort from)
  call_by terms.Exit = take_token >>= λ from. exit_argument >>= λ n. pure (calls.Exit from n)
  call_by terms.MutexLock = take_token >>= λ from. lock_argument >>= λ m. pure (calls.Lock from m)
  call_by terms.MutexUnlock = take_token >>= λ from. lock_argument >>= λ m. pure (calls.Unlock from m)
  call_by terms.MutexDestroy = take_token >>= λ from. lock_argument >>= λ m. pure (calls.Destroy from m)
  call_by terms.MutexInit = take_token >>= init
  call_by terms.Create = take_token >>= create
  call_by terms.Join = take_token >>= join
  call_by _ = refuse

  unfoldable pub call : Parser Call
  call = look >>= call_by

  -- a value behind `=`, if there is one
  abbrev pub start_if : Bool → Parser (Option Right)
  start_if true = right >>= λ e. pure (Some e)
  start_if false = pure None

  unfoldable pub lname : Parser Lname
  lname = do
    x ← name
    is_set ← eat terms.Assign
    start ← start_if is_set
    pure (record { name = x; start = start })

abbrev pub qual_mark : Term → ℕ → Option Qual
qual_mark terms.Static from = Some (record { from = from; kind = kinds.Static })
qual_mark terms.Volatile from = Some (record { from = from; kind = kinds.Volatile })
qual_mark terms.Extern from = Some (record { from = from; kind = kinds.Extern })
qual_mark _ from = None

-- words in front of a type, as far as they go; the number bounds how many
abbrev pub quals_behind : Option Qual → Parser (List Qual) → Parser (List Qual)
quals_behind None others = pure []
quals_behind (Some q) others = take_token >> (others >>= λ qs. pure (q ∷ qs))

unfoldable pub quals_from : ℕ → Parser (List Qual)
quals_from zero = pure []
quals_from (suc n) = λ i. quals_behind (mark_at qual_mark i) (quals_from n) i

-- Each word is a token, so there are no more than tokens.
unfoldable pub quals : Parser (List Qual)
quals = λ i. quals_from (length i.tokens) i

abbrev pub long_if : ℕ → Bool → Itype
long_if from true = itypes.LongInt from
long_if from false = itypes.Long from

abbrev pub itype_by : Term → Parser Itype
itype_by terms.Int = take_token >>= λ from. pure (itypes.Int from)
itype_by terms.Long = take_token >>= λ from. eat terms.Int >>= λ is_long_int. pure (long_if from is_long_int)
itype_by _ = refuse

unfoldable pub itype : Parser Itype
itype = look >>= itype_by

unfoldable pub local : ℕ → Parser Local
local levels = do
  from ← here
  qs ← quals
  kind ← itype
  first ← lname levels
  more ← more_of comma_mark (lname levels)
  closed ← expect terms.Semicolon
  pure (record { from = from; quals = qs; itype = kind; first = first; more = more })

unfoldable pub handles : Parser Handles
handles = do
  from ← expect terms.HandleType
  first ← name
  more ← more_of comma_mark name
  closed ← expect terms.Semicolon
  pure (record { from = from; first = first; more = more })
