-- The grammar of what statements are made of: which tokens a tree stands for, by cases on the tree.
use Rattle.std.specs.Prelude.{◌≡◌, ℕ, codes}
use Rattle.c_tree.specs.declared.term.Term.{Term}
use Rattle.c_tree.specs.declared.term.Term.TheVariants as terms
use Rattle.c_tree.specs.declared.expr.Name.{Name}
use Rattle.c_tree.specs.declared.simple.Nondet.{Nondet}
use Rattle.c_tree.specs.declared.simple.Right.{Right}
use Rattle.c_tree.specs.declared.simple.Right.TheVariants as rights
use Rattle.c_tree.specs.declared.simple.Cond.{Cond}
use Rattle.c_tree.specs.declared.simple.Cond.TheVariants as conds
use Rattle.c_tree.specs.declared.simple.Nil.{Nil}
use Rattle.c_tree.specs.declared.simple.Nil.TheVariants as nils
use Rattle.c_tree.specs.declared.simple.Assign.{Assign}
use Rattle.c_tree.specs.declared.simple.Assign.TheVariants as assigns
use Rattle.c_tree.specs.declared.simple.Call.{Call}
use Rattle.c_tree.specs.declared.simple.Call.TheVariants as calls
use Rattle.c_tree.specs.declared.simple.Qual.{Qual}
use Rattle.c_tree.specs.declared.simple.QualKind.{QualKind}
use Rattle.c_tree.specs.declared.simple.QualKind.TheVariants as kinds
use Rattle.c_tree.specs.declared.simple.Itype.{Itype}
use Rattle.c_tree.specs.declared.simple.Itype.TheVariants as itypes
use Rattle.c_tree.specs.declared.simple.Lname.{Lname}
use Rattle.c_tree.specs.declared.simple.Local.{Local}
use Rattle.c_tree.specs.declared.simple.Handles.{Handles}
use Rattle.c_tree.specs.Next.{bytes_at}
use Rattle.c_tree.specs.Grammar.{Is, Stands, StartsAt, IsName, IsExpr}
use Rattle.c_tree.specs.Sequence.{Part, ◌then◌, Headed, Perhaps, AreAll, InParens, EmptyParens, IsList}

-- ---- types

abbrev pub qual_term : QualKind → Term
qual_term kinds.Static = terms.Static
qual_term kinds.Volatile = terms.Volatile
qual_term kinds.Extern = terms.Extern

abbrev pub IsQual : Qual → Part
IsQual q = Is (qual_term q.kind) q.from

abbrev pub IsItype : Itype → Part
IsItype (itypes.Int from) = Is terms.Int from
IsItype (itypes.Long from) = Is terms.Long from
IsItype (itypes.LongInt from) = Headed terms.Long from (Stands terms.Int)

-- ---- values

abbrev pub IsNondet : Nondet → Part
IsNondet n = Headed terms.Nondet n.from EmptyParens

-- `NULL`, or the number `0` with this one digit
abbrev pub IsNil : Nil → Part
IsNil (nils.Null from) ts rest = Is terms.Null from ts rest
IsNil (nils.Zero from) ts rest = Is terms.Number from ts rest × (bytes_at ts ≡ codes "0")

-- `& name`
abbrev pub IsAddress : Name → Part
IsAddress x = Stands terms.Address then IsName x

-- ---- with expressions of at most so many levels

module _ (levels : ℕ) where
  abbrev pub IsRight : Right → Part
  IsRight (rights.Nondet n) = IsNondet n
  IsRight (rights.Expr e) = IsExpr levels e

  abbrev pub IsCond : Cond → Part
  IsCond (conds.Nondet n) = IsNondet n
  IsCond (conds.Expr e) = IsExpr levels e

  abbrev pub IsAssign : Assign → Part
  IsAssign (assigns.Set x e) = IsName x then Stands terms.Assign then IsRight e
  IsAssign (assigns.Add x e) = IsName x then Stands terms.AddTo then IsExpr levels e
  IsAssign (assigns.Subtract x e) = IsName x then Stands terms.SubtractFrom then IsExpr levels e
  IsAssign (assigns.Increment x) = IsName x then Stands terms.Increment
  IsAssign (assigns.Decrement x) = IsName x then Stands terms.Decrement
  IsAssign (assigns.IncrementFirst from x) = Headed terms.Increment from (IsName x)
  IsAssign (assigns.DecrementFirst from x) = Headed terms.Decrement from (IsName x)

  abbrev pub IsCall : Call → Part
  IsCall (calls.Assert from e) = Headed terms.Assert from (InParens (IsExpr levels e))
  IsCall (calls.Assume from e) = Headed terms.Assume from (InParens (IsExpr levels e))
  IsCall (calls.ReachError from) = Headed terms.ReachError from EmptyParens
  IsCall (calls.Abort from) = Headed terms.Abort from EmptyParens
  IsCall (calls.Exit from n) = Headed terms.Exit from (InParens (IsNil n))
  IsCall (calls.Lock from m) = Headed terms.MutexLock from (InParens (IsAddress m))
  IsCall (calls.Unlock from m) = Headed terms.MutexUnlock from (InParens (IsAddress m))
  IsCall (calls.Destroy from m) = Headed terms.MutexDestroy from (InParens (IsAddress m))
  IsCall (calls.Init from m n) = Headed terms.MutexInit from (InParens (IsAddress m then Stands terms.Comma then IsNil n))
  IsCall (calls.Create from t a f x) = Headed terms.Create from
      (InParens (IsAddress t then Stands terms.Comma then IsNil a then Stands terms.Comma then IsName f then Stands terms.Comma then IsNil x))
  IsCall (calls.Join from t n) = Headed terms.Join from (InParens (IsName t then Stands terms.Comma then IsNil n))

  -- ---- declarations

  abbrev pub IsLname : Lname → Part
  IsLname l = IsName l.name then Perhaps (λ e. Stands terms.Assign then IsRight e) l.start

  abbrev pub IsLocal : Local → Part
  IsLocal l ts rest = StartsAt l.from ts × (AreAll IsQual l.quals then IsItype l.itype then IsList IsLname l.first l.more) ts rest

abbrev pub IsHandles : Handles → Part
IsHandles h = Headed terms.HandleType h.from (IsList IsName h.first h.more)
