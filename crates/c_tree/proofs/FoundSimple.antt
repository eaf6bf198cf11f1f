-- What is read of the parts of statements stands in the text.
use Rattle.std.proofs.Common.{◌≡◌, ℕ, zero, suc, Bool, true, false, cond, List, [], ◌∷◌, length, codes, Option, Some, None, Ok, refl, subst}
use Rattle.std.proofs.lemmas.Slice.Eq.{bytes_eq-Decides}
use Rattle.c_lex.specs.Tokens.{Lexeme}
use Rattle.c_tree.specs.declared.term.Term.{Term}
use Rattle.c_tree.specs.declared.term.Term.TheVariants as terms
use Rattle.c_tree.specs.declared.expr.Name.{Name}
use Rattle.c_tree.specs.declared.simple.Right.{Right}
use Rattle.c_tree.specs.declared.simple.Right.TheVariants as rights
use Rattle.c_tree.specs.declared.simple.Cond.{Cond}
use Rattle.c_tree.specs.declared.simple.Cond.TheVariants as conds
use Rattle.c_tree.specs.declared.simple.Nil.{Nil}
use Rattle.c_tree.specs.declared.simple.Nil.TheVariants as nils
use Rattle.c_tree.specs.declared.simple.Assign.{Assign}
use Rattle.c_tree.specs.declared.simple.Assign.TheVariants as assigns
use Rattle.c_tree.specs.declared.simple.Call.{Call}
use Rattle.c_tree.specs.declared.simple.Call.TheVariants as calls
use Rattle.c_tree.specs.declared.simple.Qual.{Qual}
use Rattle.c_tree.specs.declared.simple.QualKind.TheVariants as kinds
use Rattle.c_tree.specs.declared.simple.Itype.{Itype}
use Rattle.c_tree.specs.declared.simple.Itype.TheVariants as itypes
use Rattle.c_tree.specs.inside.Input.{Input, Outcome, Parser, peek, place, bytes, bytes_at, next, sees, after, expect, refusal}
use Rattle.c_tree.specs.inside.Chain.{mark_at}
use Rattle.c_tree.specs.inside.Expr as expr_spec
use Rattle.c_tree.specs.inside.Simple as spec
use Rattle.c_tree.specs.Grammar.{Is, IsName, IsExpr}
use Rattle.c_tree.specs.Sequence.{AreAll, InParens}
use Rattle.c_tree.specs.GrammarSimple.{IsQual, IsItype, IsNondet, IsNil, IsAddress, IsRight, IsCond, IsAssign, IsCall}
use Rattle.c_tree.proofs.Steps.{bind_ok, not_err}
use Rattle.c_tree.proofs.Found.{Finds, is_next, expect_found, name_found, expr_found, no_mark}
use Rattle.c_tree.proofs.FoundParts.{given, open_found, close_found, comma_found, stands_found, empty_parens_found, eaten, not_eaten}

-- ---- values

pub nondet_found : Finds spec.nondet IsNondet
unfolding spec.nondet
nondet_found i x j e =
    let a = bind_ok (expect terms.Nondet i) _ x j e in
    let b = bind_ok (spec.empty_parens a.1) _ x j a.3 in
    given IsNondet (record { from = a.0 }) x b.1 j i.tokens b.3 (a.1.tokens, expect_found terms.Nondet (λ h. cc) i a.0 a.1 a.2, empty_parens_found a.1 b.0 b.1 b.2)

-- the next token is the number `0`
zero_there : (k : Term) (text : List ℕ) → spec.is_zero k text ≡ true → (k ≡ terms.Number) × (text ≡ codes "0")
zero_there terms.Number text e = (refl, (bytes_eq-Decides text (codes "0")).0 e)
zero_there _ text e = absurd (let impossible : ◌≡◌ {A = Bool} false true = e in cc)

nil_by : (i : Input) (b : Bool) → spec.is_zero (peek i) (bytes i) ≡ b → (x : Nil) (j : Input)
    → cond {A = Parser Nil} b (λ l. Ok (nils.Zero (place l), next l)) (λ l. Rattle.c_tree.specs.inside.Input.and_then (expect terms.Null l) (λ from m. Ok (nils.Null from, m))) i ≡ Ok (x, j) → IsNil x i.tokens j.tokens
unfolding bytes
nil_by i true is x j e =
    let there = zero_there (peek i) (bytes_at i.tokens) is in
    given IsNil (nils.Zero (place i)) x (next i) j i.tokens e (is_next i terms.Number (λ h. cc) there.0, there.1)
nil_by i false is x j e =
    let a = bind_ok (expect terms.Null i) _ x j e in
    given IsNil (nils.Null a.0) x a.1 j i.tokens a.3 (expect_found terms.Null (λ h. cc) i a.0 a.1 a.2)

pub nil_found : Finds spec.nil IsNil
unfolding spec.nil
nil_found i x j e = nil_by i (spec.is_zero (peek i) (bytes i)) refl x j e

pub address_found : Finds spec.address IsAddress
unfolding spec.address
address_found i x j e =
    let a = bind_ok (expect terms.Address i) _ x j e in
    (a.1.tokens, stands_found terms.Address (λ h. cc) i a.0 a.1 a.2, name_found _ _ _ a.3)

-- ---- types

qual_mark_by : (i : Input) (k : Term) (q : Qual) → peek i ≡ k → spec.qual_mark k (place i) ≡ Some q → IsQual q i.tokens (next i).tokens
qual_mark_by i terms.Static q is e = (let same : ◌≡◌ {A = Qual} (record { from = place i; kind = kinds.Static }) q = cc in subst (λ (x : Qual). IsQual x i.tokens (next i).tokens) same (is_next i terms.Static (λ h. cc) is))
qual_mark_by i terms.Volatile q is e = (let same : ◌≡◌ {A = Qual} (record { from = place i; kind = kinds.Volatile }) q = cc in subst (λ (x : Qual). IsQual x i.tokens (next i).tokens) same (is_next i terms.Volatile (λ h. cc) is))
qual_mark_by i terms.Extern q is e = (let same : ◌≡◌ {A = Qual} (record { from = place i; kind = kinds.Extern }) q = cc in subst (λ (x : Qual). IsQual x i.tokens (next i).tokens) same (is_next i terms.Extern (λ h. cc) is))
qual_mark_by i _ q is e = absurd (no_mark q e)

quals_behind_found : (n : ℕ) (i : Input) (o : Option Qual) → mark_at spec.qual_mark i ≡ o → Finds (spec.quals_from n) (AreAll IsQual) → (x : List Qual) (j : Input) → spec.quals_behind o (spec.quals_from n) i ≡ Ok (x, j) → AreAll IsQual x i.tokens j.tokens
quals_behind_found n i None is others x j e = given (AreAll IsQual) [] x i j i.tokens e refl
quals_behind_found n i (Some q) is others x j e =
    let a = bind_ok (spec.quals_from n (next i)) _ x j e in
    given (AreAll IsQual) (q ∷ a.0) x a.1 j i.tokens a.3 ((next i).tokens, qual_mark_by i (peek i) q refl is, others (next i) a.0 a.1 a.2)

quals_from_found : (n : ℕ) → Finds (spec.quals_from n) (AreAll IsQual)
unfolding spec.quals_from
quals_from_found zero i x j e = given (AreAll IsQual) [] x i j i.tokens e refl
quals_from_found (suc n) i x j e = quals_behind_found n i (mark_at spec.qual_mark i) refl (quals_from_found n) x j e

pub quals_found : Finds spec.quals (AreAll IsQual)
unfolding spec.quals
quals_found i x j e = quals_from_found (length i.tokens) i x j e

long_found : (i : Input) (b : Bool) → peek i ≡ terms.Long → sees terms.Int (next i) ≡ b → IsItype (spec.long_if (place i) b) i.tokens (after terms.Int (next i)).tokens
long_found i true is long = ((next i).tokens, is_next i terms.Long (λ h. cc) is, eaten terms.Int (λ h. cc) (next i) long)
long_found i false is long = subst (λ (l : List Lexeme). Is terms.Long (place i) i.tokens l) (not_eaten terms.Int (next i) long) (is_next i terms.Long (λ h. cc) is)

itype_by_found : (i : Input) (k : Term) → peek i ≡ k → (x : Itype) (j : Input) → spec.itype_by k i ≡ Ok (x, j) → IsItype x i.tokens j.tokens
itype_by_found i terms.Int is x j e = given IsItype (itypes.Int (place i)) x (next i) j i.tokens e (is_next i terms.Int (λ h. cc) is)
itype_by_found i terms.Long is x j e = given IsItype (spec.long_if (place i) (sees terms.Int (next i))) x (after terms.Int (next i)) j i.tokens e (long_found i (sees terms.Int (next i)) is refl)
itype_by_found i _ is x j e = absurd (not_err (refusal i) x j e)

pub itype_found : Finds spec.itype IsItype
unfolding spec.itype
itype_found i x j e = itype_by_found i (peek i) refl x j e

-- ---- arguments

lock_argument_found : Finds spec.lock_argument (λ m. InParens (IsAddress m))
unfolding spec.lock_argument
lock_argument_found i x j e =
    let a = bind_ok (expect terms.LeftParen i) _ x j e in
    let b = bind_ok (spec.address a.1) _ x j a.3 in
    let c = bind_ok (expect terms.RightParen b.1) _ x j b.3 in
    given (λ m. InParens (IsAddress m)) b.0 x c.1 j i.tokens c.3 (a.1.tokens, open_found i a.0 a.1 a.2, (b.1.tokens, address_found a.1 b.0 b.1 b.2, close_found b.1 c.0 c.1 c.2))

exit_argument_found : Finds spec.exit_argument (λ n. InParens (IsNil n))
unfolding spec.exit_argument
exit_argument_found i x j e =
    let a = bind_ok (expect terms.LeftParen i) _ x j e in
    let b = bind_ok (spec.nil a.1) _ x j a.3 in
    let c = bind_ok (expect terms.RightParen b.1) _ x j b.3 in
    given (λ n. InParens (IsNil n)) b.0 x c.1 j i.tokens c.3 (a.1.tokens, open_found i a.0 a.1 a.2, (b.1.tokens, nil_found a.1 b.0 b.1 b.2, close_found b.1 c.0 c.1 c.2))

module _ (levels : ℕ) where
  argument_found : Finds (spec.argument levels) (λ e. InParens (IsExpr levels e))
  unfolding spec.argument
  argument_found i x j e =
      let a = bind_ok (expect terms.LeftParen i) _ x j e in
      let b = bind_ok (expr_spec.expr levels a.1) _ x j a.3 in
      let c = bind_ok (expect terms.RightParen b.1) _ x j b.3 in
      given (λ y. InParens (IsExpr levels y)) b.0 x c.1 j i.tokens c.3 (a.1.tokens, open_found i a.0 a.1 a.2, (b.1.tokens, expr_found levels a.1 b.0 b.1 b.2, close_found b.1 c.0 c.1 c.2))

  init_found : (i : Input) → peek i ≡ terms.MutexInit → (x : Call) (j : Input) → spec.init (place i) (next i) ≡ Ok (x, j) → IsCall levels x i.tokens j.tokens
  unfolding spec.init
  init_found i is x j e =
      let a = bind_ok (expect terms.LeftParen (next i)) _ x j e in
      let b = bind_ok (spec.address a.1) _ x j a.3 in
      let c = bind_ok (expect terms.Comma b.1) _ x j b.3 in
      let d = bind_ok (spec.nil c.1) _ x j c.3 in
      let f = bind_ok (expect terms.RightParen d.1) _ x j d.3 in
      given (IsCall levels) (calls.Init (place i) b.0 d.0) x f.1 j i.tokens f.3
      ((next i).tokens, is_next i terms.MutexInit (λ h. cc) is, (a.1.tokens, open_found (next i) a.0 a.1 a.2, (d.1.tokens, (b.1.tokens, address_found a.1 b.0 b.1 b.2, (c.1.tokens, comma_found b.1 c.0 c.1 c.2, nil_found c.1 d.0 d.1 d.2)), close_found d.1 f.0 f.1 f.2)))

  create_found : (i : Input) → peek i ≡ terms.Create → (x : Call) (j : Input) → spec.create (place i) (next i) ≡ Ok (x, j) → IsCall levels x i.tokens j.tokens
  unfolding spec.create
  create_found i is x j e =
      let a = bind_ok (expect terms.LeftParen (next i)) _ x j e in
      let b = bind_ok (spec.address a.1) _ x j a.3 in
      let c = bind_ok (expect terms.Comma b.1) _ x j b.3 in
      let d = bind_ok (spec.nil c.1) _ x j c.3 in
      let f = bind_ok (expect terms.Comma d.1) _ x j d.3 in
      let g = bind_ok (expr_spec.name f.1) _ x j f.3 in
      let h = bind_ok (expect terms.Comma g.1) _ x j g.3 in
      let k = bind_ok (spec.nil h.1) _ x j h.3 in
      let l = bind_ok (expect terms.RightParen k.1) _ x j k.3 in
      given (IsCall levels) (calls.Create (place i) b.0 d.0 g.0 k.0) x l.1 j i.tokens l.3 (
        (next i).tokens,
        is_next i terms.Create (λ h. cc) is,
        (
          a.1.tokens,
          open_found (next i) a.0 a.1 a.2,
          (k.1.tokens, (b.1.tokens, address_found a.1 b.0 b.1 b.2, (c.1.tokens, comma_found b.1 c.0 c.1 c.2, (d.1.tokens, nil_found c.1 d.0 d.1 d.2, (f.1.tokens, comma_found d.1 f.0 f.1 f.2, (g.1.tokens, name_found f.1 g.0 g.1 g.2, (h.1.tokens, comma_found g.1 h.0 h.1 h.2, nil_found h.1 k.0 k.1 k.2)))))), close_found k.1 l.0 l.1 l.2),
        ),
      )

  join_found : (i : Input) → peek i ≡ terms.Join → (x : Call) (j : Input) → spec.join (place i) (next i) ≡ Ok (x, j) → IsCall levels x i.tokens j.tokens
  unfolding spec.join
  join_found i is x j e =
      let a = bind_ok (expect terms.LeftParen (next i)) _ x j e in
      let b = bind_ok (expr_spec.name a.1) _ x j a.3 in
      let c = bind_ok (expect terms.Comma b.1) _ x j b.3 in
      let d = bind_ok (spec.nil c.1) _ x j c.3 in
      let f = bind_ok (expect terms.RightParen d.1) _ x j d.3 in
      given (IsCall levels) (calls.Join (place i) b.0 d.0) x f.1 j i.tokens f.3
      ((next i).tokens, is_next i terms.Join (λ h. cc) is, (a.1.tokens, open_found (next i) a.0 a.1 a.2, (d.1.tokens, (b.1.tokens, name_found a.1 b.0 b.1 b.2, (c.1.tokens, comma_found b.1 c.0 c.1 c.2, nil_found c.1 d.0 d.1 d.2)), close_found d.1 f.0 f.1 f.2)))

  -- ---- calls

  call_by_found : (i : Input) (k : Term) → peek i ≡ k → (x : Call) (j : Input) → spec.call_by levels k i ≡ Ok (x, j) → IsCall levels x i.tokens j.tokens
  call_by_found i terms.Assert is x j e = (let a = bind_ok (spec.argument levels (next i)) _ x j e in given (IsCall levels) (calls.Assert (place i) a.0) x a.1 j i.tokens a.3 ((next i).tokens, is_next i terms.Assert (λ h. cc) is, argument_found (next i) a.0 a.1 a.2))
  call_by_found i terms.Assume is x j e = (let a = bind_ok (spec.argument levels (next i)) _ x j e in given (IsCall levels) (calls.Assume (place i) a.0) x a.1 j i.tokens a.3 ((next i).tokens, is_next i terms.Assume (λ h. cc) is, argument_found (next i) a.0 a.1 a.2))
  call_by_found i terms.ReachError is x j e = (let a = bind_ok (spec.empty_parens (next i)) _ x j e in given (IsCall levels) (calls.ReachError (place i)) x a.1 j i.tokens a.3 ((next i).tokens, is_next i terms.ReachError (λ h. cc) is, empty_parens_found (next i) a.0 a.1 a.2))
  call_by_found i terms.Abort is x j e = (let a = bind_ok (spec.empty_parens (next i)) _ x j e in given (IsCall levels) (calls.Abort (place i)) x a.1 j i.tokens a.3 ((next i).tokens, is_next i terms.Abort (λ h. cc) is, empty_parens_found (next i) a.0 a.1 a.2))
  call_by_found i terms.Exit is x j e = (let a = bind_ok (spec.exit_argument (next i)) _ x j e in given (IsCall levels) (calls.Exit (place i) a.0) x a.1 j i.tokens a.3 ((next i).tokens, is_next i terms.Exit (λ h. cc) is, exit_argument_found (next i) a.0 a.1 a.2))
  call_by_found i terms.MutexLock is x j e = (let a = bind_ok (spec.lock_argument (next i)) _ x j e in given (IsCall levels) (calls.Lock (place i) a.0) x a.1 j i.tokens a.3 ((next i).tokens, is_next i terms.MutexLock (λ h. cc) is, lock_argument_found (next i) a.0 a.1 a.2))
  call_by_found i terms.MutexUnlock is x j e = (let a = bind_ok (spec.lock_argument (next i)) _ x j e in given (IsCall levels) (calls.Unlock (place i) a.0) x a.1 j i.tokens a.3 ((next i).tokens, is_next i terms.MutexUnlock (λ h. cc) is, lock_argument_found (next i) a.0 a.1 a.2))
  call_by_found i terms.MutexDestroy is x j e = (let a = bind_ok (spec.lock_argument (next i)) _ x j e in given (IsCall levels) (calls.Destroy (place i) a.0) x a.1 j i.tokens a.3 ((next i).tokens, is_next i terms.MutexDestroy (λ h. cc) is, lock_argument_found (next i) a.0 a.1 a.2))
  call_by_found i terms.MutexInit is x j e = init_found i is x j e
  call_by_found i terms.Create is x j e = create_found i is x j e
  call_by_found i terms.Join is x j e = join_found i is x j e
  call_by_found i _ is x j e = absurd (not_err (refusal i) x j e)

  pub call_found : Finds (spec.call levels) (IsCall levels)
  unfolding spec.call
  call_found i x j e = call_by_found i (peek i) refl x j e

  -- ---- conditions and assignments

  right_by_found : (i : Input) (k : Term) (x : Right) (j : Input) → spec.right_by levels k i ≡ Ok (x, j) → IsRight levels x i.tokens j.tokens
  right_by_found i terms.Nondet x j e = (let a = bind_ok (spec.nondet i) _ x j e in given (IsRight levels) (rights.Nondet a.0) x a.1 j i.tokens a.3 (nondet_found i a.0 a.1 a.2))
  right_by_found i _ x j e = (let a = bind_ok (expr_spec.expr levels i) _ x j e in given (IsRight levels) (rights.Expr a.0) x a.1 j i.tokens a.3 (expr_found levels i a.0 a.1 a.2))

  pub right_found : Finds (spec.right levels) (IsRight levels)
  unfolding spec.right
  right_found i x j e = right_by_found i (peek i) x j e

  cond_by_found : (i : Input) (k : Term) (x : Cond) (j : Input) → spec.cond_by levels k i ≡ Ok (x, j) → IsCond levels x i.tokens j.tokens
  cond_by_found i terms.Nondet x j e = (let a = bind_ok (spec.nondet i) _ x j e in given (IsCond levels) (conds.Nondet a.0) x a.1 j i.tokens a.3 (nondet_found i a.0 a.1 a.2))
  cond_by_found i _ x j e = (let a = bind_ok (expr_spec.expr levels i) _ x j e in given (IsCond levels) (conds.Expr a.0) x a.1 j i.tokens a.3 (expr_found levels i a.0 a.1 a.2))

  pub cond_found : Finds (spec.cond levels) (IsCond levels)
  unfolding spec.cond
  cond_found i x j e = cond_by_found i (peek i) x j e

  -- behind a name, which stands at some tokens
  assigned_by_found : (x : Name) (ts : List Lexeme) (i : Input) → IsName x ts i.tokens → (k : Term) → peek i ≡ k → (y : Assign) (j : Input) → spec.assigned_by levels x k i ≡ Ok (y, j) → IsAssign levels y ts j.tokens
  assigned_by_found x ts i named terms.Assign is y j e =
      (let a = bind_ok (spec.right levels (next i)) _ y j e in given (IsAssign levels) (assigns.Set x a.0) y a.1 j ts a.3 (i.tokens, named, ((next i).tokens, (place i, is_next i terms.Assign (λ h. cc) is), right_found (next i) a.0 a.1 a.2)))
  assigned_by_found x ts i named terms.AddTo is y j e =
      (let a = bind_ok (expr_spec.expr levels (next i)) _ y j e in given (IsAssign levels) (assigns.Add x a.0) y a.1 j ts a.3 (i.tokens, named, ((next i).tokens, (place i, is_next i terms.AddTo (λ h. cc) is), expr_found levels (next i) a.0 a.1 a.2)))
  assigned_by_found x ts i named terms.SubtractFrom is y j e =
      (let a = bind_ok (expr_spec.expr levels (next i)) _ y j e in given (IsAssign levels) (assigns.Subtract x a.0) y a.1 j ts a.3 (i.tokens, named, ((next i).tokens, (place i, is_next i terms.SubtractFrom (λ h. cc) is), expr_found levels (next i) a.0 a.1 a.2)))
  assigned_by_found x ts i named terms.Increment is y j e = given (IsAssign levels) (assigns.Increment x) y (next i) j ts e (i.tokens, named, (place i, is_next i terms.Increment (λ h. cc) is))
  assigned_by_found x ts i named terms.Decrement is y j e = given (IsAssign levels) (assigns.Decrement x) y (next i) j ts e (i.tokens, named, (place i, is_next i terms.Decrement (λ h. cc) is))
  assigned_by_found x ts i named _ is y j e = absurd (not_err (refusal i) y j e)

  assigned_found : Finds (spec.assigned levels) (IsAssign levels)
  unfolding spec.assigned
  assigned_found i y j e =
      let a = bind_ok (expr_spec.name i) _ y j e in
      assigned_by_found a.0 i.tokens a.1 (name_found i a.0 a.1 a.2) (peek a.1) refl y j a.3

  assign_by_found : (i : Input) (k : Term) → peek i ≡ k → (x : Assign) (j : Input) → spec.assign_by levels k i ≡ Ok (x, j) → IsAssign levels x i.tokens j.tokens
  assign_by_found i terms.Name is x j e = assigned_found i x j e
  assign_by_found i terms.Increment is x j e = (let a = bind_ok (expr_spec.name (next i)) _ x j e in given (IsAssign levels) (assigns.IncrementFirst (place i) a.0) x a.1 j i.tokens a.3 ((next i).tokens, is_next i terms.Increment (λ h. cc) is, name_found (next i) a.0 a.1 a.2))
  assign_by_found i terms.Decrement is x j e = (let a = bind_ok (expr_spec.name (next i)) _ x j e in given (IsAssign levels) (assigns.DecrementFirst (place i) a.0) x a.1 j i.tokens a.3 ((next i).tokens, is_next i terms.Decrement (λ h. cc) is, name_found (next i) a.0 a.1 a.2))
  assign_by_found i _ is x j e = absurd (not_err (refusal i) x j e)

  pub assign_found : Finds (spec.assign levels) (IsAssign levels)
  unfolding spec.assign
  assign_found i x j e = assign_by_found i (peek i) refl x j e
