-- The parts of statements that stand in the text are read.
use Rattle.std.proofs.Common.{◌≡◌, ℕ, zero, suc, Bool, true, false, List, Ok, refl, ap, ◌∙◌}
use Rattle.c_lex.specs.Tokens.{Lexeme}
use Rattle.c_tree.specs.declared.term.Term.{Term}
use Rattle.c_tree.specs.declared.term.Term.TheVariants as terms
use Rattle.c_tree.specs.declared.expr.Expr.{Expr, out-Expr}
use Rattle.c_tree.specs.declared.expr.Conjunction.{Conjunction, out-Conjunction}
use Rattle.c_tree.specs.declared.expr.Equality.{Equality, out-Equality}
use Rattle.c_tree.specs.declared.expr.Relation.{Relation, out-Relation}
use Rattle.c_tree.specs.declared.expr.Sum.{Sum, out-Sum}
use Rattle.c_tree.specs.declared.expr.Product.{Product, out-Product}
use Rattle.c_tree.specs.declared.expr.Unary.{Unary, out-Unary}
use Rattle.c_tree.specs.declared.expr.Unary.TheOpen.{Unary-F}
use Rattle.c_tree.specs.declared.expr.UnaryKind.{UnaryKind}
use Rattle.c_tree.specs.declared.expr.UnaryKind.TheVariants as signs
use Rattle.c_tree.specs.declared.simple.Right.TheVariants as rights
use Rattle.c_tree.specs.declared.simple.Cond.TheVariants as conds
use Rattle.c_tree.specs.declared.simple.Nil.TheVariants as nils
use Rattle.c_tree.specs.declared.simple.Assign.TheVariants as assigns
use Rattle.c_tree.specs.declared.simple.Call.TheVariants as calls
use Rattle.c_tree.specs.inside.Input.{Input, Parser, peek, bytes, expect, term_at}
use Rattle.c_tree.specs.inside.Expr as expr_spec
use Rattle.c_tree.specs.inside.Simple as spec
use Rattle.c_tree.specs.Grammar.{IsExpr, IsUnary, IsLayer, sign_term}
use Rattle.c_tree.specs.Sequence.{Part, InParens}
use Rattle.c_tree.specs.GrammarSimple.{IsNondet, IsNil, IsAddress, IsRight, IsCond, IsAssign, IsCall}
use Rattle.c_tree.proofs.Again.{is_peek, is_place, is_behind, is_term, expect_again, name_again}
use Rattle.c_tree.proofs.AgainParts.{Always, Closed, closed, expr_closed, stands_again, empty_parens_again}

-- ---- values

pub nondet_again : Always spec.nondet IsNondet
unfolding spec.nondet
nondet_again end n ts rest is = rw (expect_again terms.Nondet n.from end ts is.0 is.1, empty_parens_again end is.0 rest is.2) refl

pub nil_again : Always spec.nil IsNil
unfolding spec.nil bytes
nil_again end (nils.Null from) ts rest is = rw (is_peek terms.Null from end ts rest is, expect_again terms.Null from end ts rest is) refl
nil_again end (nils.Zero from) ts rest is = rw (is_peek terms.Number from end ts rest is.0, is.1, is_place terms.Number from end ts rest is.0, is_behind terms.Number from end ts rest is.0) refl

pub address_again : Always spec.address IsAddress
unfolding spec.address
address_again end x ts rest is = rw (stands_again terms.Address end ts is.0 is.1) (name_again end x is.0 rest is.2)

-- ---- an operand begins an expression

-- the token begins an operand
abbrev pub leads : Term → Bool
leads terms.Minus = true
leads terms.Plus = true
leads terms.Not = true
leads terms.LeftParen = true
leads terms.Number = true
leads terms.Name = true
leads _ = false

sign_leads : (kind : UnaryKind) → leads (sign_term kind) ≡ true
sign_leads signs.Minus = refl
sign_leads signs.Plus = refl
sign_leads signs.Not = refl

layer_leads : (Inner : Unary → Part) (layer : Unary-F Unary Conjunction Equality Expr Product Relation Sum) (ts rest : List Lexeme) → IsLayer Inner layer ts rest → leads (term_at ts) ≡ true
layer_leads Inner (Unary-F.Operator from kind operand) ts rest is = ap leads (is_term (sign_term kind) from ts is.0 is.1) ∙ sign_leads kind
layer_leads Inner (Unary-F.Paren from inner) ts rest is = ap leads (is_term terms.LeftParen from ts is.0 is.2)
layer_leads Inner (Unary-F.Number from value) ts rest is = ap leads (is_term terms.Number from ts rest is.0)
layer_leads Inner (Unary-F.Name name) ts rest is = ap leads (is_term terms.Name name.from ts rest is.0)

unary_leads : (levels : ℕ) (u : Unary) (ts rest : List Lexeme) → IsUnary levels u ts rest → leads (term_at ts) ≡ true
unary_leads zero u ts rest is = layer_leads (λ inner a b. ⊥) (out-Unary u) ts rest is
unary_leads (suc levels) u ts rest is = layer_leads (IsUnary levels) (out-Unary u) ts rest is

pub expr_leads : (levels : ℕ) (e : Expr) (ts rest : List Lexeme) → IsExpr levels e ts rest → leads (term_at ts) ≡ true
expr_leads levels e ts rest is =
    unary_leads levels (out-Product (out-Sum (out-Relation (out-Equality (out-Conjunction (out-Expr e).first).first).first).first).first).first ts _ is.2.2.2.2.2.2

impossible : {A : Type 0} → ◌≡◌ {A = Bool} false true → A
impossible e = absurd cc

-- ---- arguments

lock_argument_again : Always spec.lock_argument (λ m. InParens (IsAddress m))
unfolding spec.lock_argument
lock_argument_again end m ts rest is = rw (stands_again terms.LeftParen end ts is.0 is.1, address_again end m is.0 is.2.0 is.2.1, stands_again terms.RightParen end is.2.0 rest is.2.2) refl

exit_argument_again : Always spec.exit_argument (λ n. InParens (IsNil n))
unfolding spec.exit_argument
exit_argument_again end n ts rest is = rw (stands_again terms.LeftParen end ts is.0 is.1, nil_again end n is.0 is.2.0 is.2.1, stands_again terms.RightParen end is.2.0 rest is.2.2) refl

module _ (levels : ℕ) where
  right_by_again : (k : Term) → leads k ≡ true → spec.right_by levels k ≡ (λ i. Rattle.c_tree.specs.inside.Input.and_then (expr_spec.expr levels i) (λ e j. Ok (rights.Expr e, j)))
  right_by_again terms.Nondet so = impossible so
  right_by_again _ so = refl

  pub right_again : Closed (spec.right levels) (IsRight levels)
  unfolding spec.right peek
  right_again end (rights.Nondet n) ts rest is so = rw (is_term terms.Nondet n.from ts is.0 is.1, nondet_again end n ts rest is) refl
  right_again end (rights.Expr e) ts rest is so = rw (right_by_again (term_at ts) (expr_leads levels e ts rest is), expr_closed levels end e ts rest is so) refl

  cond_by_again : (k : Term) → leads k ≡ true → spec.cond_by levels k ≡ (λ i. Rattle.c_tree.specs.inside.Input.and_then (expr_spec.expr levels i) (λ e j. Ok (conds.Expr e, j)))
  cond_by_again terms.Nondet so = impossible so
  cond_by_again _ so = refl

  pub cond_again : Closed (spec.cond levels) (IsCond levels)
  unfolding spec.cond peek
  cond_again end (conds.Nondet n) ts rest is so = rw (is_term terms.Nondet n.from ts is.0 is.1, nondet_again end n ts rest is) refl
  cond_again end (conds.Expr e) ts rest is so = rw (cond_by_again (term_at ts) (expr_leads levels e ts rest is), expr_closed levels end e ts rest is so) refl

  -- ---- assignments

  pub assign_again : Closed (spec.assign levels) (IsAssign levels)
  unfolding spec.assign spec.assigned
  assign_again end (assigns.Set x e) ts rest is so =
      let mark = is.2.1 in
      rw (is_peek terms.Name x.from end ts is.0 is.1.0, name_again end x ts is.0 is.1, is_peek terms.Assign mark.0 end is.0 is.2.0 mark.1, is_behind terms.Assign mark.0 end is.0 is.2.0 mark.1, right_again end e is.2.0 rest is.2.2 so) refl
  assign_again end (assigns.Add x e) ts rest is so =
      let mark = is.2.1 in
      rw (is_peek terms.Name x.from end ts is.0 is.1.0, name_again end x ts is.0 is.1, is_peek terms.AddTo mark.0 end is.0 is.2.0 mark.1, is_behind terms.AddTo mark.0 end is.0 is.2.0 mark.1, expr_closed levels end e is.2.0 rest is.2.2 so) refl
  assign_again end (assigns.Subtract x e) ts rest is so =
      let mark = is.2.1 in
      rw (is_peek terms.Name x.from end ts is.0 is.1.0, name_again end x ts is.0 is.1, is_peek terms.SubtractFrom mark.0 end is.0 is.2.0 mark.1, is_behind terms.SubtractFrom mark.0 end is.0 is.2.0 mark.1, expr_closed levels end e is.2.0 rest is.2.2 so) refl
  assign_again end (assigns.Increment x) ts rest is so =
      let mark = is.2 in
      rw (is_peek terms.Name x.from end ts is.0 is.1.0, name_again end x ts is.0 is.1, is_peek terms.Increment mark.0 end is.0 rest mark.1, is_behind terms.Increment mark.0 end is.0 rest mark.1) refl
  assign_again end (assigns.Decrement x) ts rest is so =
      let mark = is.2 in
      rw (is_peek terms.Name x.from end ts is.0 is.1.0, name_again end x ts is.0 is.1, is_peek terms.Decrement mark.0 end is.0 rest mark.1, is_behind terms.Decrement mark.0 end is.0 rest mark.1) refl
  assign_again end (assigns.IncrementFirst from x) ts rest is so =
      rw (is_peek terms.Increment from end ts is.0 is.1, is_place terms.Increment from end ts is.0 is.1, is_behind terms.Increment from end ts is.0 is.1, name_again end x is.0 rest is.2) refl
  assign_again end (assigns.DecrementFirst from x) ts rest is so =
      rw (is_peek terms.Decrement from end ts is.0 is.1, is_place terms.Decrement from end ts is.0 is.1, is_behind terms.Decrement from end ts is.0 is.1, name_again end x is.0 rest is.2) refl

  -- ---- calls

  argument_again : Always (spec.argument levels) (λ e. InParens (IsExpr levels e))
  unfolding spec.argument
  argument_again end e ts rest is =
      let so = closed terms.RightParen refl is.2.0 rest is.2.2 in
      rw (stands_again terms.LeftParen end ts is.0 is.1, expr_closed levels end e is.0 is.2.0 is.2.1 so, stands_again terms.RightParen end is.2.0 rest is.2.2) refl

  pub call_again : Always (spec.call levels) (IsCall levels)
  unfolding spec.call spec.init spec.create spec.join
  call_again end (calls.Assert from e) ts rest is =
      rw (is_peek terms.Assert from end ts is.0 is.1, is_place terms.Assert from end ts is.0 is.1, is_behind terms.Assert from end ts is.0 is.1, argument_again end e is.0 rest is.2) refl
  call_again end (calls.Assume from e) ts rest is =
      rw (is_peek terms.Assume from end ts is.0 is.1, is_place terms.Assume from end ts is.0 is.1, is_behind terms.Assume from end ts is.0 is.1, argument_again end e is.0 rest is.2) refl
  call_again end (calls.ReachError from) ts rest is =
      rw (is_peek terms.ReachError from end ts is.0 is.1, is_place terms.ReachError from end ts is.0 is.1, is_behind terms.ReachError from end ts is.0 is.1, empty_parens_again end is.0 rest is.2) refl
  call_again end (calls.Abort from) ts rest is =
      rw (is_peek terms.Abort from end ts is.0 is.1, is_place terms.Abort from end ts is.0 is.1, is_behind terms.Abort from end ts is.0 is.1, empty_parens_again end is.0 rest is.2) refl
  call_again end (calls.Exit from n) ts rest is =
      rw (is_peek terms.Exit from end ts is.0 is.1, is_place terms.Exit from end ts is.0 is.1, is_behind terms.Exit from end ts is.0 is.1, exit_argument_again end n is.0 rest is.2) refl
  call_again end (calls.Lock from m) ts rest is =
      rw (is_peek terms.MutexLock from end ts is.0 is.1, is_place terms.MutexLock from end ts is.0 is.1, is_behind terms.MutexLock from end ts is.0 is.1, lock_argument_again end m is.0 rest is.2) refl
  call_again end (calls.Unlock from m) ts rest is =
      rw (is_peek terms.MutexUnlock from end ts is.0 is.1, is_place terms.MutexUnlock from end ts is.0 is.1, is_behind terms.MutexUnlock from end ts is.0 is.1, lock_argument_again end m is.0 rest is.2) refl
  call_again end (calls.Destroy from m) ts rest is =
      rw (is_peek terms.MutexDestroy from end ts is.0 is.1, is_place terms.MutexDestroy from end ts is.0 is.1, is_behind terms.MutexDestroy from end ts is.0 is.1, lock_argument_again end m is.0 rest is.2) refl
  call_again end (calls.Init from m n) ts rest is =
      let inside = is.2.2.1 in
      rw (
        is_peek terms.MutexInit from end ts is.0 is.1,
        is_place terms.MutexInit from end ts is.0 is.1,
        is_behind terms.MutexInit from end ts is.0 is.1,
        stands_again terms.LeftParen end is.0 is.2.0 is.2.1,
        address_again end m is.2.0 inside.0 inside.1,
        stands_again terms.Comma end inside.0 inside.2.0 inside.2.1,
        nil_again end n inside.2.0 is.2.2.0 inside.2.2,
        stands_again terms.RightParen end is.2.2.0 rest is.2.2.2,
      ) refl
  call_again end (calls.Create from t a f x) ts rest is =
      let one = is.2.2.1 in
      let two = one.2.2 in
      let three = two.2.2 in
      rw (
        is_peek terms.Create from end ts is.0 is.1,
        is_place terms.Create from end ts is.0 is.1,
        is_behind terms.Create from end ts is.0 is.1,
        stands_again terms.LeftParen end is.0 is.2.0 is.2.1,
        address_again end t is.2.0 one.0 one.1,
        stands_again terms.Comma end one.0 one.2.0 one.2.1,
        nil_again end a one.2.0 two.0 two.1,
        stands_again terms.Comma end two.0 two.2.0 two.2.1,
        name_again end f two.2.0 three.0 three.1,
        stands_again terms.Comma end three.0 three.2.0 three.2.1,
        nil_again end x three.2.0 is.2.2.0 three.2.2,
        stands_again terms.RightParen end is.2.2.0 rest is.2.2.2,
      ) refl
  call_again end (calls.Join from t n) ts rest is =
      let inside = is.2.2.1 in
      rw (
        is_peek terms.Join from end ts is.0 is.1,
        is_place terms.Join from end ts is.0 is.1,
        is_behind terms.Join from end ts is.0 is.1,
        stands_again terms.LeftParen end is.0 is.2.0 is.2.1,
        name_again end t is.2.0 inside.0 inside.1,
        stands_again terms.Comma end inside.0 inside.2.0 inside.2.1,
        nil_again end n inside.2.0 is.2.2.0 inside.2.2,
        stands_again terms.RightParen end is.2.2.0 rest is.2.2.2,
      ) refl
