-- The parts of statements, and what completes them, with more levels.
use Rattle.std.proofs.Common.{◌≡◌, ℕ, ◌<◌, Bool, true, false, not, cond, List, [], ◌∷◌, Some, None, refl, ap}
use Rattle.std.proofs.lemmas.Bool.{lt-ltb}
use Rattle.c_lex.specs.Tokens.{Lexeme}
use Rattle.c_tree.specs.declared.term.Term.{Term}
use Rattle.c_tree.specs.declared.term.Term.TheVariants as terms
use Rattle.c_tree.specs.declared.expr.Name.{Name}
use Rattle.c_tree.specs.declared.simple.Nondet.{Nondet}
use Rattle.c_tree.specs.declared.simple.Right.TheVariants as rights
use Rattle.c_tree.specs.declared.simple.Cond.TheVariants as conds
use Rattle.c_tree.specs.declared.simple.Nil.{Nil}
use Rattle.c_tree.specs.declared.simple.Nil.TheVariants as nils
use Rattle.c_tree.specs.declared.simple.Assign.TheVariants as assigns
use Rattle.c_tree.specs.declared.simple.Call.TheVariants as calls
use Rattle.c_tree.specs.declared.simple.Qual.{Qual}
use Rattle.c_tree.specs.declared.simple.Itype.{Itype}
use Rattle.c_tree.specs.declared.simple.Itype.TheVariants as itypes
use Rattle.c_tree.specs.declared.simple.Lname.{Lname}
use Rattle.c_tree.specs.declared.simple.Local.{Local}
use Rattle.c_tree.specs.declared.simple.Handles.{Handles}
use Rattle.c_tree.specs.Term.{same_term, term_of}
use Rattle.c_tree.specs.inside.Input.{Input, Parser, ◌>>=◌, pure, look, take_token, expect, peek, bytes, term_at}
use Rattle.c_tree.specs.inside.Chain.{more_of}
use Rattle.c_tree.specs.inside.Expr as expr_spec
use Rattle.c_tree.specs.inside.Simple as spec
use Rattle.c_tree.specs.Grammar.{binds}
use Rattle.c_tree.proofs.Shrinks.{name_shrinks}
use Rattle.c_tree.proofs.Sizes.{lname_shrinks}
use Rattle.c_tree.proofs.Again.{at, same_self}
use Rattle.c_tree.proofs.AgainParts.{closes, closes_binds, not_assign}
use Rattle.c_tree.proofs.NextToken.{Views, views_peek, views_bytes, seeing}
use Rattle.c_tree.proofs.Completing.{any, Fills, FinishesAt, Completes, bind, fill_bind}
use Rattle.c_tree.proofs.Fillers.{IsToken, zero_token, name_token, int_token, nondet_token, abort_token, open_token, close_token, semicolon, comma_token, address_token, increment_token, is_zero, is_name, is_int, is_null, is_nondet, is_abort, is_open, is_close, is_semicolon, is_comma, is_address, is_increment}
use Rattle.c_tree.proofs.CompletingSteps.{something, leads_any, leads_none, leads_token, filled, closer, same_completes, pure_completes, refuse_at, seen_some, Branches, looked, looked_fill, placed, placed_fill, Takes, taking, take_fill, expect_completes, wanted, ended, is_not, eaten}
use Rattle.c_tree.proofs.CompletingLoops.{only, more_completes}
use Rattle.c_tree.proofs.CompletingSkips.{no_qual, quals_completes, qual_fill}
use Rattle.c_tree.proofs.CompletingExpr.{name_fill, name_completes, zero_fill, looser, expr_completes}

pub empty_parens_completes : Completes spec.empty_parens spec.empty_parens (open_token ∷ close_token ∷ []) any
empty_parens_completes = wanted is_open (λ o. expect_completes close_token terms.RightParen is_close)

nondet_completes : Completes spec.nondet spec.nondet (nondet_token ∷ open_token ∷ close_token ∷ []) any
unfolding spec.nondet
nondet_completes = wanted is_nondet (λ from. bind empty_parens_completes leads_any (λ c. pure_completes {A = Nondet} (record { from = from })))

-- ---- `NULL` and `0`

sees_zero : Input → Bool
sees_zero i = spec.is_zero (peek i) (bytes i)

views_zero : Views sees_zero
unfolding sees_zero
views_zero end ts us same = rw (views_peek end ts us same, views_bytes end ts us same) refl

nil_by : Bool → Parser Nil
nil_by b = cond {A = Parser Nil} b (take_token >>= λ from. pure (nils.Zero from)) (expect terms.Null >>= λ from. pure (nils.Null from))

zero_is_number : (k : Term) (text : List ℕ) → spec.is_zero k text ≡ true → k ≡ terms.Number
zero_is_number terms.Number text is = refl
zero_is_number _ text is = absurd cc

nil_there : (b : Bool) (end : ℕ) (ts : List Lexeme) → sees_zero (at ts end) ≡ b → FinishesAt (nil_by b) (nil_by b) something any end ts
unfolding sees_zero nil_by peek bytes
nil_there true end ts is = (taking {k = terms.Number} refl (λ from. pure_completes (nils.Zero from))).there end ts (zero_is_number (term_at ts) _ is)
nil_there false end ts is = filled ((wanted is_null (λ from. pure_completes (nils.Null from))).there end ts)

pub nil_completes : Completes spec.nil spec.nil zero_fill any
unfolding spec.nil sees_zero nil_by peek bytes
nil_completes = same_completes spec.nil spec.nil (seeing sees_zero >>= nil_by) (seeing sees_zero >>= nil_by) (λ i. refl) (λ i. refl)
    (seen_some {us = []} sees_zero views_zero nil_there true (λ end tail. refl) (fill_bind (take_fill {C = any} zero_token) (λ from. (pure_completes (nils.Zero from)).fill) leads_any))

-- ---- arguments

address_completes : Completes spec.address spec.address (address_token ∷ name_token ∷ []) any
unfolding spec.address
address_completes = wanted is_address (λ a. name_completes)

lock_argument_completes : Completes spec.lock_argument spec.lock_argument (open_token ∷ address_token ∷ name_token ∷ close_token ∷ []) any
unfolding spec.lock_argument
lock_argument_completes = wanted is_open (λ o. bind address_completes leads_any (λ m. ended is_close m))

exit_argument_completes : Completes spec.exit_argument spec.exit_argument (open_token ∷ zero_token ∷ close_token ∷ []) any
unfolding spec.exit_argument
exit_argument_completes = wanted is_open (λ o. bind nil_completes leads_any (λ n. ended is_close n))

init_completes : (from : ℕ) → Completes (spec.init from) (spec.init from) (open_token ∷ address_token ∷ name_token ∷ comma_token ∷ zero_token ∷ close_token ∷ []) any
unfolding spec.init
init_completes from = wanted is_open (λ o. bind address_completes leads_any (λ m. wanted is_comma (λ c. bind nil_completes leads_any (λ n. ended is_close (calls.Init from m n)))))

create_fill : List Lexeme
create_fill = open_token ∷ address_token ∷ name_token ∷ comma_token ∷ zero_token ∷ comma_token ∷ name_token ∷ comma_token ∷ zero_token ∷ close_token ∷ []

create_completes : (from : ℕ) → Completes (spec.create from) (spec.create from) create_fill any
unfolding spec.create create_fill
create_completes from = wanted is_open (λ o. bind address_completes leads_any (λ t. wanted is_comma (λ c. bind nil_completes leads_any (λ a. wanted is_comma (λ d. bind (name_completes {C = any}) leads_any (λ f. wanted is_comma (λ e. bind nil_completes leads_any (λ x. ended is_close (calls.Create from t a f x)))))))))

join_completes : (from : ℕ) → Completes (spec.join from) (spec.join from) (open_token ∷ name_token ∷ comma_token ∷ zero_token ∷ close_token ∷ []) any
unfolding spec.join
join_completes from = wanted is_open (λ o. bind (name_completes {C = any}) leads_any (λ t. wanted is_comma (λ c. bind nil_completes leads_any (λ n. ended is_close (calls.Join from t n)))))

-- ---- types

int_takes : {C : Term → Bool} → Takes terms.Int (spec.itype_by terms.Int) (spec.itype_by terms.Int) [] C
int_takes = taking refl (λ from. pure_completes (itypes.Int from))

long_takes : Takes terms.Long (spec.itype_by terms.Long) (spec.itype_by terms.Long) [] (is_not terms.Int)
long_takes = taking refl (λ from. eaten terms.Int (λ b. pure (spec.long_if from b)) (λ b. pure (spec.long_if from b)) refl (leads_none (λ k so. so)) (pure_completes (spec.long_if from true)) (pure_completes (spec.long_if from false)))

itype_branches : Branches spec.itype_by spec.itype_by (is_not terms.Int)
itype_branches terms.Int end ts is = int_takes.there end ts is
itype_branches terms.Long end ts is = long_takes.there end ts is
itype_branches _ end ts is = refuse_at end ts

pub itype_completes : Completes spec.itype spec.itype (int_token ∷ []) (is_not terms.Int)
unfolding spec.itype
itype_completes = looked itype_branches terms.Int is_int.is (int_takes.fill int_token is_int.is)

int_fill : (t : Lexeme) → term_of t ≡ terms.Int → Fills spec.itype (t ∷ []) (is_not terms.Int)
unfolding spec.itype
int_fill t is = looked_fill spec.itype_by terms.Int is (int_takes.fill t is)

long_fill : (t : Lexeme) → term_of t ≡ terms.Long → Fills spec.itype (t ∷ []) (is_not terms.Int)
unfolding spec.itype
long_fill t is = looked_fill spec.itype_by terms.Long is (long_takes.fill t is)

-- ---- lists

pub semicolon_closes : (k : Term) → only terms.Semicolon k ≡ true → closes k ≡ true
unfolding same_term
semicolon_closes terms.Semicolon so = refl
semicolon_closes _ so = absurd cc

pub semicolon_no_comma : (k : Term) (from : ℕ) → only terms.Semicolon k ≡ true → spec.comma_mark k from ≡ None
unfolding same_term
semicolon_no_comma terms.Comma from so = absurd cc
semicolon_no_comma _ from so = refl

pub handles_completes : (t : Lexeme) → IsToken t terms.HandleType → Completes spec.handles spec.handles (t ∷ name_token ∷ semicolon ∷ []) any
unfolding spec.handles
handles_completes t token = wanted token (λ from. bind (name_completes {C = any}) leads_any (λ first. bind (more_completes spec.comma_mark expr_spec.name expr_spec.name (name_token ∷ []) any (only terms.Semicolon) (λ n. refl) name_shrinks name_shrinks name_completes (λ k so. refl) semicolon_no_comma)
    (leads_token is_semicolon (same_self terms.Semicolon)) (λ more. ended {A = Handles} is_semicolon (record { from = from; first = first; more = more }))))

-- ---- calls

-- what stands behind each word
pub call_tokens : Term → List Lexeme
call_tokens terms.Assert = open_token ∷ zero_token ∷ close_token ∷ []
call_tokens terms.Assume = open_token ∷ zero_token ∷ close_token ∷ []
call_tokens terms.Exit = open_token ∷ zero_token ∷ close_token ∷ []
call_tokens terms.MutexLock = open_token ∷ address_token ∷ name_token ∷ close_token ∷ []
call_tokens terms.MutexUnlock = open_token ∷ address_token ∷ name_token ∷ close_token ∷ []
call_tokens terms.MutexDestroy = open_token ∷ address_token ∷ name_token ∷ close_token ∷ []
call_tokens terms.MutexInit = open_token ∷ address_token ∷ name_token ∷ comma_token ∷ zero_token ∷ close_token ∷ []
call_tokens terms.Create = create_fill
call_tokens terms.Join = open_token ∷ name_token ∷ comma_token ∷ zero_token ∷ close_token ∷ []
call_tokens _ = open_token ∷ close_token ∷ []

-- the words that begin a call
abbrev pub calls_word : Term → Bool
calls_word terms.Assert = true
calls_word terms.Assume = true
calls_word terms.ReachError = true
calls_word terms.Abort = true
calls_word terms.Exit = true
calls_word terms.MutexLock = true
calls_word terms.MutexUnlock = true
calls_word terms.MutexDestroy = true
calls_word terms.MutexInit = true
calls_word terms.Create = true
calls_word terms.Join = true
calls_word _ = false

-- a declaration, from its first name on
local_names : (levels from : ℕ) → List Qual → Itype → Parser Local
local_names levels from qs kind = spec.lname levels >>= λ first. more_of spec.comma_mark (spec.lname levels) >>= λ more. expect terms.Semicolon >>= λ closed.
    pure (record { from = from; quals = qs; itype = kind; first = first; more = more })

-- ---- with expressions, which have fewer levels in the first of two parsers

closes_looser : (k : Term) → closes k ≡ true → looser 1 k ≡ true
closes_looser k so = lt-ltb (binds k) 1 (closes_binds k so)

pub closes_other : (k : Term) → closes k ≡ true → is_not terms.Assign k ≡ true
closes_other k so = ap not (not_assign k so)

module _ (n m : ℕ) (lt : n < m) where
  expr_closes : Completes (expr_spec.expr n) (expr_spec.expr m) zero_fill closes
  expr_closes = closer closes_looser (expr_completes n m lt)

  right_expr : Completes (expr_spec.expr n >>= λ e. pure (rights.Expr e)) (expr_spec.expr m >>= λ e. pure (rights.Expr e)) zero_fill closes
  right_expr = bind expr_closes (leads_none (λ k so. so)) (λ e. pure_completes (rights.Expr e))

  right_branches : Branches (spec.right_by n) (spec.right_by m) closes
  right_branches terms.Nondet end ts is = filled ((bind nondet_completes leads_any (λ e. pure_completes {C = closes} (rights.Nondet e))).there end ts)
  right_branches _ end ts is = filled (right_expr.there end ts)

  right_completes : Completes (spec.right n) (spec.right m) zero_fill closes
  unfolding spec.right
  right_completes = looked right_branches terms.Number is_zero.is right_expr.fill

  cond_expr : Completes (expr_spec.expr n >>= λ e. pure (conds.Expr e)) (expr_spec.expr m >>= λ e. pure (conds.Expr e)) zero_fill closes
  cond_expr = bind expr_closes (leads_none (λ k so. so)) (λ e. pure_completes (conds.Expr e))

  cond_branches : Branches (spec.cond_by n) (spec.cond_by m) closes
  cond_branches terms.Nondet end ts is = filled ((bind nondet_completes leads_any (λ e. pure_completes {C = closes} (conds.Nondet e))).there end ts)
  cond_branches _ end ts is = filled (cond_expr.there end ts)

  pub cond_completes : Completes (spec.cond n) (spec.cond m) zero_fill closes
  unfolding spec.cond
  cond_completes = looked cond_branches terms.Number is_zero.is cond_expr.fill

  -- ---- assignments

  increment_takes : (x : Name) → Takes terms.Increment (spec.assigned_by n x terms.Increment) (spec.assigned_by m x terms.Increment) [] closes
  increment_takes x = taking refl (λ from. pure_completes (assigns.Increment x))

  decrement_takes : (x : Name) → Takes terms.Decrement (spec.assigned_by n x terms.Decrement) (spec.assigned_by m x terms.Decrement) [] closes
  decrement_takes x = taking refl (λ from. pure_completes (assigns.Decrement x))

  set_takes : (x : Name) → Takes terms.Assign (spec.assigned_by n x terms.Assign) (spec.assigned_by m x terms.Assign) zero_fill closes
  set_takes x = taking refl (λ from. bind right_completes (leads_none (λ k so. so)) (λ e. pure_completes (assigns.Set x e)))

  add_takes : (x : Name) → Takes terms.AddTo (spec.assigned_by n x terms.AddTo) (spec.assigned_by m x terms.AddTo) zero_fill closes
  add_takes x = taking refl (λ from. bind expr_closes (leads_none (λ k so. so)) (λ e. pure_completes (assigns.Add x e)))

  subtract_takes : (x : Name) → Takes terms.SubtractFrom (spec.assigned_by n x terms.SubtractFrom) (spec.assigned_by m x terms.SubtractFrom) zero_fill closes
  subtract_takes x = taking refl (λ from. bind expr_closes (leads_none (λ k so. so)) (λ e. pure_completes (assigns.Subtract x e)))

  assigned_branches : (x : Name) → Branches (spec.assigned_by n x) (spec.assigned_by m x) closes
  assigned_branches x terms.Assign end ts is = (set_takes x).there end ts is
  assigned_branches x terms.AddTo end ts is = (add_takes x).there end ts is
  assigned_branches x terms.SubtractFrom end ts is = (subtract_takes x).there end ts is
  assigned_branches x terms.Increment end ts is = (increment_takes x).there end ts is
  assigned_branches x terms.Decrement end ts is = (decrement_takes x).there end ts is
  assigned_branches x _ end ts is = refuse_at end ts

  behind_name : (x : Name) → Completes (look >>= spec.assigned_by n x) (look >>= spec.assigned_by m x) (increment_token ∷ []) closes
  behind_name x = looked (assigned_branches x) terms.Increment is_increment.is ((increment_takes x).fill increment_token is_increment.is)

  assigned_completes : Completes (spec.assigned n) (spec.assigned m) (name_token ∷ increment_token ∷ []) closes
  unfolding spec.assigned
  assigned_completes = bind name_completes leads_any behind_name

  increment_first : Takes terms.Increment (spec.assign_by n terms.Increment) (spec.assign_by m terms.Increment) (name_token ∷ []) closes
  increment_first = taking refl (λ from. bind name_completes leads_any (λ x. pure_completes (assigns.IncrementFirst from x)))

  decrement_first : Takes terms.Decrement (spec.assign_by n terms.Decrement) (spec.assign_by m terms.Decrement) (name_token ∷ []) closes
  decrement_first = taking refl (λ from. bind name_completes leads_any (λ x. pure_completes (assigns.DecrementFirst from x)))

  assign_branches : Branches (spec.assign_by n) (spec.assign_by m) closes
  assign_branches terms.Name end ts is = filled (assigned_completes.there end ts)
  assign_branches terms.Increment end ts is = increment_first.there end ts is
  assign_branches terms.Decrement end ts is = decrement_first.there end ts is
  assign_branches _ end ts is = refuse_at end ts

  pub assign_completes : Completes (spec.assign n) (spec.assign m) (name_token ∷ increment_token ∷ []) closes
  unfolding spec.assign
  assign_completes = looked assign_branches terms.Name is_name.is assigned_completes.fill

  pub assign_name_fill : (t : Lexeme) → term_of t ≡ terms.Name → Fills (spec.assign m) (t ∷ increment_token ∷ []) closes
  unfolding spec.assign spec.assigned
  assign_name_fill t is = looked_fill (spec.assign_by m) terms.Name is (fill_bind (name_fill {C = any} t (record { is = is; some = refl })) (λ x. (behind_name x).fill) leads_any)

  pub assign_increment_fill : (t : Lexeme) → term_of t ≡ terms.Increment → Fills (spec.assign m) (t ∷ name_token ∷ []) closes
  unfolding spec.assign
  assign_increment_fill t is = looked_fill (spec.assign_by m) terms.Increment is (increment_first.fill t is)

  pub assign_decrement_fill : (t : Lexeme) → term_of t ≡ terms.Decrement → Fills (spec.assign m) (t ∷ name_token ∷ []) closes
  unfolding spec.assign
  assign_decrement_fill t is = looked_fill (spec.assign_by m) terms.Decrement is (decrement_first.fill t is)

  -- ---- calls

  argument_completes : Completes (spec.argument n) (spec.argument m) (open_token ∷ zero_token ∷ close_token ∷ []) any
  unfolding spec.argument
  argument_completes = wanted is_open (λ o. bind expr_closes (leads_token is_close refl) (λ e. ended is_close e))

  call_takes : (k : Term) → calls_word k ≡ true → Takes k (spec.call_by n k) (spec.call_by m k) (call_tokens k) any
  unfolding call_tokens create_fill
  call_takes terms.Assert so = taking refl (λ from. bind argument_completes leads_any (λ e. pure_completes (calls.Assert from e)))
  call_takes terms.Assume so = taking refl (λ from. bind argument_completes leads_any (λ e. pure_completes (calls.Assume from e)))
  call_takes terms.ReachError so = taking refl (λ from. bind empty_parens_completes leads_any (λ e. pure_completes (calls.ReachError from)))
  call_takes terms.Abort so = taking refl (λ from. bind empty_parens_completes leads_any (λ e. pure_completes (calls.Abort from)))
  call_takes terms.Exit so = taking refl (λ from. bind exit_argument_completes leads_any (λ e. pure_completes (calls.Exit from e)))
  call_takes terms.MutexLock so = taking refl (λ from. bind lock_argument_completes leads_any (λ e. pure_completes (calls.Lock from e)))
  call_takes terms.MutexUnlock so = taking refl (λ from. bind lock_argument_completes leads_any (λ e. pure_completes (calls.Unlock from e)))
  call_takes terms.MutexDestroy so = taking refl (λ from. bind lock_argument_completes leads_any (λ e. pure_completes (calls.Destroy from e)))
  call_takes terms.MutexInit so = taking refl init_completes
  call_takes terms.Create so = taking refl create_completes
  call_takes terms.Join so = taking refl join_completes
  call_takes _ so = absurd cc

  call_branches : Branches (spec.call_by n) (spec.call_by m) any
  call_branches terms.Assert end ts is = (call_takes terms.Assert refl).there end ts is
  call_branches terms.Assume end ts is = (call_takes terms.Assume refl).there end ts is
  call_branches terms.ReachError end ts is = (call_takes terms.ReachError refl).there end ts is
  call_branches terms.Abort end ts is = (call_takes terms.Abort refl).there end ts is
  call_branches terms.Exit end ts is = (call_takes terms.Exit refl).there end ts is
  call_branches terms.MutexLock end ts is = (call_takes terms.MutexLock refl).there end ts is
  call_branches terms.MutexUnlock end ts is = (call_takes terms.MutexUnlock refl).there end ts is
  call_branches terms.MutexDestroy end ts is = (call_takes terms.MutexDestroy refl).there end ts is
  call_branches terms.MutexInit end ts is = (call_takes terms.MutexInit refl).there end ts is
  call_branches terms.Create end ts is = (call_takes terms.Create refl).there end ts is
  call_branches terms.Join end ts is = (call_takes terms.Join refl).there end ts is
  call_branches _ end ts is = refuse_at end ts

  pub call_completes : Completes (spec.call n) (spec.call m) (abort_token ∷ open_token ∷ close_token ∷ []) any
  unfolding spec.call call_tokens
  call_completes = looked call_branches terms.Abort is_abort.is ((call_takes terms.Abort refl).fill abort_token is_abort.is)

  pub call_fill : (t : Lexeme) (k : Term) → calls_word k ≡ true → term_of t ≡ k → Fills (spec.call m) (t ∷ call_tokens k) any
  unfolding spec.call
  call_fill t k so is = looked_fill (spec.call_by m) k is ((call_takes k so).fill t is)

  -- ---- declarations

  lname_completes : Completes (spec.lname n) (spec.lname m) (name_token ∷ []) closes
  unfolding spec.lname
  lname_completes = bind name_completes leads_any (λ x. eaten terms.Assign (λ b. spec.start_if n b >>= λ s. pure {A = Lname} (record { name = x; start = s })) (λ b. spec.start_if m b >>= λ s. pure {A = Lname} (record { name = x; start = s })) refl (leads_none closes_other)
      (bind (bind right_completes (leads_none (λ k so. so)) (λ e. pure_completes {C = closes} (Some e))) (leads_none (λ k so. so)) (λ s. pure_completes {A = Lname} (record { name = x; start = s })))
      (bind (pure_completes {C = closes} None) (leads_none (λ k so. so)) (λ s. pure_completes {A = Lname} (record { name = x; start = s }))))

  -- behind the words in front of the type, and behind the type
  local_named : (from : ℕ) (qs : List Qual) (kind : Itype) → Completes (local_names n from qs kind) (local_names m from qs kind) (name_token ∷ semicolon ∷ []) any
  unfolding local_names
  local_named from qs kind = bind lname_completes (leads_token is_semicolon refl) (λ first. bind (more_completes spec.comma_mark (spec.lname n) (spec.lname m) (name_token ∷ []) closes (only terms.Semicolon) (λ k. refl) (lname_shrinks n) (lname_shrinks m) lname_completes semicolon_closes semicolon_no_comma)
      (leads_token is_semicolon (same_self terms.Semicolon)) (λ more. ended {A = Local} is_semicolon (record { from = from; quals = qs; itype = kind; first = first; more = more })))

  local_typed : (from : ℕ) (qs : List Qual) → Completes (spec.itype >>= local_names n from qs) (spec.itype >>= local_names m from qs) (int_token ∷ name_token ∷ semicolon ∷ []) any
  unfolding same_term
  local_typed from qs = bind itype_completes (leads_token is_name refl) (local_named from qs)

  pub local_completes : Completes (spec.local n) (spec.local m) (int_token ∷ name_token ∷ semicolon ∷ []) any
  unfolding spec.local local_names
  local_completes = placed (λ from. bind quals_completes (leads_token is_int refl) (local_typed from))

  -- ---- from a token that begins a declaration

  pub local_qual_fill : (t : Lexeme) (q : Qual) → spec.qual_mark (term_of t) t.from ≡ Some q → Fills (spec.local m) (t ∷ int_token ∷ name_token ∷ semicolon ∷ []) any
  unfolding spec.local local_names
  local_qual_fill t q is = placed_fill (λ from. spec.quals >>= λ qs. spec.itype >>= local_names m from qs) (λ from. fill_bind (qual_fill t q is) (λ qs. (local_typed from qs).fill) (leads_token is_int refl))

  typed_fill : (t : Lexeme) → no_qual (term_of t) ≡ true → Fills spec.itype (t ∷ []) (is_not terms.Int) → Fills (spec.local m) (t ∷ name_token ∷ semicolon ∷ []) any
  unfolding spec.local local_names same_term
  typed_fill t plain fill = placed_fill (λ from. spec.quals >>= λ qs. spec.itype >>= local_names m from qs) (λ from. fill_bind quals_completes.fill (λ qs. fill_bind fill (λ kind. (local_named from qs kind).fill) (leads_token is_name refl)) (record { begins = λ tail meets. plain }))

  pub local_int_fill : (t : Lexeme) → term_of t ≡ terms.Int → Fills (spec.local m) (t ∷ name_token ∷ semicolon ∷ []) any
  local_int_fill t is = typed_fill t (ap no_qual is) (int_fill t is)

  pub local_long_fill : (t : Lexeme) → term_of t ≡ terms.Long → Fills (spec.local m) (t ∷ name_token ∷ semicolon ∷ []) any
  local_long_fill t is = typed_fill t (ap no_qual is) (long_fill t is)
