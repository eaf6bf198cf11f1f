-- With more levels all that is read or refused of the parts of statements stays so, up to the first token that opens a level
-- beyond.
use Rattle.std.proofs.Common.{◌≡◌, ℕ, zero, suc, ◌≤◌, Bool, true, false, List, [], ◌∷◌, ◌++◌, map, Option, Some, None, option_map, Ok, Err, refl, sym, ap, subst, ◌∙◌, arith, append-nil}
use Rattle.std.proofs.Math.Logic.{◌⊎◌, inl, inr}
use Rattle.c_lex.specs.Tokens.{Lexeme}
use Rattle.c_tree.specs.declared.term.Term.{Term}
use Rattle.c_tree.specs.declared.term.Term.TheVariants as terms
use Rattle.c_tree.specs.declared.expr.Expr.{Expr}
use Rattle.c_tree.specs.declared.expr.Name.{Name}
use Rattle.c_tree.specs.declared.simple.Assign.{Assign}
use Rattle.c_tree.specs.declared.simple.Assign.TheVariants as assigns
use Rattle.c_tree.specs.declared.simple.Call.{Call}
use Rattle.c_tree.specs.declared.simple.Call.TheVariants as calls
use Rattle.c_tree.specs.declared.simple.Cond.{Cond}
use Rattle.c_tree.specs.declared.simple.Cond.TheVariants as conds
use Rattle.c_tree.specs.declared.simple.Right.{Right}
use Rattle.c_tree.specs.declared.simple.Right.TheVariants as rights
use Rattle.c_tree.specs.declared.simple.Lname.{Lname}
use Rattle.c_tree.specs.declared.simple.Local.{Local}
use Rattle.c_tree.specs.declared.stmt.Around.{Around}
use Rattle.c_tree.specs.declared.stmt.Around.TheVariants as arounds
use Rattle.c_tree.specs.declared.stmt.Block.{Block, roll-Block, out-roll-Block}
use Rattle.c_tree.specs.declared.stmt.First.{First}
use Rattle.c_tree.specs.declared.stmt.First.TheVariants as firsts
use Rattle.c_tree.specs.declared.stmt.Stmt.{Stmt}
use Rattle.c_tree.specs.declared.stmt.Stmt.TheVariants as stmts
use Rattle.c_tree.specs.inside.Input.{Input, Outcome, Parser, ◌>>=◌, pure, refuse, look, here, take_token, eat, expect, peek, sees, place, place_at, refusal, too_deep}
use Rattle.c_tree.specs.inside.Many.{many}
use Rattle.c_tree.specs.inside.Expr as expr_spec
use Rattle.c_tree.specs.inside.Simple as simple_spec
use Rattle.c_tree.specs.inside.Stmt as spec
use Rattle.c_tree.specs.Grammar.{StartsAt}
use Rattle.c_tree.specs.Plain as plain
use Rattle.c_tree.specs.Plain.{stmt_place}
use Rattle.c_tree.specs.Seen.{plain_expr, plain_right, plain_cond, plain_assign, plain_call, plain_lname, plain_locals, plain_first, plain_stmt, plain_stmts, plain_block}
use Rattle.c_tree.specs.Beyond.{expr_beyond, value_beyond, value_if_beyond, assign_beyond, assign_if_beyond, call_beyond, locals_beyond, first_beyond, stmt_beyond, stmts_beyond}
use Rattle.c_tree.proofs.Leads.{called}
use Rattle.c_tree.proofs.FoundStmt.{stmt_found}
use Rattle.c_tree.proofs.Starts.{stmt_starts}
use Rattle.c_tree.proofs.View.{block_is, empty_is, local_is, assign_is, if_is, while_is, for_is, break_is, return_is, call_is, atomic_is, handles_is}
use Rattle.c_tree.proofs.Deepening.{Fits, Widens, refuse_widens, pure_widens, bind_widens, behind_widens, more_widens, many_widens, expr_widens}

-- ---- what each opens beyond so many levels

abbrev expr_opens : ℕ → Expr → List ℕ
expr_opens n e = expr_beyond (plain_expr e) n

abbrev right_opens : ℕ → Right → List ℕ
right_opens n e = value_beyond (plain_right e) n

abbrev pub cond_opens : ℕ → Cond → List ℕ
cond_opens n c = value_beyond (plain_cond c) n

abbrev pub cond_if_opens : ℕ → Option Cond → List ℕ
cond_if_opens n c = value_if_beyond (option_map plain_cond c) n

abbrev pub assign_opens : ℕ → Assign → List ℕ
assign_opens n a = assign_beyond (plain_assign a) n

abbrev pub assign_if_opens : ℕ → Option Assign → List ℕ
assign_if_opens n a = assign_if_beyond (option_map plain_assign a) n

abbrev pub call_opens : ℕ → Call → List ℕ
call_opens n c = call_beyond (plain_call c) n

abbrev start_opens : ℕ → Option Right → List ℕ
start_opens n s = value_if_beyond (option_map plain_right s) n

abbrev lname_opens : ℕ → Lname → List ℕ
lname_opens n l = start_opens n l.start

abbrev more_opens : ℕ → List (ℕ × Lname) → List ℕ
more_opens n more = locals_beyond (map (λ m. plain_lname m.1) more) n

abbrev pub local_opens : ℕ → Local → List ℕ
local_opens n l = locals_beyond (plain_locals l) n

module _ (n m : ℕ) (le : n ≤ m) where
  right_by_widens : (k : Term) → Widens [] (right_opens n) (simple_spec.right_by n k) (simple_spec.right_by m k)
  right_by_widens terms.Nondet = behind_widens [] _ _ _ simple_spec.nondet (λ x. pure_widens [] (right_opens n) (rights.Nondet x) refl)
  right_by_widens _ = bind_widens [] _ _ _ (expr_opens n) (λ e. pure_widens (expr_opens n e) (right_opens n) (rights.Expr e) refl) _ _ (expr_widens n m le)

  right_widens : Widens [] (right_opens n) (simple_spec.right n) (simple_spec.right m)
  unfolding simple_spec.right
  right_widens = behind_widens [] _ _ _ look right_by_widens

  cond_by_widens : (k : Term) → Widens [] (cond_opens n) (simple_spec.cond_by n k) (simple_spec.cond_by m k)
  cond_by_widens terms.Nondet = behind_widens [] _ _ _ simple_spec.nondet (λ x. pure_widens [] (cond_opens n) (conds.Nondet x) refl)
  cond_by_widens _ = bind_widens [] _ _ _ (expr_opens n) (λ e. pure_widens (expr_opens n e) (cond_opens n) (conds.Expr e) refl) _ _ (expr_widens n m le)

  pub cond_widens : Widens [] (cond_opens n) (simple_spec.cond n) (simple_spec.cond m)
  unfolding simple_spec.cond
  cond_widens = behind_widens [] _ _ _ look cond_by_widens

  assigned_by_widens : (x : Name) (k : Term) → Widens [] (assign_opens n) (simple_spec.assigned_by n x k) (simple_spec.assigned_by m x k)
  assigned_by_widens x terms.Assign = behind_widens [] _ _ _ take_token (λ from. bind_widens [] _ _ _ (right_opens n) (λ e. pure_widens (right_opens n e) (assign_opens n) (assigns.Set x e) refl) _ _ right_widens)
  assigned_by_widens x terms.AddTo = behind_widens [] _ _ _ take_token (λ from. bind_widens [] _ _ _ (expr_opens n) (λ e. pure_widens (expr_opens n e) (assign_opens n) (assigns.Add x e) refl) _ _ (expr_widens n m le))
  assigned_by_widens x terms.SubtractFrom = behind_widens [] _ _ _ take_token (λ from. bind_widens [] _ _ _ (expr_opens n) (λ e. pure_widens (expr_opens n e) (assign_opens n) (assigns.Subtract x e) refl) _ _ (expr_widens n m le))
  assigned_by_widens x terms.Increment = behind_widens [] _ _ _ take_token (λ from. pure_widens [] (assign_opens n) (assigns.Increment x) refl)
  assigned_by_widens x terms.Decrement = behind_widens [] _ _ _ take_token (λ from. pure_widens [] (assign_opens n) (assigns.Decrement x) refl)
  assigned_by_widens x _ = refuse_widens [] (assign_opens n)

  assigned_widens : Widens [] (assign_opens n) (simple_spec.assigned n) (simple_spec.assigned m)
  unfolding simple_spec.assigned
  assigned_widens = behind_widens [] _ _ _ expr_spec.name (λ x. behind_widens [] _ _ _ look (assigned_by_widens x))

  assign_by_widens : (k : Term) → Widens [] (assign_opens n) (simple_spec.assign_by n k) (simple_spec.assign_by m k)
  assign_by_widens terms.Name = assigned_widens
  assign_by_widens terms.Increment = behind_widens [] _ _ _ take_token (λ from. behind_widens [] _ _ _ expr_spec.name (λ x. pure_widens [] (assign_opens n) (assigns.IncrementFirst from x) refl))
  assign_by_widens terms.Decrement = behind_widens [] _ _ _ take_token (λ from. behind_widens [] _ _ _ expr_spec.name (λ x. pure_widens [] (assign_opens n) (assigns.DecrementFirst from x) refl))
  assign_by_widens _ = refuse_widens [] (assign_opens n)

  pub assign_widens : Widens [] (assign_opens n) (simple_spec.assign n) (simple_spec.assign m)
  unfolding simple_spec.assign
  assign_widens = behind_widens [] _ _ _ look assign_by_widens

  argument_widens : Widens [] (expr_opens n) (simple_spec.argument n) (simple_spec.argument m)
  unfolding simple_spec.argument
  argument_widens = behind_widens [] _ _ _ (expect terms.LeftParen) (λ o. bind_widens [] _ _ _ (expr_opens n) (λ e. behind_widens (expr_opens n e) _ _ _ (expect terms.RightParen) (λ c. pure_widens (expr_opens n e) (expr_opens n) e refl)) _ _ (expr_widens n m le))

  init_widens : (from : ℕ) → Widens [] (call_opens n) (simple_spec.init from) (simple_spec.init from)
  unfolding simple_spec.init
  init_widens from = behind_widens [] _ _ _ (expect terms.LeftParen) (λ o. behind_widens [] _ _ _ simple_spec.address (λ x. behind_widens [] _ _ _ (expect terms.Comma) (λ d. behind_widens [] _ _ _ simple_spec.nil
      (λ y. behind_widens [] _ _ _ (expect terms.RightParen) (λ c. pure_widens [] (call_opens n) (calls.Init from x y) refl)))))

  create_widens : (from : ℕ) → Widens [] (call_opens n) (simple_spec.create from) (simple_spec.create from)
  unfolding simple_spec.create
  create_widens from = behind_widens [] _ _ _ (expect terms.LeftParen) (λ o. behind_widens [] _ _ _ simple_spec.address (λ t. behind_widens [] _ _ _ (expect terms.Comma) (λ d. behind_widens [] _ _ _ simple_spec.nil
      (λ a. behind_widens [] _ _ _ (expect terms.Comma) (λ d2. behind_widens [] _ _ _ expr_spec.name (λ f. behind_widens [] _ _ _ (expect terms.Comma) (λ d3. behind_widens [] _ _ _ simple_spec.nil
      (λ x. behind_widens [] _ _ _ (expect terms.RightParen) (λ c. pure_widens [] (call_opens n) (calls.Create from t a f x) refl)))))))))

  join_widens : (from : ℕ) → Widens [] (call_opens n) (simple_spec.join from) (simple_spec.join from)
  unfolding simple_spec.join
  join_widens from = behind_widens [] _ _ _ (expect terms.LeftParen) (λ o. behind_widens [] _ _ _ expr_spec.name (λ t. behind_widens [] _ _ _ (expect terms.Comma) (λ d. behind_widens [] _ _ _ simple_spec.nil
      (λ y. behind_widens [] _ _ _ (expect terms.RightParen) (λ c. pure_widens [] (call_opens n) (calls.Join from t y) refl)))))

  -- a word with an argument that opens nothing
  word_widens : {A : Type 0} (p : Parser A) (made : ℕ → A → Call) → ((from : ℕ) (x : A) → call_opens n (made from x) ≡ []) → Widens [] (call_opens n) (take_token >>= λ from. p >>= λ x. pure (made from x)) (take_token >>= λ from. p >>= λ x. pure (made from x))
  word_widens p made none = behind_widens [] _ _ _ take_token (λ from. behind_widens [] _ _ _ p (λ x. pure_widens [] (call_opens n) (made from x) (none from x)))

  call_by_widens : (k : Term) → Widens [] (call_opens n) (simple_spec.call_by n k) (simple_spec.call_by m k)
  call_by_widens terms.Assert = behind_widens [] _ _ _ take_token (λ from. bind_widens [] _ _ _ (expr_opens n) (λ e. pure_widens (expr_opens n e) (call_opens n) (calls.Assert from e) refl) _ _ argument_widens)
  call_by_widens terms.Assume = behind_widens [] _ _ _ take_token (λ from. bind_widens [] _ _ _ (expr_opens n) (λ e. pure_widens (expr_opens n e) (call_opens n) (calls.Assume from e) refl) _ _ argument_widens)
  call_by_widens terms.ReachError = word_widens simple_spec.empty_parens (λ from x. calls.ReachError from) (λ from x. refl)
  call_by_widens terms.Abort = word_widens simple_spec.empty_parens (λ from x. calls.Abort from) (λ from x. refl)
  call_by_widens terms.Exit = word_widens simple_spec.exit_argument (λ from x. calls.Exit from x) (λ from x. refl)
  call_by_widens terms.MutexLock = word_widens simple_spec.lock_argument (λ from x. calls.Lock from x) (λ from x. refl)
  call_by_widens terms.MutexUnlock = word_widens simple_spec.lock_argument (λ from x. calls.Unlock from x) (λ from x. refl)
  call_by_widens terms.MutexDestroy = word_widens simple_spec.lock_argument (λ from x. calls.Destroy from x) (λ from x. refl)
  call_by_widens terms.MutexInit = behind_widens [] _ _ _ take_token init_widens
  call_by_widens terms.Create = behind_widens [] _ _ _ take_token create_widens
  call_by_widens terms.Join = behind_widens [] _ _ _ take_token join_widens
  call_by_widens _ = refuse_widens [] (call_opens n)

  pub call_widens : Widens [] (call_opens n) (simple_spec.call n) (simple_spec.call m)
  unfolding simple_spec.call
  call_widens = behind_widens [] _ _ _ look call_by_widens

  start_if_widens : (b : Bool) → Widens [] (start_opens n) (simple_spec.start_if n b) (simple_spec.start_if m b)
  start_if_widens true = bind_widens [] _ _ _ (right_opens n) (λ e. pure_widens (right_opens n e) (start_opens n) (Some e) refl) _ _ right_widens
  start_if_widens false = pure_widens [] (start_opens n) None refl

  lname_widens : Widens [] (lname_opens n) (simple_spec.lname n) (simple_spec.lname m)
  unfolding simple_spec.lname
  lname_widens = behind_widens [] _ _ _ expr_spec.name (λ x. behind_widens [] _ _ _ (eat terms.Assign) (λ b. bind_widens [] _ _ _ (start_opens n) (λ s. pure_widens {A = Lname} (start_opens n s) (lname_opens n) (record { name = x; start = s }) refl) _ _ (start_if_widens b)))

  pub local_widens : Widens [] (local_opens n) (simple_spec.local n) (simple_spec.local m)
  unfolding simple_spec.local
  local_widens = behind_widens [] _ _ _ here (λ from. behind_widens [] _ _ _ simple_spec.quals (λ qs. behind_widens [] _ _ _ simple_spec.itype (λ kind. bind_widens [] _ _ _ (lname_opens n)
      (λ first. bind_widens (lname_opens n first) _ _ _ (more_opens n) (λ more. behind_widens (lname_opens n first ++ more_opens n more) _ _ _ (expect terms.Semicolon)
      (λ c. pure_widens {A = Local} (lname_opens n first ++ more_opens n more) (local_opens n) (record { from = from; quals = qs; itype = kind; first = first; more = more }) refl)) _ _
      (more_widens simple_spec.comma_mark _ _ (lname_opens n) (more_opens n) refl (λ k x xs. refl) lname_widens)) _ _ lname_widens)))
