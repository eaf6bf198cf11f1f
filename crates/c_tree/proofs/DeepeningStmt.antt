-- With more levels all that is read or refused of statements stays so, up to the first token that opens a level beyond.
use Rattle.std.proofs.Common.{◌≡◌, ℕ, zero, suc, ◌≤◌, Bool, true, false, List, [], ◌∷◌, ◌++◌, map, Option, Some, None, option_map, Ok, Err, refl, sym, ap, subst, ◌∙◌, arith, append-nil}
use Rattle.std.proofs.Math.Logic.{◌⊎◌, inl, inr}
use Rattle.c_lex.specs.Tokens.{Lexeme}
use Rattle.c_tree.specs.declared.term.Term.{Term}
use Rattle.c_tree.specs.declared.term.Term.TheVariants as terms
use Rattle.c_tree.specs.declared.expr.Expr.{Expr}
use Rattle.c_tree.specs.declared.expr.Name.{Name}
use Rattle.c_tree.specs.declared.simple.Assign.{Assign}
use Rattle.c_tree.specs.declared.simple.Assign.TheVariants as assigns
use Rattle.c_tree.specs.declared.simple.Call.{Call}
use Rattle.c_tree.specs.declared.simple.Call.TheVariants as calls
use Rattle.c_tree.specs.declared.simple.Cond.{Cond}
use Rattle.c_tree.specs.declared.simple.Cond.TheVariants as conds
use Rattle.c_tree.specs.declared.simple.Right.{Right}
use Rattle.c_tree.specs.declared.simple.Right.TheVariants as rights
use Rattle.c_tree.specs.declared.simple.Lname.{Lname}
use Rattle.c_tree.specs.declared.simple.Local.{Local}
use Rattle.c_tree.specs.declared.stmt.Around.{Around}
use Rattle.c_tree.specs.declared.stmt.Around.TheVariants as arounds
use Rattle.c_tree.specs.declared.stmt.Block.{Block, roll-Block, out-roll-Block}
use Rattle.c_tree.specs.declared.stmt.First.{First}
use Rattle.c_tree.specs.declared.stmt.First.TheVariants as firsts
use Rattle.c_tree.specs.declared.stmt.Stmt.{Stmt}
use Rattle.c_tree.specs.declared.stmt.Stmt.TheVariants as stmts
use Rattle.c_tree.specs.inside.Input.{Input, Outcome, Parser, ◌>>=◌, pure, refuse, look, here, take_token, eat, expect, peek, sees, place, place_at, refusal, too_deep}
use Rattle.c_tree.specs.inside.Many.{many}
use Rattle.c_tree.specs.inside.Expr as expr_spec
use Rattle.c_tree.specs.inside.Simple as simple_spec
use Rattle.c_tree.specs.inside.Stmt as spec
use Rattle.c_tree.specs.Grammar.{StartsAt}
use Rattle.c_tree.specs.Plain as plain
use Rattle.c_tree.specs.Plain.{stmt_place}
use Rattle.c_tree.specs.Seen.{plain_expr, plain_right, plain_cond, plain_assign, plain_call, plain_lname, plain_locals, plain_first, plain_stmt, plain_stmts, plain_block}
use Rattle.c_tree.specs.Beyond.{expr_beyond, value_beyond, value_if_beyond, assign_beyond, assign_if_beyond, call_beyond, locals_beyond, first_beyond, stmt_beyond, stmts_beyond}
use Rattle.c_tree.proofs.Leads.{called}
use Rattle.c_tree.proofs.FoundStmt.{stmt_found}
use Rattle.c_tree.proofs.Starts.{stmt_starts}
use Rattle.c_tree.proofs.View.{block_is, empty_is, local_is, assign_is, if_is, while_is, for_is, break_is, return_is, call_is, atomic_is, handles_is}
use Rattle.c_tree.proofs.Deepening.{Fits, Widens, refuse_widens, pure_widens, bind_widens, behind_widens, more_widens, many_widens, expr_widens}
use Rattle.c_tree.proofs.DeepeningSimple.{cond_opens, cond_if_opens, assign_opens, assign_if_opens, call_opens, local_opens, cond_widens, assign_widens, call_widens, local_widens}

-- ---- what each opens beyond so many levels

abbrev first_opens : ℕ → First → List ℕ
first_opens n f = first_beyond (plain_first f) n

abbrev pub stmt_opens : ℕ → Stmt → List ℕ
stmt_opens n s = stmt_beyond (plain_stmt s) n

abbrev stmts_opens : ℕ → List Stmt → List ℕ
stmts_opens n ss = stmts_beyond (plain_stmts ss) n

abbrev else_opens : ℕ → Option Stmt → List ℕ
else_opens n None = []
else_opens n (Some s) = stmt_opens n s

abbrev pub block_opens : ℕ → Block → List ℕ
block_opens n b = stmts_beyond (plain_block b) n

-- a statement at the first of so many levels opens what it holds one level deeper
within : (n : ℕ) (s : Stmt) (t : plain.Stmt) → plain_stmt s ≡ t → stmt_opens (suc n) s ≡ stmt_beyond t (suc n)
within n s t e = ap (λ (x : plain.Stmt). stmt_beyond x (suc n)) e

if_opens : (n from : ℕ) (c : Cond) (s : Stmt) (o : Option Stmt) → stmt_opens (suc n) (stmts.If from c s o) ≡ (cond_opens n c ++ stmt_opens n s) ++ else_opens n o
if_opens n from c s None = within n (stmts.If from c s None) _ (if_is from c s None) ∙ sym (append-nil (cond_opens n c ++ stmt_opens n s))
if_opens n from c s (Some t) = within n (stmts.If from c s (Some t)) _ (if_is from c s (Some t))

module _ (n m : ℕ) (le : n ≤ m) where
  -- ---- statements

  assign_stmt_widens : Widens [] (stmt_opens (suc n)) (spec.assign_stmt n) (spec.assign_stmt m)
  unfolding spec.assign_stmt
  assign_stmt_widens = bind_widens [] _ _ _ (assign_opens n) (λ a. behind_widens (assign_opens n a) _ _ _ (expect terms.Semicolon) (λ c. pure_widens (assign_opens n a) (stmt_opens (suc n)) (stmts.Assign a) (within n (stmts.Assign a) _ (assign_is a)))) _ _ (assign_widens n m le)

  call_stmt_widens : Widens [] (stmt_opens (suc n)) (spec.call_stmt n) (spec.call_stmt m)
  unfolding spec.call_stmt
  call_stmt_widens = bind_widens [] _ _ _ (call_opens n) (λ x. behind_widens (call_opens n x) _ _ _ (expect terms.Semicolon) (λ c. pure_widens (call_opens n x) (stmt_opens (suc n)) (stmts.Call x) (within n (stmts.Call x) _ (call_is x)))) _ _ (call_widens n m le)

  local_stmt_widens : Widens [] (stmt_opens (suc n)) (spec.local_stmt n) (spec.local_stmt m)
  unfolding spec.local_stmt
  local_stmt_widens = bind_widens [] _ _ _ (local_opens n) (λ l. pure_widens (local_opens n l) (stmt_opens (suc n)) (stmts.Local l) (within n (stmts.Local l) _ (local_is l))) _ _ (local_widens n m le)

  first_local_widens : Widens [] (first_opens n) (spec.first_local n) (spec.first_local m)
  unfolding spec.first_local
  first_local_widens = bind_widens [] _ _ _ (local_opens n) (λ l. pure_widens (local_opens n l) (first_opens n) (firsts.Local l) refl) _ _ (local_widens n m le)

  first_assign_widens : Widens [] (first_opens n) (spec.first_assign n) (spec.first_assign m)
  unfolding spec.first_assign
  first_assign_widens = bind_widens [] _ _ _ (assign_opens n) (λ a. behind_widens (assign_opens n a) _ _ _ (expect terms.Semicolon) (λ c. pure_widens (assign_opens n a) (first_opens n) (firsts.Assign a) refl)) _ _ (assign_widens n m le)

  first_by_widens : (k : Term) → Widens [] (first_opens n) (spec.first_by n k) (spec.first_by m k)
  first_by_widens terms.Static = first_local_widens
  first_by_widens terms.Volatile = first_local_widens
  first_by_widens terms.Extern = first_local_widens
  first_by_widens terms.Int = first_local_widens
  first_by_widens terms.Long = first_local_widens
  first_by_widens terms.Semicolon = behind_widens [] _ _ _ take_token (λ from. pure_widens [] (first_opens n) (firsts.Empty from) refl)
  first_by_widens _ = first_assign_widens

  first_widens : Widens [] (first_opens n) (spec.first_part n) (spec.first_part m)
  unfolding spec.first_part
  first_widens = behind_widens [] _ _ _ look first_by_widens

  cond_if_widens : (b : Bool) → Widens [] (cond_if_opens n) (spec.cond_if n b) (spec.cond_if m b)
  cond_if_widens true = pure_widens [] (cond_if_opens n) None refl
  cond_if_widens false = bind_widens [] _ _ _ (cond_opens n) (λ c. pure_widens (cond_opens n c) (cond_if_opens n) (Some c) refl) _ _ (cond_widens n m le)

  middle_widens : Widens [] (cond_if_opens n) (spec.middle_part n) (spec.middle_part m)
  unfolding spec.middle_part
  middle_widens = behind_widens [] _ _ _ (λ i. Ok (sees terms.Semicolon i, i)) cond_if_widens

  last_if_widens : (b : Bool) → Widens [] (assign_if_opens n) (spec.last_if n b) (spec.last_if m b)
  last_if_widens true = pure_widens [] (assign_if_opens n) None refl
  last_if_widens false = bind_widens [] _ _ _ (assign_opens n) (λ a. pure_widens (assign_opens n a) (assign_if_opens n) (Some a) refl) _ _ (assign_widens n m le)

  last_widens : Widens [] (assign_if_opens n) (spec.last_part n) (spec.last_part m)
  unfolding spec.last_part
  last_widens = behind_widens [] _ _ _ (λ i. Ok (sees terms.RightParen i, i)) last_if_widens

  condition_widens : Widens [] (cond_opens n) (spec.condition n) (spec.condition m)
  unfolding spec.condition
  condition_widens = behind_widens [] _ _ _ (expect terms.LeftParen) (λ o. bind_widens [] _ _ _ (cond_opens n) (λ c. behind_widens (cond_opens n c) _ _ _ (expect terms.RightParen) (λ d. pure_widens (cond_opens n c) (cond_opens n) c refl)) _ _ (cond_widens n m le))

  break_widens : (around : Around) → Widens [] (stmt_opens (suc n)) (spec.break_by around) (spec.break_by around)
  break_widens arounds.Nothing = refuse_widens [] (stmt_opens (suc n))
  break_widens arounds.Loop = behind_widens [] _ _ _ take_token (λ from. behind_widens [] _ _ _ (expect terms.Semicolon) (λ c. pure_widens [] (stmt_opens (suc n)) (stmts.Break from) (within n (stmts.Break from) _ (break_is from))))

  return_widens : Widens [] (stmt_opens (suc n)) spec.return_stmt spec.return_stmt
  unfolding spec.return_stmt
  return_widens = behind_widens [] _ _ _ take_token (λ from. behind_widens [] _ _ _ (λ i. Ok (sees terms.Semicolon i, i)) (λ b. behind_widens [] _ _ _ (spec.returned_if b)
      (λ value. behind_widens [] _ _ _ (expect terms.Semicolon) (λ c. pure_widens [] (stmt_opens (suc n)) (stmts.Return from value) (within n (stmts.Return from value) _ (return_is from value))))))

  module _ (p q : Around → Parser Stmt) (inner : (around : Around) → Widens [] (stmt_opens n) (p around) (q around)) where
    all_widens : (last : Term) (around : Around) → Widens [] (stmts_opens n) (many last (p around)) (many last (q around))
    all_widens last around = many_widens last _ _ (stmt_opens n) (stmts_opens n) refl (λ x xs. refl) (inner around)

    pub block_widens : (around : Around) → Widens [] (block_opens n) (spec.block n p around) (spec.block m q around)
    unfolding spec.block
    block_widens around = behind_widens [] _ _ _ (expect terms.LeftBrace) (λ from. bind_widens [] _ _ _ (stmts_opens n) (λ ss. behind_widens (stmts_opens n ss) _ _ _ (expect terms.RightBrace)
        (λ c. pure_widens (stmts_opens n ss) (block_opens n) (roll-Block (record { from = from; stmts = ss })) (ap (λ b. stmts_opens n b.stmts) (out-roll-Block (record { from = from; stmts = ss }))))) _ _ (all_widens terms.RightBrace around))

    else_if_widens : (around : Around) (b : Bool) → Widens [] (else_opens n) (spec.else_if n p around b) (spec.else_if m q around b)
    else_if_widens around true = bind_widens [] _ _ _ (stmt_opens n) (λ s. pure_widens (stmt_opens n s) (else_opens n) (Some s) refl) _ _ (inner around)
    else_if_widens around false = pure_widens [] (else_opens n) None refl

    if_widens : (around : Around) → Widens [] (stmt_opens (suc n)) (spec.if_stmt n p around) (spec.if_stmt m q around)
    unfolding spec.if_stmt
    if_widens around = behind_widens [] _ _ _ take_token (λ from. bind_widens [] _ _ _ (cond_opens n) (λ c. bind_widens (cond_opens n c) _ _ _ (stmt_opens n) (λ s. behind_widens (cond_opens n c ++ stmt_opens n s) _ _ _ (eat terms.Else)
        (λ b. bind_widens (cond_opens n c ++ stmt_opens n s) _ _ _ (else_opens n) (λ o. pure_widens ((cond_opens n c ++ stmt_opens n s) ++ else_opens n o) (stmt_opens (suc n)) (stmts.If from c s o) (if_opens n from c s o)) _ _ (else_if_widens around b))) _ _ (inner around)) _ _ condition_widens)

    while_widens : Widens [] (stmt_opens (suc n)) (spec.while_stmt n p) (spec.while_stmt m q)
    unfolding spec.while_stmt
    while_widens = behind_widens [] _ _ _ take_token (λ from. bind_widens [] _ _ _ (cond_opens n) (λ c. bind_widens (cond_opens n c) _ _ _ (stmt_opens n)
        (λ s. pure_widens (cond_opens n c ++ stmt_opens n s) (stmt_opens (suc n)) (stmts.While from c s) (within n (stmts.While from c s) _ (while_is from c s))) _ _ (inner arounds.Loop)) _ _ condition_widens)

    for_opens : (from : ℕ) (first : First) (c : Option Cond) (last : Option Assign) (s : Stmt) → stmt_opens (suc n) (stmts.For from first c last s) ≡ ((first_opens n first ++ cond_if_opens n c) ++ assign_if_opens n last) ++ stmt_opens n s
    for_opens from first c last s = within n (stmts.For from first c last s) _ (for_is from first c last s)

    for_widens : Widens [] (stmt_opens (suc n)) (spec.for_stmt n p) (spec.for_stmt m q)
    unfolding spec.for_stmt
    for_widens = behind_widens [] _ _ _ take_token (λ from. behind_widens [] _ _ _ (expect terms.LeftParen) (λ o. bind_widens [] _ _ _ (first_opens n) (λ first. bind_widens (first_opens n first) _ _ _ (cond_if_opens n)
        (λ c. behind_widens (first_opens n first ++ cond_if_opens n c) _ _ _ (expect terms.Semicolon) (λ d. bind_widens (first_opens n first ++ cond_if_opens n c) _ _ _ (assign_if_opens n)
        (λ last. behind_widens ((first_opens n first ++ cond_if_opens n c) ++ assign_if_opens n last) _ _ _ (expect terms.RightParen) (λ e. bind_widens ((first_opens n first ++ cond_if_opens n c) ++ assign_if_opens n last) _ _ _ (stmt_opens n)
        (λ s. pure_widens (((first_opens n first ++ cond_if_opens n c) ++ assign_if_opens n last) ++ stmt_opens n s) (stmt_opens (suc n)) (stmts.For from first c last s) (for_opens from first c last s))
        _ _ (inner arounds.Loop))) _ _ last_widens)) _ _ middle_widens) _ _ first_widens))

    atomic_widens : (around : Around) → Widens [] (stmt_opens (suc n)) (spec.atomic_stmt n p around) (spec.atomic_stmt m q around)
    unfolding spec.atomic_stmt
    atomic_widens around = behind_widens [] _ _ _ take_token (λ from. behind_widens [] _ _ _ spec.word_end (λ b. bind_widens [] _ _ _ (stmts_opens n) (λ ss. behind_widens (stmts_opens n ss) _ _ _ (expect terms.AtomicEnd)
        (λ e. behind_widens (stmts_opens n ss) _ _ _ spec.word_end (λ c. pure_widens (stmts_opens n ss) (stmt_opens (suc n)) (stmts.Atomic from ss) (within n (stmts.Atomic from ss) _ (atomic_is from ss))))) _ _ (all_widens terms.AtomicEnd around)))

    stmt_by_widens : (around : Around) (k : Term) → Widens [] (stmt_opens (suc n)) (spec.stmt_by n p around k) (spec.stmt_by m q around k)
    stmt_by_widens around terms.LeftBrace = bind_widens [] _ _ _ (block_opens n) (λ b. pure_widens (block_opens n b) (stmt_opens (suc n)) (stmts.Block b) (within n (stmts.Block b) _ (block_is b))) _ _ (block_widens around)
    stmt_by_widens around terms.Semicolon = behind_widens [] _ _ _ take_token (λ from. pure_widens [] (stmt_opens (suc n)) (stmts.Empty from) (within n (stmts.Empty from) _ (empty_is from)))
    stmt_by_widens around terms.Static = local_stmt_widens
    stmt_by_widens around terms.Volatile = local_stmt_widens
    stmt_by_widens around terms.Extern = local_stmt_widens
    stmt_by_widens around terms.Int = local_stmt_widens
    stmt_by_widens around terms.Long = local_stmt_widens
    stmt_by_widens around terms.Name = assign_stmt_widens
    stmt_by_widens around terms.Increment = assign_stmt_widens
    stmt_by_widens around terms.Decrement = assign_stmt_widens
    stmt_by_widens around terms.If = if_widens around
    stmt_by_widens around terms.While = while_widens
    stmt_by_widens around terms.For = for_widens
    stmt_by_widens around terms.Break = break_widens around
    stmt_by_widens around terms.Return = return_widens
    stmt_by_widens around terms.AtomicBegin = atomic_widens around
    stmt_by_widens around terms.HandleType = behind_widens [] _ _ _ simple_spec.handles (λ h. pure_widens [] (stmt_opens (suc n)) (stmts.Handles h) (within n (stmts.Handles h) _ (handles_is h)))
    stmt_by_widens around _ = call_stmt_widens

-- ---- where no level is left

impossible : {A : Type 0} → ◌≡◌ {A = Bool} true false → A
impossible e = absurd cc

call_by_refuses : (levels : ℕ) (k : Term) → called k ≡ false → simple_spec.call_by levels k ≡ refuse
call_by_refuses levels terms.Assert so = impossible so
call_by_refuses levels terms.Assume so = impossible so
call_by_refuses levels terms.ReachError so = impossible so
call_by_refuses levels terms.Abort so = impossible so
call_by_refuses levels terms.Exit so = impossible so
call_by_refuses levels terms.MutexLock so = impossible so
call_by_refuses levels terms.MutexUnlock so = impossible so
call_by_refuses levels terms.MutexDestroy so = impossible so
call_by_refuses levels terms.MutexInit so = impossible so
call_by_refuses levels terms.Create so = impossible so
call_by_refuses levels terms.Join so = impossible so
call_by_refuses levels _ so = refl

call_refuses : (levels : ℕ) (i : Input) (k : Term) → peek i ≡ k → called k ≡ false → spec.call_stmt levels i ≡ Err (refusal i)
unfolding spec.call_stmt simple_spec.call
call_refuses levels i k is so = rw (is, call_by_refuses levels k so) refl

-- a token that begins no statement there
begins_called : (around : Around) (k : Term) → spec.begins around k ≡ false → called k ≡ false
begins_called around terms.Assert so = impossible so
begins_called around terms.Assume so = impossible so
begins_called around terms.ReachError so = impossible so
begins_called around terms.Abort so = impossible so
begins_called around terms.Exit so = impossible so
begins_called around terms.MutexLock so = impossible so
begins_called around terms.MutexUnlock so = impossible so
begins_called around terms.MutexDestroy so = impossible so
begins_called around terms.MutexInit so = impossible so
begins_called around terms.Create so = impossible so
begins_called around terms.Join so = impossible so
begins_called around _ so = refl

break_refuses : (around : Around) (i : Input) → spec.begins around terms.Break ≡ false → spec.break_by around i ≡ Err (refusal i)
break_refuses arounds.Loop i so = impossible so
break_refuses arounds.Nothing i so = refl

stmt_by_refuses : (levels : ℕ) (inner : Around → Parser Stmt) (around : Around) (i : Input) (k : Term) → peek i ≡ k → spec.begins around k ≡ false → spec.stmt_by levels inner around k i ≡ Err (refusal i)
stmt_by_refuses levels inner around i terms.LeftBrace is so = impossible so
stmt_by_refuses levels inner around i terms.Semicolon is so = impossible so
stmt_by_refuses levels inner around i terms.Static is so = impossible so
stmt_by_refuses levels inner around i terms.Volatile is so = impossible so
stmt_by_refuses levels inner around i terms.Extern is so = impossible so
stmt_by_refuses levels inner around i terms.Int is so = impossible so
stmt_by_refuses levels inner around i terms.Long is so = impossible so
stmt_by_refuses levels inner around i terms.Name is so = impossible so
stmt_by_refuses levels inner around i terms.Increment is so = impossible so
stmt_by_refuses levels inner around i terms.Decrement is so = impossible so
stmt_by_refuses levels inner around i terms.If is so = impossible so
stmt_by_refuses levels inner around i terms.While is so = impossible so
stmt_by_refuses levels inner around i terms.For is so = impossible so
stmt_by_refuses levels inner around i terms.Break is so = break_refuses around i so
stmt_by_refuses levels inner around i terms.Return is so = impossible so
stmt_by_refuses levels inner around i terms.AtomicBegin is so = impossible so
stmt_by_refuses levels inner around i terms.HandleType is so = impossible so
stmt_by_refuses levels inner around i k is so = call_refuses levels i k is (begins_called around k so)

-- without a level a statement opens one too many at its first token
opens_first : (s : plain.Stmt) → stmt_beyond s zero ≡ stmt_place s ∷ []
opens_first (plain.Stmt.Block from inner) = refl
opens_first (plain.Stmt.Empty from) = refl
opens_first (plain.Stmt.Locals from ls) = refl
opens_first (plain.Stmt.Assigns a) = refl
opens_first (plain.Stmt.If from c s) = refl
opens_first (plain.Stmt.IfElse from c s t) = refl
opens_first (plain.Stmt.While from c s) = refl
opens_first (plain.Stmt.For from first c last s) = refl
opens_first (plain.Stmt.Break from) = refl
opens_first (plain.Stmt.Return from) = refl
opens_first (plain.Stmt.Calls c) = refl
opens_first (plain.Stmt.Atomic from inner) = refl
opens_first (plain.Stmt.Handles from names) = refl

starts_place : (from end : ℕ) (ts : List Lexeme) → StartsAt from ts → from ≡ place_at end ts
starts_place from end [] is = absurd is
starts_place from end (t ∷ ts) is = sym is

module _ (m : ℕ) (around : Around) (i : Input) where
  opens_here : (s : Stmt) (j : Input) → spec.stmt (suc m) around i ≡ Ok (s, j) → stmt_opens zero s ≡ place i ∷ []
  unfolding place
  opens_here s j e = opens_first (plain_stmt s) ∙ ap (λ (p : ℕ). p ∷ []) (starts_place _ i.end i.tokens (stmt_starts (suc m) around s i.tokens j.tokens (stmt_found (suc m) around i s j e)))

  too_many : (r : Outcome Stmt) → spec.stmt (suc m) around i ≡ r → Fits [] (stmt_opens zero) (Err (too_deep i)) r
  too_many (Ok p) e = (place i ∷ [], opens_here p.0 p.1 e, (i, refl, refl))
  too_many (Err d) e = inr (i, refl)

  no_level : (b : Bool) → spec.begins around (peek i) ≡ b → Fits [] (stmt_opens zero) (spec.past_limit b i) (spec.stmt (suc m) around i)
  unfolding spec.stmt spec.stmt_over
  no_level true is = too_many (spec.stmt (suc m) around i) refl
  no_level false is = subst (λ (r : Outcome Stmt). Fits [] (stmt_opens zero) (Err (refusal i)) r) (sym (stmt_by_refuses m (spec.stmt m) around i (peek i) refl is)) (inl refl)

-- where no level is left in either
none_left : (around : Around) (i : Input) (b : Bool) → Fits [] (stmt_opens zero) (spec.past_limit b i) (spec.past_limit b i)
none_left around i true = inl refl
none_left around i false = inl refl

pub stmt_widens : (n m : ℕ) → n ≤ m → (around : Around) → Widens [] (stmt_opens n) (spec.stmt n around) (spec.stmt m around)
unfolding spec.stmt spec.no_stmt spec.stmt_over
stmt_widens zero zero le around = record { does = λ i. none_left around i (spec.begins around (peek i)) }
stmt_widens zero (suc m) le around = record { does = λ i. no_level m around i (spec.begins around (peek i)) refl }
stmt_widens (suc n) zero le around = absurd (omega arith)
stmt_widens (suc n) (suc m) le around = behind_widens [] _ _ _ look (stmt_by_widens n m (omega arith) (spec.stmt n) (spec.stmt m) (stmt_widens n m (omega arith)) around)
