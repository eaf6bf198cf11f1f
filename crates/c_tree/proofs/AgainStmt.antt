-- A statement that stands in the text is read.
use Rattle.std.proofs.Common.{◌≡◌, ℕ, zero, suc, rules, Bool, true, false, List, Option, Some, None, Ok, refl, sym, ap, ◌∙◌}
use Rattle.c_lex.specs.Tokens.{Lexeme}
use Rattle.c_tree.specs.declared.term.Term.{Term}
use Rattle.c_tree.specs.declared.term.Term.TheVariants as terms
use Rattle.c_tree.specs.declared.simple.Assign.{Assign}
use Rattle.c_tree.specs.declared.simple.Cond.{Cond}
use Rattle.c_tree.specs.declared.simple.Nil.{Nil}
use Rattle.c_tree.specs.declared.stmt.Around.{Around}
use Rattle.c_tree.specs.declared.stmt.Around.TheVariants as arounds
use Rattle.c_tree.specs.declared.stmt.Block.{Block, out-Block, roll-out-Block}
use Rattle.c_tree.specs.declared.stmt.First.{First}
use Rattle.c_tree.specs.declared.stmt.First.TheVariants as firsts
use Rattle.c_tree.specs.declared.stmt.Stmt.{Stmt, out-Stmt, roll-Stmt, roll-out-Stmt}
use Rattle.c_tree.specs.declared.stmt.Stmt.TheVariants as stmts
use Rattle.c_tree.specs.declared.stmt.Stmt.TheOpen.{Stmt-F}
use denote.Enum.Bare.{same_true}
use Rattle.c_tree.specs.contracts.term.Term.{the_type}
use Rattle.c_tree.specs.Term.{same_term}
use Rattle.c_tree.specs.inside.Input.{Input, Outcome, Parser, peek, sees, after, term_at}
use Rattle.c_tree.specs.inside.Stmt as spec
use Rattle.c_tree.specs.Sequence.{Part, Perhaps, InParens}
use Rattle.c_tree.specs.GrammarSimple.{IsNil, IsCond, IsAssign}
use Rattle.c_tree.specs.GrammarStmt.{IsWordEnd, IsElse, IsFirst, IsBlock, IsLayer, IsStmt}
use Rattle.c_tree.proofs.Shrinks.{Shrinks}
use Rattle.c_tree.proofs.StmtSizes.{stmt_shrinks}
use Rattle.c_tree.proofs.Again.{at, is_peek, is_place, is_behind, is_term, expect_again, same_self}
use Rattle.c_tree.proofs.AgainParts.{Always, closes, closed, stands_term, stands_again, is_eaten, behind_eaten, not_seen, not_behind, empty_parens_again, many_again}
use Rattle.c_tree.proofs.AgainSimple.{nil_again, cond_again, assign_again, call_again}
use Rattle.c_tree.proofs.AgainLocal.{local_again, handles_again}
use Rattle.c_tree.proofs.Leads.{impossible, declares, sets, called, local_declares, assign_sets, call_called, cond_no_semicolon, nil_no_semicolon, assign_no_paren, begins_no_brace, begins_no_end, stmt_begins}

-- a token that is not there is not the same
other_term : (k t : Term) → (t ≡ k → ⊥) → same_term t k ≡ false
unfolding same_term
other_term k t differs = go (same_term t k) refl
  where
    go : (b : Bool) → same_term t k ≡ b → b ≡ false
    go true is = absurd (differs (same_true the_type (search rules) t k is))
    go false is = refl

word_end_again : (end : ℕ) (ts rest : List Lexeme) (is : IsWordEnd ts rest) → spec.word_end (at ts end) ≡ Ok (is.2.0, at rest end)
word_end_again end ts rest is = rw (empty_parens_again end ts is.0 is.1, stands_again terms.Semicolon end is.0 rest is.2) refl

-- what may be missing, in front of a semicolon
returned_again : (end : ℕ) (value : Option Nil) (ts rest : List Lexeme) → Perhaps IsNil value ts rest → term_at rest ≡ terms.Semicolon → spec.returned_if (sees terms.Semicolon (at ts end)) (at ts end) ≡ Ok (value, at rest end)
unfolding sees peek
returned_again end None ts rest is ends = rw (ap term_at is ∙ ends, same_self terms.Semicolon) (ap (λ (l : List Lexeme). Ok (None, at l end)) is)
returned_again end (Some n) ts rest is ends = rw (nil_no_semicolon n ts rest is, nil_again end n ts rest is) refl

module _ (levels : ℕ) where
  condition_again : Always (spec.condition levels) (λ c. InParens (IsCond levels c))
  unfolding spec.condition
  condition_again end c ts rest is =
      let so = closed terms.RightParen refl is.2.0 rest is.2.2 in
      rw (stands_again terms.LeftParen end ts is.0 is.1, cond_again levels end c is.0 is.2.0 is.2.1 so, stands_again terms.RightParen end is.2.0 rest is.2.2) refl

  middle_again : (end : ℕ) (c : Option Cond) (ts rest : List Lexeme) → Perhaps (IsCond levels) c ts rest → term_at rest ≡ terms.Semicolon → spec.middle_part levels (at ts end) ≡ Ok (c, at rest end)
  unfolding spec.middle_part sees peek
  middle_again end None ts rest is ends = rw (ap term_at is ∙ ends, same_self terms.Semicolon) (ap (λ (l : List Lexeme). Ok (None, at l end)) is)
  middle_again end (Some c) ts rest is ends = rw (cond_no_semicolon levels c ts rest is, cond_again levels end c ts rest is (ap closes ends)) refl

  last_again : (end : ℕ) (a : Option Assign) (ts rest : List Lexeme) → Perhaps (IsAssign levels) a ts rest → term_at rest ≡ terms.RightParen → spec.last_part levels (at ts end) ≡ Ok (a, at rest end)
  unfolding spec.last_part sees peek
  last_again end None ts rest is ends = rw (ap term_at is ∙ ends, same_self terms.RightParen) (ap (λ (l : List Lexeme). Ok (None, at l end)) is)
  last_again end (Some a) ts rest is ends = rw (assign_no_paren levels a ts rest is, assign_again levels end a ts rest is (ap closes ends)) refl

  first_by_local : (k : Term) → declares k ≡ true → spec.first_by levels k ≡ spec.first_local levels
  first_by_local terms.Static so = refl
  first_by_local terms.Volatile so = refl
  first_by_local terms.Extern so = refl
  first_by_local terms.Int so = refl
  first_by_local terms.Long so = refl
  first_by_local _ so = impossible so

  first_by_assign : (k : Term) → sets k ≡ true → spec.first_by levels k ≡ spec.first_assign levels
  first_by_assign terms.Name so = refl
  first_by_assign terms.Increment so = refl
  first_by_assign terms.Decrement so = refl
  first_by_assign _ so = impossible so

  first_again : Always (spec.first_part levels) (IsFirst levels)
  unfolding spec.first_part spec.first_local spec.first_assign peek
  first_again end (firsts.Local l) ts rest is = rw (first_by_local (term_at ts) (local_declares levels l ts rest is), local_again levels end l ts rest is) refl
  first_again end (firsts.Assign a) ts rest is =
      rw (first_by_assign (term_at ts) (assign_sets levels a ts is.0 is.1), assign_again levels end a ts is.0 is.1 (closed terms.Semicolon refl is.0 rest is.2), stands_again terms.Semicolon end is.0 rest is.2) refl
  first_again end (firsts.Empty from) ts rest is = rw (is_term terms.Semicolon from ts rest is, is_place terms.Semicolon from end ts rest is, is_behind terms.Semicolon from end ts rest is) refl

-- the statement that a layer makes
gives : (s made : Stmt) (layer : Stmt-F Stmt Block) (r : Outcome Stmt) (rest : Input) → out-Stmt s ≡ layer → made ≡ roll-Stmt layer → r ≡ Ok (made, rest) → r ≡ Ok (s, rest)
gives s made layer r rest is rolls e = e ∙ ap (λ (x : Stmt). Ok (x, rest)) (rolls ∙ ap roll-Stmt (sym is) ∙ roll-out-Stmt s)

module _ (levels : ℕ) (inner : Around → Parser Stmt) where
  stmt_by_local : (around : Around) (k : Term) → declares k ≡ true → spec.stmt_by levels inner around k ≡ spec.local_stmt levels
  stmt_by_local around terms.Static so = refl
  stmt_by_local around terms.Volatile so = refl
  stmt_by_local around terms.Extern so = refl
  stmt_by_local around terms.Int so = refl
  stmt_by_local around terms.Long so = refl
  stmt_by_local around _ so = impossible so

  stmt_by_assign : (around : Around) (k : Term) → sets k ≡ true → spec.stmt_by levels inner around k ≡ spec.assign_stmt levels
  stmt_by_assign around terms.Name so = refl
  stmt_by_assign around terms.Increment so = refl
  stmt_by_assign around terms.Decrement so = refl
  stmt_by_assign around _ so = impossible so

  stmt_by_call : (around : Around) (k : Term) → called k ≡ true → spec.stmt_by levels inner around k ≡ spec.call_stmt levels
  stmt_by_call around terms.Assert so = refl
  stmt_by_call around terms.Assume so = refl
  stmt_by_call around terms.ReachError so = refl
  stmt_by_call around terms.Abort so = refl
  stmt_by_call around terms.Exit so = refl
  stmt_by_call around terms.MutexLock so = refl
  stmt_by_call around terms.MutexUnlock so = refl
  stmt_by_call around terms.MutexDestroy so = refl
  stmt_by_call around terms.MutexInit so = refl
  stmt_by_call around terms.Create so = refl
  stmt_by_call around terms.Join so = refl
  stmt_by_call around _ so = impossible so

-- With statements inside as Inner says, each of which begins with a token that begins one.
module _ (levels : ℕ) (inner : Around → Parser Stmt) (Inner : Around → Stmt → Part) (again : (around : Around) → Always (inner around) (Inner around)) (shrinks : (around : Around) → Shrinks (inner around))
    (leads : (around : Around) (s : Stmt) (ts rest : List Lexeme) → Inner around s ts rest → spec.begins around (term_at ts) ≡ true) where
  pub block_again : (around : Around) → Always (spec.block levels inner around) (IsBlock levels Inner around)
  unfolding spec.block
  block_again around end b ts rest is =
      let stop = is_eaten terms.RightBrace end is.2.0 rest is.2.2 in
      let each = many_again terms.RightBrace (inner around) (Inner around) (again around) (shrinks around) (λ stop s l m holds. not_seen terms.RightBrace stop l (begins_no_brace around (term_at l) (leads around s l m holds)))
      end (out-Block b).stmts is.0 is.2.0 is.2.1 stop in
      rw (expect_again terms.LeftBrace (out-Block b).from end ts is.0 is.1, each, stands_again terms.RightBrace end is.2.0 rest is.2.2) (ap (λ (x : Block). Ok (x, at rest end)) (roll-out-Block b))

  else_again : (around : Around) (end : ℕ) (otherwise : Option Stmt) (ts rest : List Lexeme) → IsElse (Inner around) otherwise ts rest → spec.else_if levels inner around (sees terms.Else (at ts end)) (after terms.Else (at ts end)) ≡ Ok (otherwise, at rest end)
  else_again around end None ts rest is =
      let other = other_term terms.Else (term_at ts) (λ there. is.1 (ap term_at (sym is.0) ∙ there)) in
      rw (not_seen terms.Else end ts other, not_behind terms.Else end ts other) (ap (λ (l : List Lexeme). Ok (None, at l end)) is.0)
  else_again around end (Some s) ts rest is = rw (is_eaten terms.Else end ts is.0 is.1, behind_eaten terms.Else end ts is.0 is.1, again around end s is.0 rest is.2) refl

  if_again : (around : Around) (s : Stmt) (end from : ℕ) (c : Cond) (inside : Stmt) (otherwise : Option Stmt) (ts rest : List Lexeme) → out-Stmt s ≡ Stmt-F.If from c inside otherwise → IsLayer levels Inner around (Stmt-F.If from c inside otherwise) ts rest
      → spec.stmt_over levels inner around (at ts end) ≡ Ok (s, at rest end)
  unfolding spec.stmt_over spec.if_stmt
  if_again around s end from c inside otherwise ts rest layer is =
      let last = is.2.2 in
      gives s (stmts.If from c inside otherwise) (Stmt-F.If from c inside otherwise) _ (at rest end) layer (sym (stmts.rolls-If from c inside otherwise))
      (rw (
        is_peek terms.If from end ts is.0 is.1,
        is_place terms.If from end ts is.0 is.1,
        is_behind terms.If from end ts is.0 is.1,
        condition_again levels end c is.0 is.2.0 is.2.1,
        again around end inside is.2.0 last.0 last.1,
        else_again around end otherwise last.0 rest last.2,
      ) refl)

  while_again : (around : Around) (s : Stmt) (end from : ℕ) (c : Cond) (body : Stmt) (ts rest : List Lexeme) → out-Stmt s ≡ Stmt-F.While from c body → IsLayer levels Inner around (Stmt-F.While from c body) ts rest
      → spec.stmt_over levels inner around (at ts end) ≡ Ok (s, at rest end)
  unfolding spec.stmt_over spec.while_stmt
  while_again around s end from c body ts rest layer is =
      gives s (stmts.While from c body) (Stmt-F.While from c body) _ (at rest end) layer (sym (stmts.rolls-While from c body))
      (rw (
        is_peek terms.While from end ts is.0 is.1,
        is_place terms.While from end ts is.0 is.1,
        is_behind terms.While from end ts is.0 is.1,
        condition_again levels end c is.0 is.2.0 is.2.1,
        again arounds.Loop end body is.2.0 rest is.2.2,
      ) refl)

  for_again : (around : Around) (s : Stmt) (end from : ℕ) (first : First) (c : Option Cond) (last : Option Assign) (body : Stmt) (ts rest : List Lexeme) → out-Stmt s ≡ Stmt-F.For from first c last body
      → IsLayer levels Inner around (Stmt-F.For from first c last body) ts rest → spec.stmt_over levels inner around (at ts end) ≡ Ok (s, at rest end)
  unfolding spec.stmt_over spec.for_stmt
  for_again around s end from first c last body ts rest layer is =
      let parens = is.2.1 in
      let one = parens.2.1 in
      let two = one.2 in
      let three = two.2 in
      let ends = stands_term terms.Semicolon two.0 three.0 three.1 in
      let shuts = stands_term terms.RightParen parens.2.0 is.2.0 parens.2.2 in
      gives s (stmts.For from first c last body) (Stmt-F.For from first c last body) _ (at rest end) layer (sym (stmts.rolls-For from first c last body))
      (rw (
        is_peek terms.For from end ts is.0 is.1,
        is_place terms.For from end ts is.0 is.1,
        is_behind terms.For from end ts is.0 is.1,
        stands_again terms.LeftParen end is.0 parens.0 parens.1,
        first_again levels end first parens.0 one.0 one.1,
        middle_again levels end c one.0 two.0 two.1 ends,
        stands_again terms.Semicolon end two.0 three.0 three.1,
        last_again levels end last three.0 parens.2.0 three.2 shuts,
        stands_again terms.RightParen end parens.2.0 is.2.0 parens.2.2,
        again arounds.Loop end body is.2.0 rest is.2.2,
      ) refl)

  break_again : (around : Around) (s : Stmt) (end from : ℕ) (ts rest : List Lexeme) → out-Stmt s ≡ Stmt-F.Break from → IsLayer levels Inner around (Stmt-F.Break from) ts rest → spec.stmt_over levels inner around (at ts end) ≡ Ok (s, at rest end)
  unfolding spec.stmt_over
  break_again arounds.Nothing s end from ts rest layer is = absurd is
  break_again arounds.Loop s end from ts rest layer is =
      gives s (stmts.Break from) (Stmt-F.Break from) _ (at rest end) layer (sym (stmts.rolls-Break from))
      (rw (is_peek terms.Break from end ts is.0 is.1, is_place terms.Break from end ts is.0 is.1, is_behind terms.Break from end ts is.0 is.1, stands_again terms.Semicolon end is.0 rest is.2) refl)

  return_again : (around : Around) (s : Stmt) (end from : ℕ) (value : Option Nil) (ts rest : List Lexeme) → out-Stmt s ≡ Stmt-F.Return from value → IsLayer levels Inner around (Stmt-F.Return from value) ts rest
      → spec.stmt_over levels inner around (at ts end) ≡ Ok (s, at rest end)
  unfolding spec.stmt_over spec.return_stmt
  return_again around s end from value ts rest layer is =
      let ends = stands_term terms.Semicolon is.2.0 rest is.2.2 in
      gives s (stmts.Return from value) (Stmt-F.Return from value) _ (at rest end) layer (sym (stmts.rolls-Return from value))
      (rw (
        is_peek terms.Return from end ts is.0 is.1,
        is_place terms.Return from end ts is.0 is.1,
        is_behind terms.Return from end ts is.0 is.1,
        returned_again end value is.0 is.2.0 is.2.1 ends,
        stands_again terms.Semicolon end is.2.0 rest is.2.2,
      ) refl)

  atomic_again : (around : Around) (s : Stmt) (end from : ℕ) (ss : List Stmt) (ts rest : List Lexeme) → out-Stmt s ≡ Stmt-F.Atomic from ss → IsLayer levels Inner around (Stmt-F.Atomic from ss) ts rest
      → spec.stmt_over levels inner around (at ts end) ≡ Ok (s, at rest end)
  unfolding spec.stmt_over spec.atomic_stmt
  atomic_again around s end from ss ts rest layer is =
      let inside = is.2.2 in
      let last = inside.2 in
      let stop = is_eaten terms.AtomicEnd end inside.0 last.0 last.1 in
      let each = many_again terms.AtomicEnd (inner around) (Inner around) (again around) (shrinks around) (λ stop x l m holds. not_seen terms.AtomicEnd stop l (begins_no_end around (term_at l) (leads around x l m holds)))
      end ss is.2.0 inside.0 inside.1 stop in
      gives s (stmts.Atomic from ss) (Stmt-F.Atomic from ss) _ (at rest end) layer (sym (stmts.rolls-Atomic from ss))
      (rw (
        is_peek terms.AtomicBegin from end ts is.0 is.1,
        is_place terms.AtomicBegin from end ts is.0 is.1,
        is_behind terms.AtomicBegin from end ts is.0 is.1,
        word_end_again end is.0 is.2.0 is.2.1,
        each,
        stands_again terms.AtomicEnd end inside.0 last.0 last.1,
        word_end_again end last.0 rest last.2,
      ) refl)

  layer_again : (around : Around) (s : Stmt) (end : ℕ) (layer : Stmt-F Stmt Block) (ts rest : List Lexeme) → out-Stmt s ≡ layer → IsLayer levels Inner around layer ts rest → spec.stmt_over levels inner around (at ts end) ≡ Ok (s, at rest end)
  unfolding spec.stmt_over spec.local_stmt spec.assign_stmt spec.call_stmt peek
  layer_again around s end (Stmt-F.Block b) ts rest layer is =
      gives s (stmts.Block b) (Stmt-F.Block b) _ (at rest end) layer (sym (stmts.rolls-Block b)) (rw (is_term terms.LeftBrace (out-Block b).from ts is.0 is.1, block_again around end b ts rest is) refl)
  layer_again around s end (Stmt-F.Empty from) ts rest layer is =
      gives s (stmts.Empty from) (Stmt-F.Empty from) _ (at rest end) layer (sym (stmts.rolls-Empty from)) (rw (is_term terms.Semicolon from ts rest is, is_place terms.Semicolon from end ts rest is, is_behind terms.Semicolon from end ts rest is) refl)
  layer_again around s end (Stmt-F.Local l) ts rest layer is =
      gives s (stmts.Local l) (Stmt-F.Local l) _ (at rest end) layer (sym (stmts.rolls-Local l)) (rw (stmt_by_local levels inner around (term_at ts) (local_declares levels l ts rest is), local_again levels end l ts rest is) refl)
  layer_again around s end (Stmt-F.Assign a) ts rest layer is =
      gives s (stmts.Assign a) (Stmt-F.Assign a) _ (at rest end) layer (sym (stmts.rolls-Assign a))
      (rw (stmt_by_assign levels inner around (term_at ts) (assign_sets levels a ts is.0 is.1), assign_again levels end a ts is.0 is.1 (closed terms.Semicolon refl is.0 rest is.2), stands_again terms.Semicolon end is.0 rest is.2) refl)
  layer_again around s end (Stmt-F.If from c inside otherwise) ts rest layer is = if_again around s end from c inside otherwise ts rest layer is
  layer_again around s end (Stmt-F.While from c body) ts rest layer is = while_again around s end from c body ts rest layer is
  layer_again around s end (Stmt-F.For from first c last body) ts rest layer is = for_again around s end from first c last body ts rest layer is
  layer_again around s end (Stmt-F.Break from) ts rest layer is = break_again around s end from ts rest layer is
  layer_again around s end (Stmt-F.Return from value) ts rest layer is = return_again around s end from value ts rest layer is
  layer_again around s end (Stmt-F.Call c) ts rest layer is =
      gives s (stmts.Call c) (Stmt-F.Call c) _ (at rest end) layer (sym (stmts.rolls-Call c))
      (rw (stmt_by_call levels inner around (term_at ts) (call_called levels c ts is.0 is.1), call_again levels end c ts is.0 is.1, stands_again terms.Semicolon end is.0 rest is.2) refl)
  layer_again around s end (Stmt-F.Atomic from ss) ts rest layer is = atomic_again around s end from ss ts rest layer is
  layer_again around s end (Stmt-F.Handles h) ts rest layer is =
      gives s (stmts.Handles h) (Stmt-F.Handles h) _ (at rest end) layer (sym (stmts.rolls-Handles h)) (rw (is_term terms.HandleType h.from ts is.0 is.1, handles_again end h ts rest is) refl)

pub stmt_again : (levels : ℕ) (around : Around) → Always (spec.stmt levels around) (IsStmt levels around)
unfolding spec.stmt IsStmt
stmt_again zero around end s ts rest is = absurd is
stmt_again (suc levels) around end s ts rest is =
    layer_again levels (spec.stmt levels) (IsStmt levels) (stmt_again levels) (stmt_shrinks levels) (stmt_begins levels) around s end (out-Stmt s) ts rest refl is
