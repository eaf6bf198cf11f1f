-- What is read of a statement stands in the text.
use Rattle.std.proofs.Common.{◌≡◌, ℕ, zero, suc, Bool, true, false, Option, Some, None, Ok, refl, sym, ap, ◌∙◌}
use Rattle.std.proofs.lemmas.Bool.{false≢true}
use Rattle.c_tree.specs.declared.term.Term.{Term}
use Rattle.c_tree.specs.declared.term.Term.TheVariants as terms
use Rattle.c_tree.specs.declared.simple.Assign.{Assign}
use Rattle.c_tree.specs.declared.simple.Cond.{Cond}
use Rattle.c_tree.specs.declared.simple.Nil.{Nil}
use Rattle.c_tree.specs.declared.stmt.Around.{Around}
use Rattle.c_tree.specs.declared.stmt.Around.TheVariants as arounds
use Rattle.c_tree.specs.declared.stmt.Block.{roll-Block}
use Rattle.c_tree.specs.declared.stmt.First.{First}
use Rattle.c_tree.specs.declared.stmt.First.TheVariants as firsts
use Rattle.c_tree.specs.declared.stmt.Stmt.{Stmt, out-Stmt}
use Rattle.c_tree.specs.declared.stmt.Stmt.TheVariants as stmts
use Rattle.c_tree.specs.Term.{same_term}
use Rattle.c_tree.specs.inside.Input.{Input, Parser, peek, place, next, sees, after, expect, refusal, term_at}
use Rattle.c_tree.specs.inside.Many.{many}
use Rattle.c_tree.specs.inside.Simple as simple_spec
use Rattle.c_tree.specs.inside.Stmt as spec
use Rattle.c_tree.specs.Sequence.{Part, Perhaps, InParens}
use Rattle.c_tree.specs.GrammarSimple.{IsNil, IsCond, IsAssign}
use Rattle.c_tree.specs.GrammarStmt.{IsWordEnd, IsElse, IsFirst, IsBlock, IsLayer, IsStmt}
use Rattle.c_tree.proofs.Steps.{bind_ok, not_err}
use Rattle.c_tree.proofs.Found.{Finds, is_next, expect_found}
use Rattle.c_tree.proofs.Again.{same_self}
use Rattle.c_tree.proofs.FoundParts.{given, open_found, close_found, semicolon_found, stands_found, empty_parens_found, eaten, not_eaten, many_found}
use Rattle.c_tree.proofs.FoundSimple.{nil_found, cond_found, assign_found, call_found}
use Rattle.c_tree.proofs.FoundLocal.{local_found, handles_found}
use Rattle.c_tree.proofs.StmtSizes.{past_limit_fails}

-- a token that is not seen is not there
pub not_there : (k : Term) (i : Input) → sees k i ≡ false → term_at i.tokens ≡ k → ⊥
unfolding sees peek
not_there k i unseen there = false≢true (sym unseen ∙ ap (λ (t : Term). same_term t k) there ∙ same_self k)

word_end_found : (i : Input) (x : ℕ) (j : Input) → spec.word_end i ≡ Ok (x, j) → IsWordEnd i.tokens j.tokens
word_end_found i x j e =
    let a = bind_ok (simple_spec.empty_parens i) _ x j e in
    (a.1.tokens, empty_parens_found i a.0 a.1 a.2, semicolon_found _ _ _ a.3)

returned_found : (i : Input) (b : Bool) (x : Option Nil) (j : Input) → spec.returned_if b i ≡ Ok (x, j) → Perhaps IsNil x i.tokens j.tokens
returned_found i true x j e = given (Perhaps IsNil) None x i j i.tokens e refl
returned_found i false x j e = (let a = bind_ok (simple_spec.nil i) _ x j e in given (Perhaps IsNil) (Some a.0) x a.1 j i.tokens a.3 (nil_found i a.0 a.1 a.2))

module _ (levels : ℕ) where
  condition_found : Finds (spec.condition levels) (λ c. InParens (IsCond levels c))
  unfolding spec.condition
  condition_found i x j e =
      let a = bind_ok (expect terms.LeftParen i) _ x j e in
      let b = bind_ok (simple_spec.cond levels a.1) _ x j a.3 in
      let c = bind_ok (expect terms.RightParen b.1) _ x j b.3 in
      given (λ y. InParens (IsCond levels y)) b.0 x c.1 j i.tokens c.3 (a.1.tokens, open_found i a.0 a.1 a.2, (b.1.tokens, cond_found levels a.1 b.0 b.1 b.2, close_found b.1 c.0 c.1 c.2))

  cond_if_found : (i : Input) (b : Bool) (x : Option Cond) (j : Input) → spec.cond_if levels b i ≡ Ok (x, j) → Perhaps (IsCond levels) x i.tokens j.tokens
  cond_if_found i true x j e = given (Perhaps (IsCond levels)) None x i j i.tokens e refl
  cond_if_found i false x j e = (let a = bind_ok (simple_spec.cond levels i) _ x j e in given (Perhaps (IsCond levels)) (Some a.0) x a.1 j i.tokens a.3 (cond_found levels i a.0 a.1 a.2))

  middle_found : Finds (spec.middle_part levels) (Perhaps (IsCond levels))
  unfolding spec.middle_part
  middle_found i x j e = cond_if_found i (sees terms.Semicolon i) x j e

  last_if_found : (i : Input) (b : Bool) (x : Option Assign) (j : Input) → spec.last_if levels b i ≡ Ok (x, j) → Perhaps (IsAssign levels) x i.tokens j.tokens
  last_if_found i true x j e = given (Perhaps (IsAssign levels)) None x i j i.tokens e refl
  last_if_found i false x j e = (let a = bind_ok (simple_spec.assign levels i) _ x j e in given (Perhaps (IsAssign levels)) (Some a.0) x a.1 j i.tokens a.3 (assign_found levels i a.0 a.1 a.2))

  last_found : Finds (spec.last_part levels) (Perhaps (IsAssign levels))
  unfolding spec.last_part
  last_found i x j e = last_if_found i (sees terms.RightParen i) x j e

-- With statements inside as Inner says.
module _ (levels : ℕ) (inner : Around → Parser Stmt) (Inner : Around → Stmt → Part) (finds : (around : Around) → Finds (inner around) (Inner around)) where
  abbrev IsFirstHere : First → Part
  IsFirstHere = IsFirst levels

  abbrev IsHere : Around → Stmt → Part
  IsHere around s = IsLayer levels Inner around (out-Stmt s)

  first_local_found : Finds (spec.first_local levels) IsFirstHere
  unfolding spec.first_local
  first_local_found i x j e = (let a = bind_ok (simple_spec.local levels i) _ x j e in given IsFirstHere (firsts.Local a.0) x a.1 j i.tokens a.3 (local_found levels i a.0 a.1 a.2))

  first_assign_found : Finds (spec.first_assign levels) IsFirstHere
  unfolding spec.first_assign
  first_assign_found i x j e =
      let a = bind_ok (simple_spec.assign levels i) _ x j e in
      let b = bind_ok (expect terms.Semicolon a.1) _ x j a.3 in
      given IsFirstHere (firsts.Assign a.0) x b.1 j i.tokens b.3 (a.1.tokens, assign_found levels i a.0 a.1 a.2, semicolon_found a.1 b.0 b.1 b.2)

  first_by_found : (i : Input) (k : Term) → peek i ≡ k → (x : First) (j : Input) → spec.first_by levels k i ≡ Ok (x, j) → IsFirstHere x i.tokens j.tokens
  first_by_found i terms.Static is x j e = first_local_found i x j e
  first_by_found i terms.Volatile is x j e = first_local_found i x j e
  first_by_found i terms.Extern is x j e = first_local_found i x j e
  first_by_found i terms.Int is x j e = first_local_found i x j e
  first_by_found i terms.Long is x j e = first_local_found i x j e
  first_by_found i terms.Semicolon is x j e = given IsFirstHere (firsts.Empty (place i)) x (next i) j i.tokens e (is_next i terms.Semicolon (λ h. cc) is)
  first_by_found i _ is x j e = first_assign_found i x j e

  first_found : Finds (spec.first_part levels) IsFirstHere
  unfolding spec.first_part
  first_found i x j e = first_by_found i (peek i) refl x j e

  pub block_found : (around : Around) → Finds (spec.block levels inner around) (IsBlock levels Inner around)
  unfolding spec.block
  block_found around i x j e =
      let a = bind_ok (expect terms.LeftBrace i) _ x j e in
      let b = bind_ok (many terms.RightBrace (inner around) a.1) _ x j a.3 in
      let c = bind_ok (expect terms.RightBrace b.1) _ x j b.3 in
      given (IsBlock levels Inner around) (roll-Block (record { from = a.0; stmts = b.0 })) x c.1 j i.tokens c.3
      (a.1.tokens, expect_found terms.LeftBrace (λ h. cc) i a.0 a.1 a.2, (b.1.tokens, many_found terms.RightBrace (inner around) (Inner around) (finds around) a.1 b.0 b.1 b.2, stands_found terms.RightBrace (λ h. cc) b.1 c.0 c.1 c.2))

  else_found : (around : Around) (i : Input) (b : Bool) → sees terms.Else i ≡ b → (x : Option Stmt) (j : Input) → spec.else_if levels inner around b (after terms.Else i) ≡ Ok (x, j) → IsElse (Inner around) x i.tokens j.tokens
  else_found around i true is x j e =
      let a = bind_ok (inner around (after terms.Else i)) _ x j e in
      given (IsElse (Inner around)) (Some a.0) x a.1 j i.tokens a.3 ((after terms.Else i).tokens, eaten terms.Else (λ h. cc) i is, finds around (after terms.Else i) a.0 a.1 a.2)
  else_found around i false is x j e =
      let same = not_eaten terms.Else i is in
      given (IsElse (Inner around)) None x (after terms.Else i) j i.tokens e (same, λ there. not_there terms.Else i is (ap term_at same ∙ there))

  if_found : (around : Around) (i : Input) → peek i ≡ terms.If → (x : Stmt) (j : Input) → spec.if_stmt levels inner around i ≡ Ok (x, j) → IsHere around x i.tokens j.tokens
  unfolding spec.if_stmt
  if_found around i is x j e =
      let a = bind_ok (spec.condition levels (next i)) _ x j e in
      let b = bind_ok (inner around a.1) _ x j a.3 in
      let c = bind_ok (spec.else_if levels inner around (sees terms.Else b.1) (after terms.Else b.1)) _ x j b.3 in
      given (IsHere around) (stmts.If (place i) a.0 b.0 c.0) x c.1 j i.tokens c.3
      (rw stmts.outs-If ((next i).tokens, is_next i terms.If (λ h. cc) is, (a.1.tokens, condition_found levels (next i) a.0 a.1 a.2, (b.1.tokens, finds around a.1 b.0 b.1 b.2, else_found around b.1 (sees terms.Else b.1) refl c.0 c.1 c.2))))

  while_found : (around : Around) (i : Input) → peek i ≡ terms.While → (x : Stmt) (j : Input) → spec.while_stmt levels inner i ≡ Ok (x, j) → IsHere around x i.tokens j.tokens
  unfolding spec.while_stmt
  while_found around i is x j e =
      let a = bind_ok (spec.condition levels (next i)) _ x j e in
      let b = bind_ok (inner arounds.Loop a.1) _ x j a.3 in
      given (IsHere around) (stmts.While (place i) a.0 b.0) x b.1 j i.tokens b.3
      (rw stmts.outs-While ((next i).tokens, is_next i terms.While (λ h. cc) is, (a.1.tokens, condition_found levels (next i) a.0 a.1 a.2, finds arounds.Loop a.1 b.0 b.1 b.2)))

  for_found : (around : Around) (i : Input) → peek i ≡ terms.For → (x : Stmt) (j : Input) → spec.for_stmt levels inner i ≡ Ok (x, j) → IsHere around x i.tokens j.tokens
  unfolding spec.for_stmt
  for_found around i is x j e =
      let a = bind_ok (expect terms.LeftParen (next i)) _ x j e in
      let b = bind_ok (spec.first_part levels a.1) _ x j a.3 in
      let c = bind_ok (spec.middle_part levels b.1) _ x j b.3 in
      let d = bind_ok (expect terms.Semicolon c.1) _ x j c.3 in
      let f = bind_ok (spec.last_part levels d.1) _ x j d.3 in
      let g = bind_ok (expect terms.RightParen f.1) _ x j f.3 in
      let h = bind_ok (inner arounds.Loop g.1) _ x j g.3 in
      given (IsHere around) (stmts.For (place i) b.0 c.0 f.0 h.0) x h.1 j i.tokens h.3
      (rw stmts.outs-For (
        (next i).tokens,
        is_next i terms.For (λ z. cc) is,
        (
          g.1.tokens,
          (a.1.tokens, open_found (next i) a.0 a.1 a.2, (f.1.tokens, (b.1.tokens, first_found a.1 b.0 b.1 b.2, (c.1.tokens, middle_found levels b.1 c.0 c.1 c.2, (d.1.tokens, semicolon_found c.1 d.0 d.1 d.2, last_found levels d.1 f.0 f.1 f.2))), close_found f.1 g.0 g.1 g.2)),
          finds arounds.Loop g.1 h.0 h.1 h.2,
        ),
      ))

  break_found : (around : Around) (i : Input) → peek i ≡ terms.Break → (x : Stmt) (j : Input) → spec.break_by around i ≡ Ok (x, j) → IsHere around x i.tokens j.tokens
  break_found arounds.Nothing i is x j e = absurd (not_err (refusal i) x j e)
  break_found arounds.Loop i is x j e =
      let a = bind_ok (expect terms.Semicolon (next i)) _ x j e in
      given (IsHere arounds.Loop) (stmts.Break (place i)) x a.1 j i.tokens a.3 (rw stmts.outs-Break ((next i).tokens, is_next i terms.Break (λ h. cc) is, semicolon_found (next i) a.0 a.1 a.2))

  return_found : (around : Around) (i : Input) → peek i ≡ terms.Return → (x : Stmt) (j : Input) → spec.return_stmt i ≡ Ok (x, j) → IsHere around x i.tokens j.tokens
  unfolding spec.return_stmt
  return_found around i is x j e =
      let a = bind_ok (spec.returned_if (sees terms.Semicolon (next i)) (next i)) _ x j e in
      let b = bind_ok (expect terms.Semicolon a.1) _ x j a.3 in
      given (IsHere around) (stmts.Return (place i) a.0) x b.1 j i.tokens b.3
      (rw stmts.outs-Return ((next i).tokens, is_next i terms.Return (λ h. cc) is, (a.1.tokens, returned_found (next i) (sees terms.Semicolon (next i)) a.0 a.1 a.2, semicolon_found a.1 b.0 b.1 b.2)))

  atomic_found : (around : Around) (i : Input) → peek i ≡ terms.AtomicBegin → (x : Stmt) (j : Input) → spec.atomic_stmt levels inner around i ≡ Ok (x, j) → IsHere around x i.tokens j.tokens
  unfolding spec.atomic_stmt
  atomic_found around i is x j e =
      let a = bind_ok (spec.word_end (next i)) _ x j e in
      let b = bind_ok (many terms.AtomicEnd (inner around) a.1) _ x j a.3 in
      let c = bind_ok (expect terms.AtomicEnd b.1) _ x j b.3 in
      let d = bind_ok (spec.word_end c.1) _ x j c.3 in
      given (IsHere around) (stmts.Atomic (place i) b.0) x d.1 j i.tokens d.3
      (rw stmts.outs-Atomic (
        (next i).tokens,
        is_next i terms.AtomicBegin (λ h. cc) is,
        (
          a.1.tokens,
          word_end_found (next i) a.0 a.1 a.2,
          (b.1.tokens, many_found terms.AtomicEnd (inner around) (Inner around) (finds around) a.1 b.0 b.1 b.2, (c.1.tokens, stands_found terms.AtomicEnd (λ h. cc) b.1 c.0 c.1 c.2, word_end_found c.1 d.0 d.1 d.2)),
        ),
      ))

  local_stmt_found : (around : Around) → Finds (spec.local_stmt levels) (IsHere around)
  unfolding spec.local_stmt
  local_stmt_found around i x j e = (let a = bind_ok (simple_spec.local levels i) _ x j e in given (IsHere around) (stmts.Local a.0) x a.1 j i.tokens a.3 (rw stmts.outs-Local (local_found levels i a.0 a.1 a.2)))

  assign_stmt_found : (around : Around) → Finds (spec.assign_stmt levels) (IsHere around)
  unfolding spec.assign_stmt
  assign_stmt_found around i x j e =
      let a = bind_ok (simple_spec.assign levels i) _ x j e in
      let b = bind_ok (expect terms.Semicolon a.1) _ x j a.3 in
      given (IsHere around) (stmts.Assign a.0) x b.1 j i.tokens b.3 (rw stmts.outs-Assign (a.1.tokens, assign_found levels i a.0 a.1 a.2, semicolon_found a.1 b.0 b.1 b.2))

  call_stmt_found : (around : Around) → Finds (spec.call_stmt levels) (IsHere around)
  unfolding spec.call_stmt
  call_stmt_found around i x j e =
      let a = bind_ok (simple_spec.call levels i) _ x j e in
      let b = bind_ok (expect terms.Semicolon a.1) _ x j a.3 in
      given (IsHere around) (stmts.Call a.0) x b.1 j i.tokens b.3 (rw stmts.outs-Call (a.1.tokens, call_found levels i a.0 a.1 a.2, semicolon_found a.1 b.0 b.1 b.2))

  stmt_by_found : (around : Around) (i : Input) (k : Term) → peek i ≡ k → (x : Stmt) (j : Input) → spec.stmt_by levels inner around k i ≡ Ok (x, j) → IsHere around x i.tokens j.tokens
  stmt_by_found around i terms.LeftBrace is x j e = (let a = bind_ok (spec.block levels inner around i) _ x j e in given (IsHere around) (stmts.Block a.0) x a.1 j i.tokens a.3 (rw stmts.outs-Block (block_found around i a.0 a.1 a.2)))
  stmt_by_found around i terms.Semicolon is x j e = given (IsHere around) (stmts.Empty (place i)) x (next i) j i.tokens e (rw stmts.outs-Empty (is_next i terms.Semicolon (λ h. cc) is))
  stmt_by_found around i terms.Static is x j e = local_stmt_found around i x j e
  stmt_by_found around i terms.Volatile is x j e = local_stmt_found around i x j e
  stmt_by_found around i terms.Extern is x j e = local_stmt_found around i x j e
  stmt_by_found around i terms.Int is x j e = local_stmt_found around i x j e
  stmt_by_found around i terms.Long is x j e = local_stmt_found around i x j e
  stmt_by_found around i terms.Name is x j e = assign_stmt_found around i x j e
  stmt_by_found around i terms.Increment is x j e = assign_stmt_found around i x j e
  stmt_by_found around i terms.Decrement is x j e = assign_stmt_found around i x j e
  stmt_by_found around i terms.If is x j e = if_found around i is x j e
  stmt_by_found around i terms.While is x j e = while_found around i is x j e
  stmt_by_found around i terms.For is x j e = for_found around i is x j e
  stmt_by_found around i terms.Break is x j e = break_found around i is x j e
  stmt_by_found around i terms.Return is x j e = return_found around i is x j e
  stmt_by_found around i terms.AtomicBegin is x j e = atomic_found around i is x j e
  stmt_by_found around i terms.HandleType is x j e = (let a = bind_ok (simple_spec.handles i) _ x j e in given (IsHere around) (stmts.Handles a.0) x a.1 j i.tokens a.3 (rw stmts.outs-Handles (handles_found i a.0 a.1 a.2)))
  stmt_by_found around i _ is x j e = call_stmt_found around i x j e

pub stmt_found : (levels : ℕ) (around : Around) → Finds (spec.stmt levels around) (IsStmt levels around)
unfolding spec.stmt spec.stmt_over spec.no_stmt IsStmt
stmt_found zero around i x j e = absurd (past_limit_fails (spec.begins around (peek i)) i x j e)
stmt_found (suc levels) around i x j e = stmt_by_found levels (spec.stmt levels) (IsStmt levels) (stmt_found levels) around i (peek i) refl x j e
