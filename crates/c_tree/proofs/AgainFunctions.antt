-- Functions and prototypes that stand in the text are read.
use Rattle.std.proofs.Common.{◌≡◌, ℕ, false, List, Option, Some, None, Ok, refl, ap, ◌∙◌}
use Rattle.std.proofs.Math.Logic.{inl, inr}
use Rattle.c_lex.specs.Tokens.{Lexeme}
use Rattle.c_tree.specs.declared.term.Term.{Term}
use Rattle.c_tree.specs.declared.term.Term.TheVariants as terms
use Rattle.c_tree.specs.declared.stmt.Around.TheVariants as arounds
use Rattle.c_tree.specs.declared.stmt.Block.{Block, out-Block}
use Rattle.c_tree.specs.Term.{same_term}
use Rattle.c_tree.specs.inside.Input.{Parser, ◌>>=◌, pure, peek, sees, after, term_at}
use Rattle.c_tree.specs.inside.Stmt as stmt_spec
use Rattle.c_tree.specs.inside.Item as spec
use Rattle.c_tree.specs.Grammar.{Is, Stands}
use Rattle.c_tree.specs.Sequence.{◌then◌, InParens}
use Rattle.c_tree.specs.GrammarStmt.{IsStmt}
use Rattle.c_tree.specs.GrammarItem.{IfAny, IsSkipped, IsProto, IsErrfn, IsBody, IsMainfn, IsParameter, IsThreadBody, IsThreadfn}
use Rattle.c_tree.proofs.StmtSizes.{stmt_shrinks}
use Rattle.c_tree.proofs.Again.{at, is_peek, is_place, is_behind, is_term, name_again}
use Rattle.c_tree.proofs.AgainParts.{Always, stands_term, stands_again, is_eaten, behind_eaten, not_seen, not_behind}
use Rattle.c_tree.proofs.AgainStmt.{block_again, stmt_again}
use Rattle.c_tree.proofs.AgainSkipped.{skip_through_again, skipped_parens_again}
use Rattle.c_tree.proofs.Leads.{stmt_begins}

-- ---- another token

-- where one token stands, another does not
another : (k other : Term) (ts rest : List Lexeme) → same_term k other ≡ false → Stands k ts rest → same_term (term_at ts) other ≡ false
another k other ts rest differs is = ap (λ (t : Term). same_term t other) (stands_term k ts rest is) ∙ differs

-- ---- prototypes

pub proto_again : Always spec.proto IsProto
unfolding spec.proto spec.proto_end
proto_again end p ts rest is =
    let word = is.1 in
    rw (is_place word.0 p.from end ts is.0 word.2, is_behind word.0 p.from end ts is.0 word.2, skipped_parens_again end is.0 is.2.0 is.2.1, stands_again terms.Semicolon end is.2.0 rest is.2.2) refl

pub profile_proto_again : Always spec.profile_proto IsProto
unfolding spec.profile_proto
profile_proto_again end p ts rest is =
    let word = is.1 in
    rw (is_peek word.0 p.from end ts is.0 word.2, word.1) (proto_again end p ts rest is)

-- ---- functions with bodies

module _ (levels : ℕ) where
  body_again : Always (spec.body levels) (IsBody levels)
  unfolding spec.body
  body_again =
      block_again levels (stmt_spec.stmt levels) (IsStmt levels) (stmt_again levels) (stmt_shrinks levels) (stmt_begins levels) arounds.Nothing

  pub errfn_again : (end from : ℕ) (ts rest : List Lexeme) → IsErrfn (record { from = from }) ts rest → spec.error_fn (at ts end) ≡ Ok (Rattle.c_tree.specs.declared.item.Untyped.TheVariants.Errfn (record { from = from }), at rest end)
  unfolding spec.error_fn same_term
  errfn_again end from ts rest is =
      let brace = is.2.2 in
      rw (
        is_place terms.ReachError from end ts is.0 is.1,
        is_behind terms.ReachError from end ts is.0 is.1,
        skipped_parens_again end is.0 is.2.0 is.2.1,
        is_eaten terms.LeftBrace end is.2.0 brace.0 brace.1,
        stands_again terms.LeftBrace end is.2.0 brace.0 brace.1,
        skip_through_again terms.RightBrace refl end brace.0 rest brace.2,
      ) refl

  -- the word of an error function, with its parentheses alone
  pub error_proto_again : (end from : ℕ) (ts parens behind rest : List Lexeme) → Is terms.ReachError from ts parens → InParens IsSkipped parens behind → Stands terms.Semicolon behind rest
      → spec.error_fn (at ts end) ≡ Ok (Rattle.c_tree.specs.declared.item.Untyped.TheVariants.Proto (record { from = from }), at rest end)
  unfolding spec.error_fn spec.proto_end same_term
  error_proto_again end from ts parens behind rest word skipped ends =
      rw (
        is_place terms.ReachError from end ts parens word,
        is_behind terms.ReachError from end ts parens word,
        skipped_parens_again end parens behind skipped,
        not_seen terms.LeftBrace end behind (another terms.Semicolon terms.LeftBrace behind rest refl ends),
        stands_again terms.Semicolon end behind rest ends,
      ) refl

  -- A token that may be missing, in front of one that closes.
  eaten_or_not : (k : Term) (end : ℕ) (ts behind rest : List Lexeme) → same_term terms.RightParen k ≡ false → IfAny (Stands k) ts behind → Stands terms.RightParen behind rest → after k (at ts end) ≡ at behind end
  eaten_or_not k end ts behind rest differs (inl none) close =
      not_behind k end ts (ap (λ (l : List Lexeme). same_term (term_at l) k) none ∙ another terms.RightParen k behind rest differs close) ∙ ap (λ (l : List Lexeme). at l end) none
  eaten_or_not k end ts behind rest differs (inr there) close = behind_eaten k end ts behind there

  pub main_again : Always (spec.main_fn levels) (IsMainfn levels)
  unfolding spec.main_fn same_term
  main_again end m ts rest is =
      let parens = is.2.1 in
      rw (
        is_place terms.Main m.from end ts is.0 is.1,
        is_behind terms.Main m.from end ts is.0 is.1,
        stands_again terms.LeftParen end is.0 parens.0 parens.1,
        eaten_or_not terms.Void end parens.0 parens.2.0 is.2.0 refl parens.2.1 parens.2.2,
        stands_again terms.RightParen end parens.2.0 is.2.0 parens.2.2,
        body_again end m.body is.2.0 rest is.2.2,
      ) refl

  -- ---- parameters, in front of the parenthesis that closes them

  no_more : (k : Term) (end : ℕ) (ts behind rest : List Lexeme) → same_term terms.RightParen k ≡ false → ts ≡ behind → Stands terms.RightParen behind rest → same_term (term_at ts) k ≡ false
  no_more k end ts behind rest differs none close = ap (λ (l : List Lexeme). same_term (term_at l) k) none ∙ another terms.RightParen k behind rest differs close

  named_again : (end : ℕ) (ts behind rest : List Lexeme) → IfAny (Stands terms.Name) ts behind → Stands terms.RightParen behind rest → spec.name_if (sees terms.Name (at ts end)) (at ts end) ≡ Ok (tt, at behind end)
  unfolding same_term
  named_again end ts behind rest (inl none) close = rw (not_seen terms.Name end ts (no_more terms.Name end ts behind rest refl none close)) (ap (λ (l : List Lexeme). Ok (tt, at l end)) none)
  named_again end ts behind rest (inr there) close =
      rw (is_eaten terms.Name end ts behind there, name_again end (record { from = there.0; text = Rattle.c_tree.specs.inside.Input.bytes_at ts }) ts behind (there.1, refl)) refl

  pointed_again : (end : ℕ) (ts behind rest : List Lexeme) → IfAny (Stands terms.Star then IfAny (Stands terms.Name)) ts behind → Stands terms.RightParen behind rest → spec.pointer_if (sees terms.Star (at ts end)) (after terms.Star (at ts end)) ≡ Ok (tt, at behind end)
  unfolding same_term
  pointed_again end ts behind rest (inl none) close =
      let other = no_more terms.Star end ts behind rest refl none close in
      rw (not_seen terms.Star end ts other, not_behind terms.Star end ts other) (ap (λ (l : List Lexeme). Ok (tt, at l end)) none)
  pointed_again end ts behind rest (inr there) close =
      rw (is_eaten terms.Star end ts there.0 there.1, behind_eaten terms.Star end ts there.0 there.1) (named_again end there.0 behind rest there.2 close)

  void_again : (end : ℕ) (ts behind rest : List Lexeme) → IfAny (Stands terms.Void then IfAny (Stands terms.Star then IfAny (Stands terms.Name))) ts behind → Stands terms.RightParen behind rest → spec.void_if (sees terms.Void (at ts end)) (after terms.Void (at ts end)) ≡ Ok (tt, at behind end)
  unfolding same_term
  void_again end ts behind rest (inl none) close =
      let other = no_more terms.Void end ts behind rest refl none close in
      rw (not_seen terms.Void end ts other, not_behind terms.Void end ts other) (ap (λ (l : List Lexeme). Ok (tt, at l end)) none)
  void_again end ts behind rest (inr there) close =
      rw (is_eaten terms.Void end ts there.0 there.1, behind_eaten terms.Void end ts there.0 there.1) (pointed_again end there.0 behind rest there.2 close)

  parameter_again : (end : ℕ) (ts rest : List Lexeme) → IsParameter ts rest → spec.parameter (at ts end) ≡ Ok (tt, at rest end)
  unfolding spec.parameter
  parameter_again end ts rest is =
      rw (stands_again terms.LeftParen end ts is.0 is.1, void_again end is.0 is.2.0 rest is.2.1 is.2.2, stands_again terms.RightParen end is.2.0 rest is.2.2) refl

  thread_body_again : (end : ℕ) (b : Option Block) (ts rest : List Lexeme) → (IsThreadBody levels) b ts rest → (spec.body_if levels) (sees terms.Semicolon (at ts end)) (after terms.Semicolon (at ts end)) ≡ Ok (b, at rest end)
  unfolding same_term
  thread_body_again end None ts rest is = rw (is_eaten terms.Semicolon end ts rest is, behind_eaten terms.Semicolon end ts rest is) refl
  thread_body_again end (Some b) ts rest is =
      let other = ap (λ (k : Term). same_term k terms.Semicolon) (is_term terms.LeftBrace (out-Block b).from ts is.0 is.1) in
      rw (not_seen terms.Semicolon end ts other, not_behind terms.Semicolon end ts other, body_again end b ts rest is) refl

  pub thread_again : Always (spec.thread_fn levels) (IsThreadfn levels)
  unfolding spec.thread_fn
  thread_again end t ts rest is = rw (name_again end t.name ts is.0 is.1, parameter_again end is.0 is.2.0 is.2.1, thread_body_again end t.body is.2.0 rest is.2.2) refl
