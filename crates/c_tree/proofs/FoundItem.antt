-- What is read of an item stands in the text.
use Rattle.std.proofs.Common.{◌≡◌, ℕ, Bool, true, false, List, length, Option, Some, None, Ok, refl, sym, ap, subst, ◌∙◌}
use Rattle.std.proofs.Math.Logic.{inl, inr}
use Rattle.c_lex.specs.Tokens.{Lexeme}
use Rattle.c_tree.specs.declared.term.Term.{Term}
use Rattle.c_tree.specs.declared.term.Term.TheVariants as terms
use Rattle.c_tree.specs.declared.stmt.Around.TheVariants as arounds
use Rattle.c_tree.specs.declared.stmt.Block.{Block}
use Rattle.c_tree.specs.declared.item.Proto.{Proto}
use Rattle.c_tree.specs.declared.item.Typed.{Typed}
use Rattle.c_tree.specs.declared.item.Typed.TheVariants as typeds
use Rattle.c_tree.specs.declared.item.Untyped.{Untyped}
use Rattle.c_tree.specs.declared.item.Untyped.TheVariants as untypeds
use Rattle.c_tree.specs.declared.item.Body.{Body}
use Rattle.c_tree.specs.declared.item.Body.TheVariants as bodies
use Rattle.c_tree.specs.inside.Input.{Input, ◌>>◌, peek, place, next, sees, after, expect, refusal}
use Rattle.c_tree.specs.inside.Expr as expr_spec
use Rattle.c_tree.specs.inside.Simple as simple_spec
use Rattle.c_tree.specs.inside.Stmt as stmt_spec
use Rattle.c_tree.specs.inside.Item as spec
use Rattle.c_tree.specs.Grammar.{Is, Stands, StartsAt, IsName}
use Rattle.c_tree.specs.Sequence.{◌then◌, InParens}
use Rattle.c_tree.specs.GrammarStmt.{IsStmt}
use Rattle.c_tree.specs.GrammarItem.{IfAny, IsSkipped, IsProto, IsBody, IsMainfn, IsParameter, IsThreadBody, IsThreadfn, IsTyped, IsUntyped, IsItemBody, IsItem}
use Rattle.c_tree.proofs.Steps.{bind_ok, not_err}
use Rattle.c_tree.proofs.ItemSizes.{item_shrinks}
use Rattle.c_tree.proofs.Found.{Finds, is_next, name_found, starts}
use Rattle.c_tree.proofs.FoundParts.{given, open_found, close_found, semicolon_found, stands_found, eaten, not_eaten}
use Rattle.c_tree.proofs.FoundSimple.{quals_found, itype_found}
use Rattle.c_tree.proofs.FoundLocal.{handles_found}
use Rattle.c_tree.proofs.FoundStmt.{block_found, stmt_found}
use Rattle.c_tree.proofs.FoundSkipped.{skip_through_found, skipped_parens_found}
use Rattle.c_tree.proofs.FoundGlobals.{globals_found, locks_found}
use Rattle.c_tree.proofs.Leads.{impossible}

-- ---- prototypes

-- behind the name of a function of the profile, and its parentheses
proto_end_found : (word : Term) (from : ℕ) (ts parens : List Lexeme) (i : Input) → spec.is_profile word ≡ true → Is word from ts parens → InParens IsSkipped parens i.tokens → (x : Proto) (j : Input) → spec.proto_end from i ≡ Ok (x, j) → IsProto x ts j.tokens
unfolding spec.proto_end
proto_end_found word from ts parens i so named skipped x j e =
    let a = bind_ok (expect terms.Semicolon i) _ x j e in
    given IsProto (record { from = from }) x a.1 j ts a.3 (parens, (word, so, named), (i.tokens, skipped, semicolon_found i a.0 a.1 a.2))

profile_is_there : (k : Term) → spec.is_profile k ≡ true → k ≡ terms.End → ⊥
profile_is_there k so ended = impossible (sym (ap spec.is_profile ended) ∙ so)

proto_if_found : (i : Input) (b : Bool) → spec.is_profile (peek i) ≡ b → (x : Proto) (j : Input) → spec.proto_if b i ≡ Ok (x, j) → IsProto x i.tokens j.tokens
unfolding spec.proto
proto_if_found i false so x j e = absurd (not_err (refusal i) x j e)
proto_if_found i true so x j e =
    let a = bind_ok (spec.skipped_parens (next i)) _ x j e in
    proto_end_found (peek i) (place i) i.tokens (next i).tokens a.1 so (is_next i (peek i) (profile_is_there (peek i) so) refl) (skipped_parens_found (next i) a.0 a.1 a.2) x j a.3

profile_proto_found : Finds spec.profile_proto IsProto
unfolding spec.profile_proto
profile_proto_found i x j e = proto_if_found i (spec.is_profile (peek i)) refl x j e

-- ---- functions

module _ (levels : ℕ) where
  body_found : Finds (spec.body levels) (IsBody levels)
  unfolding spec.body
  body_found = block_found levels (stmt_spec.stmt levels) (IsStmt levels) (stmt_found levels) arounds.Nothing

  error_by_found : (from : ℕ) (ts parens : List Lexeme) (i : Input) → Is terms.ReachError from ts parens → InParens IsSkipped parens i.tokens → (b : Bool) (x : Untyped) (j : Input) → spec.error_by from b i ≡ Ok (x, j) → (IsUntyped levels) x ts j.tokens
  error_by_found from ts parens i named skipped true x j e =
      let a = bind_ok ((expect terms.LeftBrace >> spec.skip_through terms.RightBrace) i) _ x j e in
      let b = bind_ok (expect terms.LeftBrace i) (λ o. spec.skip_through terms.RightBrace) a.0 a.1 a.2 in
      given (IsUntyped levels) (untypeds.Errfn (record { from = from })) x a.1 j ts a.3 (parens, named, (i.tokens, skipped, (b.1.tokens, stands_found terms.LeftBrace (λ h. cc) i b.0 b.1 b.2, skip_through_found terms.RightBrace b.1 a.0 a.1 b.3)))
  error_by_found from ts parens i named skipped false x j e =
      let a = bind_ok (spec.proto_end from i) _ x j e in
      given (IsUntyped levels) (untypeds.Proto a.0) x a.1 j ts a.3 (proto_end_found terms.ReachError from ts parens i refl named skipped a.0 a.1 a.2)

  error_fn_found : (i : Input) → peek i ≡ terms.ReachError → (x : Untyped) (j : Input) → spec.error_fn i ≡ Ok (x, j) → (IsUntyped levels) x i.tokens j.tokens
  unfolding spec.error_fn
  error_fn_found i is x j e =
      let a = bind_ok (spec.skipped_parens (next i)) _ x j e in
      error_by_found (place i) i.tokens (next i).tokens a.1 (is_next i terms.ReachError (λ h. cc) is) (skipped_parens_found (next i) a.0 a.1 a.2) (sees terms.LeftBrace a.1) x j a.3

  if_any_found : (k : Term) → (k ≡ terms.End → ⊥) → (i : Input) (b : Bool) → sees k i ≡ b → IfAny (Stands k) i.tokens (after k i).tokens
  if_any_found k more i true is = inr (eaten k more i is)
  if_any_found k more i false is = inl (not_eaten k i is)

  main_fn_found : (i : Input) → peek i ≡ terms.Main → (x : Typed) (j : Input) → Rattle.c_tree.specs.inside.Input.and_then ((spec.main_fn levels) i) (λ m l. Ok (typeds.Main m, l)) ≡ Ok (x, j) → (IsTyped levels) x i.tokens j.tokens
  unfolding spec.main_fn
  main_fn_found i is x j e =
      let whole = bind_ok ((spec.main_fn levels) i) (λ m l. Ok (typeds.Main m, l)) x j e in
      let a = bind_ok (expect terms.LeftParen (next i)) _ whole.0 whole.1 whole.2 in
      let b = bind_ok (expect terms.RightParen (after terms.Void a.1)) _ whole.0 whole.1 a.3 in
      let c = bind_ok ((spec.body levels) b.1) _ whole.0 whole.1 b.3 in
      let main = given (IsMainfn levels) (record { from = place i; body = c.0 }) whole.0 c.1 whole.1 i.tokens c.3
      ((next i).tokens, is_next i terms.Main (λ h. cc) is, (b.1.tokens, (a.1.tokens, open_found (next i) a.0 a.1 a.2, ((after terms.Void a.1).tokens, if_any_found terms.Void (λ h. cc) a.1 (sees terms.Void a.1) refl, close_found (after terms.Void a.1) b.0 b.1 b.2)), body_found b.1 c.0 c.1 c.2)) in
      given (IsTyped levels) (typeds.Main whole.0) x whole.1 j i.tokens whole.3 main

  name_if_found : (i : Input) (b : Bool) (x : Unit {0}) (j : Input) → spec.name_if b i ≡ Ok (x, j) → IfAny (Stands terms.Name) i.tokens j.tokens
  name_if_found i true x j e =
      let a = bind_ok (expr_spec.name i) _ x j e in
      let named : IsName a.0 i.tokens a.1.tokens = name_found i a.0 a.1 a.2 in
      given (λ u. IfAny (Stands terms.Name)) tt x a.1 j i.tokens a.3 (inr (a.0.from, named.0))
  name_if_found i false x j e = given (λ u. IfAny (Stands terms.Name)) tt x i j i.tokens e (inl refl)

  pointer_found : (i : Input) (b : Bool) → sees terms.Star i ≡ b → (x : Unit {0}) (j : Input) → spec.pointer_if b (after terms.Star i) ≡ Ok (x, j) → IfAny (Stands terms.Star then IfAny (Stands terms.Name)) i.tokens j.tokens
  pointer_found i true is x j e = inr ((after terms.Star i).tokens, eaten terms.Star (λ h. cc) i is, name_if_found (after terms.Star i) (sees terms.Name (after terms.Star i)) x j e)
  pointer_found i false is x j e = given (λ u. IfAny (Stands terms.Star then IfAny (Stands terms.Name))) tt x (after terms.Star i) j i.tokens e (inl (not_eaten terms.Star i is))

  void_found : (i : Input) (b : Bool) → sees terms.Void i ≡ b → (x : Unit {0}) (j : Input) → spec.void_if b (after terms.Void i) ≡ Ok (x, j) → IfAny (Stands terms.Void then IfAny (Stands terms.Star then IfAny (Stands terms.Name))) i.tokens j.tokens
  void_found i true is x j e = inr ((after terms.Void i).tokens, eaten terms.Void (λ h. cc) i is, pointer_found (after terms.Void i) (sees terms.Star (after terms.Void i)) refl x j e)
  void_found i false is x j e = given (λ u. IfAny (Stands terms.Void then IfAny (Stands terms.Star then IfAny (Stands terms.Name)))) tt x (after terms.Void i) j i.tokens e (inl (not_eaten terms.Void i is))

  parameter_found : (i : Input) (x : Unit {0}) (j : Input) → spec.parameter i ≡ Ok (x, j) → IsParameter i.tokens j.tokens
  unfolding spec.parameter
  parameter_found i x j e =
      let a = bind_ok (expect terms.LeftParen i) _ x j e in
      let b = bind_ok (spec.void_if (sees terms.Void a.1) (after terms.Void a.1)) _ x j a.3 in
      let c = bind_ok (expect terms.RightParen b.1) _ x j b.3 in
      given (λ u. IsParameter) tt x c.1 j i.tokens c.3 (a.1.tokens, open_found i a.0 a.1 a.2, (b.1.tokens, void_found a.1 (sees terms.Void a.1) refl b.0 b.1 b.2, close_found b.1 c.0 c.1 c.2))

  thread_body_found : (i : Input) (b : Bool) → sees terms.Semicolon i ≡ b → (x : Option Block) (j : Input) → (spec.body_if levels) b (after terms.Semicolon i) ≡ Ok (x, j) → (IsThreadBody levels) x i.tokens j.tokens
  thread_body_found i true is x j e = given (IsThreadBody levels) None x (after terms.Semicolon i) j i.tokens e (eaten terms.Semicolon (λ h. cc) i is)
  thread_body_found i false is x j e =
      let a = bind_ok ((spec.body levels) (after terms.Semicolon i)) _ x j e in
      given (IsThreadBody levels) (Some a.0) x a.1 j i.tokens a.3 (subst (λ (l : List Lexeme). (IsBody levels) a.0 l a.1.tokens) (sym (not_eaten terms.Semicolon i is)) (body_found (after terms.Semicolon i) a.0 a.1 a.2))

  thread_fn_found : Finds (spec.thread_fn levels) (IsThreadfn levels)
  unfolding spec.thread_fn
  thread_fn_found i x j e =
      let a = bind_ok (expr_spec.name i) _ x j e in
      let b = bind_ok (spec.parameter a.1) _ x j a.3 in
      let c = bind_ok ((spec.body_if levels) (sees terms.Semicolon b.1) (after terms.Semicolon b.1)) _ x j b.3 in
      given (IsThreadfn levels) (record { name = a.0; body = c.0 }) x c.1 j i.tokens c.3 (a.1.tokens, name_found i a.0 a.1 a.2, (b.1.tokens, parameter_found a.1 b.0 b.1 b.2, thread_body_found b.1 (sees terms.Semicolon b.1) refl c.0 c.1 c.2))

  -- ---- items

  typed_by_found : (i : Input) (k : Term) → peek i ≡ k → (x : Typed) (j : Input) → (spec.typed_by levels) k i ≡ Ok (x, j) → (IsTyped levels) x i.tokens j.tokens
  typed_by_found i terms.Name is x j e = (let a = bind_ok (spec.globals i) _ x j e in given (IsTyped levels) (typeds.Globals a.0) x a.1 j i.tokens a.3 (globals_found i a.0 a.1 a.2))
  typed_by_found i terms.Main is x j e = main_fn_found i is x j e
  typed_by_found i _ is x j e = (let a = bind_ok (spec.profile_proto i) _ x j e in given (IsTyped levels) (typeds.Proto a.0) x a.1 j i.tokens a.3 (profile_proto_found i a.0 a.1 a.2))

  untyped_by_found : (i : Input) (k : Term) → peek i ≡ k → (x : Untyped) (j : Input) → (spec.untyped_by levels) k i ≡ Ok (x, j) → (IsUntyped levels) x i.tokens j.tokens
  untyped_by_found i terms.Star is x j e =
      (let a = bind_ok ((spec.thread_fn levels) (next i)) _ x j e in given (IsUntyped levels) (untypeds.Thread a.0) x a.1 j i.tokens a.3 ((next i).tokens, (place i, is_next i terms.Star (λ h. cc) is), thread_fn_found (next i) a.0 a.1 a.2))
  untyped_by_found i terms.ReachError is x j e = error_fn_found i is x j e
  untyped_by_found i _ is x j e = (let a = bind_ok (spec.profile_proto i) _ x j e in given (IsUntyped levels) (untypeds.Proto a.0) x a.1 j i.tokens a.3 (profile_proto_found i a.0 a.1 a.2))

  typed_body_found : Finds (spec.typed_body levels) (IsItemBody levels)
  unfolding spec.typed_body spec.typed
  typed_body_found i x j e =
      let a = bind_ok (simple_spec.itype i) _ x j e in
      let b = bind_ok ((spec.typed_by levels) (peek a.1) a.1) _ x j a.3 in
      given (IsItemBody levels) (bodies.Typed a.0 b.0) x b.1 j i.tokens b.3 (a.1.tokens, itype_found i a.0 a.1 a.2, typed_by_found a.1 (peek a.1) refl b.0 b.1 b.2)

  void_body_found : (i : Input) → peek i ≡ terms.Void → (x : Body) (j : Input) → (spec.void_body levels) i ≡ Ok (x, j) → (IsItemBody levels) x i.tokens j.tokens
  unfolding spec.void_body spec.untyped
  void_body_found i is x j e =
      let a = bind_ok ((spec.untyped_by levels) (peek (next i)) (next i)) _ x j e in
      given (IsItemBody levels) (bodies.Void (place i) a.0) x a.1 j i.tokens a.3 ((next i).tokens, is_next i terms.Void (λ h. cc) is, untyped_by_found (next i) (peek (next i)) refl a.0 a.1 a.2)

  body_by_found : (i : Input) (k : Term) → peek i ≡ k → (x : Body) (j : Input) → (spec.body_by levels) k i ≡ Ok (x, j) → (IsItemBody levels) x i.tokens j.tokens
  body_by_found i terms.Int is x j e = typed_body_found i x j e
  body_by_found i terms.Long is x j e = typed_body_found i x j e
  body_by_found i terms.Void is x j e = void_body_found i is x j e
  body_by_found i terms.MutexType is x j e = (let a = bind_ok (spec.locks i) _ x j e in given (IsItemBody levels) (bodies.Locks a.0) x a.1 j i.tokens a.3 (locks_found i a.0 a.1 a.2))
  body_by_found i terms.HandleType is x j e = (let a = bind_ok (simple_spec.handles i) _ x j e in given (IsItemBody levels) (bodies.Handles a.0) x a.1 j i.tokens a.3 (handles_found i a.0 a.1 a.2))
  body_by_found i _ is x j e = absurd (not_err (refusal i) x j e)

  pub item_found : Finds (spec.item levels) (IsItem levels)
  unfolding spec.item spec.item_body
  item_found i x j e =
      let starts_so : StartsAt (place i) i.tokens = starts i (length j.tokens) ((item_shrinks levels) i x j e) in
      let a = bind_ok (simple_spec.quals i) _ x j e in
      let b = bind_ok ((spec.body_by levels) (peek a.1) a.1) _ x j a.3 in
      given (IsItem levels) (record { from = place i; quals = a.0; body = b.0 }) x b.1 j i.tokens b.3 (starts_so, (a.1.tokens, quals_found i a.0 a.1 a.2, body_by_found a.1 (peek a.1) refl b.0 b.1 b.2))
