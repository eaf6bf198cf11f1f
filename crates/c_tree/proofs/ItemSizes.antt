-- The items of a text take tokens.
use Rattle.std.proofs.Common.{ℕ, zero, suc, Bool, true, false, List, [], ◌∷◌, length, Option, Some, None, refl}
use Rattle.c_tree.specs.declared.term.Term.{Term}
use Rattle.c_tree.specs.declared.term.Term.TheVariants as terms
use Rattle.c_tree.specs.declared.stmt.Around.TheVariants as arounds
use Rattle.c_tree.specs.declared.item.Start.{Start}
use Rattle.c_tree.specs.declared.item.Gname.{Gname}
use Rattle.c_tree.specs.declared.item.Globals.{Globals}
use Rattle.c_tree.specs.declared.item.Mname.{Mname}
use Rattle.c_tree.specs.declared.item.Locks.{Locks}
use Rattle.c_tree.specs.declared.item.Mainfn.{Mainfn}
use Rattle.c_tree.specs.declared.item.Threadfn.{Threadfn}
use Rattle.c_tree.specs.declared.item.Proto.{Proto}
use Rattle.c_tree.specs.declared.item.Typed.TheVariants as typeds
use Rattle.c_tree.specs.declared.item.Untyped.TheVariants as untypeds
use Rattle.c_tree.specs.declared.item.Body.TheVariants as bodies
use Rattle.c_tree.specs.declared.item.Item.{Item}
use Rattle.c_tree.specs.Term.{same_term}
use Rattle.c_tree.specs.inside.Input.{Parser, look, here, take_token, eat, peek, expect}
use Rattle.c_tree.specs.inside.Chain.{more_of}
use Rattle.c_tree.specs.inside.Expr as expr_spec
use Rattle.c_tree.specs.inside.Simple as simple_spec
use Rattle.c_tree.specs.inside.Stmt as stmt_spec
use Rattle.c_tree.specs.inside.Item as spec
use Rattle.c_tree.proofs.Shrinks.{Shrinks, NeverGrows, expect_shrinks, name_shrinks, number_shrinks, more_of_le}
use Rattle.c_tree.proofs.Sizes.{weaker, pure_le, refuse_shrinks, bind_le, bind_first, bind_second, take_le, eat_le, look_le, here_le}
use Rattle.c_tree.proofs.StmtSizes.{quals_le, itype_le, handles_shrinks, block_shrinks, stmt_shrinks, close_le, see_le, take_then}

pub start_if_le : (b : Bool) → NeverGrows (spec.start_if b)
unfolding spec.start_number
start_if_le true = bind_le spec.start_number _ (bind_le here _ here_le (λ from. bind_le (eat terms.Minus) _ (eat_le terms.Minus) (λ m. bind_le expr_spec.number _ (weaker _ number_shrinks) (λ v. pure_le {A = Start} (record { from = from; is_negative = m; value = v }))))) (λ s. pure_le (Some s))
start_if_le false = pure_le None

pub gname_shrinks : Shrinks spec.gname
unfolding spec.gname
gname_shrinks = bind_first expr_spec.name _ name_shrinks (λ x. bind_le (eat terms.Assign) _ (eat_le terms.Assign) (λ b. bind_le _ _ (start_if_le b) (λ s. pure_le {A = Gname} (record { name = x; start = s }))))

globals_shrinks : Shrinks spec.globals
unfolding spec.globals same_term
globals_shrinks = bind_first spec.gname _ gname_shrinks (λ first. bind_le (more_of simple_spec.comma_mark spec.gname) _ (more_of_le simple_spec.comma_mark spec.gname (λ n. refl) gname_shrinks)
    (λ more. close_le {A = Globals} terms.Semicolon (record { first = first; more = more }) refl))

started_if_le : (b : Bool) → NeverGrows (spec.started_if b)
unfolding same_term
started_if_le true = bind_le (expect terms.MutexStart) _ (weaker _ (expect_shrinks terms.MutexStart refl)) (λ c. pure_le true)
started_if_le false = pure_le false

pub mname_shrinks : Shrinks spec.mname
unfolding spec.mname
mname_shrinks = bind_first expr_spec.name _ name_shrinks (λ x. bind_le (eat terms.Assign) _ (eat_le terms.Assign) (λ b. bind_le _ _ (started_if_le b) (λ s. pure_le {A = Mname} (record { name = x; is_started = s }))))

locks_shrinks : Shrinks spec.locks
unfolding spec.locks same_term
locks_shrinks = bind_first (expect terms.MutexType) _ (expect_shrinks terms.MutexType refl) (λ from. bind_le spec.mname _ (weaker _ mname_shrinks) (λ first. bind_le (more_of simple_spec.comma_mark spec.mname) _ (more_of_le simple_spec.comma_mark spec.mname (λ n. refl) mname_shrinks)
    (λ more. close_le {A = Locks} terms.Semicolon (record { from = from; first = first; more = more }) refl)))

-- ---- functions

skip_one_le : (others : List Term → Parser (Unit {0})) (o : Option (List Term)) → ((ends : List Term) → NeverGrows (others ends)) → NeverGrows (spec.skip_one others o)
skip_one_le others None le = weaker _ refuse_shrinks
skip_one_le others (Some ends) le = take_then (others ends) (le ends)

skip_from_le : (n : ℕ) (ends : List Term) → NeverGrows (spec.skip_from n ends)
unfolding spec.skip_from
skip_from_le zero [] i x j e = pure_le tt i x j e
skip_from_le (suc n) [] i x j e = pure_le tt i x j e
skip_from_le zero (top ∷ ends) i x j e = weaker _ refuse_shrinks i x j e
skip_from_le (suc n) (top ∷ ends) i x j e = skip_one_le (spec.skip_from n) (spec.open_after (peek i) (top ∷ ends)) (skip_from_le n) i x j e

skip_through_le : (close : Term) → NeverGrows (spec.skip_through close)
unfolding spec.skip_through
skip_through_le close i x j e = skip_from_le (length i.tokens) (close ∷ []) i x j e

skipped_parens_shrinks : Shrinks spec.skipped_parens
unfolding spec.skipped_parens same_term
skipped_parens_shrinks = bind_first (expect terms.LeftParen) _ (expect_shrinks terms.LeftParen refl) (λ o. skip_through_le terms.RightParen)

proto_end_le : (from : ℕ) → NeverGrows (spec.proto_end from)
unfolding spec.proto_end same_term
proto_end_le from = close_le {A = Proto} terms.Semicolon (record { from = from }) refl

proto_shrinks : Shrinks spec.proto
unfolding spec.proto
proto_shrinks = bind_second take_token _ take_le (λ from. bind_first spec.skipped_parens _ skipped_parens_shrinks (λ s. proto_end_le from))

error_by_le : (from : ℕ) (b : Bool) → NeverGrows (spec.error_by from b)
unfolding same_term
error_by_le from true = bind_le _ _ (bind_le (expect terms.LeftBrace) _ (weaker _ (expect_shrinks terms.LeftBrace refl)) (λ o. skip_through_le terms.RightBrace)) (λ s. pure_le (untypeds.Errfn (record { from = from })))
error_by_le from false = bind_le _ _ (proto_end_le from) (λ p. pure_le (untypeds.Proto p))

error_fn_shrinks : Shrinks spec.error_fn
unfolding spec.error_fn
error_fn_shrinks = bind_second take_token _ take_le (λ from. bind_first spec.skipped_parens _ skipped_parens_shrinks (λ s. bind_le _ _ (see_le terms.LeftBrace) (λ b. error_by_le from b)))

module _ (levels : ℕ) where
  body_shrinks : Shrinks (spec.body levels)
  unfolding spec.body
  body_shrinks = block_shrinks levels (stmt_spec.stmt levels) (stmt_shrinks levels) arounds.Nothing

  main_fn_shrinks : Shrinks (spec.main_fn levels)
  unfolding spec.main_fn same_term
  main_fn_shrinks = bind_second take_token _ take_le (λ from. bind_first (expect terms.LeftParen) _ (expect_shrinks terms.LeftParen refl) (λ o. bind_le (eat terms.Void) _ (eat_le terms.Void) (λ v. bind_le (expect terms.RightParen) _ (weaker _ (expect_shrinks terms.RightParen refl))
      (λ c. bind_le (spec.body levels) _ (weaker _ body_shrinks) (λ b. pure_le {A = Mainfn} (record { from = from; body = b }))))))

  name_if_le : (b : Bool) → NeverGrows (spec.name_if b)
  name_if_le true = bind_le expr_spec.name _ (weaker _ name_shrinks) (λ x. pure_le tt)
  name_if_le false = pure_le tt

  pointer_if_le : (b : Bool) → NeverGrows (spec.pointer_if b)
  pointer_if_le true = bind_le _ _ (see_le terms.Name) name_if_le
  pointer_if_le false = pure_le tt

  void_if_le : (b : Bool) → NeverGrows (spec.void_if b)
  void_if_le true = bind_le (eat terms.Star) _ (eat_le terms.Star) pointer_if_le
  void_if_le false = pure_le tt

  parameter_shrinks : Shrinks spec.parameter
  unfolding spec.parameter same_term
  parameter_shrinks = bind_first (expect terms.LeftParen) _ (expect_shrinks terms.LeftParen refl) (λ o. bind_le (eat terms.Void) _ (eat_le terms.Void) (λ v. bind_le _ _ (void_if_le v) (λ s. close_le {A = Unit {0}} terms.RightParen tt refl)))

  body_if_le : (b : Bool) → NeverGrows ((spec.body_if levels) b)
  body_if_le true = pure_le None
  body_if_le false = bind_le (spec.body levels) _ (weaker _ body_shrinks) (λ b. pure_le (Some b))

  thread_fn_shrinks : Shrinks (spec.thread_fn levels)
  unfolding spec.thread_fn
  thread_fn_shrinks = bind_first expr_spec.name _ name_shrinks (λ f. bind_le spec.parameter _ (weaker _ parameter_shrinks) (λ s. bind_le (eat terms.Semicolon) _ (eat_le terms.Semicolon) (λ p. bind_le _ _ (body_if_le p) (λ b. pure_le {A = Threadfn} (record { name = f; body = b })))))

  -- ---- items

  proto_if_shrinks : (b : Bool) → Shrinks (spec.proto_if b)
  proto_if_shrinks true = proto_shrinks
  proto_if_shrinks false = refuse_shrinks

  profile_proto_shrinks : Shrinks spec.profile_proto
  unfolding spec.profile_proto
  profile_proto_shrinks i x j e = proto_if_shrinks (spec.is_profile (peek i)) i x j e

  typed_by_shrinks : (k : Term) → Shrinks ((spec.typed_by levels) k)
  typed_by_shrinks terms.Name = bind_first spec.globals _ globals_shrinks (λ g. pure_le (typeds.Globals g))
  typed_by_shrinks terms.Main = bind_first (spec.main_fn levels) _ main_fn_shrinks (λ m. pure_le (typeds.Main m))
  typed_by_shrinks _ = bind_first spec.profile_proto _ profile_proto_shrinks (λ p. pure_le (typeds.Proto p))

  typed_shrinks : Shrinks (spec.typed levels)
  unfolding spec.typed
  typed_shrinks = bind_second look _ look_le typed_by_shrinks

  untyped_by_shrinks : (k : Term) → Shrinks ((spec.untyped_by levels) k)
  untyped_by_shrinks terms.Star = bind_second take_token _ take_le (λ from. bind_first (spec.thread_fn levels) _ thread_fn_shrinks (λ t. pure_le (untypeds.Thread t)))
  untyped_by_shrinks terms.ReachError = error_fn_shrinks
  untyped_by_shrinks _ = bind_first spec.profile_proto _ profile_proto_shrinks (λ p. pure_le (untypeds.Proto p))

  untyped_shrinks : Shrinks (spec.untyped levels)
  unfolding spec.untyped
  untyped_shrinks = bind_second look _ look_le untyped_by_shrinks

  body_by_shrinks : (k : Term) → Shrinks ((spec.body_by levels) k)
  unfolding spec.typed_body spec.void_body
  body_by_shrinks terms.Int = bind_second simple_spec.itype _ itype_le (λ kind. bind_first (spec.typed levels) _ typed_shrinks (λ t. pure_le (bodies.Typed kind t)))
  body_by_shrinks terms.Long = bind_second simple_spec.itype _ itype_le (λ kind. bind_first (spec.typed levels) _ typed_shrinks (λ t. pure_le (bodies.Typed kind t)))
  body_by_shrinks terms.Void = bind_second take_token _ take_le (λ from. bind_first (spec.untyped levels) _ untyped_shrinks (λ u. pure_le (bodies.Void from u)))
  body_by_shrinks terms.MutexType = bind_first spec.locks _ locks_shrinks (λ l. pure_le (bodies.Locks l))
  body_by_shrinks terms.HandleType = bind_first simple_spec.handles _ handles_shrinks (λ h. pure_le (bodies.Handles h))
  body_by_shrinks _ = refuse_shrinks

  item_body_shrinks : Shrinks (spec.item_body levels)
  unfolding spec.item_body
  item_body_shrinks = bind_second look _ look_le body_by_shrinks

  pub item_shrinks : Shrinks (spec.item levels)
  unfolding spec.item
  item_shrinks = bind_second here _ here_le (λ from. bind_second simple_spec.quals _ quals_le (λ qs. bind_first (spec.item_body levels) _ item_body_shrinks (λ b. pure_le {A = Item} (record { from = from; quals = qs; body = b }))))
