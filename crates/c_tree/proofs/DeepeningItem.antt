-- With more levels all that is read or refused of a text stays so, up to the first token that opens a level beyond.
use Rattle.std.proofs.Common.{◌≡◌, ℕ, ◌≤◌, Bool, true, false, List, [], Option, Some, None, Ok, refl}
use Rattle.c_tree.specs.declared.term.Term.{Term}
use Rattle.c_tree.specs.declared.term.Term.TheVariants as terms
use Rattle.c_tree.specs.declared.expr.Name.{Name}
use Rattle.c_tree.specs.declared.stmt.Around.TheVariants as arounds
use Rattle.c_tree.specs.declared.stmt.Block.{Block}
use Rattle.c_tree.specs.declared.item.Mainfn.{Mainfn}
use Rattle.c_tree.specs.declared.item.Threadfn.{Threadfn}
use Rattle.c_tree.specs.declared.item.Typed.{Typed}
use Rattle.c_tree.specs.declared.item.Typed.TheVariants as typeds
use Rattle.c_tree.specs.declared.item.Untyped.{Untyped}
use Rattle.c_tree.specs.declared.item.Untyped.TheVariants as untypeds
use Rattle.c_tree.specs.declared.item.Body.{Body}
use Rattle.c_tree.specs.declared.item.Body.TheVariants as bodies
use Rattle.c_tree.specs.declared.item.Item.{Item}
use Rattle.c_tree.specs.inside.Input.{look, here, take_token, eat, expect, sees}
use Rattle.c_tree.specs.inside.Expr as expr_spec
use Rattle.c_tree.specs.inside.Simple as simple_spec
use Rattle.c_tree.specs.inside.Stmt as stmt_spec
use Rattle.c_tree.specs.inside.Item as spec
use Rattle.c_tree.specs.Seen.{plain_block, plain_typed, plain_untyped, plain_body, plain_items, thread_of}
use Rattle.c_tree.specs.Beyond.{item_beyond, items_beyond}
use Rattle.c_tree.proofs.Deepening.{Widens, refuse_widens, pure_widens, bind_widens, behind_widens, many_widens}
use Rattle.c_tree.proofs.DeepeningStmt.{block_opens, block_widens, stmt_widens}

abbrev body_if_opens : ℕ → Option Block → List ℕ
body_if_opens n None = []
body_if_opens n (Some b) = block_opens n b

abbrev main_opens : ℕ → Mainfn → List ℕ
main_opens n f = block_opens n f.body

abbrev thread_opens : ℕ → Threadfn → List ℕ
thread_opens n f = body_if_opens n f.body

abbrev typed_opens : ℕ → Typed → List ℕ
typed_opens n t = item_beyond (plain_typed t) n

abbrev untyped_opens : ℕ → Untyped → List ℕ
untyped_opens n u = item_beyond (plain_untyped u) n

abbrev body_opens : ℕ → Body → List ℕ
body_opens n b = item_beyond (plain_body b) n

abbrev item_opens : ℕ → Item → List ℕ
item_opens n i = body_opens n i.body

abbrev pub tree_opens : ℕ → List Item → List ℕ
tree_opens n is = items_beyond (plain_items is) n

thread_is : (n : ℕ) (name : Name) (b : Option Block) → item_beyond (thread_of name b) n ≡ body_if_opens n b
thread_is n name None = refl
thread_is n name (Some b) = refl

module _ (n m : ℕ) (le : n ≤ m) where
  body_widens : Widens [] (block_opens n) (spec.body n) (spec.body m)
  unfolding spec.body
  body_widens = block_widens n m le (stmt_spec.stmt n) (stmt_spec.stmt m) (stmt_widens n m le) arounds.Nothing

  main_widens : Widens [] (main_opens n) (spec.main_fn n) (spec.main_fn m)
  unfolding spec.main_fn
  main_widens = behind_widens [] _ _ _ take_token (λ from. behind_widens [] _ _ _ (expect terms.LeftParen) (λ o. behind_widens [] _ _ _ (eat terms.Void) (λ v. behind_widens [] _ _ _ (expect terms.RightParen)
      (λ c. bind_widens [] _ _ _ (block_opens n) (λ b. pure_widens {A = Mainfn} (block_opens n b) (main_opens n) (record { from = from; body = b }) refl) _ _ body_widens))))

  body_if_widens : (b : Bool) → Widens [] (body_if_opens n) (spec.body_if n b) (spec.body_if m b)
  body_if_widens true = pure_widens [] (body_if_opens n) None refl
  body_if_widens false = bind_widens [] _ _ _ (block_opens n) (λ b. pure_widens (block_opens n b) (body_if_opens n) (Some b) refl) _ _ body_widens

  thread_widens : Widens [] (thread_opens n) (spec.thread_fn n) (spec.thread_fn m)
  unfolding spec.thread_fn
  thread_widens = behind_widens [] _ _ _ expr_spec.name (λ f. behind_widens [] _ _ _ spec.parameter (λ s. behind_widens [] _ _ _ (eat terms.Semicolon)
      (λ p. bind_widens [] _ _ _ (body_if_opens n) (λ b. pure_widens {A = Threadfn} (body_if_opens n b) (thread_opens n) (record { name = f; body = b }) refl) _ _ (body_if_widens p))))

  typed_by_widens : (k : Term) → Widens [] (typed_opens n) (spec.typed_by n k) (spec.typed_by m k)
  typed_by_widens terms.Name = behind_widens [] _ _ _ spec.globals (λ g. pure_widens [] (typed_opens n) (typeds.Globals g) refl)
  typed_by_widens terms.Main = bind_widens [] _ _ _ (main_opens n) (λ x. pure_widens (main_opens n x) (typed_opens n) (typeds.Main x) refl) _ _ main_widens
  typed_by_widens _ = behind_widens [] _ _ _ spec.profile_proto (λ p. pure_widens [] (typed_opens n) (typeds.Proto p) refl)

  typed_widens : Widens [] (typed_opens n) (spec.typed n) (spec.typed m)
  unfolding spec.typed
  typed_widens = behind_widens [] _ _ _ look typed_by_widens

  error_by_widens : (from : ℕ) (b : Bool) → Widens [] (untyped_opens n) (spec.error_by from b) (spec.error_by from b)
  error_by_widens from true = behind_widens [] _ _ _ _ (λ s. pure_widens [] (untyped_opens n) (untypeds.Errfn (record { from = from })) refl)
  error_by_widens from false = behind_widens [] _ _ _ (spec.proto_end from) (λ p. pure_widens [] (untyped_opens n) (untypeds.Proto p) refl)

  error_widens : Widens [] (untyped_opens n) spec.error_fn spec.error_fn
  unfolding spec.error_fn
  error_widens = behind_widens [] _ _ _ take_token (λ from. behind_widens [] _ _ _ spec.skipped_parens (λ s. behind_widens [] _ _ _ (λ i. Ok (sees terms.LeftBrace i, i)) (error_by_widens from)))

  untyped_by_widens : (k : Term) → Widens [] (untyped_opens n) (spec.untyped_by n k) (spec.untyped_by m k)
  untyped_by_widens terms.Star = behind_widens [] _ _ _ take_token (λ from. bind_widens [] _ _ _ (thread_opens n) (λ t. pure_widens (thread_opens n t) (untyped_opens n) (untypeds.Thread t) (thread_is n t.name t.body)) _ _ thread_widens)
  untyped_by_widens terms.ReachError = error_widens
  untyped_by_widens _ = behind_widens [] _ _ _ spec.profile_proto (λ p. pure_widens [] (untyped_opens n) (untypeds.Proto p) refl)

  untyped_widens : Widens [] (untyped_opens n) (spec.untyped n) (spec.untyped m)
  unfolding spec.untyped
  untyped_widens = behind_widens [] _ _ _ look untyped_by_widens

  typed_body_widens : Widens [] (body_opens n) (spec.typed_body n) (spec.typed_body m)
  unfolding spec.typed_body
  typed_body_widens = behind_widens [] _ _ _ simple_spec.itype (λ kind. bind_widens [] _ _ _ (typed_opens n) (λ t. pure_widens (typed_opens n t) (body_opens n) (bodies.Typed kind t) refl) _ _ typed_widens)

  void_body_widens : Widens [] (body_opens n) (spec.void_body n) (spec.void_body m)
  unfolding spec.void_body
  void_body_widens = behind_widens [] _ _ _ take_token (λ from. bind_widens [] _ _ _ (untyped_opens n) (λ u. pure_widens (untyped_opens n u) (body_opens n) (bodies.Void from u) refl) _ _ untyped_widens)

  body_by_widens : (k : Term) → Widens [] (body_opens n) (spec.body_by n k) (spec.body_by m k)
  body_by_widens terms.Int = typed_body_widens
  body_by_widens terms.Long = typed_body_widens
  body_by_widens terms.Void = void_body_widens
  body_by_widens terms.MutexType = behind_widens [] _ _ _ spec.locks (λ l. pure_widens [] (body_opens n) (bodies.Locks l) refl)
  body_by_widens terms.HandleType = behind_widens [] _ _ _ simple_spec.handles (λ h. pure_widens [] (body_opens n) (bodies.Handles h) refl)
  body_by_widens _ = refuse_widens [] (body_opens n)

  item_body_widens : Widens [] (body_opens n) (spec.item_body n) (spec.item_body m)
  unfolding spec.item_body
  item_body_widens = behind_widens [] _ _ _ look body_by_widens

  item_widens : Widens [] (item_opens n) (spec.item n) (spec.item m)
  unfolding spec.item
  item_widens = behind_widens [] _ _ _ here (λ from. behind_widens [] _ _ _ simple_spec.quals (λ qs. bind_widens [] _ _ _ (body_opens n) (λ b. pure_widens {A = Item} (body_opens n b) (item_opens n) (record { from = from; quals = qs; body = b }) refl) _ _ item_body_widens))

  pub tree_widens : Widens [] (tree_opens n) (spec.tree n) (spec.tree m)
  unfolding spec.tree
  tree_widens = many_widens terms.End _ _ (item_opens n) (tree_opens n) refl (λ x xs. refl) item_widens
