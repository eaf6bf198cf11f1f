-- Statements and whole texts are read alike over tokens that differ in their places alone. So where tokens are those of a
-- tree, these are too.
use Rattle.std.proofs.Common.{◌≡◌, ℕ, zero, suc, Bool, true, false, List, [], ◌∷◌, ◌++◌, length, Option, Some, None, Ok, Err, refl, ap, subst}
use Rattle.c_lex.specs.Tokens.{Lexeme}
use Rattle.c_tree.specs.declared.term.Term.{Term}
use Rattle.c_tree.specs.declared.term.Term.TheVariants as terms
use Rattle.c_tree.specs.declared.stmt.Around.{Around}
use Rattle.c_tree.specs.declared.stmt.Around.TheVariants as arounds
use Rattle.c_tree.specs.declared.stmt.First.TheVariants as firsts
use Rattle.c_tree.specs.declared.stmt.Stmt.{Stmt}
use Rattle.c_tree.specs.declared.stmt.Stmt.TheVariants as stmts
use Rattle.c_tree.specs.declared.item.Start.{Start}
use Rattle.c_tree.specs.declared.item.Gname.{Gname}
use Rattle.c_tree.specs.declared.item.Mname.{Mname}
use Rattle.c_tree.specs.declared.item.Mainfn.{Mainfn}
use Rattle.c_tree.specs.declared.item.Threadfn.{Threadfn}
use Rattle.c_tree.specs.declared.item.Untyped.TheVariants as untypeds
use Rattle.c_tree.specs.declared.item.Body.TheVariants as bodies
use Rattle.c_tree.specs.declared.item.Item.{Item}
use Rattle.c_tree.specs.GrammarItem.{IsTreeWithin}
use Rattle.c_tree.specs.inside.Input.{Input, Outcome, Parser, peek}
use Rattle.c_tree.specs.inside.Expr as expr_spec
use Rattle.c_tree.specs.inside.Stmt as spec
use Rattle.c_tree.specs.inside.Item as item_spec
use Rattle.c_tree.proofs.Again.{at}
use Rattle.c_tree.proofs.Trees.{tree_found, tree_again}
use Rattle.c_tree.proofs.Moving.{AreAlike, Alike, Moves, peek_alike, length_alike, pure_moves, refuse_moves, deep_moves, here_moves, take_moves, bind_moves, by_moves, looked_moves, seen_moves, eaten_moves, expect_moves, more_moves, many_moves}
use Rattle.c_tree.proofs.MovingSimple.{comma_marked, name_moves, number_moves, empty_parens_moves, nil_moves, cond_moves, assign_moves, call_moves, quals_moves, itype_moves, local_moves, handles_moves}

-- ---- statements

word_end_moves : Moves spec.word_end spec.word_end
word_end_moves = bind_moves empty_parens_moves (λ a b. expect_moves terms.Semicolon)

returned_if_moves : (b : Bool) → Moves (spec.returned_if b) (spec.returned_if b)
returned_if_moves true = pure_moves _ _
returned_if_moves false = bind_moves nil_moves (λ x y. pure_moves _ _)

return_moves : Moves spec.return_stmt spec.return_stmt
unfolding spec.return_stmt
return_moves = bind_moves take_moves (λ a b. seen_moves terms.Semicolon (λ s. bind_moves (returned_if_moves s) (λ x y. bind_moves (expect_moves terms.Semicolon) (λ c d. pure_moves (stmts.Return a x) (stmts.Return b y)))))

break_moves : (around : Around) → Moves (spec.break_by around) (spec.break_by around)
break_moves arounds.Nothing = refuse_moves
break_moves arounds.Loop = bind_moves take_moves (λ a b. bind_moves (expect_moves terms.Semicolon) (λ c d. pure_moves (stmts.Break a) (stmts.Break b)))

handles_stmt_moves : Moves spec.handles_stmt spec.handles_stmt
handles_stmt_moves = bind_moves handles_moves (λ x y. pure_moves _ _)

module _ (levels : ℕ) where
  assign_stmt_moves : Moves (spec.assign_stmt levels) (spec.assign_stmt levels)
  unfolding spec.assign_stmt
  assign_stmt_moves = bind_moves (assign_moves levels) (λ x y. bind_moves (expect_moves terms.Semicolon) (λ c d. pure_moves _ _))

  call_stmt_moves : Moves (spec.call_stmt levels) (spec.call_stmt levels)
  unfolding spec.call_stmt
  call_stmt_moves = bind_moves (call_moves levels) (λ x y. bind_moves (expect_moves terms.Semicolon) (λ c d. pure_moves _ _))

  local_stmt_moves : Moves (spec.local_stmt levels) (spec.local_stmt levels)
  unfolding spec.local_stmt
  local_stmt_moves = bind_moves (local_moves levels) (λ x y. pure_moves _ _)

  first_local_moves : Moves (spec.first_local levels) (spec.first_local levels)
  unfolding spec.first_local
  first_local_moves = bind_moves (local_moves levels) (λ x y. pure_moves _ _)

  first_assign_moves : Moves (spec.first_assign levels) (spec.first_assign levels)
  unfolding spec.first_assign
  first_assign_moves = bind_moves (assign_moves levels) (λ x y. bind_moves (expect_moves terms.Semicolon) (λ c d. pure_moves _ _))

  first_by_moves : (k : Term) → Moves (spec.first_by levels k) (spec.first_by levels k)
  first_by_moves terms.Static = first_local_moves
  first_by_moves terms.Volatile = first_local_moves
  first_by_moves terms.Extern = first_local_moves
  first_by_moves terms.Int = first_local_moves
  first_by_moves terms.Long = first_local_moves
  first_by_moves terms.Semicolon = bind_moves take_moves (λ a b. pure_moves (firsts.Empty a) (firsts.Empty b))
  first_by_moves _ = first_assign_moves

  first_moves : Moves (spec.first_part levels) (spec.first_part levels)
  unfolding spec.first_part
  first_moves = looked_moves first_by_moves

  cond_if_moves : (b : Bool) → Moves (spec.cond_if levels b) (spec.cond_if levels b)
  cond_if_moves true = pure_moves _ _
  cond_if_moves false = bind_moves (cond_moves levels) (λ x y. pure_moves _ _)

  middle_moves : Moves (spec.middle_part levels) (spec.middle_part levels)
  unfolding spec.middle_part
  middle_moves = seen_moves terms.Semicolon cond_if_moves

  last_if_moves : (b : Bool) → Moves (spec.last_if levels b) (spec.last_if levels b)
  last_if_moves true = pure_moves _ _
  last_if_moves false = bind_moves (assign_moves levels) (λ x y. pure_moves _ _)

  last_moves : Moves (spec.last_part levels) (spec.last_part levels)
  unfolding spec.last_part
  last_moves = seen_moves terms.RightParen last_if_moves

  condition_moves : Moves (spec.condition levels) (spec.condition levels)
  unfolding spec.condition
  condition_moves = bind_moves (expect_moves terms.LeftParen) (λ a b. bind_moves (cond_moves levels) (λ x y. bind_moves (expect_moves terms.RightParen) (λ c d. pure_moves _ _)))

  module _ (inner : Around → Parser Stmt) (m : (around : Around) → Moves (inner around) (inner around)) where
    pub block_moves : (around : Around) → Moves (spec.block levels inner around) (spec.block levels inner around)
    unfolding spec.block
    block_moves around = bind_moves (expect_moves terms.LeftBrace) (λ a b. bind_moves (many_moves terms.RightBrace _ _ (m around)) (λ x y. bind_moves (expect_moves terms.RightBrace) (λ c d. pure_moves _ _)))

    else_if_moves : (around : Around) (b : Bool) → Moves (spec.else_if levels inner around b) (spec.else_if levels inner around b)
    else_if_moves around true = bind_moves (m around) (λ x y. pure_moves _ _)
    else_if_moves around false = pure_moves _ _

    if_moves : (around : Around) → Moves (spec.if_stmt levels inner around) (spec.if_stmt levels inner around)
    unfolding spec.if_stmt
    if_moves around = bind_moves take_moves (λ a b. bind_moves condition_moves (λ x y. bind_moves (m around) (λ s t. eaten_moves terms.Else (λ e. bind_moves (else_if_moves around e) (λ u v. pure_moves (stmts.If a x s u) (stmts.If b y t v))))))

    while_moves : Moves (spec.while_stmt levels inner) (spec.while_stmt levels inner)
    unfolding spec.while_stmt
    while_moves = bind_moves take_moves (λ a b. bind_moves condition_moves (λ x y. bind_moves (m arounds.Loop) (λ s t. pure_moves (stmts.While a x s) (stmts.While b y t))))

    for_moves : Moves (spec.for_stmt levels inner) (spec.for_stmt levels inner)
    unfolding spec.for_stmt
    for_moves = bind_moves take_moves (λ a b. bind_moves (expect_moves terms.LeftParen) (λ c d. bind_moves first_moves (λ f g. bind_moves middle_moves (λ x y. bind_moves (expect_moves terms.Semicolon) (λ h k.
        bind_moves last_moves (λ l n. bind_moves (expect_moves terms.RightParen) (λ o p. bind_moves (m arounds.Loop) (λ s t. pure_moves (stmts.For a f x l s) (stmts.For b g y n t)))))))))

    atomic_moves : (around : Around) → Moves (spec.atomic_stmt levels inner around) (spec.atomic_stmt levels inner around)
    unfolding spec.atomic_stmt
    atomic_moves around = bind_moves take_moves (λ a b. bind_moves word_end_moves (λ c d. bind_moves (many_moves terms.AtomicEnd _ _ (m around)) (λ x y. bind_moves (expect_moves terms.AtomicEnd) (λ e f. bind_moves word_end_moves (λ g h. pure_moves (stmts.Atomic a x) (stmts.Atomic b y))))))

    stmt_by_moves : (around : Around) (k : Term) → Moves (spec.stmt_by levels inner around k) (spec.stmt_by levels inner around k)
    stmt_by_moves around terms.LeftBrace = bind_moves (block_moves around) (λ x y. pure_moves _ _)
    stmt_by_moves around terms.Semicolon = bind_moves take_moves (λ a b. pure_moves (stmts.Empty a) (stmts.Empty b))
    stmt_by_moves around terms.Static = local_stmt_moves
    stmt_by_moves around terms.Volatile = local_stmt_moves
    stmt_by_moves around terms.Extern = local_stmt_moves
    stmt_by_moves around terms.Int = local_stmt_moves
    stmt_by_moves around terms.Long = local_stmt_moves
    stmt_by_moves around terms.Name = assign_stmt_moves
    stmt_by_moves around terms.Increment = assign_stmt_moves
    stmt_by_moves around terms.Decrement = assign_stmt_moves
    stmt_by_moves around terms.If = if_moves around
    stmt_by_moves around terms.While = while_moves
    stmt_by_moves around terms.For = for_moves
    stmt_by_moves around terms.Break = break_moves around
    stmt_by_moves around terms.Return = return_moves
    stmt_by_moves around terms.AtomicBegin = atomic_moves around
    stmt_by_moves around terms.HandleType = handles_stmt_moves
    stmt_by_moves around _ = call_stmt_moves

past_limit_moves : (b : Bool) → Moves (spec.past_limit b) (spec.past_limit b)
past_limit_moves true = deep_moves
past_limit_moves false = refuse_moves

no_stmt_moves : (around : Around) → Moves (spec.no_stmt around) (spec.no_stmt around)
unfolding spec.no_stmt
no_stmt_moves around = record { does = λ i j alike. (by_moves spec.past_limit spec.past_limit past_limit_moves (spec.begins around (peek i)) (spec.begins around (peek j)) (ap (spec.begins around) (peek_alike i j alike))).does i j alike }

stmt_moves : (levels : ℕ) (around : Around) → Moves (spec.stmt levels around) (spec.stmt levels around)
unfolding spec.stmt spec.stmt_over
stmt_moves zero around = no_stmt_moves around
stmt_moves (suc levels) around = looked_moves (stmt_by_moves levels (spec.stmt levels) (stmt_moves levels) around)

-- ---- tokens that are skipped

skip_one_moves : (others : List Term → Parser (Unit {0})) → ((ends : List Term) → Moves (others ends) (others ends)) → (o : Option (List Term)) → Moves (item_spec.skip_one others o) (item_spec.skip_one others o)
skip_one_moves others m None = refuse_moves
skip_one_moves others m (Some ends) = bind_moves take_moves (λ a b. m ends)

skip_from_moves : (n : ℕ) (ends : List Term) → Moves (item_spec.skip_from n ends) (item_spec.skip_from n ends)
unfolding item_spec.skip_from
skip_from_moves zero [] = pure_moves _ _
skip_from_moves (suc n) [] = pure_moves _ _
skip_from_moves zero (top ∷ ends) = refuse_moves
skip_from_moves (suc n) (top ∷ ends) = record {
  does = λ i j alike. (by_moves (item_spec.skip_one (item_spec.skip_from n)) (item_spec.skip_one (item_spec.skip_from n)) (skip_one_moves (item_spec.skip_from n) (skip_from_moves n)) (item_spec.open_after (peek i) (top ∷ ends)) (item_spec.open_after (peek j) (top ∷ ends))
      (ap (λ (k : Term). item_spec.open_after k (top ∷ ends)) (peek_alike i j alike))).does i j alike;
}

skip_all_by : Term → ℕ → Parser (Unit {0})
skip_all_by close n = item_spec.skip_from n (close ∷ [])

skip_moves : (close : Term) → Moves (item_spec.skip_through close) (item_spec.skip_through close)
unfolding item_spec.skip_through skip_all_by
skip_moves close = record { does = λ i j alike. (by_moves (skip_all_by close) (skip_all_by close) (λ n. skip_from_moves n (close ∷ [])) (length i.tokens) (length j.tokens) (length_alike i.tokens j.tokens alike)).does i j alike }

-- ---- variables and locks

start_number_moves : Moves item_spec.start_number item_spec.start_number
unfolding item_spec.start_number
start_number_moves = bind_moves here_moves (λ a b. eaten_moves terms.Minus (λ n. bind_moves number_moves (λ x y. pure_moves {A = Start} (record { from = a; is_negative = n; value = x }) (record { from = b; is_negative = n; value = y }))))

start_if_moves : (b : Bool) → Moves (item_spec.start_if b) (item_spec.start_if b)
start_if_moves true = bind_moves start_number_moves (λ x y. pure_moves _ _)
start_if_moves false = pure_moves _ _

gname_moves : Moves item_spec.gname item_spec.gname
unfolding item_spec.gname
gname_moves = bind_moves name_moves (λ x y. eaten_moves terms.Assign (λ b. bind_moves (start_if_moves b) (λ s t. pure_moves {A = Gname} (record { name = x; start = s }) (record { name = y; start = t }))))

globals_moves : Moves item_spec.globals item_spec.globals
unfolding item_spec.globals
globals_moves = bind_moves gname_moves (λ x y. bind_moves (more_moves _ comma_marked _ _ gname_moves) (λ xs ys. bind_moves (expect_moves terms.Semicolon) (λ c d. pure_moves _ _)))

started_if_moves : (b : Bool) → Moves (item_spec.started_if b) (item_spec.started_if b)
started_if_moves true = bind_moves (expect_moves terms.MutexStart) (λ x y. pure_moves _ _)
started_if_moves false = pure_moves _ _

mname_moves : Moves item_spec.mname item_spec.mname
unfolding item_spec.mname
mname_moves = bind_moves name_moves (λ x y. eaten_moves terms.Assign (λ b. bind_moves (started_if_moves b) (λ s t. pure_moves {A = Mname} (record { name = x; is_started = s }) (record { name = y; is_started = t }))))

locks_moves : Moves item_spec.locks item_spec.locks
unfolding item_spec.locks
locks_moves = bind_moves (expect_moves terms.MutexType) (λ a b. bind_moves mname_moves (λ x y. bind_moves (more_moves _ comma_marked _ _ mname_moves) (λ xs ys. bind_moves (expect_moves terms.Semicolon) (λ c d. pure_moves _ _))))

-- ---- functions

proto_end_moves : (from other : ℕ) → Moves (item_spec.proto_end from) (item_spec.proto_end other)
unfolding item_spec.proto_end
proto_end_moves from other = bind_moves (expect_moves terms.Semicolon) (λ c d. pure_moves _ _)

skipped_parens_moves : Moves item_spec.skipped_parens item_spec.skipped_parens
unfolding item_spec.skipped_parens
skipped_parens_moves = bind_moves (expect_moves terms.LeftParen) (λ a b. skip_moves terms.RightParen)

proto_moves : Moves item_spec.proto item_spec.proto
unfolding item_spec.proto
proto_moves = bind_moves take_moves (λ a b. bind_moves skipped_parens_moves (λ x y. proto_end_moves a b))

error_by_moves : (from other : ℕ) (b : Bool) → Moves (item_spec.error_by from b) (item_spec.error_by other b)
error_by_moves from other true = bind_moves (bind_moves (expect_moves terms.LeftBrace) (λ a b. skip_moves terms.RightBrace)) (λ x y. pure_moves _ _)
error_by_moves from other false = bind_moves (proto_end_moves from other) (λ x y. pure_moves _ _)

error_moves : Moves item_spec.error_fn item_spec.error_fn
unfolding item_spec.error_fn
error_moves = bind_moves take_moves (λ a b. bind_moves skipped_parens_moves (λ x y. seen_moves terms.LeftBrace (error_by_moves a b)))

name_if_moves : (b : Bool) → Moves (item_spec.name_if b) (item_spec.name_if b)
name_if_moves true = bind_moves name_moves (λ x y. pure_moves _ _)
name_if_moves false = pure_moves _ _

pointer_if_moves : (b : Bool) → Moves (item_spec.pointer_if b) (item_spec.pointer_if b)
pointer_if_moves true = seen_moves terms.Name name_if_moves
pointer_if_moves false = pure_moves _ _

void_if_moves : (b : Bool) → Moves (item_spec.void_if b) (item_spec.void_if b)
void_if_moves true = eaten_moves terms.Star pointer_if_moves
void_if_moves false = pure_moves _ _

parameter_moves : Moves item_spec.parameter item_spec.parameter
unfolding item_spec.parameter
parameter_moves = bind_moves (expect_moves terms.LeftParen) (λ a b. eaten_moves terms.Void (λ v. bind_moves (void_if_moves v) (λ x y. bind_moves (expect_moves terms.RightParen) (λ c d. pure_moves tt tt))))

-- ---- items

proto_if_moves : (b : Bool) → Moves (item_spec.proto_if b) (item_spec.proto_if b)
proto_if_moves true = proto_moves
proto_if_moves false = refuse_moves

profile_proto_moves : Moves item_spec.profile_proto item_spec.profile_proto
unfolding item_spec.profile_proto
profile_proto_moves = record { does = λ i j alike. (by_moves item_spec.proto_if item_spec.proto_if proto_if_moves (item_spec.is_profile (peek i)) (item_spec.is_profile (peek j)) (ap item_spec.is_profile (peek_alike i j alike))).does i j alike }

module _ (levels : ℕ) where
  body_moves : Moves (item_spec.body levels) (item_spec.body levels)
  unfolding item_spec.body
  body_moves = block_moves levels (spec.stmt levels) (stmt_moves levels) arounds.Nothing

  main_moves : Moves (item_spec.main_fn levels) (item_spec.main_fn levels)
  unfolding item_spec.main_fn
  main_moves = bind_moves take_moves (λ a b. bind_moves (expect_moves terms.LeftParen) (λ c d. eaten_moves terms.Void (λ v. bind_moves (expect_moves terms.RightParen) (λ e f. bind_moves body_moves (λ x y. pure_moves {A = Mainfn} (record { from = a; body = x }) (record { from = b; body = y }))))))

  body_if_moves : (b : Bool) → Moves (item_spec.body_if levels b) (item_spec.body_if levels b)
  body_if_moves true = pure_moves _ _
  body_if_moves false = bind_moves body_moves (λ x y. pure_moves _ _)

  thread_moves : Moves (item_spec.thread_fn levels) (item_spec.thread_fn levels)
  unfolding item_spec.thread_fn
  thread_moves = bind_moves name_moves (λ x y. bind_moves parameter_moves (λ s t. eaten_moves terms.Semicolon (λ p. bind_moves (body_if_moves p) (λ u v. pure_moves {A = Threadfn} (record { name = x; body = u }) (record { name = y; body = v })))))

  typed_by_moves : (k : Term) → Moves (item_spec.typed_by levels k) (item_spec.typed_by levels k)
  typed_by_moves terms.Name = bind_moves globals_moves (λ x y. pure_moves _ _)
  typed_by_moves terms.Main = bind_moves main_moves (λ x y. pure_moves _ _)
  typed_by_moves _ = bind_moves profile_proto_moves (λ x y. pure_moves _ _)

  typed_moves : Moves (item_spec.typed levels) (item_spec.typed levels)
  unfolding item_spec.typed
  typed_moves = looked_moves typed_by_moves

  untyped_by_moves : (k : Term) → Moves (item_spec.untyped_by levels k) (item_spec.untyped_by levels k)
  untyped_by_moves terms.Star = bind_moves take_moves (λ a b. bind_moves thread_moves (λ x y. pure_moves (untypeds.Thread x) (untypeds.Thread y)))
  untyped_by_moves terms.ReachError = error_moves
  untyped_by_moves _ = bind_moves profile_proto_moves (λ x y. pure_moves _ _)

  untyped_moves : Moves (item_spec.untyped levels) (item_spec.untyped levels)
  unfolding item_spec.untyped
  untyped_moves = looked_moves untyped_by_moves

  typed_body_moves : Moves (item_spec.typed_body levels) (item_spec.typed_body levels)
  unfolding item_spec.typed_body
  typed_body_moves = bind_moves itype_moves (λ a b. bind_moves typed_moves (λ x y. pure_moves _ _))

  void_body_moves : Moves (item_spec.void_body levels) (item_spec.void_body levels)
  unfolding item_spec.void_body
  void_body_moves = bind_moves take_moves (λ a b. bind_moves untyped_moves (λ x y. pure_moves (bodies.Void a x) (bodies.Void b y)))

  body_by_moves : (k : Term) → Moves (item_spec.body_by levels k) (item_spec.body_by levels k)
  body_by_moves terms.Int = typed_body_moves
  body_by_moves terms.Long = typed_body_moves
  body_by_moves terms.Void = void_body_moves
  body_by_moves terms.MutexType = bind_moves locks_moves (λ x y. pure_moves _ _)
  body_by_moves terms.HandleType = bind_moves handles_moves (λ x y. pure_moves _ _)
  body_by_moves _ = refuse_moves

  item_body_moves : Moves (item_spec.item_body levels) (item_spec.item_body levels)
  unfolding item_spec.item_body
  item_body_moves = looked_moves body_by_moves

  item_moves : Moves (item_spec.item levels) (item_spec.item levels)
  unfolding item_spec.item
  item_moves = bind_moves here_moves (λ a b. bind_moves quals_moves (λ qs rs. bind_moves item_body_moves (λ x y. pure_moves {A = Item} (record { from = a; quals = qs; body = x }) (record { from = b; quals = rs; body = y }))))

  tree_moves : Moves (item_spec.tree levels) (item_spec.tree levels)
  unfolding item_spec.tree
  tree_moves = many_moves terms.End _ _ item_moves

  -- ---- texts

  read_alike : (t : List Item) (us : List Lexeme) (s : Outcome (List Item)) → item_spec.tree levels (at us 0) ≡ s → Alike (Ok (t, at [] 0)) s → (u : List Item) × IsTreeWithin levels u us
  read_alike t us (Ok p) e alike = (p.0, tree_found levels (at us 0) p.0 p.1 e)
  read_alike t us (Err d) e alike = absurd alike

  pub tree_alike : (t : List Item) (ts us : List Lexeme) → AreAlike ts us → IsTreeWithin levels t ts → (u : List Item) × IsTreeWithin levels u us
  tree_alike t ts us alike is =
      read_alike t us (item_spec.tree levels (at us 0)) refl
      (subst (λ (r : Outcome (List Item)). Alike r (item_spec.tree levels (at us 0))) (tree_again levels 0 t ts is) (tree_moves.does (at ts 0) (at us 0) alike))
