-- Whole texts, and what completes them, with more levels.
use Rattle.std.proofs.Common.{◌≡◌, ℕ, suc, ◌<◌, Bool, true, false, List, [], ◌∷◌, Some, None, refl, ap, arith}
use Rattle.c_lex.specs.Tokens.{Lexeme}
use Rattle.c_tree.specs.declared.term.Term.{Term}
use Rattle.c_tree.specs.declared.term.Term.TheVariants as terms
use Rattle.c_tree.specs.declared.stmt.Around.TheVariants as arounds
use Rattle.c_tree.specs.declared.item.Start.{Start}
use Rattle.c_tree.specs.declared.item.Gname.{Gname}
use Rattle.c_tree.specs.declared.item.Globals.{Globals}
use Rattle.c_tree.specs.declared.item.Mname.{Mname}
use Rattle.c_tree.specs.declared.item.Locks.{Locks}
use Rattle.c_tree.specs.declared.item.Mainfn.{Mainfn}
use Rattle.c_tree.specs.declared.item.Threadfn.{Threadfn}
use Rattle.c_tree.specs.declared.item.Proto.{Proto}
use Rattle.c_tree.specs.declared.item.Typed.TheVariants as typeds
use Rattle.c_tree.specs.declared.item.Untyped.TheVariants as untypeds
use Rattle.c_tree.specs.declared.item.Body.TheVariants as bodies
use Rattle.c_tree.specs.declared.item.Item.{Item}
use Rattle.c_tree.specs.Term.{same_term}
use Rattle.c_tree.specs.inside.Input.{Input, Parser, ◌>>=◌, pure, expect, peek, sees, term_at}
use Rattle.c_tree.specs.inside.Expr as expr_spec
use Rattle.c_tree.specs.inside.Simple as simple_spec
use Rattle.c_tree.specs.inside.Stmt as stmt_spec
use Rattle.c_tree.specs.inside.Item as spec
use Rattle.c_tree.proofs.StmtSizes.{stmt_shrinks}
use Rattle.c_tree.proofs.ItemSizes.{gname_shrinks, mname_shrinks, item_shrinks}
use Rattle.c_tree.proofs.Again.{at, same_self}
use Rattle.c_tree.proofs.AgainParts.{closes}
use Rattle.c_tree.proofs.NextToken.{Views, views_peek, views_sees, seeing}
use Rattle.c_tree.proofs.Completing.{Meets, any, Fills, FinishesAt, Completes, bind}
use Rattle.c_tree.proofs.Fillers.{is_there, name_token, int_token, mutex_token, handle_token, abort_token, open_token, close_token, left_token, right_token, semicolon, is_zero, is_name, is_int, is_mutex_start, is_mutex, is_handle, is_abort, is_open, is_close, is_left, is_semicolon}
use Rattle.c_tree.proofs.CompletingSteps.{something, leads_any, leads_none, leads_token, filled, same_completes, pure_completes, refuse_at, seen_some, see_at, Branches, looked, placed, Takes, taking, taken_then, wanted, ended, is_not, eaten}
use Rattle.c_tree.proofs.CompletingLoops.{only, more_completes, many_completes}
use Rattle.c_tree.proofs.CompletingSkips.{quals_completes, skip_completes}
use Rattle.c_tree.proofs.CompletingExpr.{zero_fill, name_completes, number_completes}
use Rattle.c_tree.proofs.CompletingSimple.{itype_completes, handles_completes, semicolon_closes, semicolon_no_comma, closes_other}
use Rattle.c_tree.proofs.CompletingStmt.{block_completes, stmt_completes}

-- ---- variables and locks

start_number_completes : Completes spec.start_number spec.start_number zero_fill any
unfolding spec.start_number same_term
start_number_completes = placed (λ from. eaten terms.Minus (λ b. expr_spec.number >>= λ v. pure {A = Start} (record { from = from; is_negative = b; value = v })) (λ b. expr_spec.number >>= λ v. pure {A = Start} (record { from = from; is_negative = b; value = v })) refl (leads_token is_zero refl)
    (bind number_completes leads_any (λ v. pure_completes {A = Start} (record { from = from; is_negative = true; value = v })))
    (bind number_completes leads_any (λ v. pure_completes {A = Start} (record { from = from; is_negative = false; value = v }))))

gname_completes : Completes spec.gname spec.gname (name_token ∷ []) closes
unfolding spec.gname
gname_completes = bind name_completes leads_any (λ x. eaten terms.Assign (λ b. spec.start_if b >>= λ s. pure {A = Gname} (record { name = x; start = s })) (λ b. spec.start_if b >>= λ s. pure {A = Gname} (record { name = x; start = s })) refl (leads_none closes_other)
    (bind (bind start_number_completes leads_any (λ s. pure_completes {C = closes} (Some s))) (leads_none (λ k so. so)) (λ s. pure_completes {A = Gname} (record { name = x; start = s })))
    (bind (pure_completes {C = closes} None) (leads_none (λ k so. so)) (λ s. pure_completes {A = Gname} (record { name = x; start = s }))))

globals_completes : Completes spec.globals spec.globals (name_token ∷ semicolon ∷ []) any
unfolding spec.globals
globals_completes = bind gname_completes (leads_token is_semicolon refl) (λ first. bind (more_completes simple_spec.comma_mark spec.gname spec.gname (name_token ∷ []) closes (only terms.Semicolon) (λ n. refl) gname_shrinks gname_shrinks gname_completes semicolon_closes semicolon_no_comma)
    (leads_token is_semicolon (same_self terms.Semicolon)) (λ more. ended {A = Globals} is_semicolon (record { first = first; more = more })))

mname_completes : Completes spec.mname spec.mname (name_token ∷ []) closes
unfolding spec.mname
mname_completes = bind name_completes leads_any (λ x. eaten terms.Assign (λ b. spec.started_if b >>= λ s. pure {A = Mname} (record { name = x; is_started = s })) (λ b. spec.started_if b >>= λ s. pure {A = Mname} (record { name = x; is_started = s })) refl (leads_none closes_other)
    (bind (wanted is_mutex_start (λ c. pure_completes {C = closes} true)) (leads_none (λ k so. so)) (λ s. pure_completes {A = Mname} (record { name = x; is_started = s })))
    (bind (pure_completes {C = closes} false) (leads_none (λ k so. so)) (λ s. pure_completes {A = Mname} (record { name = x; is_started = s }))))

locks_completes : Completes spec.locks spec.locks (mutex_token ∷ name_token ∷ semicolon ∷ []) any
unfolding spec.locks
locks_completes = wanted is_mutex (λ from. bind mname_completes (leads_token is_semicolon refl) (λ first. bind (more_completes simple_spec.comma_mark spec.mname spec.mname (name_token ∷ []) closes (only terms.Semicolon) (λ n. refl) mname_shrinks mname_shrinks mname_completes semicolon_closes semicolon_no_comma)
    (leads_token is_semicolon (same_self terms.Semicolon)) (λ more. ended {A = Locks} is_semicolon (record { from = from; first = first; more = more }))))

-- ---- functions

skipped_parens_completes : Completes spec.skipped_parens spec.skipped_parens (open_token ∷ close_token ∷ []) any
unfolding spec.skipped_parens
skipped_parens_completes = wanted is_open (λ o. skip_completes terms.RightParen refl)

proto_end_completes : (from : ℕ) → Completes (spec.proto_end from) (spec.proto_end from) (semicolon ∷ []) any
unfolding spec.proto_end
proto_end_completes from = ended {A = Proto} is_semicolon (record { from = from })

proto_takes : (k : Term) → is_there k ≡ true → Takes k spec.proto spec.proto (open_token ∷ close_token ∷ semicolon ∷ []) any
unfolding spec.proto
proto_takes k some = taking some (λ from. bind skipped_parens_completes leads_any (λ s. proto_end_completes from))

named : Input → Bool
named i = spec.is_profile (peek i)

views_named : Views named
unfolding named
views_named end ts us same = ap spec.is_profile (views_peek end ts us same)

profile_there : (k : Term) → spec.is_profile k ≡ true → is_there k ≡ true
profile_there terms.End so = absurd cc
profile_there _ so = refl

proto_there : (b : Bool) (end : ℕ) (ts : List Lexeme) → named (at ts end) ≡ b → FinishesAt (spec.proto_if b) (spec.proto_if b) something any end ts
unfolding named peek
proto_there true end ts is = (proto_takes (term_at ts) (profile_there (term_at ts) is)).there end ts refl
proto_there false end ts is = refuse_at end ts

profile_proto_completes : Completes spec.profile_proto spec.profile_proto (abort_token ∷ open_token ∷ close_token ∷ semicolon ∷ []) any
unfolding spec.profile_proto named peek
profile_proto_completes = same_completes spec.profile_proto spec.profile_proto (seeing named >>= spec.proto_if) (seeing named >>= spec.proto_if) (λ i. refl) (λ i. refl)
    (seen_some named views_named proto_there true (λ end tail. ap spec.is_profile is_abort.is) ((proto_takes terms.Abort refl).fill abort_token is_abort.is))

error_body : (from : ℕ) → Completes (spec.error_by from true) (spec.error_by from true) (left_token ∷ right_token ∷ []) any
error_body from = bind (wanted is_left (λ o. skip_completes terms.RightBrace refl)) leads_any (λ s. pure_completes (untypeds.Errfn (record { from = from })))

error_proto : (from : ℕ) → Completes (spec.error_by from false) (spec.error_by from false) (semicolon ∷ []) any
error_proto from = bind (proto_end_completes from) leads_any (λ p. pure_completes (untypeds.Proto p))

error_there : (from : ℕ) (b : Bool) (end : ℕ) (ts : List Lexeme) → FinishesAt (spec.error_by from b) (spec.error_by from b) something any end ts
error_there from true end ts = filled ((error_body from).there end ts)
error_there from false end ts = (error_proto from).there end ts

not_left : (end : ℕ) (tail : List Lexeme) → sees terms.LeftBrace (at (semicolon ∷ tail) end) ≡ false
unfolding sees peek same_term
not_left end tail = ap (λ (j : Term). same_term j terms.LeftBrace) is_semicolon.is

error_fn_takes : Takes terms.ReachError spec.error_fn spec.error_fn (open_token ∷ close_token ∷ semicolon ∷ []) any
unfolding spec.error_fn
error_fn_takes = taking refl (λ from. bind skipped_parens_completes leads_any (λ s. seen_some (sees terms.LeftBrace) (views_sees terms.LeftBrace) (λ b end ts is. error_there from b end ts) false not_left (error_proto from).fill))

-- ---- the parameter of a thread function

only_star : (k : Term) → only terms.RightParen k ≡ true → is_not terms.Star k ≡ true
unfolding same_term
only_star terms.RightParen so = refl
only_star _ so = absurd cc

only_no_name : (k : Term) → only terms.RightParen k ≡ true → same_term k terms.Name ≡ false
unfolding same_term
only_no_name terms.RightParen so = refl
only_no_name _ so = absurd cc

name_takes : Bool → List Lexeme
name_takes true = something
name_takes false = []

name_there : (b : Bool) (end : ℕ) (ts : List Lexeme) → FinishesAt (spec.name_if b) (spec.name_if b) (name_takes b) (only terms.RightParen) end ts
unfolding name_takes
name_there true end ts = filled ((bind (name_completes {C = any}) leads_any (λ x. pure_completes tt)).there end ts)
name_there false end ts = (pure_completes tt).there end ts

name_stays : (end : ℕ) (b : Bool) → name_takes b ≡ [] → (tail : List Lexeme) → Meets (only terms.RightParen) tail → sees terms.Name (at tail end) ≡ b
unfolding name_takes sees peek
name_stays end true none tail meets = absurd cc
name_stays end false none tail meets = only_no_name (term_at tail) meets

pointer_fill : Fills (spec.pointer_if true) [] (only terms.RightParen)
unfolding sees peek
pointer_fill = record { value = tt; reads = λ end tail meets. rw (only_no_name (term_at tail) meets) refl }

pointer_completes : Completes (spec.pointer_if true) (spec.pointer_if true) [] (only terms.RightParen)
pointer_completes = record {
  fill = pointer_fill;
  there = λ end ts. see_at (sees terms.Name) (views_sees terms.Name) spec.name_if spec.name_if name_takes [] (only terms.RightParen) end ts (name_there (sees terms.Name (at ts end)) end ts) (λ none. refl) (name_stays end (sees terms.Name (at ts end)));
}

void_completes : Completes (spec.void_if true) (spec.void_if true) [] (only terms.RightParen)
void_completes = eaten terms.Star spec.pointer_if spec.pointer_if refl (leads_none only_star) pointer_completes (pure_completes tt)

parameter_end : Bool → Parser (Unit {0})
parameter_end v = spec.void_if v >>= λ s. expect terms.RightParen >>= λ c. pure tt

parameter_by : (b : Bool) → Completes (spec.void_if b) (spec.void_if b) [] (only terms.RightParen) → Completes (parameter_end b) (parameter_end b) (close_token ∷ []) any
unfolding parameter_end
parameter_by b said = bind said (leads_token is_close (same_self terms.RightParen)) (λ s. ended is_close tt)

parameter_completes : Completes spec.parameter spec.parameter (open_token ∷ close_token ∷ []) any
unfolding spec.parameter parameter_end same_term
parameter_completes = wanted is_open (λ o. eaten terms.Void parameter_end parameter_end refl (leads_token is_close refl) (parameter_by true void_completes) (parameter_by false (pure_completes tt)))

-- ---- with bodies, which have fewer levels in the first of two parsers

module _ (n m : ℕ) (lt : suc n < m) where
  body_completes : Completes (spec.body n) (spec.body m) (left_token ∷ right_token ∷ []) any
  unfolding spec.body
  body_completes = block_completes n m (omega arith) (stmt_spec.stmt n) (stmt_spec.stmt m) (stmt_shrinks n) (stmt_shrinks m) (stmt_completes n m lt) arounds.Nothing left_token is_left

  main_end : (from : ℕ) → Completes (expect terms.RightParen >>= λ c. spec.body n >>= λ b. pure {A = Mainfn} (record { from = from; body = b })) (expect terms.RightParen >>= λ c. spec.body m >>= λ b. pure {A = Mainfn} (record { from = from; body = b })) (close_token ∷ left_token ∷ right_token ∷ []) any
  main_end from = wanted is_close (λ c. bind body_completes leads_any (λ b. pure_completes {A = Mainfn} (record { from = from; body = b })))

  main_fn_takes : Takes terms.Main (spec.main_fn n) (spec.main_fn m) (open_token ∷ close_token ∷ left_token ∷ right_token ∷ []) any
  unfolding spec.main_fn same_term
  main_fn_takes = taking refl (λ from. wanted is_open (λ o. eaten terms.Void (λ v. expect terms.RightParen >>= λ c. spec.body n >>= λ b. pure {A = Mainfn} (record { from = from; body = b })) (λ v. expect terms.RightParen >>= λ c. spec.body m >>= λ b. pure {A = Mainfn} (record { from = from; body = b })) refl
      (leads_token is_close refl) (main_end from) (main_end from)))

  thread_fn_completes : Completes (spec.thread_fn n) (spec.thread_fn m) (name_token ∷ open_token ∷ close_token ∷ left_token ∷ right_token ∷ []) any
  unfolding spec.thread_fn same_term
  thread_fn_completes = bind (name_completes {C = any}) leads_any (λ f. bind parameter_completes leads_any (λ s. eaten terms.Semicolon (λ p. spec.body_if n p >>= λ b. pure {A = Threadfn} (record { name = f; body = b })) (λ p. spec.body_if m p >>= λ b. pure {A = Threadfn} (record { name = f; body = b })) refl (leads_token is_left refl)
      (bind (pure_completes {C = any} None) leads_any (λ b. pure_completes {A = Threadfn} (record { name = f; body = b })))
      (bind (bind body_completes leads_any (λ b. pure_completes {C = any} (Some b))) leads_any (λ b. pure_completes {A = Threadfn} (record { name = f; body = b })))))

  -- ---- items

  typed_globals : Completes (spec.typed_by n terms.Name) (spec.typed_by m terms.Name) (name_token ∷ semicolon ∷ []) any
  typed_globals = bind globals_completes leads_any (λ g. pure_completes (typeds.Globals g))

  main_typed : Takes terms.Main (spec.typed_by n terms.Main) (spec.typed_by m terms.Main) (open_token ∷ close_token ∷ left_token ∷ right_token ∷ []) any
  main_typed = taken_then main_fn_takes (λ f. pure_completes (typeds.Main f))

  proto_typed : Completes (spec.profile_proto >>= λ p. pure (typeds.Proto p)) (spec.profile_proto >>= λ p. pure (typeds.Proto p)) (abort_token ∷ open_token ∷ close_token ∷ semicolon ∷ []) any
  proto_typed = bind profile_proto_completes leads_any (λ p. pure_completes (typeds.Proto p))

  typed_branches : Branches (spec.typed_by n) (spec.typed_by m) any
  typed_branches terms.Name end ts is = filled (typed_globals.there end ts)
  typed_branches terms.Main end ts is = main_typed.there end ts is
  typed_branches _ end ts is = filled (proto_typed.there end ts)

  typed_completes : Completes (spec.typed n) (spec.typed m) (name_token ∷ semicolon ∷ []) any
  unfolding spec.typed
  typed_completes = looked typed_branches terms.Name is_name.is typed_globals.fill

  thread_untyped : Takes terms.Star (spec.untyped_by n terms.Star) (spec.untyped_by m terms.Star) (name_token ∷ open_token ∷ close_token ∷ left_token ∷ right_token ∷ []) any
  thread_untyped = taking refl (λ from. bind thread_fn_completes leads_any (λ t. pure_completes (untypeds.Thread t)))

  proto_untyped : Completes (spec.profile_proto >>= λ p. pure (untypeds.Proto p)) (spec.profile_proto >>= λ p. pure (untypeds.Proto p)) (abort_token ∷ open_token ∷ close_token ∷ semicolon ∷ []) any
  proto_untyped = bind profile_proto_completes leads_any (λ p. pure_completes (untypeds.Proto p))

  untyped_branches : Branches (spec.untyped_by n) (spec.untyped_by m) any
  untyped_branches terms.Star end ts is = thread_untyped.there end ts is
  untyped_branches terms.ReachError end ts is = error_fn_takes.there end ts is
  untyped_branches _ end ts is = filled (proto_untyped.there end ts)

  untyped_completes : Completes (spec.untyped n) (spec.untyped m) (abort_token ∷ open_token ∷ close_token ∷ semicolon ∷ []) any
  unfolding spec.untyped
  untyped_completes = looked untyped_branches terms.Abort is_abort.is proto_untyped.fill

  typed_body_completes : Completes (spec.typed_body n) (spec.typed_body m) (int_token ∷ name_token ∷ semicolon ∷ []) any
  unfolding spec.typed_body same_term
  typed_body_completes = bind itype_completes (leads_token is_name refl) (λ kind. bind typed_completes leads_any (λ t. pure_completes (bodies.Typed kind t)))

  void_body_takes : Takes terms.Void (spec.void_body n) (spec.void_body m) (abort_token ∷ open_token ∷ close_token ∷ semicolon ∷ []) any
  unfolding spec.void_body
  void_body_takes = taking refl (λ from. bind untyped_completes leads_any (λ u. pure_completes (bodies.Void from u)))

  locks_body : Completes (spec.body_by n terms.MutexType) (spec.body_by m terms.MutexType) (mutex_token ∷ name_token ∷ semicolon ∷ []) any
  locks_body = bind locks_completes leads_any (λ l. pure_completes (bodies.Locks l))

  handles_body : Completes (spec.body_by n terms.HandleType) (spec.body_by m terms.HandleType) (handle_token ∷ name_token ∷ semicolon ∷ []) any
  handles_body = bind (handles_completes handle_token is_handle) leads_any (λ h. pure_completes (bodies.Handles h))

  body_branches : Branches (spec.body_by n) (spec.body_by m) any
  body_branches terms.Int end ts is = filled (typed_body_completes.there end ts)
  body_branches terms.Long end ts is = filled (typed_body_completes.there end ts)
  body_branches terms.Void end ts is = void_body_takes.there end ts is
  body_branches terms.MutexType end ts is = filled (locks_body.there end ts)
  body_branches terms.HandleType end ts is = filled (handles_body.there end ts)
  body_branches _ end ts is = refuse_at end ts

  item_body_completes : Completes (spec.item_body n) (spec.item_body m) (int_token ∷ name_token ∷ semicolon ∷ []) any
  unfolding spec.item_body
  item_body_completes = looked body_branches terms.Int is_int.is typed_body_completes.fill

  item_completes : Completes (spec.item n) (spec.item m) (int_token ∷ name_token ∷ semicolon ∷ []) any
  unfolding spec.item
  item_completes = placed (λ from. bind quals_completes (leads_token is_int refl) (λ qs. bind item_body_completes leads_any (λ b. pure_completes {A = Item} (record { from = from; quals = qs; body = b }))))

  pub tree_completes : Completes (spec.tree n) (spec.tree m) [] (only terms.End)
  unfolding spec.tree
  tree_completes = many_completes terms.End (spec.item n) (spec.item m) (name_token ∷ semicolon ∷ []) any (item_shrinks n) (item_shrinks m) int_token item_completes (λ k so. refl)
