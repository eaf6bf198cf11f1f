-- Statements, items and whole texts say what their tokens say, in their order.
use Rattle.std.proofs.Common.{◌≡◌, ℕ, zero, suc, ℤ, Bool, true, false, List, [], ◌∷◌, ◌++◌, length, Option, Some, None, option_map, Ok, refl, sym, ap, subst, ◌∙◌, arith, append-nil}
use Rattle.std.proofs.Math.Logic.{inl, inr}
use Rattle.thr_base.specs.Number.{Fits}
use Rattle.c_lex.specs.Tokens.{Lexeme, lexed, StandIn}
use Rattle.c_lex.proofs.Places.{stand_from}
use Rattle.c_tree.specs.declared.term.Term.TheVariants as terms
use Rattle.c_tree.specs.declared.expr.Name.{Name}
use Rattle.c_tree.specs.declared.simple.Nil.{Nil}
use Rattle.c_tree.specs.declared.simple.Cond.{Cond}
use Rattle.c_tree.specs.declared.simple.Assign.{Assign}
use Rattle.c_tree.specs.declared.stmt.Around.{Around}
use Rattle.c_tree.specs.declared.stmt.Around.TheVariants as arounds
use Rattle.c_tree.specs.declared.stmt.Block.{Block, out-Block}
use Rattle.c_tree.specs.declared.stmt.First.TheVariants as firsts
use Rattle.c_tree.specs.declared.stmt.Stmt.{Stmt, out-Stmt}
use Rattle.c_tree.specs.declared.stmt.Stmt.TheOpen.{Stmt-F}
use Rattle.c_tree.specs.declared.item.Start.{Start}
use Rattle.c_tree.specs.declared.item.Gname.{Gname}
use Rattle.c_tree.specs.declared.item.Mname.{Mname}
use Rattle.c_tree.specs.declared.item.Proto.{Proto}
use Rattle.c_tree.specs.declared.item.Errfn.{Errfn}
use Rattle.c_tree.specs.declared.item.Mainfn.{Mainfn}
use Rattle.c_tree.specs.declared.item.Typed.TheVariants as typeds
use Rattle.c_tree.specs.declared.item.Untyped.TheVariants as untypeds
use Rattle.c_tree.specs.declared.item.Body.TheVariants as bodies
use Rattle.c_tree.specs.declared.item.Item.{Item}
use Rattle.c_tree.specs.inside.Input.{bytes_at}
use Rattle.c_tree.specs.inside.Expr.{number_value}
use Rattle.c_tree.specs.Seen.{plain_cond, plain_assign, plain_first, plain_stmt, plain_stmts, plain_block, start_value, plain_gname, plain_typed, thread_of, plain_untyped, plain_body, plain_items}
use Rattle.c_tree.specs.Grammar.{Stands}
use Rattle.c_tree.specs.Sequence.{Part, ◌then◌, Perhaps, AreAll}
use Rattle.c_tree.specs.GrammarSimple.{IsNil, IsCond, IsAssign}
use Rattle.c_tree.specs.GrammarStmt.{IsWordEnd, IsBreak, IsFirst, IsBlock, IsLayer, IsStmt}
use Rattle.c_tree.specs.GrammarItem.{IfAny, Nesting, IsNesting, IsSkipped, IsSign, IsStart, IsGname, IsStarted, IsMname, IsProto, IsErrfn, IsParameter, IsBody, IsMainfn, IsThreadBody, IsTyped, IsUntyped, IsItemBody, IsItem, IsTree}
use Rattle.c_tree.specs.Leaves.{Leaf, token, mark_leaf, name_leaf, AreLeaves, value_if_leaves, name_leaves, assign_if_leaves, first_leaves, stmt_leaves, stmts_leaves, start_leaves, global_leaves, item_leaves, items_leaves, PlacesRise, NumbersFit}
use Rattle.c_tree.proofs.View.{stmt_seen, stmt_out}
use Rattle.c_tree.proofs.Sitting.{Sits, leaves_in_all, sits_then, sits_after, sits_before, sits_same, sits_as, sits_token, sits_mark, sits_skip, sits_stands, sits_number, leaves_fit, leaves_rise}
use Rattle.c_tree.proofs.Numbers.{Fits-negated, IsMagnitude-number_value, number_fits}
use Rattle.c_tree.proofs.SittingParts.{AllSit, name_sits, empty_parens_sits, parens_sit, nil_sits, cond_sits, assign_sits, call_sits, local_sits, list_sits, quals_sit, itype_sits, handles_sit}

-- ---- statements

word_end_sits : (ts rest : List Lexeme) → IsWordEnd ts rest → Sits [] ts rest
word_end_sits ts rest is = sits_after (empty_parens_sits ts is.0 is.1) (sits_stands terms.Semicolon is.0 rest is.2)

nil_if_sits : (n : Option Nil) (ts rest : List Lexeme) → Perhaps IsNil n ts rest → Sits [] ts rest
nil_if_sits None ts rest is = sits_same is
nil_if_sits (Some n) ts rest is = nil_sits n ts rest is

break_sits : (around : Around) (from : ℕ) (ts rest : List Lexeme) → IsBreak around from ts rest → Sits (token from ∷ []) ts rest
break_sits arounds.Loop from ts rest is = sits_before (sits_token terms.Break from ts is.0 is.1) (sits_stands terms.Semicolon is.0 rest is.2)
break_sits arounds.Nothing from ts rest is = absurd is

module _ (levels : ℕ) where
  first_sits : AllSit (IsFirst levels) (λ f. first_leaves (plain_first f))
  first_sits (firsts.Local l) ts rest is = local_sits levels l ts rest is
  first_sits (firsts.Assign a) ts rest is = sits_before (assign_sits levels a ts is.0 is.1) (sits_stands terms.Semicolon is.0 rest is.2)
  first_sits (firsts.Empty from) ts rest is = sits_token terms.Semicolon from ts rest is

  cond_if_sits : (c : Option Cond) (ts rest : List Lexeme) → Perhaps (IsCond levels) c ts rest → Sits (value_if_leaves (option_map plain_cond c)) ts rest
  cond_if_sits None ts rest is = sits_same is
  cond_if_sits (Some c) ts rest is = cond_sits levels c ts rest is

  assign_if_sits : (a : Option Assign) (ts rest : List Lexeme) → Perhaps (IsAssign levels) a ts rest → Sits (assign_if_leaves (option_map plain_assign a)) ts rest
  assign_if_sits None ts rest is = sits_same is
  assign_if_sits (Some a) ts rest is = assign_sits levels a ts rest is

  module _ (Inner : Around → Stmt → Part) (inner : (around : Around) → AllSit (Inner around) (λ s. stmt_leaves (plain_stmt s))) where
    all_sit : (around : Around) (ss : List Stmt) (ts rest : List Lexeme) → AreAll (Inner around) ss ts rest → Sits (stmts_leaves (plain_stmts ss)) ts rest
    all_sit around [] ts rest is = sits_same is
    all_sit around (s ∷ ss) ts rest is = sits_then (inner around s ts is.0 is.1) (all_sit around ss is.0 rest is.2)

    block_sits : (around : Around) → AllSit (IsBlock levels Inner around) (λ b. token (out-Block b).from ∷ stmts_leaves (plain_block b))
    block_sits around b ts rest is = sits_then (sits_token terms.LeftBrace (out-Block b).from ts is.0 is.1) (sits_before (all_sit around (out-Block b).stmts is.0 is.2.0 is.2.1) (sits_stands terms.RightBrace is.2.0 rest is.2.2))

    layer_sits : (around : Around) (layer : Stmt-F Stmt Block) (ts rest : List Lexeme) → IsLayer levels Inner around layer ts rest → Sits (stmt_leaves (stmt_seen layer)) ts rest
    layer_sits around (Stmt-F.Block b) ts rest is = block_sits around b ts rest is
    layer_sits around (Stmt-F.Empty from) ts rest is = sits_token terms.Semicolon from ts rest is
    layer_sits around (Stmt-F.Local l) ts rest is = local_sits levels l ts rest is
    layer_sits around (Stmt-F.Assign a) ts rest is = sits_before (assign_sits levels a ts is.0 is.1) (sits_stands terms.Semicolon is.0 rest is.2)
    layer_sits around (Stmt-F.If from c s None) ts rest is =
        sits_then (sits_token terms.If from ts is.0 is.1) (sits_then (parens_sit _ _ (cond_sits levels c) is.0 is.2.0 is.2.1) (sits_before (inner around s is.2.0 is.2.2.0 is.2.2.1) (sits_same is.2.2.2.0)))
    layer_sits around (Stmt-F.If from c s (Some t)) ts rest is =
        sits_then (sits_token terms.If from ts is.0 is.1) (sits_then (sits_then (parens_sit _ _ (cond_sits levels c) is.0 is.2.0 is.2.1) (inner around s is.2.0 is.2.2.0 is.2.2.1))
        (sits_after (sits_stands terms.Else is.2.2.0 is.2.2.2.0 is.2.2.2.1) (inner around t is.2.2.2.0 rest is.2.2.2.2)))
    layer_sits around (Stmt-F.While from c s) ts rest is =
        sits_then (sits_token terms.While from ts is.0 is.1) (sits_then (parens_sit _ _ (cond_sits levels c) is.0 is.2.0 is.2.1) (inner arounds.Loop s is.2.0 rest is.2.2))
    layer_sits around (Stmt-F.For from first c last s) ts rest is =
        sits_then (sits_token terms.For from ts is.0 is.1)
        (sits_then (parens_sit (IsFirst levels first then Perhaps (IsCond levels) c then Stands terms.Semicolon then Perhaps (IsAssign levels) last) (first_leaves (plain_first first) ++ value_if_leaves (option_map plain_cond c) ++ assign_if_leaves (option_map plain_assign last))
        (λ ts rest is. sits_then (sits_then (first_sits first ts is.0 is.1) (cond_if_sits c is.0 is.2.0 is.2.1)) (sits_after (sits_stands terms.Semicolon is.2.0 is.2.2.0 is.2.2.1) (assign_if_sits last is.2.2.0 rest is.2.2.2))) is.0 is.2.0 is.2.1)
        (inner arounds.Loop s is.2.0 rest is.2.2))
    layer_sits around (Stmt-F.Break from) ts rest is = break_sits around from ts rest is
    layer_sits around (Stmt-F.Return from value) ts rest is = sits_before (sits_token terms.Return from ts is.0 is.1) (sits_after (nil_if_sits value is.0 is.2.0 is.2.1) (sits_stands terms.Semicolon is.2.0 rest is.2.2))
    layer_sits around (Stmt-F.Call c) ts rest is = sits_before (call_sits levels c ts is.0 is.1) (sits_stands terms.Semicolon is.0 rest is.2)
    layer_sits around (Stmt-F.Atomic from ss) ts rest is =
        sits_then (sits_token terms.AtomicBegin from ts is.0 is.1) (sits_after (word_end_sits is.0 is.2.0 is.2.1) (sits_before (all_sit around ss is.2.0 is.2.2.0 is.2.2.1)
        (sits_after (sits_stands terms.AtomicEnd is.2.2.0 is.2.2.2.0 is.2.2.2.1) (word_end_sits is.2.2.2.0 rest is.2.2.2.2))))
    layer_sits around (Stmt-F.Handles h) ts rest is = handles_sit h ts rest is

stmt_sits : (levels : ℕ) (around : Around) → AllSit (IsStmt levels around) (λ s. stmt_leaves (plain_stmt s))
unfolding IsStmt
stmt_sits zero around s ts rest is = absurd is
stmt_sits (suc levels) around s ts rest is = sits_as _ _ (ap stmt_leaves (stmt_out s)) (layer_sits levels (IsStmt levels) (stmt_sits levels) around (out-Stmt s) ts rest is)

-- ---- tokens of which the tree says nothing

nesting_sits : (n : Nesting) (ts rest : List Lexeme) → IsNesting n ts rest → Sits [] ts rest
nesting_sits Nesting.nothing ts rest is = sits_same is
nesting_sits (Nesting.token more) ts rest is = sits_after (sits_stands is.1.0 ts is.0 is.1.2) (nesting_sits more is.0 rest is.2)
nesting_sits (Nesting.parens inner more) ts rest is =
    sits_after (sits_stands terms.LeftParen ts is.0 is.1) (sits_after (nesting_sits inner is.0 is.2.0 is.2.1) (sits_after (sits_stands terms.RightParen is.2.0 is.2.2.0 is.2.2.1) (nesting_sits more is.2.2.0 rest is.2.2.2)))
nesting_sits (Nesting.braces inner more) ts rest is =
    sits_after (sits_stands terms.LeftBrace ts is.0 is.1) (sits_after (nesting_sits inner is.0 is.2.0 is.2.1) (sits_after (sits_stands terms.RightBrace is.2.0 is.2.2.0 is.2.2.1) (nesting_sits more is.2.2.0 rest is.2.2.2)))

skipped_sits : (ts rest : List Lexeme) → IsSkipped ts rest → Sits [] ts rest
skipped_sits ts rest is = nesting_sits is.0 ts rest is.1

if_any_sits : (P : Part) → ((ts rest : List Lexeme) → P ts rest → Sits [] ts rest) → (ts rest : List Lexeme) → IfAny P ts rest → Sits [] ts rest
if_any_sits P sits ts rest (inl none) = sits_same none
if_any_sits P sits ts rest (inr is) = sits ts rest is

pointer_sits : (ts rest : List Lexeme) → (Stands terms.Star then IfAny (Stands terms.Name)) ts rest → Sits [] ts rest
pointer_sits ts rest is = sits_after (sits_stands terms.Star ts is.0 is.1) (if_any_sits (Stands terms.Name) (sits_stands terms.Name) is.0 rest is.2)

void_sits : (ts rest : List Lexeme) → (Stands terms.Void then IfAny (Stands terms.Star then IfAny (Stands terms.Name))) ts rest → Sits [] ts rest
void_sits ts rest is = sits_after (sits_stands terms.Void ts is.0 is.1) (if_any_sits (Stands terms.Star then IfAny (Stands terms.Name)) pointer_sits is.0 rest is.2)

parameter_sits : (ts rest : List Lexeme) → IsParameter ts rest → Sits [] ts rest
parameter_sits = parens_sit _ _ (if_any_sits (Stands terms.Void then IfAny (Stands terms.Star then IfAny (Stands terms.Name))) void_sits)

-- ---- variables and locks

sign_sits : (b : Bool) (ts rest : List Lexeme) → IsSign b ts rest → Sits [] ts rest
sign_sits true ts rest is = sits_stands terms.Minus ts rest is
sign_sits false ts rest is = sits_same is

start_fits : (from : ℕ) (b : Bool) (value : ℤ) (text : List ℕ) → number_value text ≡ Some value → Fits (start_value (record { from = from; is_negative = b; value = value }))
start_fits from true value text e = Fits-negated value (IsMagnitude-number_value text value e)
start_fits from false value text e = number_fits text value e

start_sits : AllSit IsStart (λ s. Leaf.Number (start_value s) ∷ [])
start_sits s ts rest is = sits_after (sign_sits s.is_negative ts is.1.0 is.1.1) (sits_number (start_value s) (start_fits s.from s.is_negative s.value (bytes_at is.1.0) is.1.2.1) (sits_stands terms.Number is.1.0 rest is.1.2.0))

start_if_sits : (s : Option Start) (ts rest : List Lexeme) → Perhaps (λ s. Stands terms.Assign then IsStart s) s ts rest → Sits (start_leaves (option_map start_value s)) ts rest
start_if_sits None ts rest is = sits_same is
start_if_sits (Some s) ts rest is = sits_after (sits_stands terms.Assign ts is.0 is.1) (start_sits s is.0 rest is.2)

gname_sits : AllSit IsGname (λ (g : Gname). name_leaf g.name ∷ start_leaves (option_map start_value g.start))
gname_sits g ts rest is = sits_then (name_sits g.name ts is.0 is.1) (start_if_sits g.start is.0 rest is.2)

started_sits : (b : Bool) (ts rest : List Lexeme) → IsStarted b ts rest → Sits [] ts rest
started_sits true ts rest is = sits_after (sits_stands terms.Assign ts is.0 is.1) (sits_stands terms.MutexStart is.0 rest is.2)
started_sits false ts rest is = sits_same is

mname_sits : AllSit IsMname (λ (m : Mname). name_leaf m.name ∷ [])
mname_sits m ts rest is = sits_before (name_sits m.name ts is.0 is.1) (started_sits m.is_started is.0 rest is.2)

-- ---- items

proto_sits : AllSit IsProto (λ (p : Proto). token p.from ∷ [])
proto_sits p ts rest is = sits_before (sits_token is.1.0 p.from ts is.0 is.1.2) (sits_after (parens_sit _ _ skipped_sits is.0 is.2.0 is.2.1) (sits_stands terms.Semicolon is.2.0 rest is.2.2))

errfn_sits : AllSit IsErrfn (λ (e : Errfn). token e.from ∷ [])
errfn_sits e ts rest is =
    sits_before (sits_token terms.ReachError e.from ts is.0 is.1) (sits_after (parens_sit _ _ skipped_sits is.0 is.2.0 is.2.1) (sits_after (sits_stands terms.LeftBrace is.2.0 is.2.2.0 is.2.2.1)
    (sits_after (skipped_sits is.2.2.0 is.2.2.2.0 is.2.2.2.1) (sits_stands terms.RightBrace is.2.2.2.0 rest is.2.2.2.2))))

module _ (levels : ℕ) where
  -- the statements of a body, whose brace is not in the plain tree
  body_sits : AllSit (IsBody levels) (λ b. stmts_leaves (plain_block b))
  body_sits b ts rest is = sits_after (sits_skip terms.LeftBrace (out-Block b).from ts is.0 is.1) (sits_before (all_sit levels (IsStmt levels) (stmt_sits levels) arounds.Nothing (out-Block b).stmts is.0 is.2.0 is.2.1) (sits_stands terms.RightBrace is.2.0 rest is.2.2))

  main_sits : AllSit (IsMainfn levels) (λ (m : Mainfn). mark_leaf terms.Main m.from ∷ stmts_leaves (plain_block m.body))
  main_sits m ts rest is = sits_then (sits_mark terms.Main terms.Main m.from ts is.0 refl is.1) (sits_after (parens_sit _ _ (if_any_sits _ (sits_stands terms.Void)) is.0 is.2.0 is.2.1) (body_sits m.body is.2.0 rest is.2.2))

  thread_sits : (name : Name) (b : Option Block) (ts mid rest : List Lexeme) → Sits (name_leaf name ∷ []) ts mid → IsThreadBody levels b mid rest → Sits (item_leaves (thread_of name b)) ts rest
  thread_sits name None ts mid rest named is = sits_before named (sits_stands terms.Semicolon mid rest is)
  thread_sits name (Some b) ts mid rest named is = sits_then named (body_sits b mid rest is)

  typed_sits : AllSit (IsTyped levels) (λ t. item_leaves (plain_typed t))
  typed_sits (typeds.Globals g) ts rest is = list_sits IsGname plain_gname (λ (g : Gname). name_leaf g.name ∷ start_leaves (option_map start_value g.start)) global_leaves refl (λ x bs. refl) gname_sits g.first g.more ts rest is
  typed_sits (typeds.Main m) ts rest is = main_sits m ts rest is
  typed_sits (typeds.Proto p) ts rest is = proto_sits p ts rest is

  untyped_sits : AllSit (IsUntyped levels) (λ u. item_leaves (plain_untyped u))
  untyped_sits (untypeds.Thread t) ts rest is =
      thread_sits t.name t.body ts is.2.2.0 rest (sits_after (sits_stands terms.Star ts is.0 is.1) (sits_before (name_sits t.name is.0 is.2.0 is.2.1) (parameter_sits is.2.0 is.2.2.0 is.2.2.1))) is.2.2.2
  untyped_sits (untypeds.Proto p) ts rest is = proto_sits p ts rest is
  untyped_sits (untypeds.Errfn e) ts rest is = errfn_sits e ts rest is

  item_body_sits : AllSit (IsItemBody levels) (λ b. item_leaves (plain_body b))
  item_body_sits (bodies.Typed kind t) ts rest is = sits_after (itype_sits kind ts is.0 is.1) (typed_sits t is.0 rest is.2)
  item_body_sits (bodies.Void from u) ts rest is = sits_after (sits_skip terms.Void from ts is.0 is.1) (untyped_sits u is.0 rest is.2)
  item_body_sits (bodies.Locks l) ts rest is = sits_after (sits_skip terms.MutexType l.from ts is.0 is.1) (list_sits IsMname (λ (m : Mname). m.name) (λ (m : Mname). name_leaf m.name ∷ []) name_leaves refl (λ x bs. refl) mname_sits l.first l.more is.0 rest is.2)
  item_body_sits (bodies.Handles h) ts rest is = handles_sit h ts rest is

  item_sits : AllSit (IsItem levels) (λ (i : Item). item_leaves (plain_body i.body))
  item_sits i ts rest is = sits_after (quals_sit i.quals ts is.1.0 is.1.1) (item_body_sits i.body is.1.0 rest is.1.2)

  items_sit : (is : List Item) (ts rest : List Lexeme) → AreAll (IsItem levels) is ts rest → Sits (items_leaves (plain_items is)) ts rest
  items_sit [] ts rest are = sits_same are
  items_sit (i ∷ is) ts rest are = sits_then (item_sits i ts are.0 are.1) (items_sit is are.0 rest are.2)

-- ---- texts

pub tree_fits : (items : List Item) (tokens : List Lexeme) → IsTree items tokens → NumbersFit (items_leaves (plain_items items))
tree_fits items tokens is = (let sits = items_sit _ items tokens [] is in leaves_fit (items_leaves (plain_items items)) sits.front sits.are)

pub tree_rises : (text : List ℕ) (tokens : List Lexeme) (items : List Item) → lexed text ≡ Ok tokens → IsTree items tokens → PlacesRise 0 (length text) (items_leaves (plain_items items))
tree_rises text tokens items lexes is =
    let sits = items_sit _ items tokens [] is in
    let stand : StandIn text 0 tokens = stand_from (length text) 0 true text text tokens refl (omega arith) lexes in
    leaves_rise text (items_leaves (plain_items items)) sits.front 0 0 (omega arith) sits.are (subst (StandIn text 0) (sits.splits ∙ append-nil sits.front) stand)

-- what a tree says of the tokens of its text
pub tree_leaves_are : (tokens : List Lexeme) (items : List Item) → IsTree items tokens → AreLeaves (items_leaves (plain_items items)) tokens
tree_leaves_are tokens items is = leaves_in_all (items_sit _ items tokens [] is)
