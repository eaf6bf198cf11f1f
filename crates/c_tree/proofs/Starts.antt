-- Parts begin at the places that the plain tree has.
use Rattle.std.proofs.Common.{◌≡◌, ℕ, zero, suc, List, [], ◌∷◌, refl, sym, ap, subst, ◌∙◌}
use Rattle.c_lex.specs.Tokens.{Lexeme}
use Rattle.c_tree.specs.declared.term.Term.{Term}
use Rattle.c_tree.specs.declared.expr.Unary.{Unary, out-Unary}
use Rattle.c_tree.specs.declared.expr.Unary.TheOpen.{Unary-F}
use Rattle.c_tree.specs.declared.expr.Product.{Product, out-Product}
use Rattle.c_tree.specs.declared.expr.Sum.{Sum, out-Sum}
use Rattle.c_tree.specs.declared.expr.Relation.{Relation, out-Relation}
use Rattle.c_tree.specs.declared.expr.Equality.{Equality, out-Equality}
use Rattle.c_tree.specs.declared.expr.Conjunction.{Conjunction, out-Conjunction}
use Rattle.c_tree.specs.declared.expr.Expr.{Expr, out-Expr}
use Rattle.c_tree.specs.declared.simple.Assign.{Assign}
use Rattle.c_tree.specs.declared.simple.Assign.TheVariants as assigns
use Rattle.c_tree.specs.declared.simple.Call.{Call}
use Rattle.c_tree.specs.declared.simple.Call.TheVariants as calls
use Rattle.c_tree.specs.declared.stmt.Around.{Around}
use Rattle.c_tree.specs.declared.stmt.Around.TheVariants as arounds
use Rattle.c_tree.specs.declared.stmt.Block.{Block}
use Rattle.c_tree.specs.declared.stmt.Stmt.{Stmt, out-Stmt}
use Rattle.c_tree.specs.declared.stmt.Stmt.TheOpen.{Stmt-F}
use Rattle.std.proofs.Common.{Some, None}
use Rattle.c_tree.specs.Plain as plain
use Rattle.c_tree.specs.Plain.{expr_place, assign_place, call_place, stmt_place}
use Rattle.c_tree.specs.Seen.{left_to_right, or_mark, and_mark, equality_mark, relation_mark, sum_mark, product_mark, plain_unary, plain_product, plain_sum, plain_relation, plain_equality, plain_conjunction, plain_expr, plain_assign, plain_call, plain_stmt}
use Rattle.c_tree.specs.Grammar.{Is, StartsAt, IsLayer, IsUnary, IsProduct, IsSum, IsRelation, IsEquality, IsConjunction, IsExprOver, IsExpr}
use Rattle.c_tree.specs.Sequence.{Part}
use Rattle.c_tree.specs.GrammarSimple.{IsAssign, IsCall}
use Rattle.c_tree.specs.GrammarStmt as statements
use Rattle.c_tree.specs.GrammarStmt.{IsBreak, IsStmt}
use Rattle.c_tree.proofs.View.{behind, unary_seen, unary_out, product_out, sum_out, relation_out, equality_out, conjunction_out, expr_out, stmt_seen, stmt_out}

starts : (k : Term) (from : ℕ) (ts rest : List Lexeme) → Is k from ts rest → StartsAt from ts
starts k from [] rest is = absurd is
starts k from (t ∷ ts) rest is = is.1

starts_at : (from other : ℕ) (ts : List Lexeme) → other ≡ from → StartsAt from ts → StartsAt other ts
starts_at from other ts same is = subst (λ (p : ℕ). StartsAt p ts) (sym same) is

-- marks do not change where an expression begins
joined_place : {M : Type 0} (mark : M → plain.Expr → plain.Expr → plain.Expr) → ((m : M) (l r : plain.Expr) → expr_place (mark m l r) ≡ expr_place l) → (left : plain.Expr) (more : List (M × plain.Expr)) → expr_place (left_to_right mark left more) ≡ expr_place left
joined_place mark keeps left [] = refl
joined_place mark keeps left (m ∷ more) = joined_place mark keeps (mark m.0 left m.1) more ∙ keeps m.0 left m.1

-- ---- expressions

pub product_place : (p : Product) → expr_place (plain_product p) ≡ expr_place (plain_unary (out-Product p).first)
product_place p = ap expr_place (product_out p) ∙ joined_place product_mark (λ m l r. refl) _ (behind plain_unary (out-Product p).more)

pub sum_place : (s : Sum) → expr_place (plain_sum s) ≡ expr_place (plain_product (out-Sum s).first)
sum_place s = ap expr_place (sum_out s) ∙ joined_place sum_mark (λ m l r. refl) _ (behind plain_product (out-Sum s).more)

pub relation_place : (r : Relation) → expr_place (plain_relation r) ≡ expr_place (plain_sum (out-Relation r).first)
relation_place r = ap expr_place (relation_out r) ∙ joined_place relation_mark (λ m l r. refl) _ (behind plain_sum (out-Relation r).more)

pub equality_place : (e : Equality) → expr_place (plain_equality e) ≡ expr_place (plain_relation (out-Equality e).first)
equality_place e = ap expr_place (equality_out e) ∙ joined_place equality_mark (λ m l r. refl) _ (behind plain_relation (out-Equality e).more)

pub conjunction_place : (c : Conjunction) → expr_place (plain_conjunction c) ≡ expr_place (plain_equality (out-Conjunction c).first)
conjunction_place c = ap expr_place (conjunction_out c) ∙ joined_place and_mark (λ m l r. refl) _ (behind plain_equality (out-Conjunction c).more)

pub expr_place_is : (e : Expr) → expr_place (plain_expr e) ≡ expr_place (plain_conjunction (out-Expr e).first)
expr_place_is e = ap expr_place (expr_out e) ∙ joined_place or_mark (λ m l r. refl) _ (behind plain_conjunction (out-Expr e).more)

layer_starts : (Inner : Unary → Part) (layer : Unary-F Unary Conjunction Equality Expr Product Relation Sum) (ts rest : List Lexeme) → IsLayer Inner layer ts rest → StartsAt (expr_place (unary_seen layer)) ts
layer_starts Inner (Unary-F.Operator from kind operand) ts rest is = starts _ from ts is.0 is.1
layer_starts Inner (Unary-F.Paren from inner) ts rest is = starts _ from ts is.0 is.2
layer_starts Inner (Unary-F.Number from value) ts rest is = starts _ from ts rest is.0
layer_starts Inner (Unary-F.Name name) ts rest is = starts _ name.from ts rest is.0

unary_starts : (levels : ℕ) (u : Unary) (ts rest : List Lexeme) → IsUnary levels u ts rest → StartsAt (expr_place (plain_unary u)) ts
unary_starts zero u ts rest is = starts_at _ _ ts (ap expr_place (unary_out u)) (layer_starts _ (out-Unary u) ts rest is)
unary_starts (suc levels) u ts rest is = starts_at _ _ ts (ap expr_place (unary_out u)) (layer_starts _ (out-Unary u) ts rest is)

pub expr_starts : (levels : ℕ) (e : Expr) (ts rest : List Lexeme) → IsExpr levels e ts rest → StartsAt (expr_place (plain_expr e)) ts
expr_starts levels e ts rest is =
    let c = is.2 in
    let q = c.2 in
    let r = q.2 in
    let s = r.2 in
    let p = s.2 in
    starts_at _ _ ts (expr_place_is e ∙ conjunction_place _ ∙ equality_place _ ∙ relation_place _ ∙ sum_place _ ∙ product_place _) (unary_starts levels _ ts p.1 p.2)

-- ---- statements

pub assign_starts : (levels : ℕ) (a : Assign) (ts rest : List Lexeme) → IsAssign levels a ts rest → StartsAt (assign_place (plain_assign a)) ts
assign_starts levels (assigns.Set x e) ts rest is = starts _ _ ts _ is.1.0
assign_starts levels (assigns.Add x e) ts rest is = starts _ _ ts _ is.1.0
assign_starts levels (assigns.Subtract x e) ts rest is = starts _ _ ts _ is.1.0
assign_starts levels (assigns.Increment x) ts rest is = starts _ _ ts _ is.1.0
assign_starts levels (assigns.Decrement x) ts rest is = starts _ _ ts _ is.1.0
assign_starts levels (assigns.IncrementFirst from x) ts rest is = starts _ _ ts _ is.1
assign_starts levels (assigns.DecrementFirst from x) ts rest is = starts _ _ ts _ is.1

pub call_starts : (levels : ℕ) (c : Call) (ts rest : List Lexeme) → IsCall levels c ts rest → StartsAt (call_place (plain_call c)) ts
call_starts levels (calls.Assert from e) ts rest is = starts _ _ ts _ is.1
call_starts levels (calls.Assume from e) ts rest is = starts _ _ ts _ is.1
call_starts levels (calls.ReachError from) ts rest is = starts _ _ ts _ is.1
call_starts levels (calls.Abort from) ts rest is = starts _ _ ts _ is.1
call_starts levels (calls.Exit from n) ts rest is = starts _ _ ts _ is.1
call_starts levels (calls.Lock from m) ts rest is = starts _ _ ts _ is.1
call_starts levels (calls.Unlock from m) ts rest is = starts _ _ ts _ is.1
call_starts levels (calls.Destroy from m) ts rest is = starts _ _ ts _ is.1
call_starts levels (calls.Init from m n) ts rest is = starts _ _ ts _ is.1
call_starts levels (calls.Create from t a f x) ts rest is = starts _ _ ts _ is.1
call_starts levels (calls.Join from t n) ts rest is = starts _ _ ts _ is.1

break_starts : (around : Around) (from : ℕ) (ts rest : List Lexeme) → IsBreak around from ts rest → StartsAt from ts
break_starts arounds.Loop from ts rest is = starts _ _ ts _ is.1
break_starts arounds.Nothing from ts rest is = absurd is

stmt_layer_starts : (levels : ℕ) (Inner : Around → Stmt → Part) (around : Around) (layer : Stmt-F Stmt Block) (ts rest : List Lexeme) → statements.IsLayer levels Inner around layer ts rest → StartsAt (stmt_place (stmt_seen layer)) ts
stmt_layer_starts levels Inner around (Stmt-F.Block b) ts rest is = starts _ _ ts _ is.1
stmt_layer_starts levels Inner around (Stmt-F.Empty from) ts rest is = starts _ _ ts _ is
stmt_layer_starts levels Inner around (Stmt-F.Local l) ts rest is = is.0
stmt_layer_starts levels Inner around (Stmt-F.Assign a) ts rest is = assign_starts levels a ts is.0 is.1
stmt_layer_starts levels Inner around (Stmt-F.If from c s None) ts rest is = starts _ _ ts _ is.1
stmt_layer_starts levels Inner around (Stmt-F.If from c s (Some t)) ts rest is = starts _ _ ts _ is.1
stmt_layer_starts levels Inner around (Stmt-F.While from c s) ts rest is = starts _ _ ts _ is.1
stmt_layer_starts levels Inner around (Stmt-F.For from first c last s) ts rest is = starts _ _ ts _ is.1
stmt_layer_starts levels Inner around (Stmt-F.Break from) ts rest is = break_starts around from ts rest is
stmt_layer_starts levels Inner around (Stmt-F.Return from value) ts rest is = starts _ _ ts _ is.1
stmt_layer_starts levels Inner around (Stmt-F.Call c) ts rest is = call_starts levels c ts is.0 is.1
stmt_layer_starts levels Inner around (Stmt-F.Atomic from ss) ts rest is = starts _ _ ts _ is.1
stmt_layer_starts levels Inner around (Stmt-F.Handles h) ts rest is = starts _ _ ts _ is.1

pub stmt_starts : (levels : ℕ) (around : Around) (s : Stmt) (ts rest : List Lexeme) → IsStmt levels around s ts rest → StartsAt (stmt_place (plain_stmt s)) ts
unfolding IsStmt
stmt_starts zero around s ts rest is = absurd is
stmt_starts (suc levels) around s ts rest is = starts_at _ _ ts (ap stmt_place (stmt_out s)) (stmt_layer_starts levels (IsStmt levels) around (out-Stmt s) ts rest is)
