-- What the plain tree says of a value of the code's tree, by its outermost layer.
use Rattle.std.proofs.Common.{◌≡◌, ℕ, ℤ, refl, sym, ap, ◌∙◌, List, map, Option, Some, None, option_map}
use Rattle.c_tree.specs.declared.expr.Unary.{Unary, out-Unary, roll-Unary, roll-out-Unary, fold-roll-Unary}
use Rattle.c_tree.specs.declared.expr.Unary.TheOpen.{Unary-F}
use Rattle.c_tree.specs.declared.expr.Unary.TheVariants as unaries
use Rattle.c_tree.specs.declared.expr.UnaryKind.{UnaryKind}
use Rattle.c_tree.specs.declared.expr.Name.{Name}
use Rattle.c_tree.specs.declared.expr.Product.{Product, out-Product, fold_out-Product}
use Rattle.c_tree.specs.declared.expr.Sum.{Sum, out-Sum, fold_out-Sum}
use Rattle.c_tree.specs.declared.expr.Relation.{Relation, out-Relation, fold_out-Relation}
use Rattle.c_tree.specs.declared.expr.Equality.{Equality, out-Equality, fold_out-Equality}
use Rattle.c_tree.specs.declared.expr.Conjunction.{Conjunction, out-Conjunction, fold_out-Conjunction}
use Rattle.c_tree.specs.declared.expr.Expr.{Expr, out-Expr, fold_out-Expr}
use Rattle.c_tree.specs.declared.stmt.Stmt.{Stmt, out-Stmt, roll-Stmt, roll-out-Stmt, fold-roll-Stmt}
use Rattle.c_tree.specs.declared.stmt.Stmt.TheVariants as stmts
use Rattle.c_tree.specs.declared.stmt.Stmt.TheOpen.{Stmt-F}
use Rattle.c_tree.specs.declared.simple.Nil.{Nil}
use Rattle.c_tree.specs.declared.simple.Cond.{Cond}
use Rattle.c_tree.specs.declared.simple.Assign.{Assign}
use Rattle.c_tree.specs.declared.simple.Call.{Call}
use Rattle.c_tree.specs.declared.simple.Local.{Local}
use Rattle.c_tree.specs.declared.simple.Handles.{Handles}
use Rattle.c_tree.specs.declared.stmt.First.{First}
use Rattle.c_tree.specs.declared.stmt.Block.{Block, out-Block, fold_out-Block}
use Rattle.c_tree.specs.Plain as plain
use Rattle.c_tree.specs.Seen.{left_to_right, or_mark, and_mark, equality_mark, relation_mark, sum_mark, product_mark, plain_unary, plain_product, plain_sum, plain_relation, plain_equality, plain_conjunction, plain_expr, plain_cond, plain_assign, plain_call, plain_first, plain_locals, plain_names, plain_stmt, plain_stmts, plain_block, if_layer}

-- operands behind marks
abbrev pub behind : {M A : Type 0} → (A → plain.Expr) → List (M × A) → List (M × plain.Expr)
behind f more = map (λ m. (m.0, f m.1)) more

-- ---- expressions

abbrev pub unary_seen : Unary-F Unary Conjunction Equality Expr Product Relation Sum → plain.Expr
unary_seen (Unary-F.Operator from kind operand) = plain.Expr.Prefixed from kind (plain_unary operand)
unary_seen (Unary-F.Paren from inner) = plain.Expr.Parens from (plain_expr inner)
unary_seen (Unary-F.Number from value) = plain.Expr.Number from value
unary_seen (Unary-F.Name name) = plain.Expr.Named name

pub unary_made : (l : Unary-F Unary Conjunction Equality Expr Product Relation Sum) → plain_unary (roll-Unary l) ≡ unary_seen l
unfolding plain_unary plain_expr
unary_made (Unary-F.Operator from kind operand) = fold-roll-Unary _ _ _ _ _ _ _ _ _ _ _ _ _ _ (Unary-F.Operator from kind operand)
unary_made (Unary-F.Paren from inner) = fold-roll-Unary _ _ _ _ _ _ _ _ _ _ _ _ _ _ (Unary-F.Paren from inner)
unary_made (Unary-F.Number from value) = fold-roll-Unary _ _ _ _ _ _ _ _ _ _ _ _ _ _ (Unary-F.Number from value)
unary_made (Unary-F.Name name) = fold-roll-Unary _ _ _ _ _ _ _ _ _ _ _ _ _ _ (Unary-F.Name name)

pub unary_out : (u : Unary) → plain_unary u ≡ unary_seen (out-Unary u)
unary_out u = ap plain_unary (sym (roll-out-Unary u)) ∙ unary_made (out-Unary u)

pub operator_is : (from : ℕ) (kind : UnaryKind) (operand : Unary) → plain_unary (unaries.Operator from kind operand) ≡ plain.Expr.Prefixed from kind (plain_unary operand)
operator_is from kind operand = ap plain_unary (sym (unaries.rolls-Operator from kind operand)) ∙ unary_made (Unary-F.Operator from kind operand)

pub paren_is : (from : ℕ) (inner : Expr) → plain_unary (unaries.Paren from inner) ≡ plain.Expr.Parens from (plain_expr inner)
paren_is from inner = ap plain_unary (sym (unaries.rolls-Paren from inner)) ∙ unary_made (Unary-F.Paren from inner)

pub number_is : (from : ℕ) (value : ℤ) → plain_unary (unaries.Number from value) ≡ plain.Expr.Number from value
number_is from value = ap plain_unary (sym (unaries.rolls-Number from value)) ∙ unary_made (Unary-F.Number from value)

pub name_is : (name : Name) → plain_unary (unaries.Name name) ≡ plain.Expr.Named name
name_is name = ap plain_unary (sym (unaries.rolls-Name name)) ∙ unary_made (Unary-F.Name name)

pub product_out : (p : Product) → plain_product p ≡ left_to_right product_mark (plain_unary (out-Product p).first) (behind plain_unary (out-Product p).more)
unfolding plain_product plain_unary
product_out p = fold_out-Product _ _ _ _ _ _ _ _ _ _ _ _ _ _ p

pub sum_out : (s : Sum) → plain_sum s ≡ left_to_right sum_mark (plain_product (out-Sum s).first) (behind plain_product (out-Sum s).more)
unfolding plain_sum plain_product
sum_out s = fold_out-Sum _ _ _ _ _ _ _ _ _ _ _ _ _ _ s

pub relation_out : (r : Relation) → plain_relation r ≡ left_to_right relation_mark (plain_sum (out-Relation r).first) (behind plain_sum (out-Relation r).more)
unfolding plain_relation plain_sum
relation_out r = fold_out-Relation _ _ _ _ _ _ _ _ _ _ _ _ _ _ r

pub equality_out : (e : Equality) → plain_equality e ≡ left_to_right equality_mark (plain_relation (out-Equality e).first) (behind plain_relation (out-Equality e).more)
unfolding plain_equality plain_relation
equality_out e = fold_out-Equality _ _ _ _ _ _ _ _ _ _ _ _ _ _ e

pub conjunction_out : (c : Conjunction) → plain_conjunction c ≡ left_to_right and_mark (plain_equality (out-Conjunction c).first) (behind plain_equality (out-Conjunction c).more)
unfolding plain_conjunction plain_equality
conjunction_out c = fold_out-Conjunction _ _ _ _ _ _ _ _ _ _ _ _ _ _ c

pub expr_out : (e : Expr) → plain_expr e ≡ left_to_right or_mark (plain_conjunction (out-Expr e).first) (behind plain_conjunction (out-Expr e).more)
unfolding plain_expr plain_conjunction
expr_out e = fold_out-Expr _ _ _ _ _ _ _ _ _ _ _ _ _ _ e

-- ---- statements

abbrev pub stmt_seen : Stmt-F Stmt Block → plain.Stmt
stmt_seen (Stmt-F.Block b) = plain.Stmt.Block (out-Block b).from (plain_block b)
stmt_seen (Stmt-F.Empty from) = plain.Stmt.Empty from
stmt_seen (Stmt-F.Local l) = plain.Stmt.Locals l.from (plain_locals l)
stmt_seen (Stmt-F.Assign a) = plain.Stmt.Assigns (plain_assign a)
stmt_seen (Stmt-F.If from c s otherwise) = if_layer from (plain_cond c) (plain_stmt s) (option_map plain_stmt otherwise)
stmt_seen (Stmt-F.While from c s) = plain.Stmt.While from (plain_cond c) (plain_stmt s)
stmt_seen (Stmt-F.For from first c last s) = plain.Stmt.For from (plain_first first) (option_map plain_cond c) (option_map plain_assign last) (plain_stmt s)
stmt_seen (Stmt-F.Break from) = plain.Stmt.Break from
stmt_seen (Stmt-F.Return from value) = plain.Stmt.Return from
stmt_seen (Stmt-F.Call c) = plain.Stmt.Calls (plain_call c)
stmt_seen (Stmt-F.Atomic from ss) = plain.Stmt.Atomic from (plain_stmts ss)
stmt_seen (Stmt-F.Handles h) = plain.Stmt.Handles h.from (plain_names h)

pub stmt_made : (l : Stmt-F Stmt Block) → plain_stmt (roll-Stmt l) ≡ stmt_seen l
unfolding plain_stmt
stmt_made (Stmt-F.Block b) = fold-roll-Stmt _ _ _ _ (Stmt-F.Block b) ∙ fold_out-Block _ _ _ _ b
stmt_made (Stmt-F.Empty from) = fold-roll-Stmt _ _ _ _ (Stmt-F.Empty from)
stmt_made (Stmt-F.Local l) = fold-roll-Stmt _ _ _ _ (Stmt-F.Local l)
stmt_made (Stmt-F.Assign a) = fold-roll-Stmt _ _ _ _ (Stmt-F.Assign a)
stmt_made (Stmt-F.If from c s None) = fold-roll-Stmt _ _ _ _ (Stmt-F.If from c s None)
stmt_made (Stmt-F.If from c s (Some o)) = fold-roll-Stmt _ _ _ _ (Stmt-F.If from c s (Some o))
stmt_made (Stmt-F.While from c s) = fold-roll-Stmt _ _ _ _ (Stmt-F.While from c s)
stmt_made (Stmt-F.For from first c last s) = fold-roll-Stmt _ _ _ _ (Stmt-F.For from first c last s)
stmt_made (Stmt-F.Break from) = fold-roll-Stmt _ _ _ _ (Stmt-F.Break from)
stmt_made (Stmt-F.Return from value) = fold-roll-Stmt _ _ _ _ (Stmt-F.Return from value)
stmt_made (Stmt-F.Call c) = fold-roll-Stmt _ _ _ _ (Stmt-F.Call c)
stmt_made (Stmt-F.Atomic from ss) = fold-roll-Stmt _ _ _ _ (Stmt-F.Atomic from ss)
stmt_made (Stmt-F.Handles h) = fold-roll-Stmt _ _ _ _ (Stmt-F.Handles h)

pub stmt_out : (s : Stmt) → plain_stmt s ≡ stmt_seen (out-Stmt s)
stmt_out s = ap plain_stmt (sym (roll-out-Stmt s)) ∙ stmt_made (out-Stmt s)

pub block_is : (b : Block) → plain_stmt (stmts.Block b) ≡ plain.Stmt.Block (out-Block b).from (plain_block b)
block_is b = ap plain_stmt (sym (stmts.rolls-Block b)) ∙ stmt_made (Stmt-F.Block b)

pub empty_is : (from : ℕ) → plain_stmt (stmts.Empty from) ≡ plain.Stmt.Empty from
empty_is from = ap plain_stmt (sym (stmts.rolls-Empty from)) ∙ stmt_made (Stmt-F.Empty from)

pub local_is : (l : Local) → plain_stmt (stmts.Local l) ≡ plain.Stmt.Locals l.from (plain_locals l)
local_is l = ap plain_stmt (sym (stmts.rolls-Local l)) ∙ stmt_made (Stmt-F.Local l)

pub assign_is : (a : Assign) → plain_stmt (stmts.Assign a) ≡ plain.Stmt.Assigns (plain_assign a)
assign_is a = ap plain_stmt (sym (stmts.rolls-Assign a)) ∙ stmt_made (Stmt-F.Assign a)

pub if_is : (from : ℕ) (c : Cond) (s : Stmt) (otherwise : Option Stmt) → plain_stmt (stmts.If from c s otherwise) ≡ if_layer from (plain_cond c) (plain_stmt s) (option_map plain_stmt otherwise)
if_is from c s otherwise = ap plain_stmt (sym (stmts.rolls-If from c s otherwise)) ∙ stmt_made (Stmt-F.If from c s otherwise)

pub while_is : (from : ℕ) (c : Cond) (s : Stmt) → plain_stmt (stmts.While from c s) ≡ plain.Stmt.While from (plain_cond c) (plain_stmt s)
while_is from c s = ap plain_stmt (sym (stmts.rolls-While from c s)) ∙ stmt_made (Stmt-F.While from c s)

pub for_is : (from : ℕ) (first : First) (c : Option Cond) (last : Option Assign) (s : Stmt) → plain_stmt (stmts.For from first c last s) ≡ plain.Stmt.For from (plain_first first) (option_map plain_cond c) (option_map plain_assign last) (plain_stmt s)
for_is from first c last s = ap plain_stmt (sym (stmts.rolls-For from first c last s)) ∙ stmt_made (Stmt-F.For from first c last s)

pub break_is : (from : ℕ) → plain_stmt (stmts.Break from) ≡ plain.Stmt.Break from
break_is from = ap plain_stmt (sym (stmts.rolls-Break from)) ∙ stmt_made (Stmt-F.Break from)

pub return_is : (from : ℕ) (value : Option Nil) → plain_stmt (stmts.Return from value) ≡ plain.Stmt.Return from
return_is from value = ap plain_stmt (sym (stmts.rolls-Return from value)) ∙ stmt_made (Stmt-F.Return from value)

pub call_is : (c : Call) → plain_stmt (stmts.Call c) ≡ plain.Stmt.Calls (plain_call c)
call_is c = ap plain_stmt (sym (stmts.rolls-Call c)) ∙ stmt_made (Stmt-F.Call c)

pub atomic_is : (from : ℕ) (ss : List Stmt) → plain_stmt (stmts.Atomic from ss) ≡ plain.Stmt.Atomic from (plain_stmts ss)
atomic_is from ss = ap plain_stmt (sym (stmts.rolls-Atomic from ss)) ∙ stmt_made (Stmt-F.Atomic from ss)

pub handles_is : (h : Handles) → plain_stmt (stmts.Handles h) ≡ plain.Stmt.Handles h.from (plain_names h)
handles_is h = ap plain_stmt (sym (stmts.rolls-Handles h)) ∙ stmt_made (Stmt-F.Handles h)
