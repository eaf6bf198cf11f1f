-- The plain tree that the code's tree holds.
use Rattle.std.specs.Prelude.{ℕ, ℤ, Bool, true, false, neg_ℤ, List, [], ◌∷◌, ◌++◌, map, Option, Some, None, option_map}
use Rattle.c_tree.specs.declared.expr.Name.{Name}
use Rattle.c_tree.specs.declared.expr.Expr.{Expr, fold-Expr}
use Rattle.c_tree.specs.declared.expr.Conjunction.{Conjunction, fold-Conjunction}
use Rattle.c_tree.specs.declared.expr.Equality.{Equality, fold-Equality}
use Rattle.c_tree.specs.declared.expr.Relation.{Relation, fold-Relation}
use Rattle.c_tree.specs.declared.expr.Sum.{Sum, fold-Sum}
use Rattle.c_tree.specs.declared.expr.Product.{Product, fold-Product}
use Rattle.c_tree.specs.declared.expr.Unary.{Unary, fold-Unary}
use Rattle.c_tree.specs.declared.expr.Unary.TheOpen.{Unary-F, Conjunction-F, Equality-F, Expr-F, Product-F, Relation-F, Sum-F}
use Rattle.c_tree.specs.declared.expr.EqualityMark.{EqualityMark}
use Rattle.c_tree.specs.declared.expr.EqualityKind.{EqualityKind}
use Rattle.c_tree.specs.declared.expr.EqualityKind.TheVariants as equalities
use Rattle.c_tree.specs.declared.expr.RelationMark.{RelationMark}
use Rattle.c_tree.specs.declared.expr.RelationKind.{RelationKind}
use Rattle.c_tree.specs.declared.expr.RelationKind.TheVariants as relations
use Rattle.c_tree.specs.declared.expr.SumMark.{SumMark}
use Rattle.c_tree.specs.declared.expr.SumKind.{SumKind}
use Rattle.c_tree.specs.declared.expr.SumKind.TheVariants as sums
use Rattle.c_tree.specs.declared.simple.Right.{Right}
use Rattle.c_tree.specs.declared.simple.Right.TheVariants as rights
use Rattle.c_tree.specs.declared.simple.Cond.{Cond}
use Rattle.c_tree.specs.declared.simple.Cond.TheVariants as conds
use Rattle.c_tree.specs.declared.simple.Assign.{Assign}
use Rattle.c_tree.specs.declared.simple.Assign.TheVariants as assigns
use Rattle.c_tree.specs.declared.simple.Call.{Call}
use Rattle.c_tree.specs.declared.simple.Call.TheVariants as calls
use Rattle.c_tree.specs.declared.simple.Lname.{Lname}
use Rattle.c_tree.specs.declared.simple.Local.{Local}
use Rattle.c_tree.specs.declared.simple.Handles.{Handles}
use Rattle.c_tree.specs.declared.stmt.First.{First}
use Rattle.c_tree.specs.declared.stmt.First.TheVariants as firsts
use Rattle.c_tree.specs.declared.stmt.Stmt.{Stmt, fold-Stmt}
use Rattle.c_tree.specs.declared.stmt.Stmt.TheOpen.{Stmt-F, Block-F}
use Rattle.c_tree.specs.declared.stmt.Block.{Block, out-Block}
use Rattle.c_tree.specs.declared.item.Start.{Start}
use Rattle.c_tree.specs.declared.item.Gname.{Gname}
use Rattle.c_tree.specs.declared.item.Globals.{Globals}
use Rattle.c_tree.specs.declared.item.Mname.{Mname}
use Rattle.c_tree.specs.declared.item.Locks.{Locks}
use Rattle.c_tree.specs.declared.item.Proto.{Proto}
use Rattle.c_tree.specs.declared.item.Mainfn.{Mainfn}
use Rattle.c_tree.specs.declared.item.Threadfn.{Threadfn}
use Rattle.c_tree.specs.declared.item.Typed.{Typed}
use Rattle.c_tree.specs.declared.item.Typed.TheVariants as typeds
use Rattle.c_tree.specs.declared.item.Untyped.{Untyped}
use Rattle.c_tree.specs.declared.item.Untyped.TheVariants as untypeds
use Rattle.c_tree.specs.declared.item.Body.{Body}
use Rattle.c_tree.specs.declared.item.Body.TheVariants as bodies
use Rattle.c_tree.specs.declared.item.Item.{Item}
use Rattle.c_tree.specs.declared.item.Tree.{Tree}
use Rattle.c_tree.specs.Plain as plain

-- ---- expressions

-- an operand, and those behind marks; each mark takes all that stands in front of it on its left
abbrev pub left_to_right : {M : Type 0} → (M → plain.Expr → plain.Expr → plain.Expr) → plain.Expr → List (M × plain.Expr) → plain.Expr
left_to_right mark left [] = left
left_to_right mark left (m ∷ more) = left_to_right mark (mark m.0 left m.1) more

abbrev pub equality_operator : EqualityKind → plain.Operator
equality_operator equalities.Equal = plain.Operator.Equal
equality_operator equalities.Unequal = plain.Operator.Unequal

abbrev pub relation_operator : RelationKind → plain.Operator
relation_operator relations.Less = plain.Operator.Less
relation_operator relations.AtMost = plain.Operator.AtMost
relation_operator relations.Greater = plain.Operator.Greater
relation_operator relations.AtLeast = plain.Operator.AtLeast

abbrev pub sum_operator : SumKind → plain.Operator
sum_operator sums.Plus = plain.Operator.Plus
sum_operator sums.Minus = plain.Operator.Minus

abbrev pub or_mark : ℕ → plain.Expr → plain.Expr → plain.Expr
or_mark from = plain.Expr.Binary plain.Operator.Or from

abbrev pub and_mark : ℕ → plain.Expr → plain.Expr → plain.Expr
and_mark from = plain.Expr.Binary plain.Operator.And from

abbrev pub equality_mark : EqualityMark → plain.Expr → plain.Expr → plain.Expr
equality_mark m = plain.Expr.Binary (equality_operator m.kind) m.from

abbrev pub relation_mark : RelationMark → plain.Expr → plain.Expr → plain.Expr
relation_mark m = plain.Expr.Binary (relation_operator m.kind) m.from

abbrev pub sum_mark : SumMark → plain.Expr → plain.Expr → plain.Expr
sum_mark m = plain.Expr.Binary (sum_operator m.kind) m.from

abbrev pub product_mark : ℕ → plain.Expr → plain.Expr → plain.Expr
product_mark from = plain.Expr.Binary plain.Operator.Times from

-- One layer of each, with the plain expressions of what it holds.
abbrev Layer : (Type 0 → Type 0 → Type 0 → Type 0 → Type 0 → Type 0 → Type 0 → Type 0) → Type 0
Layer F = F plain.Expr plain.Expr plain.Expr plain.Expr plain.Expr plain.Expr plain.Expr

abbrev pub unary_layer : Layer Unary-F → plain.Expr
unary_layer (Unary-F.Operator from kind operand) = plain.Expr.Prefixed from kind operand
unary_layer (Unary-F.Paren from inner) = plain.Expr.Parens from inner
unary_layer (Unary-F.Number from value) = plain.Expr.Number from value
unary_layer (Unary-F.Name name) = plain.Expr.Named name

abbrev pub product_layer : Layer Product-F → plain.Expr
product_layer p = left_to_right product_mark p.first p.more

abbrev pub sum_layer : Layer Sum-F → plain.Expr
sum_layer s = left_to_right sum_mark s.first s.more

abbrev pub relation_layer : Layer Relation-F → plain.Expr
relation_layer r = left_to_right relation_mark r.first r.more

abbrev pub equality_layer : Layer Equality-F → plain.Expr
equality_layer e = left_to_right equality_mark e.first e.more

abbrev pub conjunction_layer : Layer Conjunction-F → plain.Expr
conjunction_layer c = left_to_right and_mark c.first c.more

abbrev pub expr_layer : Layer Expr-F → plain.Expr
expr_layer e = left_to_right or_mark e.first e.more

unfoldable pub plain_unary : Unary → plain.Expr
plain_unary = fold-Unary _ _ _ _ _ _ _ unary_layer conjunction_layer equality_layer expr_layer product_layer relation_layer sum_layer

unfoldable pub plain_product : Product → plain.Expr
plain_product = fold-Product _ _ _ _ _ _ _ unary_layer conjunction_layer equality_layer expr_layer product_layer relation_layer sum_layer

unfoldable pub plain_sum : Sum → plain.Expr
plain_sum = fold-Sum _ _ _ _ _ _ _ unary_layer conjunction_layer equality_layer expr_layer product_layer relation_layer sum_layer

unfoldable pub plain_relation : Relation → plain.Expr
plain_relation = fold-Relation _ _ _ _ _ _ _ unary_layer conjunction_layer equality_layer expr_layer product_layer relation_layer sum_layer

unfoldable pub plain_equality : Equality → plain.Expr
plain_equality = fold-Equality _ _ _ _ _ _ _ unary_layer conjunction_layer equality_layer expr_layer product_layer relation_layer sum_layer

unfoldable pub plain_conjunction : Conjunction → plain.Expr
plain_conjunction = fold-Conjunction _ _ _ _ _ _ _ unary_layer conjunction_layer equality_layer expr_layer product_layer relation_layer sum_layer

unfoldable pub plain_expr : Expr → plain.Expr
plain_expr = fold-Expr _ _ _ _ _ _ _ unary_layer conjunction_layer equality_layer expr_layer product_layer relation_layer sum_layer

-- ---- parts of statements

abbrev pub plain_right : Right → plain.Value
plain_right (rights.Nondet n) = plain.Value.Input n.from
plain_right (rights.Expr e) = plain.Value.Computed (plain_expr e)

abbrev pub plain_cond : Cond → plain.Value
plain_cond (conds.Nondet n) = plain.Value.Input n.from
plain_cond (conds.Expr e) = plain.Value.Computed (plain_expr e)

abbrev pub plain_assign : Assign → plain.Assign
plain_assign (assigns.Set x e) = plain.Assign.Set x (plain_right e)
plain_assign (assigns.Add x e) = plain.Assign.Add x (plain_expr e)
plain_assign (assigns.Subtract x e) = plain.Assign.Subtract x (plain_expr e)
plain_assign (assigns.Increment x) = plain.Assign.Increment x
plain_assign (assigns.Decrement x) = plain.Assign.Decrement x
plain_assign (assigns.IncrementFirst from x) = plain.Assign.IncrementFirst from x
plain_assign (assigns.DecrementFirst from x) = plain.Assign.DecrementFirst from x

abbrev pub plain_call : Call → plain.Call
plain_call (calls.Assert from e) = plain.Call.Assert from (plain_expr e)
plain_call (calls.Assume from e) = plain.Call.Assume from (plain_expr e)
plain_call (calls.ReachError from) = plain.Call.ReachError from
plain_call (calls.Abort from) = plain.Call.Abort from
plain_call (calls.Exit from n) = plain.Call.Exit from
plain_call (calls.Lock from m) = plain.Call.Lock from m
plain_call (calls.Unlock from m) = plain.Call.Unlock from m
plain_call (calls.Destroy from m) = plain.Call.Destroy from m
plain_call (calls.Init from m n) = plain.Call.Init from m
plain_call (calls.Create from t a f x) = plain.Call.Create from t f
plain_call (calls.Join from t n) = plain.Call.Join from t

-- a first one and those behind commas, as one list
abbrev pub all_of : {A B : Type 0} → (A → B) → A → List (ℕ × A) → List B
all_of f first more = f first ∷ map (λ m. f m.1) more

abbrev pub plain_lname : Lname → plain.Local
plain_lname l = record { name = l.name; start = option_map plain_right l.start }

abbrev pub plain_locals : Local → List plain.Local
plain_locals l = all_of plain_lname l.first l.more

abbrev pub plain_names : Handles → List Name
plain_names h = all_of (λ (x : Name). x) h.first h.more

abbrev pub plain_first : First → plain.First
plain_first (firsts.Local l) = plain.First.Declares l.from (plain_locals l)
plain_first (firsts.Assign a) = plain.First.Assigns (plain_assign a)
plain_first (firsts.Empty from) = plain.First.Nothing from

-- ---- statements

abbrev pub if_layer : ℕ → plain.Value → plain.Stmt → Option plain.Stmt → plain.Stmt
if_layer from c s None = plain.Stmt.If from c s
if_layer from c s (Some t) = plain.Stmt.IfElse from c s t

-- One layer of each, with the plain statements of what it holds: those of a block with its place.
abbrev pub stmt_layer : Stmt-F plain.Stmt plain.Stmt → plain.Stmt
stmt_layer (Stmt-F.Block b) = b
stmt_layer (Stmt-F.Empty from) = plain.Stmt.Empty from
stmt_layer (Stmt-F.Local l) = plain.Stmt.Locals l.from (plain_locals l)
stmt_layer (Stmt-F.Assign a) = plain.Stmt.Assigns (plain_assign a)
stmt_layer (Stmt-F.If from c s otherwise) = if_layer from (plain_cond c) s otherwise
stmt_layer (Stmt-F.While from c s) = plain.Stmt.While from (plain_cond c) s
stmt_layer (Stmt-F.For from first c last s) = plain.Stmt.For from (plain_first first) (option_map plain_cond c) (option_map plain_assign last) s
stmt_layer (Stmt-F.Break from) = plain.Stmt.Break from
stmt_layer (Stmt-F.Return from value) = plain.Stmt.Return from
stmt_layer (Stmt-F.Call c) = plain.Stmt.Calls (plain_call c)
stmt_layer (Stmt-F.Atomic from ss) = plain.Stmt.Atomic from (plain.stmt_list ss)
stmt_layer (Stmt-F.Handles h) = plain.Stmt.Handles h.from (plain_names h)

abbrev pub block_layer : Block-F plain.Stmt plain.Stmt → plain.Stmt
block_layer b = plain.Stmt.Block b.from (plain.stmt_list b.stmts)

unfoldable pub plain_stmt : Stmt → plain.Stmt
plain_stmt = fold-Stmt _ _ stmt_layer block_layer

abbrev pub plain_stmts : List Stmt → plain.Stmts
plain_stmts ss = plain.stmt_list (map plain_stmt ss)

-- the statements of a block
abbrev pub plain_block : Block → plain.Stmts
plain_block b = plain_stmts (out-Block b).stmts

-- ---- texts

abbrev pub start_value : Start → ℤ
start_value s = signed s.is_negative s.value
  where
    signed : Bool → ℤ → ℤ
    signed true value = neg_ℤ value
    signed false value = value

abbrev pub plain_gname : Gname → plain.Global
plain_gname g = record { name = g.name; start = option_map start_value g.start }

abbrev pub plain_typed : Typed → plain.Item
plain_typed (typeds.Globals g) = plain.Item.Globals (all_of plain_gname g.first g.more)
plain_typed (typeds.Main m) = plain.Item.Main m.from (plain_block m.body)
plain_typed (typeds.Proto p) = plain.Item.Profile p.from

abbrev pub thread_of : Name → Option Block → plain.Item
thread_of name None = plain.Item.Prototype name
thread_of name (Some b) = plain.Item.Thread name (plain_block b)

abbrev pub plain_untyped : Untyped → plain.Item
plain_untyped (untypeds.Thread t) = thread_of t.name t.body
plain_untyped (untypeds.Proto p) = plain.Item.Profile p.from
plain_untyped (untypeds.Errfn e) = plain.Item.Profile e.from

abbrev pub plain_body : Body → plain.Item
plain_body (bodies.Typed kind t) = plain_typed t
plain_body (bodies.Void from u) = plain_untyped u
plain_body (bodies.Locks l) = plain.Item.Locks (all_of (λ (m : Mname). m.name) l.first l.more)
plain_body (bodies.Handles h) = plain.Item.Handles h.from (plain_names h)

abbrev pub plain_items : List Item → List plain.Item
plain_items items = map (λ (i : Item). plain_body i.body) items

abbrev pub plain_tree : Tree → plain.Tree
plain_tree t = record { items = plain_items t.items; end = t.end }
