-- Each part of a text says what its tokens say, in their order.
use Rattle.std.proofs.Common.{◌≡◌, ℕ, zero, suc, List, [], ◌∷◌, ◌++◌, map, Option, Some, None, option_map, refl, sym, ap, subst, ◌∙◌, append_assoc, append-nil}
use Rattle.c_lex.specs.Tokens.{Lexeme}
use Rattle.c_tree.specs.declared.term.Term.{Term}
use Rattle.c_tree.specs.declared.term.Term.TheVariants as terms
use Rattle.c_tree.specs.declared.expr.Name.{Name}
use Rattle.c_tree.specs.declared.expr.Unary.{Unary, out-Unary}
use Rattle.c_tree.specs.declared.expr.Unary.TheOpen.{Unary-F}
use Rattle.c_tree.specs.declared.expr.Product.{Product, out-Product}
use Rattle.c_tree.specs.declared.expr.Sum.{Sum, out-Sum}
use Rattle.c_tree.specs.declared.expr.SumMark.{SumMark}
use Rattle.c_tree.specs.declared.expr.SumKind.{SumKind}
use Rattle.c_tree.specs.declared.expr.SumKind.TheVariants as sums
use Rattle.c_tree.specs.declared.expr.Relation.{Relation, out-Relation}
use Rattle.c_tree.specs.declared.expr.RelationMark.{RelationMark}
use Rattle.c_tree.specs.declared.expr.RelationKind.{RelationKind}
use Rattle.c_tree.specs.declared.expr.RelationKind.TheVariants as relations
use Rattle.c_tree.specs.declared.expr.Equality.{Equality, out-Equality}
use Rattle.c_tree.specs.declared.expr.EqualityMark.{EqualityMark}
use Rattle.c_tree.specs.declared.expr.EqualityKind.{EqualityKind}
use Rattle.c_tree.specs.declared.expr.EqualityKind.TheVariants as equalities
use Rattle.c_tree.specs.declared.expr.Conjunction.{Conjunction, out-Conjunction}
use Rattle.c_tree.specs.declared.expr.Expr.{Expr, out-Expr}
use Rattle.c_tree.specs.declared.simple.Nondet.{Nondet}
use Rattle.c_tree.specs.declared.simple.Nil.{Nil}
use Rattle.c_tree.specs.declared.simple.Nil.TheVariants as nils
use Rattle.c_tree.specs.declared.simple.Assign.TheVariants as assigns
use Rattle.c_tree.specs.declared.simple.Call.TheVariants as calls
use Rattle.c_tree.specs.declared.simple.Cond.TheVariants as conds
use Rattle.c_tree.specs.declared.simple.Right.{Right}
use Rattle.c_tree.specs.declared.simple.Right.TheVariants as rights
use Rattle.c_tree.specs.declared.simple.Qual.{Qual}
use Rattle.c_tree.specs.declared.simple.Itype.{Itype}
use Rattle.c_tree.specs.declared.simple.Itype.TheVariants as itypes
use Rattle.c_tree.specs.declared.simple.Lname.{Lname}
use Rattle.c_tree.specs.declared.simple.Local.{Local}
use Rattle.c_tree.specs.declared.simple.Handles.{Handles}
use Rattle.c_tree.specs.Plain as plain
use Rattle.c_tree.specs.Seen.{left_to_right, equality_operator, relation_operator, sum_operator, or_mark, and_mark, equality_mark, relation_mark, sum_mark, product_mark, plain_unary, plain_product, plain_sum, plain_relation, plain_equality, plain_conjunction, plain_expr, plain_right, plain_cond, plain_assign, plain_call, all_of, plain_lname, plain_locals, plain_names}
use Rattle.c_tree.specs.inside.Input.{bytes_at}
use Rattle.c_tree.specs.Grammar.{Is, Stands, StartsAt, AreMore, IsLevel, equality_term, relation_term, sum_term, sign_term, IsOrMark, IsAndMark, IsEqualityMark, IsRelationMark, IsSumMark, IsProductMark, IsName, IsLayer, IsUnary, IsProduct, IsSum, IsRelation, IsEquality, IsConjunction, IsExprOver, IsExpr}
use Rattle.c_tree.specs.Sequence.{Part, ◌then◌, Perhaps, AreAll, InParens, EmptyParens, IsComma, IsList}
use Rattle.c_tree.specs.GrammarSimple.{qual_term, IsQual, IsItype, IsNondet, IsNil, IsAddress, IsRight, IsCond, IsAssign, IsCall, IsLname, IsLocal, IsHandles}
use Rattle.c_tree.specs.Leaves.{Leaf, AreLeaves, token, mark_leaf, name_leaf, operator_term, expr_leaves, value_leaves, value_if_leaves, name_leaves, assign_leaves, call_leaves, local_leaves}
use Rattle.c_tree.proofs.View.{behind, unary_seen, unary_out, product_out, sum_out, relation_out, equality_out, conjunction_out, expr_out}
use Rattle.c_tree.proofs.Sitting.{Sits, leaves_in_all, sits_then, sits_after, sits_before, sits_same, sits_as, sits_token, sits_mark, sits_name, sits_skip, sits_stands, sits_number, starts_same}
use Rattle.c_tree.proofs.Numbers.{number_fits}

-- Each part says what is said of it.
abbrev pub AllSit : {A : Type 0} → (A → Part) → (A → List Leaf) → Type 0
AllSit {A} IsPart leaves = (x : A) (ts rest : List Lexeme) → IsPart x ts rest → Sits (leaves x) ts rest

-- ---- the marks

equality_same : (kind : EqualityKind) → equality_term kind ≡ operator_term (equality_operator kind)
equality_same equalities.Equal = refl
equality_same equalities.Unequal = refl

relation_same : (kind : RelationKind) → relation_term kind ≡ operator_term (relation_operator kind)
relation_same relations.Less = refl
relation_same relations.AtMost = refl
relation_same relations.Greater = refl
relation_same relations.AtLeast = refl

sum_same : (kind : SumKind) → sum_term kind ≡ operator_term (sum_operator kind)
sum_same sums.Plus = refl
sum_same sums.Minus = refl

-- ---- levels of expressions

more_leaves : {M : Type 0} → (M → Leaf) → List (M × plain.Expr) → List Leaf
more_leaves mark [] = []
more_leaves mark (m ∷ more) = (mark m.0 ∷ expr_leaves m.1) ++ more_leaves mark more

joined_leaves : {M : Type 0} (join : M → plain.Expr → plain.Expr → plain.Expr) (mark : M → Leaf) → ((m : M) (l r : plain.Expr) → expr_leaves (join m l r) ≡ expr_leaves l ++ (mark m ∷ expr_leaves r)) → (left : plain.Expr) (more : List (M × plain.Expr))
    → expr_leaves (left_to_right join left more) ≡ expr_leaves left ++ more_leaves mark more
unfolding more_leaves
joined_leaves join mark both left [] = sym (append-nil (expr_leaves left))
joined_leaves join mark both left (m ∷ more) =
    joined_leaves join mark both (join m.0 left m.1) more ∙ ap (λ (l : List Leaf). l ++ more_leaves mark more) (both m.0 left m.1) ∙ append_assoc (expr_leaves left) (mark m.0 ∷ expr_leaves m.1) (more_leaves mark more)

module _ {M A : Type 0} (IsMark : M → Part) (IsItem : A → Part) (mark : M → Leaf) (view : A → plain.Expr) (marks : AllSit IsMark (λ m. mark m ∷ [])) (items : AllSit IsItem (λ x. expr_leaves (view x))) where
  more_sits : (more : List (M × A)) (ts rest : List Lexeme) → AreMore IsMark IsItem more ts rest → Sits (more_leaves mark (behind view more)) ts rest
  unfolding more_leaves
  more_sits [] ts rest is = sits_same is
  more_sits (m ∷ more) ts rest is = sits_then (sits_then (marks m.0 ts is.0 is.2) (items m.1 is.0 is.1 is.3)) (more_sits more is.1 rest is.4)

  level_sits : (join : M → plain.Expr → plain.Expr → plain.Expr) → ((m : M) (l r : plain.Expr) → expr_leaves (join m l r) ≡ expr_leaves l ++ (mark m ∷ expr_leaves r)) → (from : ℕ) (first : A) (more : List (M × A)) (ts rest : List Lexeme)
      → IsLevel IsMark IsItem from first more ts rest → Sits (expr_leaves (left_to_right join (view first) (behind view more))) ts rest
  level_sits join both from first more ts rest is = sits_as _ _ (joined_leaves join mark both (view first) (behind view more)) (sits_then (items first ts is.1 is.2) (more_sits more is.1 rest is.3))

module _ (IsOperand : Unary → Part) (operands : AllSit IsOperand (λ u. expr_leaves (plain_unary u))) where
  product_sits : AllSit (IsProduct IsOperand) (λ x. expr_leaves (plain_product x))
  product_sits x ts rest is = sits_as _ _ (ap expr_leaves (product_out x)) (level_sits IsProductMark IsOperand (λ (m : ℕ). mark_leaf terms.Star m) plain_unary (λ m ts rest is. sits_mark terms.Star terms.Star m ts rest refl is) operands product_mark (λ m l r. refl) (out-Product x).from (out-Product x).first (out-Product x).more ts rest is)

  sum_sits : AllSit (IsSum IsOperand) (λ x. expr_leaves (plain_sum x))
  sum_sits x ts rest is = sits_as _ _ (ap expr_leaves (sum_out x)) (level_sits IsSumMark (IsProduct IsOperand) (λ (m : SumMark). mark_leaf (operator_term (sum_operator m.kind)) m.from) plain_product (λ m ts rest is. sits_mark (sum_term m.kind) _ m.from ts rest (sum_same m.kind) is) product_sits sum_mark (λ m l r. refl) (out-Sum x).from (out-Sum x).first (out-Sum x).more ts rest is)

  relation_sits : AllSit (IsRelation IsOperand) (λ x. expr_leaves (plain_relation x))
  relation_sits x ts rest is = sits_as _ _ (ap expr_leaves (relation_out x)) (level_sits IsRelationMark (IsSum IsOperand) (λ (m : RelationMark). mark_leaf (operator_term (relation_operator m.kind)) m.from) plain_sum (λ m ts rest is. sits_mark (relation_term m.kind) _ m.from ts rest (relation_same m.kind) is) sum_sits relation_mark (λ m l r. refl) (out-Relation x).from (out-Relation x).first (out-Relation x).more ts rest is)

  equality_sits : AllSit (IsEquality IsOperand) (λ x. expr_leaves (plain_equality x))
  equality_sits x ts rest is = sits_as _ _ (ap expr_leaves (equality_out x)) (level_sits IsEqualityMark (IsRelation IsOperand) (λ (m : EqualityMark). mark_leaf (operator_term (equality_operator m.kind)) m.from) plain_relation (λ m ts rest is. sits_mark (equality_term m.kind) _ m.from ts rest (equality_same m.kind) is) relation_sits equality_mark (λ m l r. refl) (out-Equality x).from (out-Equality x).first (out-Equality x).more ts rest is)

  conjunction_sits : AllSit (IsConjunction IsOperand) (λ x. expr_leaves (plain_conjunction x))
  conjunction_sits x ts rest is = sits_as _ _ (ap expr_leaves (conjunction_out x)) (level_sits IsAndMark (IsEquality IsOperand) (λ (m : ℕ). mark_leaf terms.And m) plain_equality (λ m ts rest is. sits_mark terms.And terms.And m ts rest refl is) equality_sits and_mark (λ m l r. refl) (out-Conjunction x).from (out-Conjunction x).first (out-Conjunction x).more ts rest is)

  expr_over_sits : AllSit (IsExprOver IsOperand) (λ x. expr_leaves (plain_expr x))
  expr_over_sits x ts rest is = sits_as _ _ (ap expr_leaves (expr_out x)) (level_sits IsOrMark (IsConjunction IsOperand) (λ (m : ℕ). mark_leaf terms.Or m) plain_conjunction (λ m ts rest is. sits_mark terms.Or terms.Or m ts rest refl is) conjunction_sits or_mark (λ m l r. refl) (out-Expr x).from (out-Expr x).first (out-Expr x).more ts rest is)

  layer_sits : (layer : Unary-F Unary Conjunction Equality Expr Product Relation Sum) (ts rest : List Lexeme) → IsLayer IsOperand layer ts rest → Sits (expr_leaves (unary_seen layer)) ts rest
  layer_sits (Unary-F.Operator from kind operand) ts rest is = sits_then (sits_mark (sign_term kind) (sign_term kind) from ts is.0 refl is.1) (operands operand is.0 rest is.2)
  layer_sits (Unary-F.Paren from inner) ts rest is = sits_before (sits_then (sits_mark terms.LeftParen terms.LeftParen from ts is.0 refl is.2) (expr_over_sits inner is.0 is.1 is.3)) (sits_stands terms.RightParen is.1 rest is.4)
  layer_sits (Unary-F.Number from value) ts rest is = sits_then (sits_mark terms.Number terms.Number from ts rest refl is.0) (sits_number value (number_fits (bytes_at ts) value is.1) (sits_same refl))
  layer_sits (Unary-F.Name name) ts rest is = sits_name name ts rest is

unary_sits : (levels : ℕ) → AllSit (IsUnary levels) (λ u. expr_leaves (plain_unary u))
unary_sits zero u ts rest is = sits_as _ _ (ap expr_leaves (unary_out u)) (layer_sits (λ inner ts rest. ⊥) (λ u ts rest is. absurd is) (out-Unary u) ts rest is)
unary_sits (suc levels) u ts rest is = sits_as _ _ (ap expr_leaves (unary_out u)) (layer_sits (IsUnary levels) (unary_sits levels) (out-Unary u) ts rest is)

pub expr_sits : (levels : ℕ) → AllSit (IsExpr levels) (λ e. expr_leaves (plain_expr e))
expr_sits levels = expr_over_sits (IsUnary levels) (unary_sits levels)

pub expr_leaves_are : (levels : ℕ) (e : Expr) (ts rest : List Lexeme) → IsExpr levels e ts rest → AreLeaves (expr_leaves (plain_expr e)) ts
expr_leaves_are levels e ts rest is = leaves_in_all (expr_sits levels e ts rest is)

-- ---- parts of statements

pub name_sits : AllSit IsName (λ x. name_leaf x ∷ [])
name_sits x ts rest is = sits_name x ts rest is

pub empty_parens_sits : (ts rest : List Lexeme) → EmptyParens ts rest → Sits [] ts rest
empty_parens_sits ts rest is = sits_after (sits_stands terms.LeftParen ts is.0 is.1) (sits_stands terms.RightParen is.0 rest is.2)

pub parens_sit : (Inner : Part) (leaves : List Leaf) → ((ts rest : List Lexeme) → Inner ts rest → Sits leaves ts rest) → (ts rest : List Lexeme) → InParens Inner ts rest → Sits leaves ts rest
parens_sit Inner leaves inner ts rest is = sits_after (sits_stands terms.LeftParen ts is.0 is.1) (sits_before (inner is.0 is.2.0 is.2.1) (sits_stands terms.RightParen is.2.0 rest is.2.2))

nondet_sits : AllSit IsNondet (λ (n : Nondet). token n.from ∷ [])
nondet_sits n ts rest is = sits_before (sits_token terms.Nondet n.from ts is.0 is.1) (empty_parens_sits is.0 rest is.2)

pub nil_sits : AllSit IsNil (λ n. [])
nil_sits (nils.Null from) ts rest is = sits_skip terms.Null from ts rest is
nil_sits (nils.Zero from) ts rest is = sits_skip terms.Number from ts rest is.0

address_sits : AllSit IsAddress (λ (x : Name). name_leaf x ∷ [])
address_sits x ts rest is = sits_after (sits_stands terms.Address ts is.0 is.1) (name_sits x is.0 rest is.2)

comma_nil_sits : (n : Nil) (ts rest : List Lexeme) → (Stands terms.Comma then IsNil n) ts rest → Sits [] ts rest
comma_nil_sits n ts rest is = sits_after (sits_stands terms.Comma ts is.0 is.1) (nil_sits n is.0 rest is.2)

module _ (levels : ℕ) where
  pub right_sits : AllSit (IsRight levels) (λ e. value_leaves (plain_right e))
  right_sits (rights.Nondet n) ts rest is = nondet_sits n ts rest is
  right_sits (rights.Expr e) ts rest is = expr_sits levels e ts rest is

  pub cond_sits : AllSit (IsCond levels) (λ c. value_leaves (plain_cond c))
  cond_sits (conds.Nondet n) ts rest is = nondet_sits n ts rest is
  cond_sits (conds.Expr e) ts rest is = expr_sits levels e ts rest is

  pub assign_sits : AllSit (IsAssign levels) (λ a. assign_leaves (plain_assign a))
  assign_sits (assigns.Set x e) ts rest is = sits_then (name_sits x ts is.0 is.1) (sits_after (sits_stands terms.Assign is.0 is.2.0 is.2.1) (right_sits e is.2.0 rest is.2.2))
  assign_sits (assigns.Add x e) ts rest is = sits_then (name_sits x ts is.0 is.1) (sits_after (sits_stands terms.AddTo is.0 is.2.0 is.2.1) (expr_sits levels e is.2.0 rest is.2.2))
  assign_sits (assigns.Subtract x e) ts rest is = sits_then (name_sits x ts is.0 is.1) (sits_after (sits_stands terms.SubtractFrom is.0 is.2.0 is.2.1) (expr_sits levels e is.2.0 rest is.2.2))
  assign_sits (assigns.Increment x) ts rest is = sits_before (name_sits x ts is.0 is.1) (sits_stands terms.Increment is.0 rest is.2)
  assign_sits (assigns.Decrement x) ts rest is = sits_before (name_sits x ts is.0 is.1) (sits_stands terms.Decrement is.0 rest is.2)
  assign_sits (assigns.IncrementFirst from x) ts rest is = sits_then (sits_token terms.Increment from ts is.0 is.1) (name_sits x is.0 rest is.2)
  assign_sits (assigns.DecrementFirst from x) ts rest is = sits_then (sits_token terms.Decrement from ts is.0 is.1) (name_sits x is.0 rest is.2)

  pub call_sits : AllSit (IsCall levels) (λ c. call_leaves (plain_call c))
  call_sits (calls.Assert from e) ts rest is = sits_then (sits_token terms.Assert from ts is.0 is.1) (parens_sit _ _ (expr_sits levels e) is.0 rest is.2)
  call_sits (calls.Assume from e) ts rest is = sits_then (sits_token terms.Assume from ts is.0 is.1) (parens_sit _ _ (expr_sits levels e) is.0 rest is.2)
  call_sits (calls.ReachError from) ts rest is = sits_before (sits_token terms.ReachError from ts is.0 is.1) (empty_parens_sits is.0 rest is.2)
  call_sits (calls.Abort from) ts rest is = sits_before (sits_token terms.Abort from ts is.0 is.1) (empty_parens_sits is.0 rest is.2)
  call_sits (calls.Exit from n) ts rest is = sits_before (sits_token terms.Exit from ts is.0 is.1) (parens_sit _ _ (nil_sits n) is.0 rest is.2)
  call_sits (calls.Lock from m) ts rest is = sits_then (sits_token terms.MutexLock from ts is.0 is.1) (parens_sit _ _ (address_sits m) is.0 rest is.2)
  call_sits (calls.Unlock from m) ts rest is = sits_then (sits_token terms.MutexUnlock from ts is.0 is.1) (parens_sit _ _ (address_sits m) is.0 rest is.2)
  call_sits (calls.Destroy from m) ts rest is = sits_then (sits_token terms.MutexDestroy from ts is.0 is.1) (parens_sit _ _ (address_sits m) is.0 rest is.2)
  call_sits (calls.Init from m n) ts rest is = sits_then (sits_token terms.MutexInit from ts is.0 is.1)
      (parens_sit (IsAddress m then Stands terms.Comma then IsNil n) (name_leaf m ∷ []) (λ ts rest is. sits_before (address_sits m ts is.0 is.1) (comma_nil_sits n is.0 rest is.2)) is.0 rest is.2)
  call_sits (calls.Create from t a f x) ts rest is = sits_then (sits_token terms.Create from ts is.0 is.1)
      (parens_sit (IsAddress t then Stands terms.Comma then IsNil a then Stands terms.Comma then IsName f then Stands terms.Comma then IsNil x) (name_leaf t ∷ name_leaf f ∷ [])
      (λ ts rest is. sits_then (address_sits t ts is.0 is.1) (sits_after (sits_stands terms.Comma is.0 is.2.0 is.2.1) (sits_after (nil_sits a is.2.0 is.2.2.0 is.2.2.1) (sits_after (sits_stands terms.Comma is.2.2.0 is.2.2.2.0 is.2.2.2.1)
      (sits_before (name_sits f is.2.2.2.0 is.2.2.2.2.0 is.2.2.2.2.1) (comma_nil_sits x is.2.2.2.2.0 rest is.2.2.2.2.2)))))) is.0 rest is.2)
  call_sits (calls.Join from t n) ts rest is = sits_then (sits_token terms.Join from ts is.0 is.1)
      (parens_sit (IsName t then Stands terms.Comma then IsNil n) (name_leaf t ∷ []) (λ ts rest is. sits_before (name_sits t ts is.0 is.1) (comma_nil_sits n is.0 rest is.2)) is.0 rest is.2)

-- ---- lists

module _ {A B : Type 0} (IsItem : A → Part) (view : A → B) (one : A → List Leaf) (leaves : List B → List Leaf) (none : leaves [] ≡ []) (some : (x : A) (bs : List B) → leaves (view x ∷ bs) ≡ one x ++ leaves bs) (items : AllSit IsItem one) where
  commas_sit : (more : List (ℕ × A)) (ts rest : List Lexeme) → AreMore IsComma IsItem more ts rest → Sits (leaves (map (λ m. view m.1) more)) ts rest
  commas_sit [] ts rest is = sits_as _ _ none (sits_same is)
  commas_sit (m ∷ more) ts rest is = sits_as _ _ (some m.1 _) (sits_then (sits_after (sits_skip terms.Comma m.0 ts is.0 is.2) (items m.1 is.0 is.1 is.3)) (commas_sit more is.1 rest is.4))

  pub list_sits : (first : A) (more : List (ℕ × A)) (ts rest : List Lexeme) → IsList IsItem first more ts rest → Sits (leaves (all_of view first more)) ts rest
  list_sits first more ts rest is = sits_as _ _ (some first _) (sits_then (items first ts is.0 is.1) (sits_before (commas_sit more is.0 is.2.0 is.2.1) (sits_stands terms.Semicolon is.2.0 rest is.2.2)))

-- ---- declarations

token_here : (k : Term) (from other : ℕ) (ts rest : List Lexeme) → Is k other ts rest → StartsAt from ts → Sits (token from ∷ []) ts rest
token_here k from other ts rest is starts = sits_as _ _ (ap (λ (p : ℕ). token p ∷ []) (sym (starts_same k from other ts rest is starts))) (sits_token k other ts rest is)

pub quals_sit : (qs : List Qual) (ts rest : List Lexeme) → AreAll IsQual qs ts rest → Sits [] ts rest
quals_sit [] ts rest is = sits_same is
quals_sit (q ∷ qs) ts rest is = sits_after (sits_skip (qual_term q.kind) q.from ts is.0 is.1) (quals_sit qs is.0 rest is.2)

pub itype_sits : (kind : Itype) (ts rest : List Lexeme) → IsItype kind ts rest → Sits [] ts rest
itype_sits (itypes.Int from) ts rest is = sits_skip terms.Int from ts rest is
itype_sits (itypes.Long from) ts rest is = sits_skip terms.Long from ts rest is
itype_sits (itypes.LongInt from) ts rest is = sits_after (sits_skip terms.Long from ts is.0 is.1) (sits_stands terms.Int is.0 rest is.2)

itype_here : (from : ℕ) (kind : Itype) (ts rest : List Lexeme) → IsItype kind ts rest → StartsAt from ts → Sits (token from ∷ []) ts rest
itype_here from (itypes.Int other) ts rest is starts = token_here terms.Int from other ts rest is starts
itype_here from (itypes.Long other) ts rest is starts = token_here terms.Long from other ts rest is starts
itype_here from (itypes.LongInt other) ts rest is starts = sits_before (token_here terms.Long from other ts is.0 is.1 starts) (sits_stands terms.Int is.0 rest is.2)

type_here : (from : ℕ) (qs : List Qual) (kind : Itype) (ts mid rest : List Lexeme) → AreAll IsQual qs ts mid → IsItype kind mid rest → StartsAt from ts → Sits (token from ∷ []) ts rest
type_here from [] kind ts mid rest are is starts = subst (λ (l : List Lexeme). Sits (token from ∷ []) l rest) (sym are) (itype_here from kind mid rest is (subst (StartsAt from) are starts))
type_here from (q ∷ qs) kind ts mid rest are is starts = sits_before (token_here (qual_term q.kind) from q.from ts are.0 are.1 starts) (sits_after (quals_sit qs are.0 mid are.2) (itype_sits kind mid rest is))

module _ (levels : ℕ) where
  start_sits : (s : Option Right) (ts rest : List Lexeme) → Perhaps (λ e. Stands terms.Assign then IsRight levels e) s ts rest → Sits (value_if_leaves (option_map plain_right s)) ts rest
  start_sits None ts rest is = sits_same is
  start_sits (Some e) ts rest is = sits_after (sits_stands terms.Assign ts is.0 is.1) (right_sits levels e is.0 rest is.2)

  lname_sits : AllSit (IsLname levels) (λ (l : Lname). name_leaf l.name ∷ value_if_leaves (option_map plain_right l.start))
  lname_sits l ts rest is = sits_then (name_sits l.name ts is.0 is.1) (start_sits l.start is.0 rest is.2)

  pub local_sits : AllSit (IsLocal levels) (λ (l : Local). token l.from ∷ local_leaves (plain_locals l))
  local_sits l ts rest is =
      sits_then (type_here l.from l.quals l.itype ts is.1.0 is.1.2.0 is.1.1 is.1.2.1 is.0)
      (list_sits (IsLname levels) plain_lname (λ (l : Lname). name_leaf l.name ∷ value_if_leaves (option_map plain_right l.start)) local_leaves refl (λ x bs. refl) lname_sits l.first l.more is.1.2.0 rest is.1.2.2)

pub names_sit : (first : Name) (more : List (ℕ × Name)) (ts rest : List Lexeme) → IsList IsName first more ts rest → Sits (name_leaves (all_of (λ (x : Name). x) first more)) ts rest
names_sit first more ts rest is = list_sits IsName (λ (x : Name). x) (λ (x : Name). name_leaf x ∷ []) name_leaves refl (λ x bs. refl) name_sits first more ts rest is

pub handles_sit : AllSit IsHandles (λ (h : Handles). token h.from ∷ name_leaves (plain_names h))
handles_sit h ts rest is = sits_then (sits_token terms.HandleType h.from ts is.0 is.1) (names_sit h.first h.more is.0 rest is.2)
