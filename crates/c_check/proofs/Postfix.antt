-- The operations of expressions that are used as numbers, by the forms of the code's tree.
use Rattle.std.proofs.Common.{◌≡◌, ℕ, List, [], ◌∷◌, ◌++◌, map, length, filter, get_or, take, Bool, true, false, if◌then◌else◌, ◌+◌, ◌<◌, refl, sym, ap, ◌∙◌, arith, append_assoc}
use Rattle.std.proofs.lemmas.List.{length-append, append-nil, take_more}
use Rattle.std.proofs.lemmas.List.Elements.{filter-append}
use Rattle.std.proofs.Math.Nat.{add-zero}
use Rattle.c_tree.specs.declared.expr.UnaryKind.{UnaryKind}
use Rattle.c_tree.specs.declared.expr.UnaryKind.TheVariants as unary
use Rattle.c_tree.specs.declared.expr.SumKind.{SumKind}
use Rattle.c_tree.specs.declared.expr.SumKind.TheVariants as sums
use Rattle.c_tree.specs.declared.expr.SumMark.{SumMark}
use Rattle.c_tree.specs.declared.expr.EqualityMark.{EqualityMark}
use Rattle.c_tree.specs.declared.expr.EqualityKind.{EqualityKind}
use Rattle.c_tree.specs.declared.expr.EqualityKind.TheVariants as equalities
use Rattle.c_tree.specs.declared.expr.RelationMark.{RelationMark}
use Rattle.c_tree.specs.declared.expr.RelationKind.{RelationKind}
use Rattle.c_tree.specs.declared.expr.RelationKind.TheVariants as relations
use Rattle.c_tree.specs.declared.expr.Expr.{Expr, out-Expr}
use Rattle.c_tree.specs.declared.expr.Conjunction.{Conjunction, out-Conjunction}
use Rattle.c_tree.specs.declared.expr.Equality.{Equality, out-Equality}
use Rattle.c_tree.specs.declared.expr.Relation.{Relation, out-Relation}
use Rattle.c_tree.specs.Plain as plain
use Rattle.c_tree.specs.Seen.{and_mark, equality_mark, equality_operator, left_to_right, or_mark, plain_conjunction, plain_equality, plain_expr, plain_relation, plain_sum, product_mark, relation_mark, relation_operator, sum_mark, sum_operator}
use Rattle.c_tree.proofs.View.{conjunction_out, equality_out, expr_out, relation_out}
use Rattle.c_check.specs.declared.meaning.Variable.TheVariants as variable
use Rattle.c_check.specs.declared.operation.Operation.{Operation}
use Rattle.c_check.specs.declared.operation.Operation.TheVariants as operation
use Rattle.c_check.specs.Items.{shared_in}
use Rattle.c_check.specs.Plan.{Arithmetic, postfix}
use Rattle.c_check.specs.Resolve.{arithmetic, binary, prefixed}
use Rattle.c_check.specs.Scope.{Scopes}
use Rattle.c_check.specs.inside.Operations.{is_shared, shared_operations, sign_operations, sum_operation}
use Rattle.c_check.proofs.Front.{front, front-next}

-- ---- marks of numbers

pub postfix-sum : (k : SumKind) (a b : Arithmetic) → postfix (binary (sum_operator k) a b) ≡ postfix a ++ postfix b ++ sum_operation k ∷ []
postfix-sum sums.Plus a b = refl
postfix-sum sums.Minus a b = refl

pub postfix-prefixed : (k : UnaryKind) (a : Arithmetic) → postfix (prefixed k a) ≡ postfix a ++ sign_operations k
postfix-prefixed unary.Minus a = refl
postfix-prefixed unary.Plus a = sym (append-nil (postfix a))
postfix-prefixed unary.Not a = sym (append-nil (postfix a))

-- ---- operations that are appended

-- What is appended for an operand and a mark, behind what there is for the operands in front.
pub pushed : {X : Type 0} → (old a b operations more : List X) (o : X) → operations ≡ old ++ a → more ≡ operations ++ b → more ++ o ∷ [] ≡ old ++ (a ++ b ++ o ∷ [])
pushed old a b operations more o operations-is more-is =
    ap (λ xs. xs ++ o ∷ []) (more-is ∙ ap (λ xs. xs ++ b) operations-is) ∙ simp append_assoc

pub postfix-next_sum : {A : Type 0} → (ss : Scopes) (f : A → plain.Expr) (first : plain.Expr) (more : List (SumMark × A)) (i : ℕ) (m : SumMark × A) → i < length more → get_or more i m ≡ m →
    postfix (arithmetic ss (front sum_mark f first more i)) ++ postfix (arithmetic ss (f m.1)) ++ sum_operation m.0.kind ∷ [] ≡ postfix (arithmetic ss (front sum_mark f first more (i + 1)))
postfix-next_sum ss f first more i m within at =
    sym (ap (λ e. postfix (arithmetic ss e)) (front-next sum_mark f first more i m within at)
    ∙ postfix-sum m.0.kind (arithmetic ss (front sum_mark f first more i)) (arithmetic ss (f m.1)))

pub postfix-next_product : {A : Type 0} → (ss : Scopes) (f : A → plain.Expr) (first : plain.Expr) (more : List (ℕ × A)) (i : ℕ) (m : ℕ × A) → i < length more → get_or more i m ≡ m →
    postfix (arithmetic ss (front product_mark f first more i)) ++ postfix (arithmetic ss (f m.1)) ++ operation.Multiply ∷ [] ≡ postfix (arithmetic ss (front product_mark f first more (i + 1)))
postfix-next_product ss f first more i m within at = sym (ap (λ e. postfix (arithmetic ss e)) (front-next product_mark f first more i m within at))

-- ---- marks of conditions: what is used as a number goes down to the first operand

-- Where each mark keeps its left operand, a chain is its first one.
pub arithmetic-chain : {M : Type 0} → (ss : Scopes) (mark : M → plain.Expr → plain.Expr → plain.Expr) → ((m : M) (left right : plain.Expr) → arithmetic ss (mark m left right) ≡ arithmetic ss left) →
    (first : plain.Expr) (more : List (M × plain.Expr)) → arithmetic ss (left_to_right mark first more) ≡ arithmetic ss first
arithmetic-chain ss mark keeps first [] = refl
arithmetic-chain ss mark keeps first (m ∷ more) = arithmetic-chain ss mark keeps (mark m.0 first m.1) more ∙ keeps m.0 first m.1

pub arithmetic-equality : (ss : Scopes) (m : EqualityMark) (left right : plain.Expr) → arithmetic ss (equality_mark m left right) ≡ arithmetic ss left
arithmetic-equality ss m left right = by_kind m.kind
  where
    by_kind : (k : EqualityKind) → arithmetic ss (plain.Expr.Binary (equality_operator k) m.from left right) ≡ arithmetic ss left
    by_kind equalities.Equal = refl
    by_kind equalities.Unequal = refl

pub arithmetic-relation : (ss : Scopes) (m : RelationMark) (left right : plain.Expr) → arithmetic ss (relation_mark m left right) ≡ arithmetic ss left
arithmetic-relation ss m left right = by_kind m.kind
  where
    by_kind : (k : RelationKind) → arithmetic ss (plain.Expr.Binary (relation_operator k) m.from left right) ≡ arithmetic ss left
    by_kind relations.Less = refl
    by_kind relations.AtMost = refl
    by_kind relations.Greater = refl
    by_kind relations.AtLeast = refl

pub arithmetic-relation_chain : (ss : Scopes) (first : plain.Expr) (more : List (RelationMark × plain.Expr)) → arithmetic ss (left_to_right relation_mark first more) ≡ arithmetic ss first
arithmetic-relation_chain ss first more = arithmetic-chain ss relation_mark (arithmetic-relation ss) first more

pub arithmetic-equality_chain : (ss : Scopes) (first : plain.Expr) (more : List (EqualityMark × plain.Expr)) → arithmetic ss (left_to_right equality_mark first more) ≡ arithmetic ss first
arithmetic-equality_chain ss first more = arithmetic-chain ss equality_mark (arithmetic-equality ss) first more

pub arithmetic-of_relation : (ss : Scopes) (r : Relation) → arithmetic ss (plain_relation r) ≡ arithmetic ss (plain_sum (out-Relation r).first)
arithmetic-of_relation ss r =
    ap (arithmetic ss) (relation_out r) ∙ arithmetic-relation_chain ss (plain_sum (out-Relation r).first) (map (λ m. (m.0, plain_sum m.1)) (out-Relation r).more)

pub arithmetic-of_equality : (ss : Scopes) (e : Equality) → arithmetic ss (plain_equality e) ≡ arithmetic ss (plain_relation (out-Equality e).first)
arithmetic-of_equality ss e =
    ap (arithmetic ss) (equality_out e) ∙ arithmetic-equality_chain ss (plain_relation (out-Equality e).first) (map (λ m. (m.0, plain_relation m.1)) (out-Equality e).more)

arithmetic-of_conjunction : (ss : Scopes) (c : Conjunction) → arithmetic ss (plain_conjunction c) ≡ arithmetic ss (plain_equality (out-Conjunction c).first)
arithmetic-of_conjunction ss c =
    ap (arithmetic ss) (conjunction_out c)
    ∙ arithmetic-chain ss and_mark (λ m left right. refl) (plain_equality (out-Conjunction c).first) (map (λ m. (m.0, plain_equality m.1)) (out-Conjunction c).more)

arithmetic-of_expr : (ss : Scopes) (e : Expr) → arithmetic ss (plain_expr e) ≡ arithmetic ss (plain_conjunction (out-Expr e).first)
arithmetic-of_expr ss e =
    ap (arithmetic ss) (expr_out e)
    ∙ arithmetic-chain ss or_mark (λ m left right. refl) (plain_conjunction (out-Expr e).first) (map (λ m. (m.0, plain_conjunction m.1)) (out-Expr e).more)

abbrev pub first_sum : Expr → plain.Expr
first_sum e = plain_sum (out-Relation (out-Equality (out-Conjunction (out-Expr e).first).first).first).first

pub arithmetic-first_sum : (ss : Scopes) (e : Expr) → arithmetic ss (first_sum e) ≡ arithmetic ss (plain_expr e)
arithmetic-first_sum ss e =
    let c : Conjunction = (out-Expr e).first in
    let q : Equality = (out-Conjunction c).first in
    let r : Relation = (out-Equality q).first in
    sym (arithmetic-of_expr ss e ∙ arithmetic-of_conjunction ss c ∙ arithmetic-of_equality ss q ∙ arithmetic-of_relation ss r)

-- ---- shared accesses

shared_operations-append : (xs ys : List Operation) → shared_operations (xs ++ ys) ≡ shared_operations xs + shared_operations ys
shared_operations-append xs ys = ap length (filter-append is_shared xs ys) ∙ length-append (filter is_shared xs) (filter is_shared ys)

pub shared_operations-next : (xs : List Operation) (i : ℕ) (d : Operation) → i < length xs → shared_operations (take (i + 1) xs) ≡ shared_operations (take i xs) + (if is_shared (get_or xs i d) then 1 else 0)
shared_operations-next xs i d within =
    ap shared_operations (take_more xs i d within) ∙ shared_operations-append (take i xs) (get_or xs i d ∷ []) ∙ ap (λ n. shared_operations (take i xs) + n) (by_test (is_shared (get_or xs i d)))
  where
    by_test : (t : Bool) → length (if t then get_or xs i d ∷ [] else []) ≡ (if t then 1 else 0)
    by_test true = refl
    by_test false = refl

of_two : (a b : Arithmetic) (o : Operation) → is_shared o ≡ false → shared_operations (postfix a) ≡ length (shared_in a) → shared_operations (postfix b) ≡ length (shared_in b) →
    shared_operations (postfix a ++ postfix b ++ o ∷ []) ≡ length (shared_in a ++ shared_in b)
of_two a b o none a-is b-is =
    let last : shared_operations (o ∷ []) ≡ 0 = ap (λ t. length (if t then o ∷ [] else [])) none in
    shared_operations-append (postfix a ++ postfix b) (o ∷ []) ∙ ap (λ n. n + shared_operations (o ∷ [])) (shared_operations-append (postfix a) (postfix b))
    ∙ omega (arith, last, a-is, b-is, length-append (shared_in a) (shared_in b))

-- The operations that read what all threads share are as many as the shared variables of the expression.
pub shared_operations-postfix : (a : Arithmetic) → shared_operations (postfix a) ≡ length (shared_in a)
shared_operations-postfix (Arithmetic.Number value) = refl
shared_operations-postfix (Arithmetic.Value (variable.Shared n)) = refl
shared_operations-postfix (Arithmetic.Value (variable.Own n)) = refl
shared_operations-postfix (Arithmetic.Negated a) = shared_operations-append (postfix a) (operation.Negate ∷ []) ∙ add-zero (shared_operations (postfix a)) ∙ shared_operations-postfix a
shared_operations-postfix (Arithmetic.Sum a b) = of_two a b operation.Add refl (shared_operations-postfix a) (shared_operations-postfix b)
shared_operations-postfix (Arithmetic.Difference a b) = of_two a b operation.Subtract refl (shared_operations-postfix a) (shared_operations-postfix b)
shared_operations-postfix (Arithmetic.Product a b) = of_two a b operation.Multiply refl (shared_operations-postfix a) (shared_operations-postfix b)
