-- The tests of expressions that are used as conditions, by the forms of the code's tree.
use Rattle.std.proofs.Common.{◌≡◌, ◌⊎◌, ℕ, ◌+◌, ◌-◌, ◌<◌, max, List, [], ◌∷◌, ◌++◌, map, take, length, get_or, slice_get, Some, None, Result, OnOk, refl, sym, ap, subst, inl, inr, ◌∙◌, arith}
use Rattle.std.proofs.lemmas.List.{take_more, take_all, length-append, map-append}
use Rattle.std.proofs.lemmas.Result.{on_ok_weaker}
use Rattle.std.specs.Ordering.{nat_cmp, ord_max}
use Rattle.std.proofs.lemmas.Option.{get_or_from_slice_get, slice_get-get_or, slice_get_within}
use Rattle.c_tree.specs.declared.expr.EqualityMark.{EqualityMark}
use Rattle.c_tree.specs.declared.expr.EqualityKind.{EqualityKind}
use Rattle.c_tree.specs.declared.expr.EqualityKind.TheVariants as equalities
use Rattle.c_tree.specs.declared.expr.RelationMark.{RelationMark}
use Rattle.c_tree.specs.declared.expr.RelationKind.{RelationKind}
use Rattle.c_tree.specs.declared.expr.RelationKind.TheVariants as relations
use Rattle.c_tree.specs.declared.expr.SumMark.{SumMark}
use Rattle.c_tree.specs.declared.expr.SumKind.{SumKind}
use Rattle.c_tree.specs.declared.expr.SumKind.TheVariants as sums
use Rattle.c_tree.specs.declared.expr.Equality.{Equality, out-Equality}
use Rattle.c_tree.specs.declared.expr.Relation.{Relation, out-Relation}
use Rattle.c_tree.specs.declared.expr.Sum.{Sum, out-Sum}
use Rattle.c_tree.specs.declared.expr.Product.{Product, out-Product}
use Rattle.c_tree.specs.Plain as plain
use Rattle.c_tree.specs.Plain.{expr_place}
use Rattle.c_tree.specs.Seen.{and_mark, equality_mark, equality_operator, left_to_right, or_mark, plain_product, plain_relation, plain_equality, plain_sum, plain_unary, product_mark, relation_mark, relation_operator, sum_mark, sum_operator}
use Rattle.c_tree.proofs.View.{equality_out, product_out, relation_out, sum_out}
use Rattle.c_check.specs.declared.operation.Mark.{Mark}
use Rattle.c_check.specs.declared.test.TestOperation.{TestOperation}
use Rattle.c_check.specs.declared.test.TestOperation.TheVariants as test_operation
use Rattle.c_check.specs.Items.{shared_in}
use Rattle.c_check.specs.Plan.{Arithmetic, Test, postfix, test_postfix}
use Rattle.c_check.specs.Resolve.{arithmetic, not_zero, test}
use Rattle.c_check.specs.Scope.{Scopes}
use Rattle.c_check.specs.Temporaries.{test_need}
use Rattle.c_check.specs.inside.Operations.{shared_operations}
use Rattle.c_check.specs.inside.Tests.{equality_comparison, need_of, operation_need, operations_need, relation_comparison}
use Rattle.c_check.proofs.Front.{front, front-next, left_to_right-append}
use Rattle.c_check.proofs.Postfix.{arithmetic-equality, arithmetic-of_relation, arithmetic-relation, arithmetic-chain, shared_operations-postfix}

-- ---- where a chain begins

place-chain : {M : Type 0} → (mark : M → plain.Expr → plain.Expr → plain.Expr) → ((m : M) (left right : plain.Expr) → expr_place (mark m left right) ≡ expr_place left) →
    (first : plain.Expr) (more : List (M × plain.Expr)) → expr_place (left_to_right mark first more) ≡ expr_place first
place-chain mark keeps first [] = refl
place-chain mark keeps first (m ∷ more) = place-chain mark keeps (mark m.0 first m.1) more ∙ keeps m.0 first m.1

place-product : (p : Product) → expr_place (plain_product p) ≡ expr_place (plain_unary (out-Product p).first)
place-product p = ap expr_place (product_out p) ∙ place-chain product_mark (λ m left right. refl) (plain_unary (out-Product p).first) (map (λ m. (m.0, plain_unary m.1)) (out-Product p).more)

pub place-sum : (s : Sum) → expr_place (plain_sum s) ≡ expr_place (plain_unary (out-Product (out-Sum s).first).first)
place-sum s =
    ap expr_place (sum_out s) ∙ place-chain sum_mark (λ m left right. refl) (plain_product (out-Sum s).first) (map (λ m. (m.0, plain_product m.1)) (out-Sum s).more)
    ∙ place-product (out-Sum s).first

place-relation : (r : Relation) → expr_place (plain_relation r) ≡ expr_place (plain_sum (out-Relation r).first)
place-relation r = ap expr_place (relation_out r) ∙ place-chain relation_mark (λ m left right. refl) (plain_sum (out-Relation r).first) (map (λ m. (m.0, plain_sum m.1)) (out-Relation r).more)

-- ---- the last of a list

pub last-none : {X : Type 0} → (xs : List X) → slice_get xs (length xs - 1) ≡ None → xs ≡ []
last-none [] none = refl
last-none (x ∷ xs) none =
    let there : slice_get (x ∷ xs) (length (x ∷ xs) - 1) ≡ Some (get_or (x ∷ xs) (length (x ∷ xs) - 1) x) = slice_get-get_or (x ∷ xs) (length (x ∷ xs) - 1) x (omega arith) in
    absurd (cc)

pub last-some : {X : Type 0} → (xs : List X) (x : X) → slice_get xs (length xs - 1) ≡ Some x → xs ≡ take (length xs - 1) xs ++ x ∷ []
last-some xs x is =
    let within : length xs - 1 < length xs = slice_get_within xs (length xs - 1) x is in
    sym (take_all (length xs - 1 + 1) xs (omega arith)) ∙ take_more xs (length xs - 1) x within
    ∙ ap (λ y. take (length xs - 1) xs ++ y ∷ []) (get_or_from_slice_get xs (length xs - 1) x x is)

-- ---- comparisons: of several marks the last one

-- Where a mark compares, and its left operand counts as a number and by its place alone, so does the last of a chain.
compare-chain : {M A : Type 0} → (ss : Scopes) (mark : M → plain.Expr → plain.Expr → plain.Expr) (kind_of : M → Mark) →
    ((m : M) (left right : plain.Expr) → test ss (mark m left right) ≡ Test.Compare (expr_place left) (kind_of m) (arithmetic ss left) (arithmetic ss right)) →
    ((m : M) (left right : plain.Expr) → arithmetic ss (mark m left right) ≡ arithmetic ss left) →
    ((m : M) (left right : plain.Expr) → expr_place (mark m left right) ≡ expr_place left) →
    (f : A → plain.Expr) (first : plain.Expr) (before : List (M × A)) (m : M × A) →
    test ss (left_to_right mark first (map (λ x. (x.0, f x.1)) (before ++ m ∷ []))) ≡ Test.Compare (expr_place first) (kind_of m.0) (arithmetic ss first) (arithmetic ss (f m.1))
compare-chain {M = M} {A = A} ss mark kind_of law number place f first before m =
    ap (λ xs. test ss (left_to_right mark first xs)) (map-append behind before (m ∷ []))
    ∙ ap (test ss) (left_to_right-append mark first (map behind before) (behind m ∷ []))
    ∙ law m.0 (left_to_right mark first (map behind before)) (f m.1)
    ∙ ap (λ n. Test.Compare n (kind_of m.0) (arithmetic ss (left_to_right mark first (map behind before))) (arithmetic ss (f m.1))) (place-chain mark place first (map behind before))
    ∙ ap (λ a. Test.Compare (expr_place first) (kind_of m.0) a (arithmetic ss (f m.1))) (arithmetic-chain ss mark number first (map behind before))
  where
    behind : M × A → M × plain.Expr
    behind x = (x.0, f x.1)

test-equality_mark : (ss : Scopes) (m : EqualityMark) (left right : plain.Expr) →
    test ss (equality_mark m left right) ≡ Test.Compare (expr_place left) (equality_comparison m.kind) (arithmetic ss left) (arithmetic ss right)
test-equality_mark ss m left right = by_kind m.kind
  where
    by_kind : (k : EqualityKind) → test ss (plain.Expr.Binary (equality_operator k) m.from left right) ≡ Test.Compare (expr_place left) (equality_comparison k) (arithmetic ss left) (arithmetic ss right)
    by_kind equalities.Equal = refl
    by_kind equalities.Unequal = refl

test-relation_mark : (ss : Scopes) (m : RelationMark) (left right : plain.Expr) →
    test ss (relation_mark m left right) ≡ Test.Compare (expr_place left) (relation_comparison m.kind) (arithmetic ss left) (arithmetic ss right)
test-relation_mark ss m left right = by_kind m.kind
  where
    by_kind : (k : RelationKind) → test ss (plain.Expr.Binary (relation_operator k) m.from left right) ≡ Test.Compare (expr_place left) (relation_comparison k) (arithmetic ss left) (arithmetic ss right)
    by_kind relations.Less = refl
    by_kind relations.AtMost = refl
    by_kind relations.Greater = refl
    by_kind relations.AtLeast = refl

pub test-equality : (ss : Scopes) (e : Equality) (m : EqualityMark × Relation) → slice_get (out-Equality e).more (length (out-Equality e).more - 1) ≡ Some m →
    let left : plain.Expr = plain_sum (out-Relation (out-Equality e).first).first in
    test ss (plain_equality e) ≡ Test.Compare (expr_place left) (equality_comparison m.0.kind) (arithmetic ss left) (arithmetic ss (plain_sum (out-Relation m.1).first))
test-equality ss e m last =
    let first : plain.Expr = plain_relation (out-Equality e).first in
    let left : plain.Expr = plain_sum (out-Relation (out-Equality e).first).first in
    let mark : Mark = equality_comparison m.0.kind in
    let right : Arithmetic = arithmetic ss (plain_relation m.1) in
    ap (test ss) (equality_out e) ∙ ap (λ xs. test ss (left_to_right equality_mark first (map (λ x. (x.0, plain_relation x.1)) xs))) (last-some (out-Equality e).more m last)
    ∙ compare-chain ss equality_mark (λ k. equality_comparison k.kind) (test-equality_mark ss) (arithmetic-equality ss) (λ k l r. refl) plain_relation first
    (take (length (out-Equality e).more - 1) (out-Equality e).more) m
    ∙ ap (λ n. Test.Compare n mark (arithmetic ss first) right) (place-relation (out-Equality e).first)
    ∙ ap (λ a. Test.Compare (expr_place left) mark a right) (arithmetic-of_relation ss (out-Equality e).first)
    ∙ ap (λ a. Test.Compare (expr_place left) mark (arithmetic ss left) a) (arithmetic-of_relation ss m.1)

pub test-relation : (ss : Scopes) (r : Relation) (m : RelationMark × Sum) → slice_get (out-Relation r).more (length (out-Relation r).more - 1) ≡ Some m →
    let left : plain.Expr = plain_sum (out-Relation r).first in
    test ss (plain_relation r) ≡ Test.Compare (expr_place left) (relation_comparison m.0.kind) (arithmetic ss left) (arithmetic ss (plain_sum m.1))
test-relation ss r m last =
    let left : plain.Expr = plain_sum (out-Relation r).first in
    ap (test ss) (relation_out r) ∙ ap (λ xs. test ss (left_to_right relation_mark left (map (λ x. (x.0, plain_sum x.1)) xs))) (last-some (out-Relation r).more m last)
    ∙ compare-chain ss relation_mark (λ k. relation_comparison k.kind) (test-relation_mark ss) (arithmetic-relation ss) (λ k l r. refl) plain_sum left
    (take (length (out-Relation r).more - 1) (out-Relation r).more) m

-- without a mark
pub equality-alone : (e : Equality) → slice_get (out-Equality e).more (length (out-Equality e).more - 1) ≡ None → plain_equality e ≡ plain_relation (out-Equality e).first
equality-alone e none =
    equality_out e ∙ ap (λ xs. left_to_right equality_mark (plain_relation (out-Equality e).first) (map (λ x. (x.0, plain_relation x.1)) xs)) (last-none (out-Equality e).more none)

pub relation-alone : (r : Relation) → slice_get (out-Relation r).more (length (out-Relation r).more - 1) ≡ None → plain_relation r ≡ plain_sum (out-Relation r).first
relation-alone r none =
    relation_out r ∙ ap (λ xs. left_to_right relation_mark (plain_sum (out-Relation r).first) (map (λ x. (x.0, plain_sum x.1)) xs)) (last-none (out-Relation r).more none)

-- ---- sums: what is no operand alone is tested for not being 0

abbrev pub IsNumberTest : Scopes → plain.Expr → Type 0
IsNumberTest ss e = test ss e ≡ not_zero (expr_place e) (arithmetic ss e)

number-chain : {M A : Type 0} → (ss : Scopes) (mark : M → plain.Expr → plain.Expr → plain.Expr) → ((m : M) (left right : plain.Expr) → IsNumberTest ss (mark m left right)) →
    (f : A → plain.Expr) (first : plain.Expr) (m : M × A) (more : List (M × A)) → IsNumberTest ss (left_to_right mark first (map (λ x. (x.0, f x.1)) (m ∷ more)))
number-chain ss mark law f first m [] = law m.0 first (f m.1)
number-chain ss mark law f first m (n ∷ more) = number-chain ss mark law f (mark m.0 first (f m.1)) n more

number-some : {M A : Type 0} → (ss : Scopes) (mark : M → plain.Expr → plain.Expr → plain.Expr) → ((m : M) (left right : plain.Expr) → IsNumberTest ss (mark m left right)) →
    (f : A → plain.Expr) (first : plain.Expr) (more : List (M × A)) → ¬ (more ≡ []) → IsNumberTest ss (left_to_right mark first (map (λ x. (x.0, f x.1)) more))
number-some ss mark law f first [] some = absurd (some refl)
number-some ss mark law f first (m ∷ more) some = number-chain ss mark law f first m more

number-sum_mark : (ss : Scopes) (m : SumMark) (left right : plain.Expr) → IsNumberTest ss (sum_mark m left right)
number-sum_mark ss m left right = by_kind m.kind
  where
    by_kind : (k : SumKind) → IsNumberTest ss (plain.Expr.Binary (sum_operator k) m.from left right)
    by_kind sums.Plus = refl
    by_kind sums.Minus = refl

none_or_some : {X : Type 0} → (xs : List X) → (xs ≡ []) ⊎ ¬ (xs ≡ [])
none_or_some [] = inl refl
none_or_some (x ∷ xs) = inr (λ is. absurd (cc))

product-alone : (p : Product) → (out-Product p).more ≡ [] → plain_product p ≡ plain_unary (out-Product p).first
product-alone p none = product_out p ∙ ap (λ xs. left_to_right product_mark (plain_unary (out-Product p).first) (map (λ x. (x.0, plain_unary x.1)) xs)) none

sum-alone : (s : Sum) → (out-Sum s).more ≡ [] → plain_sum s ≡ plain_product (out-Sum s).first
sum-alone s none = sum_out s ∙ ap (λ xs. left_to_right sum_mark (plain_product (out-Sum s).first) (map (λ x. (x.0, plain_product x.1)) xs)) none

pub operand-alone : (s : Sum) → (out-Product (out-Sum s).first).more ≡ [] → (out-Sum s).more ≡ [] → plain_sum s ≡ plain_unary (out-Product (out-Sum s).first).first
operand-alone s none_inside none = sum-alone s none ∙ product-alone (out-Sum s).first none_inside

pub number-sum : (ss : Scopes) (s : Sum) → ¬ (((out-Product (out-Sum s).first).more ≡ []) × ((out-Sum s).more ≡ [])) → IsNumberTest ss (plain_sum s)
number-sum ss s some = elim (none_or_some (out-Sum s).more) [
  | inl none ↦ subst (IsNumberTest ss) (sym (sum-alone s none))
      (subst (IsNumberTest ss) (sym (product_out (out-Sum s).first))
      (number-some ss product_mark (λ m left right. refl) plain_unary (plain_unary (out-Product (out-Sum s).first).first) (out-Product (out-Sum s).first).more (λ inside. some (inside, none))))
  | inr more ↦ subst (IsNumberTest ss) (sym (sum_out s)) (number-some ss sum_mark (number-sum_mark ss) plain_product (plain_product (out-Sum s).first) (out-Sum s).more more)
]

-- ---- `||` and `&&`

pub test_postfix-next_or : {A : Type 0} → (ss : Scopes) (f : A → plain.Expr) (first : plain.Expr) (more : List (ℕ × A)) (i : ℕ) (m : ℕ × A) → i < length more → get_or more i m ≡ m →
    test_postfix (test ss (front or_mark f first more i)) ++ test_postfix (test ss (f m.1)) ++ test_operation.Or ∷ [] ≡ test_postfix (test ss (front or_mark f first more (i + 1)))
test_postfix-next_or ss f first more i m within at = sym (ap (λ e. test_postfix (test ss e)) (front-next or_mark f first more i m within at))

pub test_postfix-next_and : {A : Type 0} → (ss : Scopes) (f : A → plain.Expr) (first : plain.Expr) (more : List (ℕ × A)) (i : ℕ) (m : ℕ × A) → i < length more → get_or more i m ≡ m →
    test_postfix (test ss (front and_mark f first more i)) ++ test_postfix (test ss (f m.1)) ++ test_operation.And ∷ [] ≡ test_postfix (test ss (front and_mark f first more (i + 1)))
test_postfix-next_and ss f first more i m within at = sym (ap (λ e. test_postfix (test ss e)) (front-next and_mark f first more i m within at))

-- Tests that are appended, by another way to say which.
pub tests-same : {T E : Type 0} → (r : Result T E) (new old : List TestOperation) (t u : Test) → t ≡ u → OnOk r (new ≡ old ++ test_postfix t) → OnOk r (new ≡ old ++ test_postfix u)
tests-same r new old t u same = on_ok_weaker r (λ is. is ∙ ap (λ x. old ++ test_postfix x) same)

-- ---- temporaries

operations_need-append : (xs ys : List TestOperation) → operations_need (xs ++ ys) ≡ max (operations_need xs) (operations_need ys)
operations_need-append [] ys = omega arith
operations_need-append (x ∷ xs) ys = let rest : operations_need (xs ++ ys) ≡ max (operations_need xs) (operations_need ys) = operations_need-append xs ys in omega arith

pub operations_need-next : (xs : List TestOperation) (i : ℕ) (x : TestOperation) → i < length xs → get_or xs i x ≡ x → operations_need (take (i + 1) xs) ≡ max (operations_need (take i xs)) (operation_need x)
operations_need-next xs i x within at =
    ap operations_need (take_more xs i x within ∙ ap (λ y. take i xs ++ y ∷ []) at) ∙ operations_need-append (take i xs) (x ∷ []) ∙ omega arith

pub operations_need-postfix : (t : Test) → operations_need (test_postfix t) ≡ test_need t
operations_need-postfix (Test.Compare from m a b) =
    let reads : shared_operations (postfix a) + shared_operations (postfix b) ≡ length (shared_in a ++ shared_in b) =
    omega (arith, shared_operations-postfix a, shared_operations-postfix b, length-append (shared_in a) (shared_in b)) in
    let one : max (need_of (shared_operations (postfix a) + shared_operations (postfix b))) 0 ≡ need_of (shared_operations (postfix a) + shared_operations (postfix b)) = omega arith in
    one ∙ ap need_of reads
operations_need-postfix (Test.Not t) = operations_need-append (test_postfix t) (test_operation.Not ∷ []) ∙ omega (arith, operations_need-postfix t)
operations_need-postfix (Test.And t u) =
    operations_need-append (test_postfix t ++ test_postfix u) (test_operation.And ∷ [])
    ∙ omega (arith, operations_need-append (test_postfix t) (test_postfix u), operations_need-postfix t, operations_need-postfix u)
operations_need-postfix (Test.Or t u) =
    operations_need-append (test_postfix t ++ test_postfix u) (test_operation.Or ∷ [])
    ∙ omega (arith, operations_need-append (test_postfix t) (test_postfix u), operations_need-postfix t, operations_need-postfix u)

pub ord_max-max : (a b : ℕ) → ord_max nat_cmp a b ≡ max a b
ord_max-max a b = grind arith
