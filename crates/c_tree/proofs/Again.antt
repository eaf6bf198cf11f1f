-- What stands in the text is read.
use Rattle.std.proofs.Common.{◌≡◌, ℕ, zero, suc, ℤ, ◌+◌, ◌<◌, ◌≤◌, true, List, [], ◌∷◌, length, Option, Some, None, Ok, refl, sym, ap, ◌∙◌, arith}
use Rattle.c_lex.specs.Tokens.{Lexeme}
use Rattle.c_tree.specs.declared.term.Term.{Term}
use Rattle.c_tree.specs.declared.term.Term.TheVariants as terms
use Rattle.c_tree.specs.declared.expr.Name.{Name}
use Rattle.c_tree.specs.declared.expr.EqualityKind.{EqualityKind}
use Rattle.c_tree.specs.declared.expr.EqualityKind.TheVariants as equalities
use Rattle.c_tree.specs.declared.expr.RelationKind.{RelationKind}
use Rattle.c_tree.specs.declared.expr.RelationKind.TheVariants as relations
use Rattle.c_tree.specs.declared.expr.SumKind.{SumKind}
use Rattle.c_tree.specs.declared.expr.SumKind.TheVariants as sums
use Rattle.c_tree.specs.declared.expr.Unary.{Unary, out-Unary, roll-Unary, roll-out-Unary}
use Rattle.c_tree.specs.declared.expr.Unary.TheVariants as unaries
use Rattle.c_tree.specs.declared.expr.Unary.TheOpen.{Unary-F}
use Rattle.c_tree.specs.declared.expr.UnaryKind.{UnaryKind}
use Rattle.c_tree.specs.declared.expr.UnaryKind.TheVariants as signs
use Rattle.c_tree.specs.declared.expr.Product.{Product, roll-Product, out-Product, roll-out-Product}
use Rattle.c_tree.specs.declared.expr.Sum.{Sum, roll-Sum, out-Sum, roll-out-Sum}
use Rattle.c_tree.specs.declared.expr.Relation.{Relation, roll-Relation, out-Relation, roll-out-Relation}
use Rattle.c_tree.specs.declared.expr.Equality.{Equality, roll-Equality, out-Equality, roll-out-Equality}
use Rattle.c_tree.specs.declared.expr.Conjunction.{Conjunction, roll-Conjunction, out-Conjunction, roll-out-Conjunction}
use Rattle.c_tree.specs.declared.expr.Expr.{Expr, roll-Expr, out-Expr, roll-out-Expr}
use denote.Enum.Bare.{true_same}
use Rattle.c_tree.specs.contracts.term.Term.{the_type}
use Rattle.c_tree.specs.Term.{same_term}
use Rattle.c_tree.specs.inside.Input.{Input, Outcome, Parser, and_then, peek, place, bytes, bytes_at, next, sees, expect, term_at}
use Rattle.c_tree.specs.inside.Chain.{mark_at, more_from, more_of}
use Rattle.c_tree.specs.inside.Expr as spec
use Rattle.c_tree.specs.Grammar.{Is, Stands, StartsAt, AreMore, IsLevel, IsOrMark, IsAndMark, IsEqualityMark, IsRelationMark, IsSumMark, IsProductMark, IsProduct, IsSum, IsRelation, IsEquality, IsConjunction, IsExprOver, IsName, IsLayer, IsUnary, IsExpr, equality_term, relation_term, sum_term, sign_term, binds}
use Rattle.c_tree.proofs.Shrinks.{Shrinks, product_shrinks, sum_shrinks, relation_shrinks, equality_shrinks, conjunction_shrinks, unary_shrinks}

-- tokens of a text that ends there
abbrev pub at : List Lexeme → ℕ → Input
at ts end = record { tokens = ts; end = end }

-- What stands in front of something that binds less is read.
abbrev pub Again : {A : Type 0} → Parser A → (A → List Lexeme → List Lexeme → Type 0) → ℕ → Type 0
Again {A} p IsItem k = (end : ℕ) (x : A) (ts rest : List Lexeme) → IsItem x ts rest → binds (term_at rest) < k → p (at ts end) ≡ Ok (x, at rest end)

-- ---- tokens

pub is_peek : (k : Term) (from end : ℕ) (ts rest : List Lexeme) → Is k from ts rest → peek (at ts end) ≡ k
unfolding peek
is_peek k from end [] rest is = absurd is
is_peek k from end (t ∷ ts) rest is = is.0

pub is_place : (k : Term) (from end : ℕ) (ts rest : List Lexeme) → Is k from ts rest → place (at ts end) ≡ from
unfolding place
is_place k from end [] rest is = absurd is
is_place k from end (t ∷ ts) rest is = is.1

pub is_behind : (k : Term) (from end : ℕ) (ts rest : List Lexeme) → Is k from ts rest → next (at ts end) ≡ at rest end
unfolding next
is_behind k from end [] rest is = absurd is
is_behind k from end (t ∷ ts) rest is = ap (λ (l : List Lexeme). at l end) is.2

pub is_term : (k : Term) (from : ℕ) (ts rest : List Lexeme) → Is k from ts rest → term_at ts ≡ k
is_term k from [] rest is = absurd is
is_term k from (t ∷ ts) rest is = is.0

pub is_longer : (k : Term) (from : ℕ) (ts rest : List Lexeme) → Is k from ts rest → length rest + 1 ≡ length ts
is_longer k from [] rest is = absurd is
is_longer k from (t ∷ ts) rest is = (let same = ap (λ (l : List Lexeme). length l) is.2 in omega arith)

pub starts_place : (from end : ℕ) (ts : List Lexeme) → StartsAt from ts → place (at ts end) ≡ from
unfolding place
starts_place from end [] starts = absurd starts
starts_place from end (t ∷ ts) starts = starts

-- ---- items with marks between them

pub record IsMarkOf {M : Type 0} (mark : Term → ℕ → Option M) (IsMark : M → List Lexeme → List Lexeme → Type 0) (k : ℕ) : Type 0 where
  pub found : (end : ℕ) (m : M) (ts behind : List Lexeme) → IsMark m ts behind → mark_at mark (at ts end) ≡ Some m
  pub behind_it : (end : ℕ) (m : M) (ts behind : List Lexeme) → IsMark m ts behind → next (at ts end) ≡ at behind end
  pub binds_so : (m : M) (ts behind : List Lexeme) → IsMark m ts behind → binds (term_at ts) ≡ k
  pub longer : (m : M) (ts behind : List Lexeme) → IsMark m ts behind → length behind + 1 ≡ length ts
  pub none : (t : Term) (from : ℕ) → binds t < k → mark t from ≡ None

module _ {M A : Type 0} (mark : Term → ℕ → Option M) (item : Parser A) (IsMark : M → List Lexeme → List Lexeme → Type 0) (IsItem : A → List Lexeme → List Lexeme → Type 0) (k : ℕ)
    (marks : IsMarkOf mark IsMark k) (again : Again item IsItem (suc k)) (shrinks : Shrinks item) where
  -- what stands behind an item binds no tighter than the marks
  behind_item : (more : List (M × A)) (after rest : List Lexeme) → AreMore IsMark IsItem more after rest → binds (term_at rest) < k → binds (term_at after) < suc k
  behind_item [] after rest are lt = (let same = ap (λ (l : List Lexeme). binds (term_at l)) are in omega arith)
  behind_item (p ∷ more) after rest are lt = (let b = marks.binds_so p.0 after are.0 are.2 in omega arith)

  none_at : (end : ℕ) (ts rest : List Lexeme) → ts ≡ rest → binds (term_at rest) < k → mark_at mark (at ts end) ≡ None
  unfolding peek
  none_at end ts rest same lt = marks.none (term_at ts) _ (let b = ap (λ (l : List Lexeme). binds (term_at l)) same in omega arith)

  more_from_again : (n end : ℕ) (more : List (M × A)) (ts rest : List Lexeme) → length ts ≤ n → AreMore IsMark IsItem more ts rest → binds (term_at rest) < k → more_from mark item n (at ts end) ≡ Ok (more, at rest end)
  unfolding more_from
  more_from_again zero end [] ts rest le are lt = ap (λ (l : List Lexeme). Ok ([], at l end)) are
  more_from_again (suc n) end [] ts rest le are lt = rw (none_at end ts rest are lt) (ap (λ (l : List Lexeme). Ok ([], at l end)) are)
  more_from_again zero end (p ∷ more) ts rest le are lt = absurd (omega (arith, marks.longer p.0 ts are.0 are.2))
  more_from_again (suc n) end (p ∷ more) ts rest le are lt =
      let x-read : item (at are.0 end) ≡ Ok (p.1, at are.1 end) = again end p.1 are.0 are.1 are.3 (behind_item more are.1 rest are.4 lt) in
      let shorter = shrinks _ _ _ x-read in
      let step = marks.behind_it end p.0 ts are.0 are.2 in
      let fewer = marks.longer p.0 ts are.0 are.2 in
      let others = more_from_again n end more are.1 rest (omega arith) are.4 lt in
      rw (marks.found end p.0 ts are.0 are.2, step, x-read, others) refl

  more_again : (end : ℕ) (more : List (M × A)) (ts rest : List Lexeme) → AreMore IsMark IsItem more ts rest → binds (term_at rest) < k → more_of mark item (at ts end) ≡ Ok (more, at rest end)
  unfolding more_of
  more_again end more ts rest are lt = more_from_again (length ts) end more ts rest (omega arith) are lt

  level_again : {B : Type 0} (made : ℕ → A → List (M × A) → B) (end from : ℕ) (first : A) (more : List (M × A)) (ts rest : List Lexeme) → IsLevel IsMark IsItem from first more ts rest → binds (term_at rest) < k
      → and_then (item (at ts end)) (λ x. λ l. and_then (more_of mark item l) (λ xs. λ j. Ok (made (place (at ts end)) x xs, j))) ≡ Ok (made from first more, at rest end)
  level_again made end from first more ts rest level lt =
      rw (again end first ts level.1 level.2 (behind_item more level.1 rest level.3 lt), more_again end more level.1 rest level.3 lt, starts_place from end ts level.0) refl

-- ---- the marks

pub no_product_mark : (t : Term) (from : ℕ) → binds t < 6 → spec.product_mark t from ≡ None
no_product_mark terms.Star from lt = absurd (omega arith)
no_product_mark _ from lt = refl

product_marks : IsMarkOf spec.product_mark IsProductMark 6
product_marks = record {
  found = λ end m ts behind is. rw (is_peek terms.Star m end ts behind is, is_place terms.Star m end ts behind is) (refl);
  behind_it = λ end m ts behind is. is_behind terms.Star m end ts behind is;
  binds_so = λ m ts behind is. ap binds (is_term terms.Star m ts behind is) ∙ refl;
  longer = λ m ts behind is. is_longer terms.Star m ts behind is;
  none = no_product_mark;
}

pub no_and_mark : (t : Term) (from : ℕ) → binds t < 2 → spec.and_mark t from ≡ None
no_and_mark terms.And from lt = absurd (omega arith)
no_and_mark _ from lt = refl

and_marks : IsMarkOf spec.and_mark IsAndMark 2
and_marks = record {
  found = λ end m ts behind is. rw (is_peek terms.And m end ts behind is, is_place terms.And m end ts behind is) (refl);
  behind_it = λ end m ts behind is. is_behind terms.And m end ts behind is;
  binds_so = λ m ts behind is. ap binds (is_term terms.And m ts behind is) ∙ refl;
  longer = λ m ts behind is. is_longer terms.And m ts behind is;
  none = no_and_mark;
}

pub no_or_mark : (t : Term) (from : ℕ) → binds t < 1 → spec.or_mark t from ≡ None
no_or_mark terms.Or from lt = absurd (omega arith)
no_or_mark _ from lt = refl

or_marks : IsMarkOf spec.or_mark IsOrMark 1
or_marks = record {
  found = λ end m ts behind is. rw (is_peek terms.Or m end ts behind is, is_place terms.Or m end ts behind is) (refl);
  behind_it = λ end m ts behind is. is_behind terms.Or m end ts behind is;
  binds_so = λ m ts behind is. ap binds (is_term terms.Or m ts behind is) ∙ refl;
  longer = λ m ts behind is. is_longer terms.Or m ts behind is;
  none = no_or_mark;
}

pub no_sum_mark : (t : Term) (from : ℕ) → binds t < 5 → spec.sum_mark t from ≡ None
no_sum_mark terms.Plus from lt = absurd (omega arith)
no_sum_mark terms.Minus from lt = absurd (omega arith)
no_sum_mark _ from lt = refl

sum_mark_is : (kind : SumKind) (from : ℕ) → spec.sum_mark (sum_term kind) from ≡ Some (record { from = from; kind = kind })
sum_mark_is sums.Plus from = refl
sum_mark_is sums.Minus from = refl

sum_mark_binds : (kind : SumKind) → binds (sum_term kind) ≡ 5
sum_mark_binds sums.Plus = refl
sum_mark_binds sums.Minus = refl

sum_marks : IsMarkOf spec.sum_mark IsSumMark 5
sum_marks = record {
  found = λ end m ts behind is. rw (is_peek (sum_term m.kind) m.from end ts behind is, is_place (sum_term m.kind) m.from end ts behind is) (sum_mark_is m.kind m.from);
  behind_it = λ end m ts behind is. is_behind (sum_term m.kind) m.from end ts behind is;
  binds_so = λ m ts behind is. ap binds (is_term (sum_term m.kind) m.from ts behind is) ∙ sum_mark_binds m.kind;
  longer = λ m ts behind is. is_longer (sum_term m.kind) m.from ts behind is;
  none = no_sum_mark;
}

pub no_relation_mark : (t : Term) (from : ℕ) → binds t < 4 → spec.relation_mark t from ≡ None
no_relation_mark terms.Less from lt = absurd (omega arith)
no_relation_mark terms.AtMost from lt = absurd (omega arith)
no_relation_mark terms.Greater from lt = absurd (omega arith)
no_relation_mark terms.AtLeast from lt = absurd (omega arith)
no_relation_mark _ from lt = refl

relation_mark_is : (kind : RelationKind) (from : ℕ) → spec.relation_mark (relation_term kind) from ≡ Some (record { from = from; kind = kind })
relation_mark_is relations.Less from = refl
relation_mark_is relations.AtMost from = refl
relation_mark_is relations.Greater from = refl
relation_mark_is relations.AtLeast from = refl

relation_mark_binds : (kind : RelationKind) → binds (relation_term kind) ≡ 4
relation_mark_binds relations.Less = refl
relation_mark_binds relations.AtMost = refl
relation_mark_binds relations.Greater = refl
relation_mark_binds relations.AtLeast = refl

relation_marks : IsMarkOf spec.relation_mark IsRelationMark 4
relation_marks = record {
  found = λ end m ts behind is. rw (is_peek (relation_term m.kind) m.from end ts behind is, is_place (relation_term m.kind) m.from end ts behind is) (relation_mark_is m.kind m.from);
  behind_it = λ end m ts behind is. is_behind (relation_term m.kind) m.from end ts behind is;
  binds_so = λ m ts behind is. ap binds (is_term (relation_term m.kind) m.from ts behind is) ∙ relation_mark_binds m.kind;
  longer = λ m ts behind is. is_longer (relation_term m.kind) m.from ts behind is;
  none = no_relation_mark;
}

pub no_equality_mark : (t : Term) (from : ℕ) → binds t < 3 → spec.equality_mark t from ≡ None
no_equality_mark terms.Equal from lt = absurd (omega arith)
no_equality_mark terms.Unequal from lt = absurd (omega arith)
no_equality_mark _ from lt = refl

equality_mark_is : (kind : EqualityKind) (from : ℕ) → spec.equality_mark (equality_term kind) from ≡ Some (record { from = from; kind = kind })
equality_mark_is equalities.Equal from = refl
equality_mark_is equalities.Unequal from = refl

equality_mark_binds : (kind : EqualityKind) → binds (equality_term kind) ≡ 3
equality_mark_binds equalities.Equal = refl
equality_mark_binds equalities.Unequal = refl

equality_marks : IsMarkOf spec.equality_mark IsEqualityMark 3
equality_marks = record {
  found = λ end m ts behind is. rw (is_peek (equality_term m.kind) m.from end ts behind is, is_place (equality_term m.kind) m.from end ts behind is) (equality_mark_is m.kind m.from);
  behind_it = λ end m ts behind is. is_behind (equality_term m.kind) m.from end ts behind is;
  binds_so = λ m ts behind is. ap binds (is_term (equality_term m.kind) m.from ts behind is) ∙ equality_mark_binds m.kind;
  longer = λ m ts behind is. is_longer (equality_term m.kind) m.from ts behind is;
  none = no_equality_mark;
}

-- ---- each level

module _ (unary : Parser Unary) (IsOperand : Unary → List Lexeme → List Lexeme → Type 0) (again : Again unary IsOperand 7) (shrinks : Shrinks unary) where
  pub product_again : Again (spec.product unary) (IsProduct IsOperand) 6
  unfolding spec.product
  product_again end x ts rest is lt =
      level_again spec.product_mark unary IsProductMark IsOperand 6 product_marks again shrinks (λ from first more. roll-Product (record { from = from; first = first; more = more })) end (out-Product x).from (out-Product x).first (out-Product x).more ts rest is lt
      ∙ ap (λ (y : Product). Ok (y, at rest end)) (roll-out-Product x)

  pub sum_again : Again (spec.sum unary) (IsSum IsOperand) 5
  unfolding spec.sum
  sum_again end x ts rest is lt =
      level_again spec.sum_mark (spec.product unary) IsSumMark (IsProduct IsOperand) 5 sum_marks product_again (product_shrinks unary shrinks) (λ from first more. roll-Sum (record { from = from; first = first; more = more })) end (out-Sum x).from (out-Sum x).first (out-Sum x).more ts rest is lt
      ∙ ap (λ (y : Sum). Ok (y, at rest end)) (roll-out-Sum x)

  pub relation_again : Again (spec.relation unary) (IsRelation IsOperand) 4
  unfolding spec.relation
  relation_again end x ts rest is lt =
      level_again spec.relation_mark (spec.sum unary) IsRelationMark (IsSum IsOperand) 4 relation_marks sum_again (sum_shrinks unary shrinks) (λ from first more. roll-Relation (record { from = from; first = first; more = more })) end (out-Relation x).from (out-Relation x).first (out-Relation x).more ts rest is lt
      ∙ ap (λ (y : Relation). Ok (y, at rest end)) (roll-out-Relation x)

  pub equality_again : Again (spec.equality unary) (IsEquality IsOperand) 3
  unfolding spec.equality
  equality_again end x ts rest is lt =
      level_again spec.equality_mark (spec.relation unary) IsEqualityMark (IsRelation IsOperand) 3 equality_marks relation_again (relation_shrinks unary shrinks) (λ from first more. roll-Equality (record { from = from; first = first; more = more })) end (out-Equality x).from (out-Equality x).first (out-Equality x).more ts rest is lt
      ∙ ap (λ (y : Equality). Ok (y, at rest end)) (roll-out-Equality x)

  pub conjunction_again : Again (spec.conjunction unary) (IsConjunction IsOperand) 2
  unfolding spec.conjunction
  conjunction_again end x ts rest is lt =
      level_again spec.and_mark (spec.equality unary) IsAndMark (IsEquality IsOperand) 2 and_marks equality_again (equality_shrinks unary shrinks) (λ from first more. roll-Conjunction (record { from = from; first = first; more = more })) end (out-Conjunction x).from (out-Conjunction x).first (out-Conjunction x).more ts rest is lt
      ∙ ap (λ (y : Conjunction). Ok (y, at rest end)) (roll-out-Conjunction x)

  pub expr_over_again : Again (spec.expr_over unary) (IsExprOver IsOperand) 1
  unfolding spec.expr_over
  expr_over_again end x ts rest is lt =
      level_again spec.or_mark (spec.conjunction unary) IsOrMark (IsConjunction IsOperand) 1 or_marks conjunction_again (conjunction_shrinks unary shrinks) (λ from first more. roll-Expr (record { from = from; first = first; more = more })) end (out-Expr x).from (out-Expr x).first (out-Expr x).more ts rest is lt
      ∙ ap (λ (y : Expr). Ok (y, at rest end)) (roll-out-Expr x)

-- ---- names, numbers and operands

pub same_self : (k : Term) → same_term k k ≡ true
unfolding same_term
same_self k = true_same the_type k k refl

pub is_seen : (k : Term) (from end : ℕ) (ts rest : List Lexeme) → Is k from ts rest → sees k (at ts end) ≡ true
unfolding sees
is_seen k from end ts rest is = ap (λ (t : Term). same_term t k) (is_peek k from end ts rest is) ∙ same_self k

pub expect_again : (k : Term) (from end : ℕ) (ts rest : List Lexeme) → Is k from ts rest → expect k (at ts end) ≡ Ok (from, at rest end)
unfolding expect
expect_again k from end ts rest is = rw (is_seen k from end ts rest is, is_place k from end ts rest is, is_behind k from end ts rest is) refl

pub name_again : (end : ℕ) (name : Name) (ts rest : List Lexeme) → IsName name ts rest → spec.name (at ts end) ≡ Ok (name, at rest end)
unfolding spec.name bytes
name_again end name ts rest is = rw (expect_again terms.Name name.from end ts rest is.0, is.1) refl

pub number_again : (from end : ℕ) (value : ℤ) (ts rest : List Lexeme) → Is terms.Number from ts rest → spec.number_value (bytes_at ts) ≡ Some value → spec.number (at ts end) ≡ Ok (value, at rest end)
unfolding spec.number bytes
number_again from end value ts rest is same = rw (same, expect_again terms.Number from end ts rest is) refl

-- the operand that a layer makes
made_of : (u : Unary) (layer : _) (made : Unary) → out-Unary u ≡ layer → made ≡ roll-Unary layer → made ≡ u
made_of u layer made is rolls = rolls ∙ ap roll-Unary (sym is) ∙ roll-out-Unary u

gives : (u made : Unary) (r : Outcome Unary) (rest : Input) → made ≡ u → r ≡ Ok (made, rest) → r ≡ Ok (u, rest)
gives u made r rest same e = e ∙ ap (λ (x : Unary). Ok (x, rest)) same

module _ (deeper : Option (Parser Unary)) where
  number_operand_again : (u : Unary) (end from : ℕ) (value : ℤ) (ts rest : List Lexeme) → out-Unary u ≡ Unary-F.Number from value → Is terms.Number from ts rest → spec.number_value (bytes_at ts) ≡ Some value → spec.unary_with deeper (at ts end) ≡ Ok (u, at rest end)
  unfolding spec.unary_with
  number_operand_again u end from value ts rest layer is same =
      gives u (unaries.Number from value) _ (at rest end) (made_of u _ (unaries.Number from value) layer (sym (unaries.rolls-Number from value)))
      (rw (is_peek terms.Number from end ts rest is, is_place terms.Number from end ts rest is, number_again from end value ts rest is same) refl)

  name_operand_again : (u : Unary) (end : ℕ) (name : Name) (ts rest : List Lexeme) → out-Unary u ≡ Unary-F.Name name → IsName name ts rest → spec.unary_with deeper (at ts end) ≡ Ok (u, at rest end)
  unfolding spec.unary_with
  name_operand_again u end name ts rest layer is =
      gives u (unaries.Name name) _ (at rest end) (made_of u _ (unaries.Name name) layer (sym (unaries.rolls-Name name)))
      (rw (is_peek terms.Name name.from end ts rest is.0, name_again end name ts rest is) refl)

operated_by : (deeper : Option (Parser Unary)) (kind : UnaryKind) → spec.unary_by deeper (sign_term kind) ≡ spec.operated deeper kind
operated_by deeper signs.Minus = refl
operated_by deeper signs.Plus = refl
operated_by deeper signs.Not = refl

module _ (unary : Parser Unary) (Inner : Unary → List Lexeme → List Lexeme → Type 0) (again : Again unary Inner 7) (shrinks : Shrinks unary) where
  operated_again : (u : Unary) (end from : ℕ) (kind : UnaryKind) (operand : Unary) (ts behind rest : List Lexeme) → out-Unary u ≡ Unary-F.Operator from kind operand → Is (sign_term kind) from ts behind → Inner operand behind rest → binds (term_at rest) < 7
      → spec.unary_with (Some unary) (at ts end) ≡ Ok (u, at rest end)
  unfolding spec.unary_with
  operated_again u end from kind operand ts behind rest layer is inner lt =
      gives u (unaries.Operator from kind operand) _ (at rest end) (made_of u _ (unaries.Operator from kind operand) layer (sym (unaries.rolls-Operator from kind operand)))
      (rw (is_peek (sign_term kind) from end ts behind is, operated_by (Some unary) kind, is_place (sign_term kind) from end ts behind is, is_behind (sign_term kind) from end ts behind is, again end operand behind rest inner lt) refl)

  parenthesized_again : (u : Unary) (end from : ℕ) (inner : Expr) (ts behind last rest : List Lexeme) → out-Unary u ≡ Unary-F.Paren from inner → Is terms.LeftParen from ts behind → IsExprOver Inner inner behind last → Stands terms.RightParen last rest
      → spec.unary_with (Some unary) (at ts end) ≡ Ok (u, at rest end)
  unfolding spec.unary_with
  parenthesized_again u end from inner ts behind last rest layer is in_it closed =
      let follows : binds (term_at last) < 1 = rw (is_term terms.RightParen closed.0 last rest closed.1) (omega arith) in
      gives u (unaries.Paren from inner) _ (at rest end) (made_of u _ (unaries.Paren from inner) layer (sym (unaries.rolls-Paren from inner)))
      (rw (is_peek terms.LeftParen from end ts behind is, is_place terms.LeftParen from end ts behind is, is_behind terms.LeftParen from end ts behind is, expr_over_again unary Inner again shrinks end inner behind last in_it follows, expect_again terms.RightParen closed.0 end last rest closed.1) refl)

  layer_again : (u : Unary) (end : ℕ) (layer : Unary-F Unary Conjunction Equality Expr Product Relation Sum) (ts rest : List Lexeme) → out-Unary u ≡ layer → IsLayer Inner layer ts rest → binds (term_at rest) < 7 → spec.unary_with (Some unary) (at ts end) ≡ Ok (u, at rest end)
  layer_again u end (Unary-F.Operator from kind operand) ts rest is holds lt = operated_again u end from kind operand ts holds.0 rest is holds.1 holds.2 lt
  layer_again u end (Unary-F.Paren from inner) ts rest is holds lt = parenthesized_again u end from inner ts holds.0 holds.1 rest is holds.2 holds.3 holds.4
  layer_again u end (Unary-F.Number from value) ts rest is holds lt = number_operand_again (Some unary) u end from value ts rest is holds.0 holds.1
  layer_again u end (Unary-F.Name name) ts rest is holds lt = name_operand_again (Some unary) u end name ts rest is holds

leaf_again : (u : Unary) (end : ℕ) (layer : Unary-F Unary Conjunction Equality Expr Product Relation Sum) (ts rest : List Lexeme) → out-Unary u ≡ layer → IsLayer (λ inner ts rest. ⊥) layer ts rest → spec.unary_with None (at ts end) ≡ Ok (u, at rest end)
leaf_again u end (Unary-F.Operator from kind operand) ts rest is holds = absurd holds.2
leaf_again u end (Unary-F.Paren from inner) ts rest is holds = absurd holds.3.2.2.2.2.2.2
leaf_again u end (Unary-F.Number from value) ts rest is holds = number_operand_again None u end from value ts rest is holds.0 holds.1
leaf_again u end (Unary-F.Name name) ts rest is holds = name_operand_again None u end name ts rest is holds

pub unary_again : (levels : ℕ) → Again (spec.unary levels) (IsUnary levels) 7
unfolding spec.unary
unary_again zero end u ts rest is lt = leaf_again u end (out-Unary u) ts rest refl is
unary_again (suc levels) end u ts rest is lt = layer_again (spec.unary levels) (IsUnary levels) (unary_again levels) (unary_shrinks levels) u end (out-Unary u) ts rest refl is lt

pub expr_again : (levels : ℕ) → Again (spec.expr levels) (IsExpr levels) 1
expr_again levels = expr_over_again (spec.unary levels) (IsUnary levels) (unary_again levels) (unary_shrinks levels)
