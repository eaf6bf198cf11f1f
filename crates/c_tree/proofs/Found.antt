-- What is read stands in the text.
use Rattle.std.proofs.Common.{◌≡◌, ℕ, zero, suc, ℤ, rules, ◌<◌, Bool, true, false, cond, List, [], ◌∷◌, length, drop, Option, Some, None, Ok, Err, refl, sym, ap, subst, ◌∙◌, arith}
use Rattle.c_lex.specs.Tokens.{Lexeme}
use Rattle.c_tree.specs.declared.term.Term.{Term}
use Rattle.c_tree.specs.declared.term.Term.TheVariants as terms
use Rattle.c_tree.specs.declared.expr.Name.{Name}
use Rattle.c_tree.specs.declared.expr.Expr.{roll-Expr, out-roll-Expr}
use Rattle.c_tree.specs.declared.expr.Conjunction.{roll-Conjunction, out-roll-Conjunction}
use Rattle.c_tree.specs.declared.expr.Equality.{roll-Equality, out-roll-Equality}
use Rattle.c_tree.specs.declared.expr.EqualityMark.{EqualityMark}
use Rattle.c_tree.specs.declared.expr.EqualityKind.TheVariants as equalities
use Rattle.c_tree.specs.declared.expr.Relation.{roll-Relation, out-roll-Relation}
use Rattle.c_tree.specs.declared.expr.RelationMark.{RelationMark}
use Rattle.c_tree.specs.declared.expr.RelationKind.TheVariants as relations
use Rattle.c_tree.specs.declared.expr.Sum.{roll-Sum, out-roll-Sum}
use Rattle.c_tree.specs.declared.expr.SumMark.{SumMark}
use Rattle.c_tree.specs.declared.expr.SumKind.TheVariants as sums
use Rattle.c_tree.specs.declared.expr.Product.{roll-Product}
use Rattle.c_tree.specs.declared.expr.Unary.{Unary, out-Unary}
use Rattle.c_tree.specs.declared.expr.Unary.TheVariants as unaries
use Rattle.c_tree.specs.contracts.term.Term.{the_type}
use denote.Enum.Bare.{same_true}
use Rattle.c_tree.specs.declared.expr.UnaryKind.{UnaryKind}
use Rattle.c_tree.specs.declared.expr.UnaryKind.TheVariants as signs
use Rattle.c_tree.specs.Term.{same_term}
use Rattle.c_tree.specs.inside.Input.{Input, Outcome, Parser, and_then, peek, place, bytes, bytes_at, next, sees, expect, term_at, refusal}
use Rattle.c_tree.specs.inside.Chain.{mark_at, past, one_more, more_from, more_of}
use Rattle.c_tree.specs.inside.Expr as spec
use Rattle.c_tree.specs.Grammar.{Is, StartsAt, AreMore, IsLevel, IsOrMark, IsAndMark, IsEqualityMark, IsRelationMark, IsSumMark, IsProductMark, IsProduct, IsSum, IsRelation, IsEquality, IsConjunction, IsExprOver, IsName, IsLayer, IsUnary, IsExpr, sign_term}
use Rattle.c_tree.proofs.Steps.{bind_ok, ok_parts, not_err}
use Rattle.c_tree.proofs.Shrinks.{Shrinks, product_shrinks, sum_shrinks, relation_shrinks, equality_shrinks, conjunction_shrinks, unary_shrinks}

-- what a parser gives stands in front of what it leaves
abbrev pub Finds : {A : Type 0} → Parser A → (A → List Lexeme → List Lexeme → Type 0) → Type 0
Finds {A} p IsItem = (i : Input) (x : A) (j : Input) → p i ≡ Ok (x, j) → IsItem x i.tokens j.tokens

-- a mark that comes next is one
abbrev pub FindsMark : {M : Type 0} → (Term → ℕ → Option M) → (M → List Lexeme → List Lexeme → Type 0) → Type 0
FindsMark {M} mark IsMark = (i : Input) (m : M) → mark_at mark i ≡ Some m → IsMark m i.tokens (next i).tokens

-- the next token, at its place
pub is_next : (i : Input) (k : Term) → (k ≡ terms.End → ⊥) → peek i ≡ k → Is k (place i) i.tokens (next i).tokens
unfolding peek place next
is_next i k more is = go i.tokens is
  where
    go : (ts : List Lexeme) → term_at ts ≡ k → Is k (Rattle.c_tree.specs.inside.Input.place_at i.end ts) ts (drop 1 ts)
    go [] e = absurd (more (sym e))
    go (t ∷ ts) e = (e, refl, refl)

module _ {M A : Type 0} (mark : Term → ℕ → Option M) (item : Parser A) (IsMark : M → List Lexeme → List Lexeme → Type 0) (IsItem : A → List Lexeme → List Lexeme → Type 0)
    (marks : FindsMark mark IsMark) (finds : Finds item IsItem) where
  one_found : (n : ℕ) (i : Input) (xs : List (M × A)) (j : Input) (m : Option M) → Finds (more_from mark item n) (AreMore IsMark IsItem) → mark_at mark i ≡ m → one_more item (more_from mark item n) m (past m i) ≡ Ok (xs, j) → AreMore IsMark IsItem xs i.tokens j.tokens
  one_found n i xs j None behind is e =
      let same = ok_parts [] xs i j e in
      subst (λ (ys : List (M × A)). AreMore IsMark IsItem ys i.tokens j.tokens) same.0 (ap (λ (k : Input). k.tokens) same.1)
  one_found n i xs j (Some m) behind is e =
      let a = bind_ok (item (next i)) _ xs j e in
      let b = bind_ok (more_from mark item n a.1) _ xs j a.3 in
      let same = ok_parts ((m, a.0) ∷ b.0) xs b.1 j b.3 in
      let all : AreMore IsMark IsItem b.0 a.1.tokens j.tokens = subst (λ (k : Input). AreMore IsMark IsItem b.0 a.1.tokens k.tokens) same.1 (behind _ _ _ b.2) in
      subst (λ (ys : List (M × A)). AreMore IsMark IsItem ys i.tokens j.tokens) same.0 ((next i).tokens, a.1.tokens, marks i m is, finds _ _ _ a.2, all)

  more_from_found : (n : ℕ) → Finds (more_from mark item n) (AreMore IsMark IsItem)
  unfolding more_from
  more_from_found zero i xs j e =
      let same = ok_parts [] xs i j e in
      subst (λ (ys : List (M × A)). AreMore IsMark IsItem ys i.tokens j.tokens) same.0 (ap (λ (k : Input). k.tokens) same.1)
  more_from_found (suc n) i xs j e = one_found n i xs j (mark_at mark i) (more_from_found n) refl e

  pub more_found : Finds (more_of mark item) (AreMore IsMark IsItem)
  unfolding more_of
  more_found i xs j e = more_from_found (length i.tokens) i xs j e

-- something stands in front of what is shorter
pub starts : (i : Input) (n : ℕ) → n < length i.tokens → StartsAt (place i) i.tokens
unfolding place
starts i n lt = go i.tokens lt
  where
    go : (ts : List Lexeme) → n < length ts → StartsAt (Rattle.c_tree.specs.inside.Input.place_at i.end ts) ts
    go [] h = absurd (omega arith)
    go (t ∷ ts) h = refl

-- an item, and then marks with items
level_found : {M A B : Type 0} (mark : Term → ℕ → Option M) (item : Parser A) (IsMark : M → List Lexeme → List Lexeme → Type 0) (IsItem : A → List Lexeme → List Lexeme → Type 0) → FindsMark mark IsMark → Finds item IsItem → Shrinks item
    → (made : ℕ → A → List (M × A) → B) (IsMade : B → List Lexeme → List Lexeme → Type 0) → ((from : ℕ) (first : A) (more : List (M × A)) (ts rest : List Lexeme) → IsLevel IsMark IsItem from first more ts rest → IsMade (made from first more) ts rest)
    → Finds (λ i. and_then (item i) (λ x. λ k. and_then (more_of mark item k) (λ xs. λ j. Ok (made (place i) x xs, j)))) IsMade
level_found mark item IsMark IsItem marks finds shrinks made IsMade is_made i y j e =
    let a = bind_ok (item i) _ y j e in
    let b = bind_ok (more_of mark item a.1) _ y j a.3 in
    let same = ok_parts (made (place i) a.0 b.0) y b.1 j b.3 in
    let level : IsLevel IsMark IsItem (place i) a.0 b.0 i.tokens b.1.tokens = (starts i (length a.1.tokens) (shrinks _ _ _ a.2), a.1.tokens, finds _ _ _ a.2, more_found mark item IsMark IsItem marks finds _ _ _ b.2) in
    subst (λ (z : _). IsMade z i.tokens j.tokens) same.0 (subst (λ (k : Input). IsMade (made (place i) a.0 b.0) i.tokens k.tokens) same.1 (is_made (place i) a.0 b.0 i.tokens b.1.tokens level))

-- ---- the marks

-- there is no such mark
pub no_mark : {M : Type 0} (m : M) → ◌≡◌ {A = Option M} None (Some m) → ⊥
no_mark m e = cc

product_mark_by : (i : Input) (k : Term) (m : ℕ) → peek i ≡ k → spec.product_mark k (place i) ≡ Some m → IsProductMark m i.tokens (next i).tokens
product_mark_by i terms.Star m is e = (let same : place i ≡ m = cc in subst (λ (x : ℕ). IsProductMark x i.tokens (next i).tokens) same (is_next i terms.Star (λ h. cc) is))
product_mark_by i _ m is e = absurd (no_mark m e)

pub product_mark_found : FindsMark spec.product_mark IsProductMark
product_mark_found i m e = product_mark_by i (peek i) m refl e

and_mark_by : (i : Input) (k : Term) (m : ℕ) → peek i ≡ k → spec.and_mark k (place i) ≡ Some m → IsAndMark m i.tokens (next i).tokens
and_mark_by i terms.And m is e = (let same : place i ≡ m = cc in subst (λ (x : ℕ). IsAndMark x i.tokens (next i).tokens) same (is_next i terms.And (λ h. cc) is))
and_mark_by i _ m is e = absurd (no_mark m e)

pub and_mark_found : FindsMark spec.and_mark IsAndMark
and_mark_found i m e = and_mark_by i (peek i) m refl e

or_mark_by : (i : Input) (k : Term) (m : ℕ) → peek i ≡ k → spec.or_mark k (place i) ≡ Some m → IsOrMark m i.tokens (next i).tokens
or_mark_by i terms.Or m is e = (let same : place i ≡ m = cc in subst (λ (x : ℕ). IsOrMark x i.tokens (next i).tokens) same (is_next i terms.Or (λ h. cc) is))
or_mark_by i _ m is e = absurd (no_mark m e)

pub or_mark_found : FindsMark spec.or_mark IsOrMark
or_mark_found i m e = or_mark_by i (peek i) m refl e

sum_mark_by : (i : Input) (k : Term) (m : SumMark) → peek i ≡ k → spec.sum_mark k (place i) ≡ Some m → IsSumMark m i.tokens (next i).tokens
sum_mark_by i terms.Plus m is e = (let same : ◌≡◌ {A = SumMark} (record { from = place i; kind = sums.Plus }) m = cc in subst (λ (x : SumMark). IsSumMark x i.tokens (next i).tokens) same (is_next i terms.Plus (λ h. cc) is))
sum_mark_by i terms.Minus m is e = (let same : ◌≡◌ {A = SumMark} (record { from = place i; kind = sums.Minus }) m = cc in subst (λ (x : SumMark). IsSumMark x i.tokens (next i).tokens) same (is_next i terms.Minus (λ h. cc) is))
sum_mark_by i _ m is e = absurd (no_mark m e)

pub sum_mark_found : FindsMark spec.sum_mark IsSumMark
sum_mark_found i m e = sum_mark_by i (peek i) m refl e

relation_mark_by : (i : Input) (k : Term) (m : RelationMark) → peek i ≡ k → spec.relation_mark k (place i) ≡ Some m → IsRelationMark m i.tokens (next i).tokens
relation_mark_by i terms.Less m is e = (let same : ◌≡◌ {A = RelationMark} (record { from = place i; kind = relations.Less }) m = cc in subst (λ (x : RelationMark). IsRelationMark x i.tokens (next i).tokens) same (is_next i terms.Less (λ h. cc) is))
relation_mark_by i terms.AtMost m is e = (let same : ◌≡◌ {A = RelationMark} (record { from = place i; kind = relations.AtMost }) m = cc in subst (λ (x : RelationMark). IsRelationMark x i.tokens (next i).tokens) same (is_next i terms.AtMost (λ h. cc) is))
relation_mark_by i terms.Greater m is e = (let same : ◌≡◌ {A = RelationMark} (record { from = place i; kind = relations.Greater }) m = cc in subst (λ (x : RelationMark). IsRelationMark x i.tokens (next i).tokens) same (is_next i terms.Greater (λ h. cc) is))
relation_mark_by i terms.AtLeast m is e = (let same : ◌≡◌ {A = RelationMark} (record { from = place i; kind = relations.AtLeast }) m = cc in subst (λ (x : RelationMark). IsRelationMark x i.tokens (next i).tokens) same (is_next i terms.AtLeast (λ h. cc) is))
relation_mark_by i _ m is e = absurd (no_mark m e)

pub relation_mark_found : FindsMark spec.relation_mark IsRelationMark
relation_mark_found i m e = relation_mark_by i (peek i) m refl e

equality_mark_by : (i : Input) (k : Term) (m : EqualityMark) → peek i ≡ k → spec.equality_mark k (place i) ≡ Some m → IsEqualityMark m i.tokens (next i).tokens
equality_mark_by i terms.Equal m is e = (let same : ◌≡◌ {A = EqualityMark} (record { from = place i; kind = equalities.Equal }) m = cc in subst (λ (x : EqualityMark). IsEqualityMark x i.tokens (next i).tokens) same (is_next i terms.Equal (λ h. cc) is))
equality_mark_by i terms.Unequal m is e = (let same : ◌≡◌ {A = EqualityMark} (record { from = place i; kind = equalities.Unequal }) m = cc in subst (λ (x : EqualityMark). IsEqualityMark x i.tokens (next i).tokens) same (is_next i terms.Unequal (λ h. cc) is))
equality_mark_by i _ m is e = absurd (no_mark m e)

pub equality_mark_found : FindsMark spec.equality_mark IsEqualityMark
equality_mark_found i m e = equality_mark_by i (peek i) m refl e

-- ---- each level

module _ (unary : Parser Unary) (IsOperand : Unary → List Lexeme → List Lexeme → Type 0) (finds : Finds unary IsOperand) (shrinks : Shrinks unary) where
  pub product_found : Finds (spec.product unary) (IsProduct IsOperand)
  unfolding spec.product
  product_found = level_found spec.product_mark unary IsProductMark IsOperand product_mark_found finds shrinks (λ from first more. roll-Product (record { from = from; first = first; more = more })) (IsProduct IsOperand) (λ from first more ts rest level. level)

  pub sum_found : Finds (spec.sum unary) (IsSum IsOperand)
  unfolding spec.sum
  sum_found = level_found spec.sum_mark (spec.product unary) IsSumMark (IsProduct IsOperand) sum_mark_found product_found (product_shrinks unary shrinks) (λ from first more. roll-Sum (record { from = from; first = first; more = more })) (IsSum IsOperand) (λ from first more ts rest level. rw out-roll-Sum level)

  pub relation_found : Finds (spec.relation unary) (IsRelation IsOperand)
  unfolding spec.relation
  relation_found = level_found spec.relation_mark (spec.sum unary) IsRelationMark (IsSum IsOperand) relation_mark_found sum_found (sum_shrinks unary shrinks) (λ from first more. roll-Relation (record { from = from; first = first; more = more })) (IsRelation IsOperand) (λ from first more ts rest level. rw out-roll-Relation level)

  pub equality_found : Finds (spec.equality unary) (IsEquality IsOperand)
  unfolding spec.equality
  equality_found = level_found spec.equality_mark (spec.relation unary) IsEqualityMark (IsRelation IsOperand) equality_mark_found relation_found (relation_shrinks unary shrinks) (λ from first more. roll-Equality (record { from = from; first = first; more = more })) (IsEquality IsOperand) (λ from first more ts rest level. rw out-roll-Equality level)

  pub conjunction_found : Finds (spec.conjunction unary) (IsConjunction IsOperand)
  unfolding spec.conjunction
  conjunction_found = level_found spec.and_mark (spec.equality unary) IsAndMark (IsEquality IsOperand) and_mark_found equality_found (equality_shrinks unary shrinks) (λ from first more. roll-Conjunction (record { from = from; first = first; more = more })) (IsConjunction IsOperand) (λ from first more ts rest level. rw out-roll-Conjunction level)

  pub expr_over_found : Finds (spec.expr_over unary) (IsExprOver IsOperand)
  unfolding spec.expr_over
  expr_over_found = level_found spec.or_mark (spec.conjunction unary) IsOrMark (IsConjunction IsOperand) or_mark_found conjunction_found (conjunction_shrinks unary shrinks) (λ from first more. roll-Expr (record { from = from; first = first; more = more })) (IsExprOver IsOperand) (λ from first more ts rest level. rw out-roll-Expr level)

-- ---- names, numbers and operands

-- what `expect` gives
expected : (k : Term) (i : Input) (b : Bool) (x : ℕ) (j : Input) → sees k i ≡ b → cond {A = Outcome ℕ} b (Ok (place i, next i)) (Err (refusal i)) ≡ Ok (x, j) → (sees k i ≡ true) × (place i ≡ x) × (next i ≡ j)
expected k i true x j is e = (let same = ok_parts (place i) x (next i) j e in (is, same.0, same.1))
expected k i false x j is e = absurd (not_err (refusal i) x j e)

-- `sees` tells the term
pub seen : (k : Term) (i : Input) → sees k i ≡ true → peek i ≡ k
unfolding sees same_term
seen k i e = same_true the_type (search rules) _ _ e

pub expect_found : (k : Term) → (k ≡ terms.End → ⊥) → Finds (expect k) (λ from. Is k from)
unfolding expect
expect_found k more i x j e =
    let parts = expected k i (sees k i) x j refl e in
    subst (λ (n : ℕ). Is k n i.tokens j.tokens) parts.1 (subst (λ (l : Input). Is k (place i) i.tokens l.tokens) parts.2 (is_next i k more (seen k i parts.0)))

pub name_found : Finds spec.name IsName
unfolding spec.name bytes
name_found i x j e =
    let a = bind_ok (expect terms.Name i) _ x j e in
    let same = ok_parts (record { from = a.0; text = bytes_at i.tokens }) x a.1 j a.3 in
    let is : Is terms.Name a.0 i.tokens j.tokens = subst (λ (k : Input). Is terms.Name a.0 i.tokens k.tokens) same.1 (expect_found terms.Name (λ h. cc) i _ _ a.2) in
    subst (λ (n : Name). IsName n i.tokens j.tokens) same.0 (is, refl)

number_of_found : (v : Option ℤ) (i : Input) (x : ℤ) (j : Input) → spec.number_of v i ≡ Ok (x, j) → Is terms.Number (place i) i.tokens j.tokens × (v ≡ Some x)
unfolding expect
number_of_found None i x j e = absurd (not_err (refusal i) x j e)
number_of_found (Some v) i x j e =
    let a = bind_ok (expect terms.Number i) _ x j e in
    let same = ok_parts v x a.1 j a.3 in
    let parts = expected terms.Number i (sees terms.Number i) a.0 a.1 refl a.2 in
    (subst (λ (k : Input). Is terms.Number (place i) i.tokens k.tokens) (parts.2 ∙ same.1) (is_next i terms.Number (λ h. cc) (seen terms.Number i parts.0)), ap (λ (y : ℤ). Some y) same.0)

pub number_found : (i : Input) (x : ℤ) (j : Input) → spec.number i ≡ Ok (x, j) → Is terms.Number (place i) i.tokens j.tokens × (spec.number_value (bytes_at i.tokens) ≡ Some x)
unfolding spec.number bytes
number_found i x j e = number_of_found (spec.number_value (bytes_at i.tokens)) i x j e

-- operands

abbrev IsOperandOver : (Unary → List Lexeme → List Lexeme → Type 0) → Unary → List Lexeme → List Lexeme → Type 0
IsOperandOver Inner u = IsLayer Inner (out-Unary u)

-- an operand that was made is the one that was given
given : (Inner : Unary → List Lexeme → List Lexeme → Type 0) (made x : Unary) (i k j : Input) → ◌≡◌ {A = Outcome Unary} (Ok (made, k)) (Ok (x, j)) → IsOperandOver Inner made i.tokens k.tokens → IsOperandOver Inner x i.tokens j.tokens
given Inner made x i k j e holds =
    let same = ok_parts made x k j e in
    subst (λ (u : Unary). IsOperandOver Inner u i.tokens j.tokens) same.0 (subst (λ (l : Input). IsOperandOver Inner made i.tokens l.tokens) same.1 holds)

module _ (deeper : Option (Parser Unary)) (Inner : Unary → List Lexeme → List Lexeme → Type 0) (finds : (unary : Parser Unary) → deeper ≡ Some unary → Finds unary Inner) (shrinks : (unary : Parser Unary) → deeper ≡ Some unary → Shrinks unary) where
  operated_found : (o : Option (Parser Unary)) → deeper ≡ o → (kind : UnaryKind) → (sign_term kind ≡ terms.End → ⊥) → (i : Input) → peek i ≡ sign_term kind → (x : Unary) (j : Input) → spec.operated o kind i ≡ Ok (x, j) → IsOperandOver Inner x i.tokens j.tokens
  operated_found None o kind more i is x j e = absurd (not_err _ x j e)
  operated_found (Some unary) o kind more i is x j e =
      let a = bind_ok (unary (next i)) _ x j e in
      given Inner (unaries.Operator (place i) kind a.0) x i a.1 j a.3 (rw unaries.outs-Operator ((next i).tokens, is_next i (sign_term kind) more is, finds unary o _ _ _ a.2))

  parenthesized_found : (o : Option (Parser Unary)) → deeper ≡ o → (i : Input) → peek i ≡ terms.LeftParen → (x : Unary) (j : Input) → spec.parenthesized o i ≡ Ok (x, j) → IsOperandOver Inner x i.tokens j.tokens
  parenthesized_found None o i is x j e = absurd (not_err _ x j e)
  parenthesized_found (Some unary) o i is x j e =
      let a = bind_ok (spec.expr_over unary (next i)) _ x j e in
      let b = bind_ok (expect terms.RightParen a.1) _ x j a.3 in
      given Inner (unaries.Paren (place i) a.0) x i b.1 j b.3
      (rw unaries.outs-Paren ((next i).tokens, a.1.tokens, is_next i terms.LeftParen (λ h. cc) is, expr_over_found unary Inner (finds unary o) (shrinks unary o) _ _ _ a.2, (b.0, expect_found terms.RightParen (λ h. cc) _ _ _ b.2)))

  unary_by_found : (i : Input) (k : Term) → peek i ≡ k → (x : Unary) (j : Input) → spec.unary_by deeper k i ≡ Ok (x, j) → IsOperandOver Inner x i.tokens j.tokens
  unary_by_found i terms.Minus is x j e = operated_found deeper refl signs.Minus (λ h. cc) i is x j e
  unary_by_found i terms.Plus is x j e = operated_found deeper refl signs.Plus (λ h. cc) i is x j e
  unary_by_found i terms.Not is x j e = operated_found deeper refl signs.Not (λ h. cc) i is x j e
  unary_by_found i terms.LeftParen is x j e = parenthesized_found deeper refl i is x j e
  unary_by_found i terms.Number is x j e =
      let a = bind_ok (spec.number i) _ x j e in
      given Inner (unaries.Number (place i) a.0) x i a.1 j a.3 (rw unaries.outs-Number (number_found i a.0 a.1 a.2))
  unary_by_found i terms.Name is x j e =
      let a = bind_ok (spec.name i) _ x j e in
      given Inner (unaries.Name a.0) x i a.1 j a.3 (rw unaries.outs-Name (name_found i a.0 a.1 a.2))
  unary_by_found i _ is x j e = absurd (not_err _ x j e)

no_deeper : (unary : Parser Unary) → ◌≡◌ {A = Option (Parser Unary)} None (Some unary) → ⊥
no_deeper unary h = cc

same_deeper : (inner unary : Parser Unary) → ◌≡◌ {A = Option (Parser Unary)} (Some inner) (Some unary) → inner ≡ unary
same_deeper inner unary h = cc

pub unary_found : (levels : ℕ) → Finds (spec.unary levels) (IsUnary levels)
unfolding spec.unary spec.unary_with
unary_found zero i x j e = unary_by_found None (λ inner ts rest. ⊥) (λ unary h. absurd (no_deeper unary h)) (λ unary h. absurd (no_deeper unary h)) i (peek i) refl x j e
unary_found (suc levels) i x j e =
    unary_by_found (Some (spec.unary levels)) (IsUnary levels)
    (λ unary h. subst (λ (p : Parser Unary). Finds p (IsUnary levels)) (same_deeper (spec.unary levels) unary h) (unary_found levels))
    (λ unary h. subst (λ (p : Parser Unary). Shrinks p) (same_deeper (spec.unary levels) unary h) (unary_shrinks levels))
    i (peek i) refl x j e

pub expr_found : (levels : ℕ) → Finds (spec.expr levels) (IsExpr levels)
expr_found levels = expr_over_found (spec.unary levels) (IsUnary levels) (unary_found levels) (unary_shrinks levels)
