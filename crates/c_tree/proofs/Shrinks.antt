-- Each rule takes a token.
use Rattle.std.proofs.Common.{◌≡◌, ℕ, zero, suc, ℤ, ◌+◌, ◌<◌, ◌≤◌, Bool, true, false, cond, List, [], length, Option, Some, None, Ok, Err, refl, sym, ap, subst, ◌∙◌, arith}
use Rattle.std.proofs.lemmas.Bool.{false≢true}
use Rattle.c_tree.specs.declared.term.Term.{Term}
use Rattle.c_tree.specs.declared.term.Term.TheVariants as terms
use Rattle.c_tree.specs.Term.{same_term}
use Rattle.c_tree.specs.declared.expr.Expr.{roll-Expr}
use Rattle.c_tree.specs.declared.expr.Conjunction.{roll-Conjunction}
use Rattle.c_tree.specs.declared.expr.Equality.{roll-Equality}
use Rattle.c_tree.specs.declared.expr.Relation.{roll-Relation}
use Rattle.c_tree.specs.declared.expr.Sum.{roll-Sum}
use Rattle.c_tree.specs.declared.expr.Product.{roll-Product}
use Rattle.c_tree.specs.declared.expr.Unary.{Unary}
use Rattle.c_tree.specs.declared.expr.UnaryKind.{UnaryKind}
use Rattle.c_tree.specs.declared.expr.UnaryKind.TheVariants as signs
use Rattle.c_tree.specs.inside.Input.{Input, Outcome, Parser, and_then, peek, place, next, sees, expect, refusal, bytes}
use Rattle.c_tree.specs.inside.Chain.{mark_at, past, one_more, more_from, more_of}
use Rattle.c_tree.specs.inside.Expr as spec
use Rattle.c_tree.proofs.Steps.{bind_ok, ok_parts, not_err, next_shorter}

abbrev pub Shrinks : {A : Type 0} → Parser A → Type 0
Shrinks {A} p = (i : Input) (x : A) (j : Input) → p i ≡ Ok (x, j) → length j.tokens < length i.tokens

abbrev pub NeverGrows : {A : Type 0} → Parser A → Type 0
NeverGrows {A} p = (i : Input) (x : A) (j : Input) → p i ≡ Ok (x, j) → length j.tokens ≤ length i.tokens

-- the end of the text is no mark
abbrev pub NoMarkAtEnd : {M : Type 0} → (Term → ℕ → Option M) → Type 0
NoMarkAtEnd mark = (from : ℕ) → mark terms.End from ≡ None

pub past_shorter : {M : Type 0} (mark : Term → ℕ → Option M) → NoMarkAtEnd mark → (i : Input) (m : M) → mark_at mark i ≡ Some m → length (past (mark_at mark i) i).tokens + 1 ≡ length i.tokens
past_shorter {M} mark none i m e = rw e (next_shorter i (λ ended. no_some m (sym (none (place i)) ∙ ap (λ (t : Term). mark t (place i)) (sym ended) ∙ e)))
  where
    no_some : (m : M) → ◌≡◌ {A = Option M} None (Some m) → ⊥
    no_some m h = cc

module _ {M A : Type 0} (mark : Term → ℕ → Option M) (item : Parser A) (none : NoMarkAtEnd mark) (shrinks : Shrinks item) where
  one_more_le : (n : ℕ) (i : Input) (x : List (M × A)) (j : Input) (m : Option M) → NeverGrows (more_from mark item n) → mark_at mark i ≡ m → one_more item (more_from mark item n) m (past (mark_at mark i) i) ≡ Ok (x, j) → length j.tokens ≤ length i.tokens
  one_more_le n i x j None behind is e =
      let same = (ok_parts [] x (past (mark_at mark i) i) j e).1 in
      let here : past (mark_at mark i) i ≡ i = rw is refl in
      omega (arith, ap (λ (k : Input). length k.tokens) same, ap (λ (k : Input). length k.tokens) here)
  one_more_le n i x j (Some m) behind is e =
      let a = bind_ok (item (past (mark_at mark i) i)) _ x j e in
      let b = bind_ok (more_from mark item n a.1) _ x j a.3 in
      let same = (ok_parts _ x b.1 j b.3).1 in
      omega (arith, past_shorter mark none i m is, shrinks _ _ _ a.2, behind _ _ _ b.2, ap (λ (k : Input). length k.tokens) same)

  pub more_from_le : (n : ℕ) → NeverGrows (more_from mark item n)
  unfolding more_from
  more_from_le zero i x j e = (let same = (ok_parts [] x i j e).1 in omega (arith, ap (λ (k : Input). length k.tokens) same))
  more_from_le (suc n) i x j e = one_more_le n i x j (mark_at mark i) (more_from_le n) refl e

  pub more_of_le : NeverGrows (more_of mark item)
  unfolding more_of
  more_of_le i x j e = more_from_le (length i.tokens) i x j e

-- ---- expressions

same_end : (k : Term) → same_term terms.End k ≡ false → (i : Input) → sees k i ≡ true → peek i ≡ terms.End → ⊥
unfolding sees
same_end k other i there ended = false≢true (sym other ∙ ap (λ (t : Term). same_term t k) (sym ended) ∙ there)

expected : (k : Term) (i : Input) (b : Bool) (x : ℕ) (j : Input) → sees k i ≡ b → cond {A = Outcome ℕ} b (Ok (place i, next i)) (Err (refusal i)) ≡ Ok (x, j) → (sees k i ≡ true) × (next i ≡ j)
expected k i true x j is e = (is, (ok_parts (place i) x (next i) j e).1)
expected k i false x j is e = absurd (not_err (refusal i) x j e)

pub expect_shrinks : (k : Term) → same_term terms.End k ≡ false → Shrinks (expect k)
unfolding expect
expect_shrinks k other i x j e =
    let parts = expected k i (sees k i) x j refl e in
    omega (arith, next_shorter i (same_end k other i parts.0), ap (λ (n : Input). length n.tokens) parts.1)

pub name_shrinks : Shrinks spec.name
unfolding spec.name same_term
name_shrinks i x j e =
    let a = bind_ok (expect terms.Name i) _ x j e in
    omega (arith, expect_shrinks terms.Name refl i _ _ a.2, ap (λ (k : Input). length k.tokens) (ok_parts _ x a.1 j a.3).1)

number_of_shrinks : (v : Option ℤ) → Shrinks (spec.number_of v)
unfolding same_term
number_of_shrinks None i x j e = absurd (not_err _ x j e)
number_of_shrinks (Some v) i x j e =
    let a = bind_ok (expect terms.Number i) _ x j e in
    omega (arith, expect_shrinks terms.Number refl i _ _ a.2, ap (λ (k : Input). length k.tokens) (ok_parts _ x a.1 j a.3).1)

pub number_shrinks : Shrinks spec.number
unfolding spec.number
number_shrinks i x j e = number_of_shrinks (spec.number_value (bytes i)) i x j e

-- an item, and then marks with items
level_shrinks : {M A B : Type 0} (mark : Term → ℕ → Option M) (item : Parser A) (made : ℕ → A → List (M × A) → B) → NoMarkAtEnd mark → Shrinks item
    → Shrinks (λ i. and_then (item i) (λ x. λ k. and_then (more_of mark item k) (λ xs. λ j. Ok (made (place i) x xs, j))))
level_shrinks mark item made none shrinks i y j e =
    let a = bind_ok (item i) _ y j e in
    let b = bind_ok (more_of mark item a.1) _ y j a.3 in
    omega (arith, shrinks _ _ _ a.2, more_of_le mark item none shrinks _ _ _ b.2, ap (λ (k : Input). length k.tokens) (ok_parts _ y b.1 j b.3).1)

pub product_shrinks : (unary : Parser Unary) → Shrinks unary → Shrinks (spec.product unary)
unfolding spec.product
product_shrinks unary shrinks = level_shrinks spec.product_mark unary (λ from first more. roll-Product (record { from = from; first = first; more = more })) (λ from. refl) shrinks

pub sum_shrinks : (unary : Parser Unary) → Shrinks unary → Shrinks (spec.sum unary)
unfolding spec.sum
sum_shrinks unary shrinks = level_shrinks spec.sum_mark (spec.product unary) (λ from first more. roll-Sum (record { from = from; first = first; more = more })) (λ from. refl) (product_shrinks unary shrinks)

pub relation_shrinks : (unary : Parser Unary) → Shrinks unary → Shrinks (spec.relation unary)
unfolding spec.relation
relation_shrinks unary shrinks = level_shrinks spec.relation_mark (spec.sum unary) (λ from first more. roll-Relation (record { from = from; first = first; more = more })) (λ from. refl) (sum_shrinks unary shrinks)

pub equality_shrinks : (unary : Parser Unary) → Shrinks unary → Shrinks (spec.equality unary)
unfolding spec.equality
equality_shrinks unary shrinks = level_shrinks spec.equality_mark (spec.relation unary) (λ from first more. roll-Equality (record { from = from; first = first; more = more })) (λ from. refl) (relation_shrinks unary shrinks)

pub conjunction_shrinks : (unary : Parser Unary) → Shrinks unary → Shrinks (spec.conjunction unary)
unfolding spec.conjunction
conjunction_shrinks unary shrinks = level_shrinks spec.and_mark (spec.equality unary) (λ from first more. roll-Conjunction (record { from = from; first = first; more = more })) (λ from. refl) (equality_shrinks unary shrinks)

pub expr_over_shrinks : (unary : Parser Unary) → Shrinks unary → Shrinks (spec.expr_over unary)
unfolding spec.expr_over
expr_over_shrinks unary shrinks = level_shrinks spec.or_mark (spec.conjunction unary) (λ from first more. roll-Expr (record { from = from; first = first; more = more })) (λ from. refl) (conjunction_shrinks unary shrinks)

operated_shrinks : (deeper : Option (Parser Unary)) (kind : UnaryKind) → ((unary : Parser Unary) → deeper ≡ Some unary → Shrinks unary) → (i : Input) → (peek i ≡ terms.End → ⊥) → (x : Unary) (j : Input) → spec.operated deeper kind i ≡ Ok (x, j) → length j.tokens < length i.tokens
operated_shrinks None kind shrinks i there x j e = absurd (not_err _ x j e)
operated_shrinks (Some unary) kind shrinks i there x j e =
    let a = bind_ok (unary (next i)) _ x j e in
    omega (arith, next_shorter i there, shrinks unary refl _ _ _ a.2, ap (λ (k : Input). length k.tokens) (ok_parts _ x a.1 j a.3).1)

parenthesized_shrinks : (deeper : Option (Parser Unary)) → ((unary : Parser Unary) → deeper ≡ Some unary → Shrinks unary) → (i : Input) → (peek i ≡ terms.End → ⊥) → (x : Unary) (j : Input) → spec.parenthesized deeper i ≡ Ok (x, j) → length j.tokens < length i.tokens
unfolding same_term
parenthesized_shrinks None shrinks i there x j e = absurd (not_err _ x j e)
parenthesized_shrinks (Some unary) shrinks i there x j e =
    let a = bind_ok (spec.expr_over unary (next i)) _ x j e in
    let b = bind_ok (expect terms.RightParen a.1) _ x j a.3 in
    omega (arith, next_shorter i there, expr_over_shrinks unary (shrinks unary refl) _ _ _ a.2, expect_shrinks terms.RightParen refl _ _ _ b.2, ap (λ (k : Input). length k.tokens) (ok_parts _ x b.1 j b.3).1)

-- the next token is another than the end
another : (k : Term) (i : Input) → (k ≡ terms.End → ⊥) → peek i ≡ k → peek i ≡ terms.End → ⊥
another k i differs is ended = differs (sym is ∙ ended)

unary_by_shrinks : (deeper : Option (Parser Unary)) (k : Term) → ((unary : Parser Unary) → deeper ≡ Some unary → Shrinks unary) → (i : Input) → peek i ≡ k → (x : Unary) (j : Input) → spec.unary_by deeper k i ≡ Ok (x, j) → length j.tokens < length i.tokens
unary_by_shrinks deeper terms.Minus shrinks i is x j e = operated_shrinks deeper signs.Minus shrinks i (another terms.Minus i (λ h. cc) is) x j e
unary_by_shrinks deeper terms.Plus shrinks i is x j e = operated_shrinks deeper signs.Plus shrinks i (another terms.Plus i (λ h. cc) is) x j e
unary_by_shrinks deeper terms.Not shrinks i is x j e = operated_shrinks deeper signs.Not shrinks i (another terms.Not i (λ h. cc) is) x j e
unary_by_shrinks deeper terms.LeftParen shrinks i is x j e = parenthesized_shrinks deeper shrinks i (another terms.LeftParen i (λ h. cc) is) x j e
unary_by_shrinks deeper terms.Number shrinks i is x j e =
    let a = bind_ok (spec.number i) _ x j e in
    omega (arith, number_shrinks i _ _ a.2, ap (λ (k : Input). length k.tokens) (ok_parts _ x a.1 j a.3).1)
unary_by_shrinks deeper terms.Name shrinks i is x j e =
    let a = bind_ok (spec.name i) _ x j e in
    omega (arith, name_shrinks i _ _ a.2, ap (λ (k : Input). length k.tokens) (ok_parts _ x a.1 j a.3).1)
unary_by_shrinks deeper _ shrinks i is x j e = absurd (not_err _ x j e)

none_deeper : (unary : Parser Unary) → ◌≡◌ {A = Option (Parser Unary)} None (Some unary) → Shrinks unary
none_deeper unary h = absurd cc

one_deeper : (inner unary : Parser Unary) → Shrinks inner → ◌≡◌ {A = Option (Parser Unary)} (Some inner) (Some unary) → Shrinks unary
one_deeper inner unary shrinks h = (let same : inner ≡ unary = cc in subst (λ (p : Parser Unary). Shrinks p) same shrinks)

pub unary_shrinks : (levels : ℕ) → Shrinks (spec.unary levels)
unfolding spec.unary spec.unary_with
unary_shrinks zero i x j e = unary_by_shrinks None (peek i) none_deeper i refl x j e
unary_shrinks (suc levels) i x j e = unary_by_shrinks (Some (spec.unary levels)) (peek i) (λ unary h. one_deeper (spec.unary levels) unary (unary_shrinks levels) h) i refl x j e
