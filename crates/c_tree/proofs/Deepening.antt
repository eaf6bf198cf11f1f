-- With more levels all that is read or refused stays so, up to the first token that opens a level beyond.
use Rattle.std.proofs.Common.{◌≡◌, ℕ, zero, suc, ◌≤◌, Bool, true, false, List, [], ◌∷◌, ◌++◌, length, map, Option, Some, None, Result, Ok, Err, refl, sym, ap, subst, ◌∙◌, arith, append_assoc, append-nil}
use Rattle.std.proofs.Math.Logic.{◌⊎◌, inl, inr}
use Rattle.c_tree.specs.declared.term.Term.{Term}
use Rattle.c_tree.specs.declared.term.Term.TheVariants as terms
use Rattle.c_tree.specs.declared.expr.Unary.{Unary}
use Rattle.c_tree.specs.declared.expr.Product.{Product, roll-Product, out-roll-Product}
use Rattle.c_tree.specs.declared.expr.Sum.{Sum, roll-Sum, out-roll-Sum}
use Rattle.c_tree.specs.declared.expr.Relation.{Relation, roll-Relation, out-roll-Relation}
use Rattle.c_tree.specs.declared.expr.Equality.{Equality, roll-Equality, out-roll-Equality}
use Rattle.c_tree.specs.declared.expr.Conjunction.{Conjunction, roll-Conjunction, out-roll-Conjunction}
use Rattle.c_tree.specs.declared.expr.Expr.{Expr, roll-Expr, out-roll-Expr}
use Rattle.c_tree.specs.declared.expr.Unary.TheVariants as unaries
use Rattle.c_tree.specs.declared.expr.UnaryKind.{UnaryKind}
use Rattle.c_tree.specs.declared.expr.UnaryKind.TheVariants as signs
use Rattle.c_tree.specs.inside.Input.{Input, Outcome, Parser, and_then, ◌>>=◌, pure, refuse, refuse_deep, look, here, take_token, expect, sees, place, next, refusal, too_deep}
use Rattle.c_tree.specs.inside.Chain.{mark_at, past, one_more, more_from, more_of}
use Rattle.c_tree.specs.inside.Many.{one_or_end, many_from, many}
use Rattle.c_tree.specs.inside.Expr as spec
use Rattle.c_tree.specs.Plain as plain
use Rattle.c_tree.specs.Seen.{left_to_right, or_mark, and_mark, equality_mark, relation_mark, sum_mark, product_mark, plain_unary, plain_product, plain_sum, plain_relation, plain_equality, plain_conjunction, plain_expr}
use Rattle.c_tree.specs.Beyond.{expr_beyond}
use Rattle.c_tree.proofs.Steps.{bind_ok, ok_parts, not_err}
use Rattle.c_tree.proofs.View.{behind, operator_is, paren_is, number_is, name_is, product_out, sum_out, relation_out, equality_out, conjunction_out, expr_out}

-- Where nothing more was opened the outcome is the same, and else the first that was is refused.
abbrev pub Says : {A : Type 0} → List ℕ → Outcome A → Outcome A → Type 0
Says [] r s = r ≡ s
Says (a ∷ more) r s = (j : Input) × (r ≡ Err (too_deep j)) × (place j ≡ a)

-- What is opened in the value of the second outcome is what was before, and then more.
abbrev pub Fits : {A : Type 0} → List ℕ → (A → List ℕ) → Outcome A → Outcome A → Type 0
Fits before opens r (Ok p) = (more : List ℕ) × (opens p.0 ≡ before ++ more) × Says more r (Ok p)
Fits before opens r (Err d) = (r ≡ Err d) ⊎ ((j : Input) × (r ≡ Err (too_deep j)))

-- The first does what the second does, until a token opens a level beyond.
pub record Widens {A : Type 0} (before : List ℕ) (opens : A → List ℕ) (p q : Parser A) : Type 0 where
  pub does : (i : Input) → Fits before opens (p i) (q i)

pub refuse_widens : {A : Type 0} (before : List ℕ) (opens : A → List ℕ) → Widens before opens refuse refuse
refuse_widens before opens = record { does = λ i. inl refl }

pub pure_widens : {A : Type 0} (before : List ℕ) (opens : A → List ℕ) (x : A) → opens x ≡ before → Widens before opens (pure x) (pure x)
pure_widens before opens x e = record { does = λ i. ([], e ∙ sym (append-nil before), refl) }

module _ {A : Type 0} (opens : A → List ℕ) (q : Parser A) (here_it_is : (i : Input) (x : A) (j : Input) → q i ≡ Ok (x, j) → opens x ≡ place i ∷ []) where
  deep_by : (i : Input) (s : Outcome A) → q i ≡ s → Fits [] opens (refuse_deep i) s
  deep_by i (Ok p) e = (place i ∷ [], here_it_is i p.0 p.1 e, (i, refl, refl))
  deep_by i (Err d) e = inr (i, refl)

  -- where the second begins with a token that opens a level
  pub deep_widens : Widens [] opens refuse_deep q
  deep_widens = record { does = λ i. deep_by i (q i) refl }

module _ {A B : Type 0} (before : List ℕ) (opens : B → List ℕ) (f g : A → Parser B) where
  behind_by : ((x : A) → Widens before opens (f x) (g x)) → (r : Outcome A) → Fits before opens (and_then r f) (and_then r g)
  behind_by second (Ok p) = (second p.0).does p.1
  behind_by second (Err d) = inl refl

  -- behind a first step that is the same and opens nothing
  pub behind_widens : (p : Parser A) → ((x : A) → Widens before opens (f x) (g x)) → Widens before opens (p >>= f) (p >>= g)
  behind_widens p second = record { does = λ i. behind_by second (p i) }

  module _ (o : A → List ℕ) (second : (x : A) → Widens (before ++ o x) opens (f x) (g x)) where
    -- the first step opened nothing
    fits_on : (x : A) (r s : Outcome B) → o x ≡ [] → Fits (before ++ o x) opens r s → Fits before opens r s
    fits_on x r (Ok p) none fits = (fits.0, fits.1 ∙ ap (λ (l : List ℕ). (before ++ l) ++ fits.0) none ∙ ap (λ (l : List ℕ). l ++ fits.0) (append-nil before), fits.2)
    fits_on x r (Err d) none fits = fits

    -- the first step opened something
    fits_deep : (x : A) (a : ℕ) (more : List ℕ) (r t s : Outcome B) (j : Input) → o x ≡ a ∷ more → r ≡ Err (too_deep j) → place j ≡ a → Fits (before ++ o x) opens t s → Fits before opens r s
    fits_deep x a more r t (Ok p) j some refused same fits =
        (a ∷ (more ++ fits.0), fits.1 ∙ ap (λ (l : List ℕ). (before ++ l) ++ fits.0) some ∙ append_assoc before (a ∷ more) fits.0, (j, refused, same))
    fits_deep x a more r t (Err d) j some refused same fits = inr (j, refused)

    bind_ok_by : (r : Outcome A) (x : A) (k : Input) (more : List ℕ) → o x ≡ more → Says more r (Ok (x, k)) → Fits before opens (and_then r f) (g x k)
    bind_ok_by r x k [] none says = subst (λ (t : Outcome A). Fits before opens (and_then t f) (g x k)) (sym says) (fits_on x (f x k) (g x k) none ((second x).does k))
    bind_ok_by r x k (a ∷ more) some says = fits_deep x a more (and_then r f) (f x k) (g x k) says.0 some (ap (λ (t : Outcome A). and_then t f) says.1) says.2 ((second x).does k)

    bind_by : (r s : Outcome A) → Fits [] o r s → Fits before opens (and_then r f) (and_then s g)
    bind_by r (Ok p) fits = bind_ok_by r p.0 p.1 fits.0 fits.1 fits.2
    bind_by r (Err d) (inl same) = inl (ap (λ (t : Outcome A). and_then t f) same)
    bind_by r (Err d) (inr deep) = inr (deep.0, ap (λ (t : Outcome A). and_then t f) deep.1)

    pub bind_widens : (p q : Parser A) → Widens [] o p q → Widens before opens (p >>= f) (q >>= g)
    bind_widens p q first = record { does = λ i. bind_by (p i) (q i) (first.does i) }

-- ---- lists, whose items open what they do in order

module _ {M A : Type 0} (mark : Term → ℕ → Option M) (p q : Parser A) (o : A → List ℕ) (opens : List (M × A) → List ℕ) (none : opens [] ≡ []) (more : (m : M) (x : A) (xs : List (M × A)) → opens ((m, x) ∷ xs) ≡ o x ++ opens xs)
    (widens : Widens [] o p q) where
  one_more_widens : (n : ℕ) → Widens [] opens (more_from mark p n) (more_from mark q n) → (m : Option M) → Widens [] opens (one_more p (more_from mark p n) m) (one_more q (more_from mark q n) m)
  one_more_widens n others None = pure_widens [] opens [] none
  one_more_widens n others (Some m) = bind_widens [] opens _ _ o (λ x. bind_widens (o x) opens _ _ opens (λ xs. pure_widens (o x ++ opens xs) opens ((m, x) ∷ xs) (more m x xs)) _ _ others) p q widens

  more_from_widens : (n : ℕ) → Widens [] opens (more_from mark p n) (more_from mark q n)
  unfolding more_from
  more_from_widens zero = pure_widens [] opens [] none
  more_from_widens (suc n) = record { does = λ i. (one_more_widens n (more_from_widens n) (mark_at mark i)).does (past (mark_at mark i) i) }

  pub more_widens : Widens [] opens (more_of mark p) (more_of mark q)
  unfolding more_of
  more_widens = record { does = λ i. (more_from_widens (length i.tokens)).does i }

module _ {A : Type 0} (last : Term) (p q : Parser A) (o : A → List ℕ) (opens : List A → List ℕ) (none : opens [] ≡ []) (more : (x : A) (xs : List A) → opens (x ∷ xs) ≡ o x ++ opens xs) (widens : Widens [] o p q) where
  one_or_end_widens : (n : ℕ) → Widens [] opens (many_from last p n) (many_from last q n) → (b : Bool) → Widens [] opens (one_or_end p (many_from last p n) b) (one_or_end q (many_from last q n) b)
  one_or_end_widens n others true = pure_widens [] opens [] none
  one_or_end_widens n others false = bind_widens [] opens _ _ o (λ x. bind_widens (o x) opens _ _ opens (λ xs. pure_widens (o x ++ opens xs) opens (x ∷ xs) (more x xs)) _ _ others) p q widens

  many_from_widens : (n : ℕ) → Widens [] opens (many_from last p n) (many_from last q n)
  unfolding many_from
  many_from_widens zero = refuse_widens [] opens
  many_from_widens (suc n) = record { does = λ i. (one_or_end_widens n (many_from_widens n) (sees last i)).does i }

  pub many_widens : Widens [] opens (many last p) (many last q)
  unfolding many
  many_widens = record { does = λ i. (many_from_widens (suc (length i.tokens))).does i }

-- ---- expressions

-- what operands behind marks open
abbrev behind_beyond : {M : Type 0} → ℕ → List (M × plain.Expr) → List ℕ
behind_beyond n [] = []
behind_beyond n (m ∷ more) = expr_beyond m.1 n ++ behind_beyond n more

joined_beyond : {M : Type 0} (mark : M → plain.Expr → plain.Expr → plain.Expr) (n : ℕ) → ((m : M) (l r : plain.Expr) → expr_beyond (mark m l r) n ≡ expr_beyond l n ++ expr_beyond r n) → (left : plain.Expr) (more : List (M × plain.Expr))
    → expr_beyond (left_to_right mark left more) n ≡ expr_beyond left n ++ behind_beyond n more
joined_beyond mark n both left [] = sym (append-nil (expr_beyond left n))
joined_beyond mark n both left (m ∷ more) =
    joined_beyond mark n both (mark m.0 left m.1) more ∙ ap (λ (l : List ℕ). l ++ behind_beyond n more) (both m.0 left m.1) ∙ append_assoc (expr_beyond left n) (expr_beyond m.1 n) (behind_beyond n more)

-- a level of expressions, over operands that open what they do
module _ {M A B : Type 0} (n : ℕ) (mark : Term → ℕ → Option M) (join : M → plain.Expr → plain.Expr → plain.Expr) (both : (m : M) (l r : plain.Expr) → expr_beyond (join m l r) n ≡ expr_beyond l n ++ expr_beyond r n)
    (view : A → plain.Expr) (up : B → plain.Expr) (made : ℕ → A → List (M × A) → B) (seen : (from : ℕ) (first : A) (more : List (M × A)) → up (made from first more) ≡ left_to_right join (view first) (behind view more)) where
  level_widens : (p q : Parser A) → Widens [] (λ x. expr_beyond (view x) n) p q
      → Widens [] (λ x. expr_beyond (up x) n) (here >>= λ from. p >>= λ first. more_of mark p >>= λ more. pure (made from first more)) (here >>= λ from. q >>= λ first. more_of mark q >>= λ more. pure (made from first more))
  level_widens p q widens = behind_widens [] _ _ _ here (λ from. bind_widens [] _ _ _ (λ x. expr_beyond (view x) n) (λ first. bind_widens (expr_beyond (view first) n) _ _ _ (λ more. behind_beyond n (behind view more))
      (λ more. pure_widens (expr_beyond (view first) n ++ behind_beyond n (behind view more)) _ (made from first more) (ap (λ (e : plain.Expr). expr_beyond e n) (seen from first more) ∙ joined_beyond join n both (view first) (behind view more))) _ _
      (more_widens mark p q (λ x. expr_beyond (view x) n) (λ more. behind_beyond n (behind view more)) refl (λ m x xs. refl) widens)) p q widens)

module _ (n : ℕ) (p q : Parser Unary) (widens : Widens [] (λ u. expr_beyond (plain_unary u) n) p q) where
  product_widens : Widens [] (λ x. expr_beyond (plain_product x) n) (spec.product p) (spec.product q)
  unfolding spec.product
  product_widens = level_widens n spec.product_mark product_mark (λ m l r. refl) plain_unary plain_product (λ from first more. roll-Product (record { from = from; first = first; more = more }))
      (λ from first more. product_out (roll-Product (record { from = from; first = first; more = more })) ∙ ap (λ r. left_to_right product_mark (plain_unary r.first) (behind plain_unary r.more)) (out-roll-Product (record { from = from; first = first; more = more }))) p q widens

  sum_widens : Widens [] (λ x. expr_beyond (plain_sum x) n) (spec.sum p) (spec.sum q)
  unfolding spec.sum
  sum_widens = level_widens n spec.sum_mark sum_mark (λ m l r. refl) plain_product plain_sum (λ from first more. roll-Sum (record { from = from; first = first; more = more }))
      (λ from first more. sum_out (roll-Sum (record { from = from; first = first; more = more })) ∙ ap (λ r. left_to_right sum_mark (plain_product r.first) (behind plain_product r.more)) (out-roll-Sum (record { from = from; first = first; more = more }))) (spec.product p) (spec.product q) product_widens

  relation_widens : Widens [] (λ x. expr_beyond (plain_relation x) n) (spec.relation p) (spec.relation q)
  unfolding spec.relation
  relation_widens = level_widens n spec.relation_mark relation_mark (λ m l r. refl) plain_sum plain_relation (λ from first more. roll-Relation (record { from = from; first = first; more = more }))
      (λ from first more. relation_out (roll-Relation (record { from = from; first = first; more = more })) ∙ ap (λ r. left_to_right relation_mark (plain_sum r.first) (behind plain_sum r.more)) (out-roll-Relation (record { from = from; first = first; more = more }))) (spec.sum p) (spec.sum q) sum_widens

  equality_widens : Widens [] (λ x. expr_beyond (plain_equality x) n) (spec.equality p) (spec.equality q)
  unfolding spec.equality
  equality_widens = level_widens n spec.equality_mark equality_mark (λ m l r. refl) plain_relation plain_equality (λ from first more. roll-Equality (record { from = from; first = first; more = more }))
      (λ from first more. equality_out (roll-Equality (record { from = from; first = first; more = more })) ∙ ap (λ r. left_to_right equality_mark (plain_relation r.first) (behind plain_relation r.more)) (out-roll-Equality (record { from = from; first = first; more = more }))) (spec.relation p) (spec.relation q) relation_widens

  conjunction_widens : Widens [] (λ x. expr_beyond (plain_conjunction x) n) (spec.conjunction p) (spec.conjunction q)
  unfolding spec.conjunction
  conjunction_widens = level_widens n spec.and_mark and_mark (λ m l r. refl) plain_equality plain_conjunction (λ from first more. roll-Conjunction (record { from = from; first = first; more = more }))
      (λ from first more. conjunction_out (roll-Conjunction (record { from = from; first = first; more = more })) ∙ ap (λ r. left_to_right and_mark (plain_equality r.first) (behind plain_equality r.more)) (out-roll-Conjunction (record { from = from; first = first; more = more }))) (spec.equality p) (spec.equality q) equality_widens

  pub expr_over_widens : Widens [] (λ x. expr_beyond (plain_expr x) n) (spec.expr_over p) (spec.expr_over q)
  unfolding spec.expr_over
  expr_over_widens = level_widens n spec.or_mark or_mark (λ m l r. refl) plain_conjunction plain_expr (λ from first more. roll-Expr (record { from = from; first = first; more = more }))
      (λ from first more. expr_out (roll-Expr (record { from = from; first = first; more = more })) ∙ ap (λ r. left_to_right or_mark (plain_conjunction r.first) (behind plain_conjunction r.more)) (out-roll-Expr (record { from = from; first = first; more = more }))) (spec.conjunction p) (spec.conjunction q) conjunction_widens

-- what an operand opens beyond so many levels
abbrev unary_opens : ℕ → Unary → List ℕ
unary_opens n u = expr_beyond (plain_unary u) n

number_opens : (n from : ℕ) (value : _) → unary_opens n (unaries.Number from value) ≡ []
number_opens n from value = ap (λ (e : plain.Expr). expr_beyond e n) (number_is from value)

name_opens : (n : ℕ) (name : _) → unary_opens n (unaries.Name name) ≡ []
name_opens n name = ap (λ (e : plain.Expr). expr_beyond e n) (name_is name)

number_widens : (n : ℕ) → Widens [] (unary_opens n) spec.number_operand spec.number_operand
number_widens n = behind_widens [] _ _ _ here (λ from. behind_widens [] _ _ _ spec.number (λ value. pure_widens [] (unary_opens n) (unaries.Number from value) (number_opens n from value)))

name_widens : (n : ℕ) → Widens [] (unary_opens n) spec.name_operand spec.name_operand
name_widens n = behind_widens [] _ _ _ spec.name (λ name. pure_widens [] (unary_opens n) (unaries.Name name) (name_opens n name))

module _ (n : ℕ) (p q : Parser Unary) (widens : Widens [] (unary_opens n) p q) where
  operated_widens : (kind : UnaryKind) → Widens [] (unary_opens (suc n)) (spec.operated (Some p) kind) (spec.operated (Some q) kind)
  operated_widens kind = behind_widens [] _ _ _ take_token (λ from. bind_widens [] _ _ _ (unary_opens n) (λ operand. pure_widens (unary_opens n operand) (unary_opens (suc n)) (unaries.Operator from kind operand) (ap (λ (e : plain.Expr). expr_beyond e (suc n)) (operator_is from kind operand))) p q widens)

  parens_widens : Widens [] (unary_opens (suc n)) (spec.parenthesized (Some p)) (spec.parenthesized (Some q))
  parens_widens = behind_widens [] _ _ _ take_token (λ from. bind_widens [] _ _ _ (λ x. expr_beyond (plain_expr x) n)
      (λ inner. behind_widens (expr_beyond (plain_expr inner) n) _ _ _ (expect terms.RightParen) (λ closed. pure_widens (expr_beyond (plain_expr inner) n) (unary_opens (suc n)) (unaries.Paren from inner) (ap (λ (e : plain.Expr). expr_beyond e (suc n)) (paren_is from inner)))) _ _
      (expr_over_widens n p q widens))

  unary_by_widens : (k : Term) → Widens [] (unary_opens (suc n)) (spec.unary_by (Some p) k) (spec.unary_by (Some q) k)
  unary_by_widens terms.Minus = operated_widens signs.Minus
  unary_by_widens terms.Plus = operated_widens signs.Plus
  unary_by_widens terms.Not = operated_widens signs.Not
  unary_by_widens terms.LeftParen = parens_widens
  unary_by_widens terms.Number = number_widens (suc n)
  unary_by_widens terms.Name = name_widens (suc n)
  unary_by_widens _ = refuse_widens [] (unary_opens (suc n))

-- ---- where no level is left

operated_opens : (deeper : Option (Parser Unary)) (kind : UnaryKind) (i : Input) (u : Unary) (j : Input) → spec.operated deeper kind i ≡ Ok (u, j) → unary_opens zero u ≡ place i ∷ []
operated_opens None kind i u j e = absurd (not_err (too_deep i) u j e)
operated_opens (Some unary) kind i u j e =
    let a = bind_ok (unary (next i)) (λ operand. pure (unaries.Operator (place i) kind operand)) u j e in
    ap (unary_opens zero) (sym (ok_parts (unaries.Operator (place i) kind a.0) u a.1 j a.3).0) ∙ ap (λ (x : plain.Expr). expr_beyond x zero) (operator_is (place i) kind a.0)

parens_opens : (deeper : Option (Parser Unary)) (i : Input) (u : Unary) (j : Input) → spec.parenthesized deeper i ≡ Ok (u, j) → unary_opens zero u ≡ place i ∷ []
parens_opens None i u j e = absurd (not_err (too_deep i) u j e)
parens_opens (Some unary) i u j e =
    let a = bind_ok (spec.expr_over unary (next i)) (λ inner. expect terms.RightParen >>= λ closed. pure (unaries.Paren (place i) inner)) u j e in
    let b = bind_ok (expect terms.RightParen a.1) (λ closed. pure (unaries.Paren (place i) a.0)) u j a.3 in
    ap (unary_opens zero) (sym (ok_parts (unaries.Paren (place i) a.0) u b.1 j b.3).0) ∙ ap (λ (x : plain.Expr). expr_beyond x zero) (paren_is (place i) a.0)

leaf_by_widens : (deeper : Option (Parser Unary)) (k : Term) → Widens [] (unary_opens zero) (spec.unary_by None k) (spec.unary_by deeper k)
leaf_by_widens deeper terms.Minus = deep_widens (unary_opens zero) (spec.operated deeper signs.Minus) (operated_opens deeper signs.Minus)
leaf_by_widens deeper terms.Plus = deep_widens (unary_opens zero) (spec.operated deeper signs.Plus) (operated_opens deeper signs.Plus)
leaf_by_widens deeper terms.Not = deep_widens (unary_opens zero) (spec.operated deeper signs.Not) (operated_opens deeper signs.Not)
leaf_by_widens deeper terms.LeftParen = deep_widens (unary_opens zero) (spec.parenthesized deeper) (parens_opens deeper)
leaf_by_widens deeper terms.Number = number_widens zero
leaf_by_widens deeper terms.Name = name_widens zero
leaf_by_widens deeper _ = refuse_widens [] (unary_opens zero)

unary_widens : (n m : ℕ) → n ≤ m → Widens [] (unary_opens n) (spec.unary n) (spec.unary m)
unfolding spec.unary spec.unary_with
unary_widens zero zero le = behind_widens [] _ _ _ look (leaf_by_widens None)
unary_widens zero (suc m) le = behind_widens [] _ _ _ look (leaf_by_widens (Some (spec.unary m)))
unary_widens (suc n) zero le = absurd (omega arith)
unary_widens (suc n) (suc m) le = behind_widens [] _ _ _ look (unary_by_widens n (spec.unary n) (spec.unary m) (unary_widens n m (omega arith)))

pub expr_widens : (n m : ℕ) → n ≤ m → Widens [] (λ x. expr_beyond (plain_expr x) n) (spec.expr n) (spec.expr m)
expr_widens n m le = expr_over_widens n (spec.unary n) (spec.unary m) (unary_widens n m le)
