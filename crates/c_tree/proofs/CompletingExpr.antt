-- Expressions, and what completes them, with more levels.
use Rattle.std.proofs.Common.{◌≡◌, ℕ, zero, suc, ◌<◌, ◌≤◌, ℤ, pos, true, Bool, nat_lt, List, [], ◌∷◌, Option, Some, None, codes, refl, arith}
use Rattle.std.proofs.lemmas.Bool.{lt-ltb, ltb-true}
use Rattle.c_lex.specs.Tokens.{Lexeme}
use Rattle.c_tree.specs.declared.term.Term.{Term}
use Rattle.c_tree.specs.declared.term.Term.TheVariants as terms
use Rattle.c_tree.specs.declared.expr.Name.{Name}
use Rattle.c_tree.specs.declared.expr.Expr.{roll-Expr}
use Rattle.c_tree.specs.declared.expr.Conjunction.{roll-Conjunction}
use Rattle.c_tree.specs.declared.expr.Equality.{roll-Equality}
use Rattle.c_tree.specs.declared.expr.Relation.{roll-Relation}
use Rattle.c_tree.specs.declared.expr.Sum.{roll-Sum}
use Rattle.c_tree.specs.declared.expr.Product.{roll-Product}
use Rattle.c_tree.specs.declared.expr.Unary.{Unary}
use Rattle.c_tree.specs.declared.expr.Unary.TheVariants as unaries
use Rattle.c_tree.specs.declared.expr.UnaryKind.{UnaryKind}
use Rattle.c_tree.specs.declared.expr.UnaryKind.TheVariants as signs
use Rattle.c_tree.specs.inside.Input.{Parser, ◌>>=◌, pure, refuse, expect, bytes}
use Rattle.c_tree.specs.inside.Expr as spec
use Rattle.c_tree.specs.Grammar.{binds}
use Rattle.c_tree.proofs.Shrinks.{Shrinks, product_shrinks, sum_shrinks, relation_shrinks, equality_shrinks, conjunction_shrinks, unary_shrinks}
use Rattle.c_tree.proofs.Sizes.{refuse_shrinks}
use Rattle.c_tree.proofs.Again.{no_product_mark, no_sum_mark, no_relation_mark, no_equality_mark, no_and_mark, no_or_mark, name_again}
use Rattle.c_tree.proofs.NextToken.{seeing, views_bytes}
use Rattle.c_tree.proofs.Completing.{any, Fills, FinishesAt, Completes, bind}
use Rattle.c_tree.proofs.Fillers.{IsToken, is_there, name_token, zero_token, close_token, is_zero, is_name, is_close}
use Rattle.c_tree.proofs.CompletingSteps.{something, leads_any, leads_none, leads_token, not_read, filled, same_completes, pure_completes, refuse_at, seen_some, Branches, looked, looked_fill, placed, Takes, taking, deep_at, wanted, ended}
use Rattle.c_tree.proofs.CompletingLoops.{more_completes}

abbrev pub zero_fill : List Lexeme
zero_fill = zero_token ∷ []

-- ---- names and numbers

pub name_fill : {C : Term → Bool} (t : Lexeme) → IsToken t terms.Name → Fills spec.name (t ∷ []) C
unfolding spec.name bytes
name_fill {C} t token = record { value = record { from = t.from; text = t.bytes }; reads = λ end tail meets. name_again end (record { from = t.from; text = t.bytes }) (t ∷ tail) tail ((token.is, refl, refl), refl) }

pub name_completes : {C : Term → Bool} → Completes spec.name spec.name (name_token ∷ []) C
unfolding spec.name bytes
name_completes {C} = record {
  fill = name_fill name_token is_name;
  there = (same_completes spec.name spec.name (seeing bytes >>= as_name) (seeing bytes >>= as_name) (λ i. refl) (λ i. refl)
      (seen_some {us = []} bytes views_bytes (λ text end ts is. filled ((name_of text).there end ts)) name_token.bytes (λ end tail. refl) (name_of name_token.bytes).fill)).there;
}
  where
    as_name : List ℕ → Parser Name
    as_name text = expect terms.Name >>= λ from. pure (record { from = from; text = text })

    name_of : (text : List ℕ) → Completes (as_name text) (as_name text) (name_token ∷ []) C
    name_of text = wanted is_name (λ from. pure_completes {A = Name} (record { from = from; text = text }))

number_of_completes : (v : ℤ) → Completes (spec.number_of (Some v)) (spec.number_of (Some v)) zero_fill any
number_of_completes v = wanted is_zero (λ from. pure_completes v)

number_of_there : (v : Option ℤ) (end : ℕ) (ts : List Lexeme) → FinishesAt (spec.number_of v) (spec.number_of v) something any end ts
number_of_there None end ts = refuse_at end ts
number_of_there (Some v) end ts = filled ((number_of_completes v).there end ts)

pub number_completes : Completes spec.number spec.number zero_fill any
unfolding spec.number bytes
number_completes = same_completes spec.number spec.number (seeing bytes >>= λ text. spec.number_of (spec.number_value text)) (seeing bytes >>= λ text. spec.number_of (spec.number_value text)) (λ i. refl) (λ i. refl)
    (seen_some {us = []} bytes views_bytes (λ text end ts is. number_of_there (spec.number_value text) end ts) (codes "0") (λ end tail. refl) (number_of_completes (pos 0)).fill)

-- ---- levels of marks

-- what binds less than so
abbrev pub looser : ℕ → Term → Bool
looser n k = nat_lt (binds k) n

looser_lt : (n : ℕ) (k : Term) → looser n k ≡ true → binds k < n
looser_lt n k so = ltb-true (binds k) n so

looser_less : (n m : ℕ) → n ≤ m → (k : Term) → looser n k ≡ true → looser m k ≡ true
looser_less n m le k so = lt-ltb (binds k) m (let lt = looser_lt n k so in omega arith)

module _ (p q : Parser Unary) (shrinks : Shrinks p) (deeper : Shrinks q) (operand : Completes p q zero_fill any) where
  product_completes : Completes (spec.product p) (spec.product q) zero_fill (looser 6)
  unfolding spec.product
  product_completes = placed (λ from. bind operand leads_any (λ first. bind (more_completes spec.product_mark p q zero_fill any (looser 6) (λ n. refl) shrinks deeper operand (λ k so. refl) (λ k n so. no_product_mark k n (looser_lt 6 k so)))
      (leads_none (λ k so. so)) (λ more. pure_completes (roll-Product (record { from = from; first = first; more = more })))))

  sum_completes : Completes (spec.sum p) (spec.sum q) zero_fill (looser 5)
  unfolding spec.sum
  sum_completes = placed (λ from. bind product_completes (leads_none (looser_less 5 6 (omega arith))) (λ first. bind (more_completes spec.sum_mark (spec.product p) (spec.product q) zero_fill (looser 6) (looser 5) (λ n. refl) (product_shrinks p shrinks) (product_shrinks q deeper) product_completes (looser_less 5 6 (omega arith)) (λ k n so. no_sum_mark k n (looser_lt 5 k so)))
      (leads_none (λ k so. so)) (λ more. pure_completes (roll-Sum (record { from = from; first = first; more = more })))))

  relation_completes : Completes (spec.relation p) (spec.relation q) zero_fill (looser 4)
  unfolding spec.relation
  relation_completes = placed (λ from. bind sum_completes (leads_none (looser_less 4 5 (omega arith))) (λ first. bind (more_completes spec.relation_mark (spec.sum p) (spec.sum q) zero_fill (looser 5) (looser 4) (λ n. refl) (sum_shrinks p shrinks) (sum_shrinks q deeper) sum_completes (looser_less 4 5 (omega arith)) (λ k n so. no_relation_mark k n (looser_lt 4 k so)))
      (leads_none (λ k so. so)) (λ more. pure_completes (roll-Relation (record { from = from; first = first; more = more })))))

  equality_completes : Completes (spec.equality p) (spec.equality q) zero_fill (looser 3)
  unfolding spec.equality
  equality_completes = placed (λ from. bind relation_completes (leads_none (looser_less 3 4 (omega arith))) (λ first. bind (more_completes spec.equality_mark (spec.relation p) (spec.relation q) zero_fill (looser 4) (looser 3) (λ n. refl) (relation_shrinks p shrinks) (relation_shrinks q deeper) relation_completes (looser_less 3 4 (omega arith)) (λ k n so. no_equality_mark k n (looser_lt 3 k so)))
      (leads_none (λ k so. so)) (λ more. pure_completes (roll-Equality (record { from = from; first = first; more = more })))))

  conjunction_completes : Completes (spec.conjunction p) (spec.conjunction q) zero_fill (looser 2)
  unfolding spec.conjunction
  conjunction_completes = placed (λ from. bind equality_completes (leads_none (looser_less 2 3 (omega arith))) (λ first. bind (more_completes spec.and_mark (spec.equality p) (spec.equality q) zero_fill (looser 3) (looser 2) (λ n. refl) (equality_shrinks p shrinks) (equality_shrinks q deeper) equality_completes (looser_less 2 3 (omega arith)) (λ k n so. no_and_mark k n (looser_lt 2 k so)))
      (leads_none (λ k so. so)) (λ more. pure_completes (roll-Conjunction (record { from = from; first = first; more = more })))))

  expr_over_completes : Completes (spec.expr_over p) (spec.expr_over q) zero_fill (looser 1)
  unfolding spec.expr_over
  expr_over_completes = placed (λ from. bind conjunction_completes (leads_none (looser_less 1 2 (omega arith))) (λ first. bind (more_completes spec.or_mark (spec.conjunction p) (spec.conjunction q) zero_fill (looser 2) (looser 1) (λ n. refl) (conjunction_shrinks p shrinks) (conjunction_shrinks q deeper) conjunction_completes (looser_less 1 2 (omega arith)) (λ k n so. no_or_mark k n (looser_lt 1 k so)))
      (leads_none (λ k so. so)) (λ more. pure_completes (roll-Expr (record { from = from; first = first; more = more })))))

  operated_takes : (kind : UnaryKind) (k : Term) → is_there k ≡ true → Takes k (spec.operated (Some p) kind) (spec.operated (Some q) kind) zero_fill any
  operated_takes kind k some = taking some (λ from. bind operand leads_any (λ inner. pure_completes (unaries.Operator from kind inner)))

  parenthesized_takes : Takes terms.LeftParen (spec.parenthesized (Some p)) (spec.parenthesized (Some q)) (zero_token ∷ close_token ∷ []) any
  parenthesized_takes = taking refl (λ from. bind expr_over_completes (leads_token is_close refl) (λ inner. ended is_close (unaries.Paren from inner)))

number_operand_completes : Completes spec.number_operand spec.number_operand zero_fill any
number_operand_completes = placed (λ from. bind number_completes leads_any (λ value. pure_completes (unaries.Number from value)))

name_operand_completes : Completes spec.name_operand spec.name_operand (name_token ∷ []) any
name_operand_completes = bind name_completes leads_any (λ called. pure_completes (unaries.Name called))

-- an operand is filled by `0`
unary_with_fill : (deeper : Option (Parser Unary)) → Fills (spec.unary_with deeper) zero_fill any
unfolding spec.unary_with
unary_with_fill deeper = looked_fill (spec.unary_by deeper) terms.Number is_zero.is number_operand_completes.fill

unary_fill : (levels : ℕ) → Fills (spec.unary levels) zero_fill any
unfolding spec.unary
unary_fill zero = unary_with_fill None
unary_fill (suc levels) = unary_with_fill (Some (spec.unary levels))

unary_branches : (p q : Parser Unary) → Shrinks p → Shrinks q → Completes p q zero_fill any → Branches (spec.unary_by (Some p)) (spec.unary_by (Some q)) any
unary_branches p q shrinks deeper operand terms.Minus end ts is = (operated_takes p q shrinks deeper operand signs.Minus terms.Minus refl).there end ts is
unary_branches p q shrinks deeper operand terms.Plus end ts is = (operated_takes p q shrinks deeper operand signs.Plus terms.Plus refl).there end ts is
unary_branches p q shrinks deeper operand terms.Not end ts is = (operated_takes p q shrinks deeper operand signs.Not terms.Not refl).there end ts is
unary_branches p q shrinks deeper operand terms.LeftParen end ts is = (parenthesized_takes p q shrinks deeper operand).there end ts is
unary_branches p q shrinks deeper operand terms.Number end ts is = filled (number_operand_completes.there end ts)
unary_branches p q shrinks deeper operand terms.Name end ts is = filled (name_operand_completes.there end ts)
unary_branches p q shrinks deeper operand _ end ts is = refuse_at end ts

leaf_branches : (q : Parser Unary) → Shrinks q → Completes refuse q zero_fill any → Branches (spec.unary_by None) (spec.unary_by (Some q)) any
leaf_branches q deeper operand terms.Minus end ts is = deep_at refl (operated_takes refuse q refuse_shrinks deeper operand signs.Minus terms.Minus refl).fill end ts is
leaf_branches q deeper operand terms.Plus end ts is = deep_at refl (operated_takes refuse q refuse_shrinks deeper operand signs.Plus terms.Plus refl).fill end ts is
leaf_branches q deeper operand terms.Not end ts is = deep_at refl (operated_takes refuse q refuse_shrinks deeper operand signs.Not terms.Not refl).fill end ts is
leaf_branches q deeper operand terms.LeftParen end ts is = deep_at refl (parenthesized_takes refuse q refuse_shrinks deeper operand).fill end ts is
leaf_branches q deeper operand terms.Number end ts is = filled (number_operand_completes.there end ts)
leaf_branches q deeper operand terms.Name end ts is = filled (name_operand_completes.there end ts)
leaf_branches q deeper operand _ end ts is = refuse_at end ts

unary_completes : (n m : ℕ) → n < m → Completes (spec.unary n) (spec.unary m) zero_fill any
unfolding spec.unary spec.unary_with
unary_completes n zero lt = absurd (omega arith)
unary_completes zero (suc m) lt = looked (leaf_branches (spec.unary m) (unary_shrinks m) (not_read (unary_fill m))) terms.Number is_zero.is number_operand_completes.fill
unary_completes (suc n) (suc m) lt = looked (unary_branches (spec.unary n) (spec.unary m) (unary_shrinks n) (unary_shrinks m) (unary_completes n m (omega arith))) terms.Number is_zero.is number_operand_completes.fill

pub expr_completes : (n m : ℕ) → n < m → Completes (spec.expr n) (spec.expr m) zero_fill (looser 1)
expr_completes n m lt = expr_over_completes (spec.unary n) (spec.unary m) (unary_shrinks n) (unary_shrinks m) (unary_completes n m lt)
