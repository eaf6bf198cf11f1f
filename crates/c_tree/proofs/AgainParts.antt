-- What stands in the text is read, whatever is behind it or where it is closed.
use Rattle.std.proofs.Common.{◌≡◌, ℕ, zero, suc, ◌<◌, ◌≤◌, Bool, true, false, List, [], ◌∷◌, length, Some, None, Ok, refl, ap, ◌∙◌, arith}
use Rattle.c_lex.specs.Tokens.{Lexeme}
use Rattle.c_tree.specs.declared.term.Term.{Term}
use Rattle.c_tree.specs.declared.term.Term.TheVariants as terms
use Rattle.c_tree.specs.Term.{same_term}
use Rattle.c_tree.specs.inside.Input.{Parser, peek, sees, after, expect, term_at}
use Rattle.c_tree.specs.inside.Chain.{mark_at, more_from, more_of}
use Rattle.c_tree.specs.inside.Many.{many_from, many}
use Rattle.c_tree.specs.inside.Expr as expr_spec
use Rattle.c_tree.specs.inside.Simple.{comma_mark, empty_parens}
use Rattle.c_tree.specs.Grammar.{Stands, AreMore, IsExpr, binds}
use Rattle.c_tree.specs.Sequence.{Part, AreAll, EmptyParens, IsComma}
use Rattle.c_tree.proofs.Shrinks.{Shrinks}
use Rattle.c_tree.proofs.Again.{at, is_peek, is_place, is_behind, is_term, is_longer, is_seen, expect_again, expr_again}

-- what is read whatever is behind it
abbrev pub Always : {A : Type 0} → Parser A → (A → Part) → Type 0
Always {A} p R = (end : ℕ) (x : A) (ts rest : List Lexeme) → R x ts rest → p (at ts end) ≡ Ok (x, at rest end)

-- a token that closes a value
abbrev pub closes : Term → Bool
closes terms.Comma = true
closes terms.Semicolon = true
closes terms.RightParen = true
closes _ = false

-- what is read where it is closed
abbrev pub Closed : {A : Type 0} → Parser A → (A → Part) → Type 0
Closed {A} p R = (end : ℕ) (x : A) (ts rest : List Lexeme) → R x ts rest → closes (term_at rest) ≡ true → p (at ts end) ≡ Ok (x, at rest end)

pub stands_term : (k : Term) (ts rest : List Lexeme) → Stands k ts rest → term_at ts ≡ k
stands_term k ts rest is = is_term k is.0 ts rest is.1

-- in front of a token of a kind that closes
pub closed : (k : Term) → closes k ≡ true → (ts rest : List Lexeme) → Stands k ts rest → closes (term_at ts) ≡ true
closed k so ts rest is = ap closes (stands_term k ts rest is) ∙ so

impossible : {A : Type 0} → ◌≡◌ {A = Bool} false true → A
impossible e = absurd cc

pub closes_binds : (k : Term) → closes k ≡ true → binds k < 1
closes_binds terms.Comma so = omega arith
closes_binds terms.Semicolon so = omega arith
closes_binds terms.RightParen so = omega arith
closes_binds _ so = impossible so

pub expr_closed : (levels : ℕ) → Closed (expr_spec.expr levels) (IsExpr levels)
expr_closed levels end e ts rest is so = expr_again levels end e ts rest is (closes_binds (term_at rest) so)

-- ---- tokens

pub stands_again : (k : Term) (end : ℕ) (ts rest : List Lexeme) (is : Stands k ts rest) → expect k (at ts end) ≡ Ok (is.0, at rest end)
stands_again k end ts rest is = expect_again k is.0 end ts rest is.1

pub is_eaten : (k : Term) (end : ℕ) (ts rest : List Lexeme) → Stands k ts rest → sees k (at ts end) ≡ true
is_eaten k end ts rest is = is_seen k is.0 end ts rest is.1

pub behind_eaten : (k : Term) (end : ℕ) (ts rest : List Lexeme) → Stands k ts rest → after k (at ts end) ≡ at rest end
unfolding after
behind_eaten k end ts rest is = rw (is_eaten k end ts rest is) (is_behind k is.0 end ts rest is.1)

-- another token is not seen
pub not_seen : (k : Term) (end : ℕ) (ts : List Lexeme) → same_term (term_at ts) k ≡ false → sees k (at ts end) ≡ false
unfolding sees peek
not_seen k end ts other = other

pub not_behind : (k : Term) (end : ℕ) (ts : List Lexeme) → same_term (term_at ts) k ≡ false → after k (at ts end) ≡ at ts end
unfolding after
not_behind k end ts other = rw (not_seen k end ts other) refl

pub not_assign : (k : Term) → closes k ≡ true → same_term k terms.Assign ≡ false
unfolding same_term
not_assign terms.Comma so = refl
not_assign terms.Semicolon so = refl
not_assign terms.RightParen so = refl
not_assign _ so = impossible so

pub empty_parens_again : (end : ℕ) (ts rest : List Lexeme) (is : EmptyParens ts rest) → empty_parens (at ts end) ≡ Ok (is.2.0, at rest end)
empty_parens_again end ts rest is = rw (stands_again terms.LeftParen end ts is.0 is.1) (stands_again terms.RightParen end is.0 rest is.2)

-- ---- lists

no_comma : (t : Term) (from : ℕ) → t ≡ terms.Semicolon → comma_mark t from ≡ None
no_comma t from e = ap (λ (k : Term). comma_mark k from) e

comma_at : (end m : ℕ) (ts behind : List Lexeme) → IsComma m ts behind → mark_at comma_mark (at ts end) ≡ Some m
comma_at end m ts behind is = rw (is_peek terms.Comma m end ts behind is, is_place terms.Comma m end ts behind is) refl

none_at : (end : ℕ) (ts rest : List Lexeme) → ts ≡ rest → term_at rest ≡ terms.Semicolon → mark_at comma_mark (at ts end) ≡ None
unfolding peek
none_at end ts rest same ends = no_comma (term_at ts) _ (ap term_at same ∙ ends)

module _ {A : Type 0} (item : Parser A) (IsItem : A → Part) (again : Closed item IsItem) (shrinks : Shrinks item) where
  -- an item of a list is closed
  pub behind_item : (more : List (ℕ × A)) (after rest : List Lexeme) → AreMore IsComma IsItem more after rest → term_at rest ≡ terms.Semicolon → closes (term_at after) ≡ true
  behind_item [] after rest are ends = ap (λ (l : List Lexeme). closes (term_at l)) are ∙ ap closes ends
  behind_item (p ∷ more) after rest are ends = ap closes (is_term terms.Comma p.0 after are.0 are.2)

  list_from_again : (n end : ℕ) (more : List (ℕ × A)) (ts rest : List Lexeme) → length ts ≤ n → AreMore IsComma IsItem more ts rest → term_at rest ≡ terms.Semicolon → more_from comma_mark item n (at ts end) ≡ Ok (more, at rest end)
  unfolding more_from
  list_from_again zero end [] ts rest le are ends = ap (λ (l : List Lexeme). Ok ([], at l end)) are
  list_from_again (suc n) end [] ts rest le are ends = rw (none_at end ts rest are ends) (ap (λ (l : List Lexeme). Ok ([], at l end)) are)
  list_from_again zero end (p ∷ more) ts rest le are ends = absurd (omega (arith, is_longer terms.Comma p.0 ts are.0 are.2))
  list_from_again (suc n) end (p ∷ more) ts rest le are ends =
      let x-read : item (at are.0 end) ≡ Ok (p.1, at are.1 end) = again end p.1 are.0 are.1 are.3 (behind_item more are.1 rest are.4 ends) in
      let shorter = shrinks _ _ _ x-read in
      let fewer = is_longer terms.Comma p.0 ts are.0 are.2 in
      let others = list_from_again n end more are.1 rest (omega arith) are.4 ends in
      rw (comma_at end p.0 ts are.0 are.2, is_behind terms.Comma p.0 end ts are.0 are.2, x-read, others) refl

  pub list_again : (end : ℕ) (more : List (ℕ × A)) (ts rest : List Lexeme) → AreMore IsComma IsItem more ts rest → term_at rest ≡ terms.Semicolon → more_of comma_mark item (at ts end) ≡ Ok (more, at rest end)
  unfolding more_of
  list_again end more ts rest are ends = list_from_again (length ts) end more ts rest (omega arith) are ends

module _ {A : Type 0} (last : Term) (item : Parser A) (IsItem : A → Part) (again : Always item IsItem) (shrinks : Shrinks item)
    (begins : (end : ℕ) (x : A) (ts rest : List Lexeme) → IsItem x ts rest → sees last (at ts end) ≡ false) where
  many_from_again : (n end : ℕ) (xs : List A) (ts rest : List Lexeme) → length ts < n → AreAll IsItem xs ts rest → sees last (at rest end) ≡ true → many_from last item n (at ts end) ≡ Ok (xs, at rest end)
  unfolding many_from
  many_from_again zero end xs ts rest lt are ends = absurd (omega arith)
  many_from_again (suc n) end [] ts rest lt are ends = rw (ap (λ (l : List Lexeme). sees last (at l end)) are ∙ ends) (ap (λ (l : List Lexeme). Ok ([], at l end)) are)
  many_from_again (suc n) end (x ∷ xs) ts rest lt are ends =
      let x-read : item (at ts end) ≡ Ok (x, at are.0 end) = again end x ts are.0 are.1 in
      let shorter = shrinks _ _ _ x-read in
      let others = many_from_again n end xs are.0 rest (omega arith) are.2 ends in
      rw (begins end x ts are.0 are.1, x-read, others) refl

  pub many_again : (end : ℕ) (xs : List A) (ts rest : List Lexeme) → AreAll IsItem xs ts rest → sees last (at rest end) ≡ true → many last item (at ts end) ≡ Ok (xs, at rest end)
  unfolding many
  many_again end xs ts rest are ends = many_from_again (suc (length ts)) end xs ts rest (omega arith) are ends
