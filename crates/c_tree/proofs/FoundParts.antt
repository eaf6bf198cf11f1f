-- What is read in front of a part, and the part behind it.
use Rattle.std.proofs.Common.{◌≡◌, ℕ, zero, suc, Bool, true, false, List, [], ◌∷◌, length, Some, Ok, refl, subst}
use Rattle.c_lex.specs.Tokens.{Lexeme}
use Rattle.c_tree.specs.declared.term.Term.{Term}
use Rattle.c_tree.specs.declared.term.Term.TheVariants as terms
use Rattle.c_tree.specs.inside.Input.{Input, Outcome, Parser, place, next, sees, after, expect, refusal}
use Rattle.c_tree.specs.inside.Many.{one_or_end, many_from, many}
use Rattle.c_tree.specs.inside.Simple.{comma_mark, empty_parens}
use Rattle.c_tree.specs.Grammar.{Stands}
use Rattle.c_tree.specs.Sequence.{Part, AreAll, EmptyParens, IsComma}
use Rattle.c_tree.proofs.Steps.{bind_ok, ok_parts, not_err}
use Rattle.c_tree.proofs.Found.{Finds, FindsMark, is_next, seen, expect_found, no_mark}

-- what is made is what is given
pub given : {A : Type 0} (R : A → Part) (made x : A) (k j : Input) (ts : List Lexeme) → ◌≡◌ {A = Outcome A} (Ok (made, k)) (Ok (x, j)) → R made ts k.tokens → R x ts j.tokens
given {A} R made x k j ts e holds =
    let same = ok_parts made x k j e in
    subst (λ (y : A). R y ts j.tokens) same.0 (subst (λ (l : Input). R made ts l.tokens) same.1 holds)

-- ---- tokens

pub stands_found : (k : Term) → (k ≡ terms.End → ⊥) → (i : Input) (x : ℕ) (j : Input) → expect k i ≡ Ok (x, j) → Stands k i.tokens j.tokens
stands_found k more i x j e = (x, expect_found k more i x j e)

pub open_found : (i : Input) (x : ℕ) (j : Input) → expect terms.LeftParen i ≡ Ok (x, j) → Stands terms.LeftParen i.tokens j.tokens
open_found i x j e = stands_found terms.LeftParen (λ h. cc) i x j e

pub close_found : (i : Input) (x : ℕ) (j : Input) → expect terms.RightParen i ≡ Ok (x, j) → Stands terms.RightParen i.tokens j.tokens
close_found i x j e = stands_found terms.RightParen (λ h. cc) i x j e

pub comma_found : (i : Input) (x : ℕ) (j : Input) → expect terms.Comma i ≡ Ok (x, j) → Stands terms.Comma i.tokens j.tokens
comma_found i x j e = stands_found terms.Comma (λ h. cc) i x j e

pub semicolon_found : (i : Input) (x : ℕ) (j : Input) → expect terms.Semicolon i ≡ Ok (x, j) → Stands terms.Semicolon i.tokens j.tokens
semicolon_found i x j e = stands_found terms.Semicolon (λ h. cc) i x j e

pub empty_parens_found : (i : Input) (x : ℕ) (j : Input) → empty_parens i ≡ Ok (x, j) → EmptyParens i.tokens j.tokens
empty_parens_found i x j e =
    let a = bind_ok (expect terms.LeftParen i) _ x j e in
    (a.1.tokens, open_found i a.0 a.1 a.2, close_found _ _ _ a.3)

pub eaten : (k : Term) → (k ≡ terms.End → ⊥) → (i : Input) → sees k i ≡ true → Stands k i.tokens (after k i).tokens
unfolding after
eaten k more i is = rw is (place i, is_next i k more (seen k i is))

pub not_eaten : (k : Term) (i : Input) → sees k i ≡ false → i.tokens ≡ (after k i).tokens
unfolding after
not_eaten k i is = rw is refl

-- ---- lists

comma_mark_by : (i : Input) (k : Term) (m : ℕ) → Rattle.c_tree.specs.inside.Input.peek i ≡ k → comma_mark k (place i) ≡ Some m → IsComma m i.tokens (next i).tokens
comma_mark_by i terms.Comma m is e = (let same : place i ≡ m = cc in subst (λ (x : ℕ). IsComma x i.tokens (next i).tokens) same (is_next i terms.Comma (λ h. cc) is))
comma_mark_by i _ m is e = absurd (no_mark m e)

pub comma_mark_found : FindsMark comma_mark IsComma
comma_mark_found i m e = comma_mark_by i (Rattle.c_tree.specs.inside.Input.peek i) m refl e

module _ {A : Type 0} (end : Term) (item : Parser A) (R : A → Part) (finds : Finds item R) where
  one_or_end_found : (n : ℕ) (b : Bool) (i : Input) (xs : List A) (j : Input) → Finds (many_from end item n) (AreAll R) → one_or_end item (many_from end item n) b i ≡ Ok (xs, j) → AreAll R xs i.tokens j.tokens
  one_or_end_found n true i xs j others e = given (AreAll R) [] xs i j i.tokens e refl
  one_or_end_found n false i xs j others e =
      let a = bind_ok (item i) _ xs j e in
      let b = bind_ok (many_from end item n a.1) _ xs j a.3 in
      given (AreAll R) (a.0 ∷ b.0) xs b.1 j i.tokens b.3 (a.1.tokens, finds i a.0 a.1 a.2, others a.1 b.0 b.1 b.2)

  many_from_found : (n : ℕ) → Finds (many_from end item n) (AreAll R)
  unfolding many_from
  many_from_found zero i xs j e = absurd (not_err (refusal i) xs j e)
  many_from_found (suc n) i xs j e = one_or_end_found n (sees end i) i xs j (many_from_found n) e

  pub many_found : Finds (many end item) (AreAll R)
  unfolding many
  many_found i xs j e = many_from_found (suc (length i.tokens)) i xs j e
