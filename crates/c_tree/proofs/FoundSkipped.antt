-- What is skipped has balanced brackets.
use Rattle.std.proofs.Common.{◌≡◌, ℕ, zero, suc, rules, Bool, true, false, List, [], ◌∷◌, length, Option, Some, None, Ok, refl, sym, ap, subst}
use Rattle.c_lex.specs.Tokens.{Lexeme}
use Rattle.c_tree.specs.declared.term.Term.{Term}
use Rattle.c_tree.specs.declared.term.Term.TheVariants as terms
use denote.Enum.Bare.{same_true}
use Rattle.c_tree.specs.contracts.term.Term.{the_type}
use Rattle.c_tree.specs.Term.{same_term}
use Rattle.c_tree.specs.inside.Input.{Input, peek, place, next, expect, refusal}
use Rattle.c_tree.specs.inside.Item as spec
use Rattle.c_tree.specs.Grammar.{Stands}
use Rattle.c_tree.specs.Sequence.{Part, NoToken, ◌then◌, InParens}
use Rattle.c_tree.specs.GrammarItem.{Nesting, is_plain, IsNesting, IsSkipped}
use Rattle.c_tree.proofs.Steps.{bind_ok, ok_parts, not_err}
use Rattle.c_tree.proofs.Found.{is_next}
use Rattle.c_tree.proofs.FoundParts.{open_found}

-- the rest of a text in which these brackets are open, through the last that closes one
abbrev pub AreClosed : List Term → Part
AreClosed [] = NoToken
AreClosed (top ∷ ends) = IsSkipped then Stands top then AreClosed ends

-- what skipping gives, where so many tokens are bounded
abbrev Skips : ℕ → Type 0
Skips n = (ends : List Term) (i : Input) (x : Unit {0}) (j : Input) → spec.skip_from n ends i ≡ Ok (x, j) → AreClosed ends i.tokens j.tokens

-- a bracket that opens
opened : (n : ℕ) (i : Input) (open_ close : Term) → (open_ ≡ terms.End → ⊥) → peek i ≡ open_
    → ((inner more : Nesting) (ts rest : List Lexeme) → (Stands open_ then IsNesting inner then Stands close then IsNesting more) ts rest → IsSkipped ts rest)
    → (top : Term) (ends : List Term) (j : Input) → AreClosed (close ∷ top ∷ ends) (next i).tokens j.tokens → AreClosed (top ∷ ends) i.tokens j.tokens
opened n i open_ close more is nest top ends j r =
    let deeper = r.2.2 in
    (deeper.0, nest r.1.0 deeper.1.0 i.tokens deeper.0 ((next i).tokens, (place i, is_next i open_ more is), (r.0, r.1.1, (r.2.0, r.2.1, deeper.1.1))), deeper.2)

-- a bracket that closes, which is the innermost or another
closes_by : (n : ℕ) (i : Input) (close : Term) → (close ≡ terms.End → ⊥) → peek i ≡ close → Skips n → (top : Term) (ends : List Term) (b : Bool) → same_term top close ≡ b → (x : Unit {0}) (j : Input)
    → spec.skip_one (spec.skip_from n) (Rattle.std.proofs.Common.cond b (Some ends) None) i ≡ Ok (x, j) → AreClosed (top ∷ ends) i.tokens j.tokens
unfolding same_term
closes_by n i close more is skips top ends false other x j e = absurd (not_err (refusal i) x j e)
closes_by n i close more is skips top ends true same x j e =
    let top_is : close ≡ top = sym (same_true the_type (search rules) top close same) in
    (i.tokens, (Nesting.nothing, refl), ((next i).tokens, subst (λ (k : Term). Stands k i.tokens (next i).tokens) top_is (place i, is_next i close more is), skips ends (next i) x j e))

-- a token that is no bracket
passed : (i : Input) (k : Term) → (k ≡ terms.End → ⊥) → is_plain k ≡ true → peek i ≡ k → (top : Term) (ends : List Term) (j : Input) → AreClosed (top ∷ ends) (next i).tokens j.tokens → AreClosed (top ∷ ends) i.tokens j.tokens
passed i k more plain is top ends j r = (r.0, (Nesting.token r.1.0, ((next i).tokens, (k, plain, (place i, is_next i k more is)), r.1.1)), r.2)

skip_one_found : (n : ℕ) (top : Term) (ends : List Term) (i : Input) (k : Term) → peek i ≡ k → Skips n → (x : Unit {0}) (j : Input) → spec.skip_one (spec.skip_from n) (spec.open_after k (top ∷ ends)) i ≡ Ok (x, j) → AreClosed (top ∷ ends) i.tokens j.tokens
skip_one_found n top ends i terms.End is skips x j e = absurd (not_err (refusal i) x j e)
skip_one_found n top ends i terms.LeftParen is skips x j e =
    opened n i terms.LeftParen terms.RightParen (λ h. cc) is (λ inner more ts rest holds. (Nesting.parens inner more, holds)) top ends j (skips (terms.RightParen ∷ top ∷ ends) (next i) x j e)
skip_one_found n top ends i terms.LeftBrace is skips x j e =
    opened n i terms.LeftBrace terms.RightBrace (λ h. cc) is (λ inner more ts rest holds. (Nesting.braces inner more, holds)) top ends j (skips (terms.RightBrace ∷ top ∷ ends) (next i) x j e)
skip_one_found n top ends i terms.RightParen is skips x j e = closes_by n i terms.RightParen (λ h. cc) is skips top ends (same_term top terms.RightParen) refl x j e
skip_one_found n top ends i terms.RightBrace is skips x j e = closes_by n i terms.RightBrace (λ h. cc) is skips top ends (same_term top terms.RightBrace) refl x j e
skip_one_found n top ends i k is skips x j e = passed i k (λ h. cc) refl is top ends j (skips (top ∷ ends) (next i) x j e)

skip_from_found : (n : ℕ) → Skips n
unfolding spec.skip_from
skip_from_found zero [] i x j e = (let same = ok_parts tt x i j e in ap (λ (k : Input). k.tokens) same.1)
skip_from_found (suc n) [] i x j e = (let same = ok_parts tt x i j e in ap (λ (k : Input). k.tokens) same.1)
skip_from_found zero (top ∷ ends) i x j e = absurd (not_err (refusal i) x j e)
skip_from_found (suc n) (top ∷ ends) i x j e = skip_one_found n top ends i (peek i) refl (skip_from_found n) x j e

pub skip_through_found : (close : Term) (i : Input) (x : Unit {0}) (j : Input) → spec.skip_through close i ≡ Ok (x, j) → (IsSkipped then Stands close) i.tokens j.tokens
unfolding spec.skip_through
skip_through_found close i x j e =
    let r = skip_from_found (length i.tokens) (close ∷ []) i x j e in
    (r.0, r.1, subst (λ (l : List Lexeme). Stands close r.0 l) r.2.2 r.2.1)

pub skipped_parens_found : (i : Input) (x : Unit {0}) (j : Input) → spec.skipped_parens i ≡ Ok (x, j) → InParens IsSkipped i.tokens j.tokens
unfolding spec.skipped_parens
skipped_parens_found i x j e =
    let a = bind_ok (expect terms.LeftParen i) _ x j e in
    (a.1.tokens, open_found i a.0 a.1 a.2, skip_through_found terms.RightParen a.1 x j a.3)
