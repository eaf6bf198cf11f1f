-- Tokens with balanced brackets are skipped.
use Rattle.std.proofs.Common.{◌≡◌, ℕ, zero, suc, ◌≤◌, true, List, [], ◌∷◌, length, Some, Ok, refl, ap, ◌∙◌, arith}
use Rattle.c_lex.specs.Tokens.{Lexeme}
use Rattle.c_tree.specs.declared.term.Term.{Term}
use Rattle.c_tree.specs.declared.term.Term.TheVariants as terms
use Rattle.c_tree.specs.Term.{same_term}
use Rattle.c_tree.specs.inside.Input.{Input, Outcome}
use Rattle.c_tree.specs.inside.Item as spec
use Rattle.c_tree.specs.Grammar.{Is, Stands}
use Rattle.c_tree.specs.Sequence.{◌then◌, InParens}
use Rattle.c_tree.specs.GrammarItem.{Nesting, is_plain, IsNesting, IsSkipped}
use Rattle.c_tree.proofs.Again.{at, is_peek, is_behind, is_longer}
use Rattle.c_tree.proofs.AgainParts.{stands_again}
use Rattle.c_tree.proofs.Leads.{impossible}
use Rattle.c_tree.proofs.Skipping.{none_left}

plain_open : (k : Term) (ends : List Term) → is_plain k ≡ true → spec.open_after k ends ≡ Some ends
plain_open terms.End ends so = impossible so
plain_open terms.LeftParen ends so = impossible so
plain_open terms.RightParen ends so = impossible so
plain_open terms.LeftBrace ends so = impossible so
plain_open terms.RightBrace ends so = impossible so
plain_open _ ends so = refl

-- What skipping gives behind the tokens it gives in front of them: with any bound that suffices.
abbrev Given : List Term → Input → Outcome (Unit {0}) → Type 0
Given ends i r = (m : ℕ) → length i.tokens ≤ m → spec.skip_from m ends i ≡ r

-- one token
stepped : (end : ℕ) (k : Term) (from : ℕ) (ts behind : List Lexeme) → Is k from ts behind → (top : Term) (ends after : List Term) → spec.open_after k (top ∷ ends) ≡ Some after → (r : Outcome (Unit {0}))
    → Given after (at behind end) r → Given (top ∷ ends) (at ts end) r
unfolding spec.skip_from
stepped end k from ts behind is top ends after fits r go zero le = absurd (omega (arith, is_longer k from ts behind is))
stepped end k from ts behind is top ends after fits r go (suc m) le =
    let fewer = is_longer k from ts behind is in
    rw (is_peek k from end ts behind is, fits, is_behind k from end ts behind is) (go m (omega arith))

nothing_again : (end : ℕ) (ts behind : List Lexeme) → ts ≡ behind → (ends : List Term) (r : Outcome (Unit {0})) → Given ends (at behind end) r → Given ends (at ts end) r
nothing_again end ts behind is ends r go m le =
    let shorter = ap (λ (l : List Lexeme). length l) is in
    ap (λ (l : List Lexeme). spec.skip_from m ends (at l end)) is ∙ go m (omega arith)

skip_again : (n : Nesting) (end : ℕ) (ts behind : List Lexeme) → IsNesting n ts behind → (top : Term) (ends : List Term) (r : Outcome (Unit {0})) → Given (top ∷ ends) (at behind end) r → Given (top ∷ ends) (at ts end) r
unfolding same_term
skip_again Nesting.nothing end ts behind is top ends r go = nothing_again end ts behind is (top ∷ ends) r go
skip_again (Nesting.token more) end ts behind is top ends r go =
    stepped end is.1.0 is.1.2.0 ts is.0 is.1.2.1 top ends (top ∷ ends) (plain_open is.1.0 (top ∷ ends) is.1.1) r (skip_again more end is.0 behind is.2 top ends r go)
skip_again (Nesting.parens inner more) end ts behind is top ends r go =
    let shut = is.2.2 in
    stepped end terms.LeftParen is.1.0 ts is.0 is.1.1 top ends (terms.RightParen ∷ top ∷ ends) refl r
    (skip_again inner end is.0 is.2.0 is.2.1 terms.RightParen (top ∷ ends) r
    (stepped end terms.RightParen shut.1.0 is.2.0 shut.0 shut.1.1 terms.RightParen (top ∷ ends) (top ∷ ends) refl r (skip_again more end shut.0 behind shut.2 top ends r go)))
skip_again (Nesting.braces inner more) end ts behind is top ends r go =
    let shut = is.2.2 in
    stepped end terms.LeftBrace is.1.0 ts is.0 is.1.1 top ends (terms.RightBrace ∷ top ∷ ends) refl r
    (skip_again inner end is.0 is.2.0 is.2.1 terms.RightBrace (top ∷ ends) r
    (stepped end terms.RightBrace shut.1.0 is.2.0 shut.0 shut.1.1 terms.RightBrace (top ∷ ends) (top ∷ ends) refl r (skip_again more end shut.0 behind shut.2 top ends r go)))

pub skip_through_again : (close : Term) → spec.open_after close (close ∷ []) ≡ Some [] → (end : ℕ) (ts rest : List Lexeme) → (IsSkipped then Stands close) ts rest → spec.skip_through close (at ts end) ≡ Ok (tt, at rest end)
unfolding spec.skip_through
skip_through_again close fits end ts rest is =
    skip_again is.1.0 end ts is.0 is.1.1 close [] (Ok (tt, at rest end)) (stepped end close is.2.0 is.0 rest is.2.1 close [] [] fits (Ok (tt, at rest end)) (λ m le. none_left m (at rest end))) (length ts) (omega arith)

pub skipped_parens_again : (end : ℕ) (ts rest : List Lexeme) → InParens IsSkipped ts rest → spec.skipped_parens (at ts end) ≡ Ok (tt, at rest end)
unfolding spec.skipped_parens same_term
skipped_parens_again end ts rest is = rw (stands_again terms.LeftParen end ts is.0 is.1) (skip_through_again terms.RightParen refl end is.0 rest is.2)
