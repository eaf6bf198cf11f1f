-- What the next token alone tells.
use Rattle.std.proofs.Common.{◌≡◌, ℕ, List, [], ◌∷◌, ◌++◌, Ok, Err, refl, sym, ap}
use Rattle.std.proofs.Math.Logic.{◌⊎◌, inl, inr}
use Rattle.thr_base.specs.declared.stops.Refusal.{Refusal}
use Rattle.c_lex.specs.Tokens.{Lexeme}
use Rattle.c_tree.specs.declared.term.Term.{Term}
use Rattle.c_tree.specs.inside.Input.{Input, Outcome, Parser, and_then, peek, place, bytes, sees, refusal, too_deep}
use Rattle.c_tree.specs.Refused.{SameNext}
use Rattle.c_tree.proofs.Again.{at}

pub next_behind : (front ts us : List Lexeme) → SameNext ts us → SameNext (front ++ ts) (front ++ us)
next_behind [] ts us same = same
next_behind (t ∷ front) ts us same = refl

-- what a view of the input shows depends on the next token alone
abbrev pub Views : {V : Type 0} → (Input → V) → Type 0
Views {V} v = (end : ℕ) (ts us : List Lexeme) → SameNext ts us → v (at us end) ≡ v (at ts end)

pub ok_not_err : {A : Type 0} (p : A × Input) (d : Refusal) → ◌≡◌ {A = Outcome A} (Ok p) (Err d) → ⊥
ok_not_err p d e = cc

pub err_parts : {A : Type 0} (d f : Refusal) → ◌≡◌ {A = Outcome A} (Err d) (Err f) → d ≡ f
err_parts d f e = cc

-- ---- views

pub views_peek : Views peek
unfolding peek
views_peek end [] [] same = refl
views_peek end [] (u ∷ us) same = absurd same
views_peek end (t ∷ ts) [] same = absurd same
views_peek end (t ∷ ts) (u ∷ us) same = ap Rattle.c_tree.specs.Term.term_of (sym same)

pub views_place : Views place
unfolding place
views_place end [] [] same = refl
views_place end [] (u ∷ us) same = absurd same
views_place end (t ∷ ts) [] same = absurd same
views_place end (t ∷ ts) (u ∷ us) same = ap (λ (l : Lexeme). l.from) (sym same)

pub views_bytes : Views bytes
unfolding bytes
views_bytes end [] [] same = refl
views_bytes end [] (u ∷ us) same = absurd same
views_bytes end (t ∷ ts) [] same = absurd same
views_bytes end (t ∷ ts) (u ∷ us) same = ap (λ (l : Lexeme). l.bytes) (sym same)

pub views_sees : (k : Term) → Views (sees k)
unfolding sees
views_sees k end ts us same = ap (λ (t : Term). Rattle.c_tree.specs.Term.same_term t k) (views_peek end ts us same)

pub views_refusal : Views refusal
unfolding refusal
views_refusal end ts us same = rw (views_peek end ts us same, views_place end ts us same) refl

pub views_too_deep : Views too_deep
unfolding too_deep
views_too_deep end ts us same = rw (views_place end ts us same) refl

abbrev pub seeing : {V : Type 0} → (Input → V) → Parser V
seeing v = λ i. Ok (v i, i)

-- a step of which the outcome is a refusal
pub bind_err : {A B : Type 0} (r : Outcome A) (f : A → Parser B) (d : Refusal) → and_then r f ≡ Err d → (r ≡ Err d) ⊎ ((x : A) × (k : Input) × (r ≡ Ok (x, k)) × (f x k ≡ Err d))
bind_err (Ok p) f d e = inr (p.0, p.1, refl, e)
bind_err {A} {B} (Err c) f d e = inl (ap (λ (z : Refusal). Err z) (err_parts {A = B} c d e))
