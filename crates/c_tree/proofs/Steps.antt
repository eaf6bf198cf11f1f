-- The steps of parsers, taken apart.
use Rattle.std.proofs.Common.{◌≡◌, ◌+◌, List, [], ◌∷◌, length, drop, Ok, Err, refl, ap, arith}
use Rattle.thr_base.specs.declared.stops.Refusal.{Refusal}
use Rattle.c_tree.specs.declared.term.Term.TheVariants as terms
use Rattle.c_tree.specs.inside.Input.{Input, Outcome, Parser, and_then, peek, place, next, sees, expect}

-- what a step that did not fail gave, and what was read behind it
pub bind_ok : {A B : Type 0} (r : Outcome A) (f : A → Parser B) (y : B) (j : Input) → and_then r f ≡ Ok (y, j) → (x : A) × (k : Input) × (r ≡ Ok (x, k)) × (f x k ≡ Ok (y, j))
bind_ok (Ok p) f y j e = (p.0, p.1, refl, e)
bind_ok (Err d) f y j e = absurd cc

-- the two parts of what was given
pub ok_parts : {A : Type 0} (x y : A) (i j : Input) → ◌≡◌ {A = Outcome A} (Ok (x, i)) (Ok (y, j)) → (x ≡ y) × (i ≡ j)
ok_parts {A} x y i j e = (ap (λ (p : A × Input). p.0) same, ap (λ (p : A × Input). p.1) same)
  where
    same : ◌≡◌ {A = A × Input} (x, i) (y, j)
    same = cc

pub not_err : {A : Type 0} (d : Refusal) (y : A) (j : Input) → ◌≡◌ {A = Outcome A} (Err d) (Ok (y, j)) → ⊥
not_err d y j e = cc

-- there is a token, and the next input has one fewer
pub next_shorter : (i : Input) → (peek i ≡ terms.End → ⊥) → length (next i).tokens + 1 ≡ length i.tokens
unfolding peek next
next_shorter i more = go i.tokens refl
  where
    go : (ts : List _) → i.tokens ≡ ts → length (drop 1 i.tokens) + 1 ≡ length i.tokens
    go [] e = absurd (more (ap Rattle.c_tree.specs.inside.Input.term_at e))
    go (t ∷ ts) e = rw e (omega arith)
