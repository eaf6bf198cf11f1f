-- Repetitions, taken apart: the first step, and the repetition again.
use Rattle.std.proofs.Common.{◌≡◌, ℕ, zero, suc, ◌+◌, ◌<◌, ◌≤◌, Bool, true, false, List, [], ◌∷◌, length, Option, Some, None, Ok, Err, refl, sym, ap, ◌∙◌, arith}
use Rattle.c_lex.specs.Tokens.{Lexeme}
use Rattle.c_tree.specs.declared.term.Term.{Term}
use Rattle.c_tree.specs.declared.simple.Qual.{Qual}
use Rattle.c_tree.specs.inside.Input.{Input, Outcome, Parser, and_then, ◌>>=◌, ◌>>◌, pure, refuse, take_token, peek, place, next, sees}
use Rattle.c_tree.specs.inside.Chain.{mark_at, past, more_from, more_of}
use Rattle.c_tree.specs.inside.Many.{one_or_end, many_from, many}
use Rattle.c_tree.specs.inside.Simple.{qual_mark, quals_from, quals}
use Rattle.c_tree.specs.inside.Item.{open_after, skip_from}
use Rattle.c_tree.proofs.Steps.{ok_parts, next_shorter}
use Rattle.c_tree.proofs.Shrinks.{Shrinks, NoMarkAtEnd, past_shorter}
use Rattle.c_tree.proofs.Again.{at}
use Rattle.c_tree.proofs.Skipping.{none_left, is_there, one_refused, one_skipped}
use Rattle.c_tree.proofs.NextToken.{Views, views_peek, views_place, seeing}

and_then_same : {A B : Type 0} (r : Outcome A) (f g : A → Parser B) → ((x : A) (k : Input) → r ≡ Ok (x, k) → f x k ≡ g x k) → and_then r f ≡ and_then r g
and_then_same (Ok p) f g same = same p.0 p.1 refl
and_then_same (Err d) f g same = refl

pub views_mark : {M : Type 0} (mark : Term → ℕ → Option M) → Views (mark_at mark)
views_mark mark end ts us same = rw (views_peek end ts us same, views_place end ts us same) refl

pub taken_there : (end : ℕ) (ts rest : List Lexeme) (from : ℕ) → take_token (at ts end) ≡ Ok (from, at rest end) → length rest ≡ length (next (at ts end)).tokens
taken_there end ts rest from e = ap (λ (i : Input). length i.tokens) (sym (ok_parts (place (at ts end)) from (next (at ts end)) (at rest end) e).1)

pub marked_shorter : {M : Type 0} (mark : Term → ℕ → Option M) → NoMarkAtEnd mark → (i : Input) (m : M) → mark_at mark i ≡ Some m → length (next i).tokens + 1 ≡ length i.tokens
marked_shorter mark none i m is = sym (ap (λ (o : Option _). length (past o i).tokens + 1) is) ∙ past_shorter mark none i m is

-- ---- marks and items

module _ {M A : Type 0} (mark : Term → ℕ → Option M) (item : Parser A) (none : NoMarkAtEnd mark) (shrinks : Shrinks item) where
  pub more_none : (n : ℕ) (i : Input) → mark_at mark i ≡ None → more_from mark item n i ≡ Ok ([], i)
  unfolding more_from
  more_none zero i is = refl
  more_none (suc n) i is = rw is refl

  more_fuel_by : (n m : ℕ) → ((k : Input) → length k.tokens ≤ n → length k.tokens ≤ m → more_from mark item n k ≡ more_from mark item m k)
      → (i : Input) (o : Option M) → mark_at mark i ≡ o → length i.tokens ≤ suc n → length i.tokens ≤ suc m → more_from mark item (suc n) i ≡ more_from mark item (suc m) i
  unfolding more_from
  more_fuel_by n m others i None is le lf = more_none (suc n) i is ∙ sym (more_none (suc m) i is)
  more_fuel_by n m others i (Some k) is le lf =
      let fewer = marked_shorter mark none i k is in
      rw is (and_then_same (item (next i)) _ _ (λ x l e. (let shorter = shrinks _ _ _ e in ap (λ (r : Outcome (List (M × A))). and_then r (λ xs j. Ok ((k, x) ∷ xs, j))) (others l (omega arith) (omega arith)))))

  more_empty : (n : ℕ) (i : Input) (o : Option M) → mark_at mark i ≡ o → length i.tokens ≤ 0 → more_from mark item n i ≡ Ok ([], i)
  more_empty n i None is le = more_none n i is
  more_empty n i (Some k) is le = absurd (omega (arith, marked_shorter mark none i k is))

  more_fuel : (n m : ℕ) (i : Input) → length i.tokens ≤ n → length i.tokens ≤ m → more_from mark item n i ≡ more_from mark item m i
  more_fuel zero m i le lf = more_empty zero i (mark_at mark i) refl le ∙ sym (more_empty m i (mark_at mark i) refl le)
  more_fuel (suc n) zero i le lf = more_empty (suc n) i (mark_at mark i) refl lf ∙ sym (more_empty zero i (mark_at mark i) refl lf)
  more_fuel (suc n) (suc m) i le lf = more_fuel_by n m (more_fuel n m) i (mark_at mark i) refl le lf

  unfoldable pub more_if : Option M → Parser (List (M × A))
  more_if None = pure []
  more_if (Some m) = take_token >> (item >>= λ x. more_of mark item >>= λ xs. pure ((m, x) ∷ xs))

  pub more_same_by : (i : Input) (o : Option M) → mark_at mark i ≡ o → more_of mark item i ≡ more_if o i
  unfolding more_of more_from more_if
  more_same_by i None is = more_none (length i.tokens) i is
  more_same_by i (Some m) is =
      let fewer = marked_shorter mark none i m is in
      more_fuel (length i.tokens) (suc (length (next i).tokens)) i (omega arith) (omega arith)
      ∙ rw is (and_then_same (item (next i)) _ _ (λ x l e. (let shorter = shrinks _ _ _ e in ap (λ (r : Outcome (List (M × A))). and_then r (λ xs j. Ok ((m, x) ∷ xs, j))) (more_fuel (length (next i).tokens) (length l.tokens) l (omega arith) (omega arith)))))

-- ---- items up to an end

module _ {A : Type 0} (last : Term) (item : Parser A) (shrinks : Shrinks item) where
  many_fuel_by : (n m : ℕ) → ((k : Input) → length k.tokens < n → length k.tokens < m → many_from last item n k ≡ many_from last item m k)
      → (i : Input) (b : Bool) → length i.tokens < suc n → length i.tokens < suc m → one_or_end item (many_from last item n) b i ≡ one_or_end item (many_from last item m) b i
  many_fuel_by n m others i true le lf = refl
  many_fuel_by n m others i false le lf =
      and_then_same (item i) _ _ (λ x l e. (let shorter = shrinks _ _ _ e in ap (λ (r : Outcome (List A)). and_then r (λ xs j. Ok (x ∷ xs, j))) (others l (omega arith) (omega arith))))

  many_fuel : (n m : ℕ) (i : Input) → length i.tokens < n → length i.tokens < m → many_from last item n i ≡ many_from last item m i
  unfolding many_from
  many_fuel zero m i le lf = absurd (omega arith)
  many_fuel (suc n) zero i le lf = absurd (omega arith)
  many_fuel (suc n) (suc m) i le lf = many_fuel_by n m (many_fuel n m) i (sees last i) le lf

  unfoldable pub many_if : Bool → Parser (List A)
  many_if true = pure []
  many_if false = item >>= λ x. many last item >>= λ xs. pure (x ∷ xs)

  many_same_by : (i : Input) (b : Bool) → one_or_end item (many_from last item (length i.tokens)) b i ≡ many_if b i
  unfolding many many_if
  many_same_by i true = refl
  many_same_by i false =
      and_then_same (item i) _ _ (λ x l e. (let shorter = shrinks _ _ _ e in ap (λ (r : Outcome (List A)). and_then r (λ xs j. Ok (x ∷ xs, j))) (many_fuel (length i.tokens) (suc (length l.tokens)) l (omega arith) (omega arith))))

  pub many_same : (i : Input) → many last item i ≡ (seeing (sees last) >>= many_if) i
  unfolding many many_from
  many_same i = many_same_by i (sees last i)

-- ---- words in front of a type

pub no_qual_at_end : NoMarkAtEnd qual_mark
no_qual_at_end from = refl

pub quals_none : (n : ℕ) (i : Input) → mark_at qual_mark i ≡ None → quals_from n i ≡ Ok ([], i)
unfolding quals_from
quals_none zero i is = refl
quals_none (suc n) i is = rw is refl

quals_fuel_by : (n m : ℕ) → ((k : Input) → length k.tokens ≤ n → length k.tokens ≤ m → quals_from n k ≡ quals_from m k)
    → (i : Input) (o : Option Qual) → mark_at qual_mark i ≡ o → length i.tokens ≤ suc n → length i.tokens ≤ suc m → quals_from (suc n) i ≡ quals_from (suc m) i
unfolding quals_from
quals_fuel_by n m others i None is le lf = quals_none (suc n) i is ∙ sym (quals_none (suc m) i is)
quals_fuel_by n m others i (Some q) is le lf =
    let fewer = marked_shorter qual_mark no_qual_at_end i q is in
    rw is (ap (λ (r : Outcome (List Qual)). and_then r (λ qs j. Ok (q ∷ qs, j))) (others (next i) (omega arith) (omega arith)))

quals_empty : (n : ℕ) (i : Input) (o : Option Qual) → mark_at qual_mark i ≡ o → length i.tokens ≤ 0 → quals_from n i ≡ Ok ([], i)
quals_empty n i None is le = quals_none n i is
quals_empty n i (Some q) is le = absurd (omega (arith, marked_shorter qual_mark no_qual_at_end i q is))

quals_fuel : (n m : ℕ) (i : Input) → length i.tokens ≤ n → length i.tokens ≤ m → quals_from n i ≡ quals_from m i
quals_fuel zero m i le lf = quals_empty zero i (mark_at qual_mark i) refl le ∙ sym (quals_empty m i (mark_at qual_mark i) refl le)
quals_fuel (suc n) zero i le lf = quals_empty (suc n) i (mark_at qual_mark i) refl lf ∙ sym (quals_empty zero i (mark_at qual_mark i) refl lf)
quals_fuel (suc n) (suc m) i le lf = quals_fuel_by n m (quals_fuel n m) i (mark_at qual_mark i) refl le lf

unfoldable pub quals_if : Option Qual → Parser (List Qual)
quals_if None = pure []
quals_if (Some q) = take_token >> (quals >>= λ qs. pure (q ∷ qs))

pub quals_same_by : (i : Input) (o : Option Qual) → mark_at qual_mark i ≡ o → quals i ≡ quals_if o i
unfolding quals quals_from quals_if
quals_same_by i None is = quals_none (length i.tokens) i is
quals_same_by i (Some q) is =
    let fewer = marked_shorter qual_mark no_qual_at_end i q is in
    quals_fuel (length i.tokens) (suc (length (next i).tokens)) i (omega arith) (omega arith) ∙ rw is refl

-- ---- tokens that are skipped

unfoldable pub skip_all : List Term → Parser (Unit {0})
skip_all ends = λ i. skip_from (length i.tokens) ends i

pub opened_shorter : (i : Input) (before ends : List Term) → open_after (peek i) before ≡ Some ends → length (next i).tokens + 1 ≡ length i.tokens
opened_shorter i before ends fits = next_shorter i (is_there i before ends fits)

skip_fuel_by : (n m : ℕ) → ((ends : List Term) (k : Input) → length k.tokens ≤ n → length k.tokens ≤ m → skip_from n ends k ≡ skip_from m ends k)
    → (top : Term) (ends : List Term) (i : Input) (o : Option (List Term)) → open_after (peek i) (top ∷ ends) ≡ o → length i.tokens ≤ suc n → length i.tokens ≤ suc m → skip_from (suc n) (top ∷ ends) i ≡ skip_from (suc m) (top ∷ ends) i
skip_fuel_by n m others top ends i None is le lf = one_refused (suc n) top ends i is ∙ sym (one_refused (suc m) top ends i is)
skip_fuel_by n m others top ends i (Some behind) is le lf =
    let fewer = opened_shorter i (top ∷ ends) behind is in
    one_skipped n top ends behind i is ∙ others behind (next i) (omega arith) (omega arith) ∙ sym (one_skipped m top ends behind i is)

skip_empty : (n : ℕ) (top : Term) (ends : List Term) (i : Input) (o : Option (List Term)) → open_after (peek i) (top ∷ ends) ≡ o → length i.tokens ≤ 0 → skip_from n (top ∷ ends) i ≡ refuse i
skip_empty n top ends i None is le = one_refused n top ends i is
skip_empty n top ends i (Some behind) is le = absurd (omega (arith, opened_shorter i (top ∷ ends) behind is))

skip_fuel : (n m : ℕ) (ends : List Term) (i : Input) → length i.tokens ≤ n → length i.tokens ≤ m → skip_from n ends i ≡ skip_from m ends i
skip_fuel n m [] i le lf = none_left n i ∙ sym (none_left m i)
skip_fuel zero m (top ∷ ends) i le lf = skip_empty zero top ends i (open_after (peek i) (top ∷ ends)) refl le ∙ sym (skip_empty m top ends i (open_after (peek i) (top ∷ ends)) refl le)
skip_fuel (suc n) zero (top ∷ ends) i le lf = skip_empty (suc n) top ends i (open_after (peek i) (top ∷ ends)) refl lf ∙ sym (skip_empty zero top ends i (open_after (peek i) (top ∷ ends)) refl lf)
skip_fuel (suc n) (suc m) (top ∷ ends) i le lf = skip_fuel_by n m (skip_fuel n m) top ends i (open_after (peek i) (top ∷ ends)) refl le lf

unfoldable pub skip_if : Option (List Term) → Parser (Unit {0})
skip_if None = refuse
skip_if (Some ends) = take_token >> skip_all ends

pub skip_same_by : (top : Term) (ends : List Term) (i : Input) (o : Option (List Term)) → open_after (peek i) (top ∷ ends) ≡ o → skip_all (top ∷ ends) i ≡ skip_if o i
unfolding skip_all skip_if
skip_same_by top ends i None is = one_refused (length i.tokens) top ends i is
skip_same_by top ends i (Some behind) is =
    let fewer = opened_shorter i (top ∷ ends) behind is in
    skip_fuel (length i.tokens) (suc (length (next i).tokens)) (top ∷ ends) i (omega arith) (omega arith) ∙ one_skipped (length (next i).tokens) top ends behind i is

unfoldable pub opens : Term → List Term → Input → Option (List Term)
opens top ends i = open_after (peek i) (top ∷ ends)

pub views_opens : (top : Term) (ends : List Term) → Views (opens top ends)
unfolding opens
views_opens top ends end ts us same = ap (λ (k : Term). open_after k (top ∷ ends)) (views_peek end ts us same)
