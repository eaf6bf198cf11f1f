-- Words in front of a type and tokens that are skipped, and what completes them.
use Rattle.std.proofs.Common.{◌≡◌, ℕ, zero, suc, ◌<◌, ◌≤◌, Bool, true, false, cond, List, [], ◌∷◌, ◌++◌, map, length, Option, Some, None, refl, ap, subst, ◌∙◌, arith}
use Rattle.c_lex.specs.Tokens.{Lexeme}
use Rattle.c_tree.specs.declared.term.Term.{Term}
use Rattle.c_tree.specs.declared.term.Term.TheVariants as terms
use Rattle.c_tree.specs.declared.simple.Qual.{Qual}
use Rattle.c_tree.specs.Term.{same_term, term_of}
use Rattle.c_tree.specs.inside.Input.{◌>>=◌, pure, take_token, peek, place, next, term_at}
use Rattle.c_tree.specs.inside.Chain.{mark_at}
use Rattle.c_tree.specs.inside.Simple.{qual_mark, quals}
use Rattle.c_tree.specs.inside.Item.{open_after, skip_through}
use Rattle.c_tree.proofs.Again.{at}
use Rattle.c_tree.proofs.Skipping.{none_left}
use Rattle.c_tree.proofs.NextToken.{seeing}
use Rattle.c_tree.proofs.Unrolled.{views_mark, taken_there, marked_shorter, no_qual_at_end, quals_none, quals_if, quals_same_by, skip_all, opened_shorter, skip_if, skip_same_by, opens, views_opens}
use Rattle.c_tree.proofs.Completing.{Meets, any, Fills, Leads, FinishesAt, Completes, bind_at, fill_bind}
use Rattle.c_tree.proofs.Fillers.{close_token, right_token, semicolon, is_close, is_right}
use Rattle.c_tree.proofs.CompletingSteps.{something, filled, leads_any, same_finish, pure_completes, refuse_at, see_at, take_at, some_not_none}

-- ---- words in front of a type

abbrev pub no_qual : Term → Bool
no_qual terms.Static = false
no_qual terms.Volatile = false
no_qual terms.Extern = false
no_qual _ = true

unqualified : (k : Term) (from : ℕ) → no_qual k ≡ true → qual_mark k from ≡ None
unqualified terms.Static from so = absurd cc
unqualified terms.Volatile from so = absurd cc
unqualified terms.Extern from so = absurd cc
unqualified _ from so = refl

quals_fill : Fills quals [] no_qual
unfolding quals peek
quals_fill = record { value = []; reads = λ end tail meets. quals_none (length tail) (at tail end) (unqualified (term_at tail) (place (at tail end)) meets) }

quals_takes : Option Qual → List Lexeme
quals_takes None = []
quals_takes (Some q) = something

same_none : Leads no_qual [] no_qual
same_none = record { begins = λ tail meets. meets }

quals_if_at : (n : ℕ) → ((end : ℕ) (ts : List Lexeme) → length ts < n → FinishesAt quals quals [] no_qual end ts) → (end : ℕ) (ts : List Lexeme) → length ts ≤ n → (o : Option Qual) → mark_at qual_mark (at ts end) ≡ o → FinishesAt (quals_if o) (quals_if o) (quals_takes o) no_qual end ts
unfolding quals_if quals_takes
quals_if_at n others end ts le None is = (pure_completes []).there end ts
quals_if_at n others end [] le (Some q) is = absurd (omega (arith, marked_shorter qual_mark no_qual_at_end (at [] end) q is))
quals_if_at n others end (t ∷ ts) le (Some q) is =
    let fewer = marked_shorter qual_mark no_qual_at_end (at (t ∷ ts) end) q is in
    filled {u = semicolon} {us = []} (bind_at take_token take_token _ _ something [] any no_qual end (t ∷ ts) (take_at end t ts) (λ from. fill_bind quals_fill (λ qs. (pure_completes (q ∷ qs)).fill) same_none) leads_any
    (λ from r e. (let one = taken_there end (t ∷ ts) r from e in
    bind_at quals quals _ _ [] [] no_qual no_qual end r (others end r (omega arith)) (λ qs. (pure_completes (q ∷ qs)).fill) same_none (λ qs w g. (pure_completes (q ∷ qs)).there end w))))

quals_stays : (end : ℕ) (o : Option Qual) → quals_takes o ≡ [] → (tail : List Lexeme) → Meets no_qual tail → mark_at qual_mark (at tail end) ≡ o
unfolding quals_takes peek
quals_stays end None none tail meets = unqualified (term_at tail) (place (at tail end)) meets
quals_stays end (Some q) none tail meets = absurd cc

quals_at : (n end : ℕ) (ts : List Lexeme) → length ts < n → FinishesAt quals quals [] no_qual end ts
quals_at zero end ts lt = absurd (omega arith)
quals_at (suc n) end ts lt =
    same_finish quals quals (seeing (mark_at qual_mark) >>= quals_if) (seeing (mark_at qual_mark) >>= quals_if) (λ i. quals_same_by i (mark_at qual_mark i) refl) (λ i. quals_same_by i (mark_at qual_mark i) refl)
    (see_at (mark_at qual_mark) (views_mark qual_mark) quals_if quals_if quals_takes [] no_qual end ts (quals_if_at n (quals_at n) end ts (omega arith) (mark_at qual_mark (at ts end)) refl) (λ none. refl) (quals_stays end (mark_at qual_mark (at ts end))))

pub quals_completes : Completes quals quals [] no_qual
quals_completes = record { fill = quals_fill; there = λ end ts. quals_at (suc (length ts)) end ts (omega arith) }

-- one such word, and no other
pub qual_fill : (t : Lexeme) (q : Qual) → qual_mark (term_of t) t.from ≡ Some q → Fills quals (t ∷ []) no_qual
unfolding quals_if peek place next
qual_fill t q is = record {
  value = q ∷ quals_fill.value;
  reads = λ end tail meets. quals_same_by (at (t ∷ tail) end) (Some q) is ∙ rw (quals_fill.reads end tail meets) refl;
}

-- ---- tokens that are skipped

-- the marks that close brackets
abbrev pub is_closer : Term → Bool
is_closer terms.RightParen = true
is_closer terms.RightBrace = true
is_closer _ = false

abbrev AreClosers : List Term → Type 0
AreClosers [] = Unit {0}
AreClosers (k ∷ ks) = (is_closer k ≡ true) × AreClosers ks

abbrev closer_token : Term → Lexeme
closer_token terms.RightBrace = right_token
closer_token _ = close_token

abbrev closer_tokens : List Term → List Lexeme
closer_tokens ends = map closer_token ends

close_here : (top : Term) (ends : List Term) → is_closer top ≡ true → open_after (term_of (closer_token top)) (top ∷ ends) ≡ Some ends
unfolding same_term
close_here terms.RightParen ends so = ap (λ (k : Term). open_after k (terms.RightParen ∷ ends)) is_close.is
close_here terms.RightBrace ends so = ap (λ (k : Term). open_after k (terms.RightBrace ∷ ends)) is_right.is
close_here _ ends so = absurd cc

some_same : (xs ys : List Term) → ◌≡◌ {A = Option (List Term)} (Some xs) (Some ys) → xs ≡ ys
some_same xs ys e = cc

close_if : (b : Bool) (ends behind : List Term) → AreClosers ends → ◌≡◌ {A = Option (List Term)} (cond b (Some ends) None) (Some behind) → AreClosers behind
close_if true ends behind are e = subst AreClosers (some_same ends behind e) are
close_if false ends behind are e = absurd cc

still_closers : (k top : Term) (ends behind : List Term) → AreClosers (top ∷ ends) → open_after k (top ∷ ends) ≡ Some behind → AreClosers behind
still_closers terms.End top ends behind are e = absurd cc
still_closers terms.LeftParen top ends behind are e = subst AreClosers (some_same (terms.RightParen ∷ top ∷ ends) behind e) (refl, are)
still_closers terms.LeftBrace top ends behind are e = subst AreClosers (some_same (terms.RightBrace ∷ top ∷ ends) behind e) (refl, are)
still_closers terms.RightParen top ends behind are e = close_if (same_term top terms.RightParen) ends behind are.1 e
still_closers terms.RightBrace top ends behind are e = close_if (same_term top terms.RightBrace) ends behind are.1 e
still_closers _ top ends behind are e = subst AreClosers (some_same (top ∷ ends) behind e) are

skip_fill : (ends : List Term) → AreClosers ends → Fills (skip_all ends) (closer_tokens ends) any
unfolding skip_all skip_if peek next
skip_fill [] are = record { value = tt; reads = λ end tail meets. none_left (length tail) (at tail end) }
skip_fill (top ∷ ends) are = record {
  value = (skip_fill ends are.1).value;
  reads = λ end tail meets. skip_same_by top ends (at (closer_token top ∷ (closer_tokens ends ++ tail)) end) (Some ends) (close_here top ends are.0) ∙ (skip_fill ends are.1).reads end tail meets;
}

skip_if_at : (n : ℕ) → ((ends : List Term) → AreClosers ends → (end : ℕ) (ts : List Lexeme) → length ts < n → FinishesAt (skip_all ends) (skip_all ends) (closer_tokens ends) any end ts) → (top : Term) (ends : List Term) → AreClosers (top ∷ ends) → (end : ℕ) (ts : List Lexeme) → length ts ≤ n
    → (o : Option (List Term)) → open_after (peek (at ts end)) (top ∷ ends) ≡ o → FinishesAt (skip_if o) (skip_if o) something any end ts
unfolding skip_if peek
skip_if_at n others top ends are end ts le None is = refuse_at end ts
skip_if_at n others top ends are end [] le (Some behind) is = absurd cc
skip_if_at n others top ends are end (t ∷ ts) le (Some behind) is =
    let fewer = opened_shorter (at (t ∷ ts) end) (top ∷ ends) behind is in
    let still = still_closers (term_of t) top ends behind are is in
    filled {u = semicolon} {us = closer_tokens behind} (bind_at take_token take_token (λ from. skip_all behind) (λ from. skip_all behind) something (closer_tokens behind) any any end (t ∷ ts) (take_at end t ts) (λ from. skip_fill behind still) leads_any
    (λ from r e. (let one = taken_there end (t ∷ ts) r from e in others behind still end r (omega arith))))

skip_at : (n : ℕ) (ends : List Term) → AreClosers ends → (end : ℕ) (ts : List Lexeme) → length ts < n → FinishesAt (skip_all ends) (skip_all ends) (closer_tokens ends) any end ts
unfolding opens skip_all
skip_at n [] are end ts lt = same_finish (skip_all []) (skip_all []) (pure tt) (pure tt) (λ i. none_left (length i.tokens) i) (λ i. none_left (length i.tokens) i) ((pure_completes tt).there end ts)
skip_at zero (top ∷ ends) are end ts lt = absurd (omega arith)
skip_at (suc n) (top ∷ ends) are end ts lt =
    same_finish (skip_all (top ∷ ends)) (skip_all (top ∷ ends)) (seeing (opens top ends) >>= skip_if) (seeing (opens top ends) >>= skip_if) (λ i. skip_same_by top ends i (open_after (peek i) (top ∷ ends)) refl) (λ i. skip_same_by top ends i (open_after (peek i) (top ∷ ends)) refl)
    (see_at (opens top ends) (views_opens top ends) skip_if skip_if (λ o. something) (closer_tokens (top ∷ ends)) any end ts (skip_if_at n (skip_at n) top ends are end ts (omega arith) (opens top ends (at ts end)) refl)
    (some_not_none semicolon [] (closer_tokens (top ∷ ends))) (λ none. absurd cc))

pub skip_completes : (close : Term) → is_closer close ≡ true → Completes (skip_through close) (skip_through close) (closer_token close ∷ []) any
unfolding skip_through skip_all
skip_completes close so = record { fill = skip_fill (close ∷ []) (so, tt); there = λ end ts. skip_at (suc (length ts)) (close ∷ []) (so, tt) end ts (omega arith) }
