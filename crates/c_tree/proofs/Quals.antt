-- Reading the words in front of a type.
use Rattle.std.proofs.Common.{◌≡◌, ℕ, zero, suc, ◌<◌, ◌≤◌, List, [], ◌∷◌, ◌++◌, length, Option, Some, None, Ok, Err, refl, sym, ap, ◌∙◌, append_assoc, arith}
use Rattle.std.proofs.lemmas.List.{append-nil}
use Rattle.c_tree.specs.declared.simple.Qual.{Qual}
use Rattle.c_tree.specs.inside.Input.{Input, Outcome, and_then, next}
use Rattle.c_tree.specs.inside.Chain.{mark_at, past}
use Rattle.c_tree.specs.inside.Simple.{qual_mark, quals_from, quals}
use Rattle.c_tree.proofs.Shrinks.{past_shorter}
use Rattle.c_tree.proofs.Chains.{with_front}

-- What was read from the start and what is still read are all.
pub record IsReadTo (start : Input) (front : List Qual) (i : Input) : Type 0 where
  pub count : ℕ
  pub enough : length i.tokens ≤ count
  pub all : with_front front (quals_from count i) ≡ quals start

pub at_start : (i : Input) → IsReadTo i [] i
unfolding quals
at_start i = record { count = length i.tokens; enough = omega arith; all = no_front (quals_from (length i.tokens) i) }
  where
    no_front : (r : Outcome (List Qual)) → with_front [] r ≡ r
    no_front (Ok p) = refl
    no_front (Err d) = refl

one_read : (n : ℕ) (front : List Qual) (i : Input) (q : Qual) → mark_at qual_mark i ≡ Some q → with_front front (quals_from (suc n) i) ≡ with_front (front ++ q ∷ []) (quals_from n (past (mark_at qual_mark i) i))
unfolding quals_from
one_read n front i q is = rw is (regroup (quals_from n (next i)))
  where
    regroup : (r : Outcome (List Qual)) → with_front front (and_then r (λ qs j. Ok (q ∷ qs, j))) ≡ with_front (front ++ q ∷ []) r
    regroup (Ok p) = ap (λ (xs : List Qual). Ok (xs, p.1)) (sym (append_assoc front (q ∷ []) p.0))
    regroup (Err d) = refl

pub goes_on : (start : Input) (front more : List Qual) (i j : Input) (q : Qual) → Some q ≡ mark_at qual_mark i → j ≡ past (mark_at qual_mark i) i → more ≡ front ++ q ∷ [] → IsReadTo start front i → IsReadTo start more j
goes_on start front more i j q is behind pushed read = rw (pushed, behind) (go read.count read.enough read.all)
  where
    go : (n : ℕ) → length i.tokens ≤ n → with_front front (quals_from n i) ≡ quals start → IsReadTo start (front ++ q ∷ []) (past (mark_at qual_mark i) i)
    go zero le all = absurd (omega (arith, past_shorter qual_mark (λ from. refl) i q (sym is)))
    go (suc n) le all = record { count = n; enough = omega (arith, past_shorter qual_mark (λ from. refl) i q (sym is)); all = sym (one_read n front i q (sym is)) ∙ all }

pub is_shorter : (i j : Input) (q : Qual) → Some q ≡ mark_at qual_mark i → j ≡ past (mark_at qual_mark i) i → length j.tokens < length i.tokens
is_shorter i j q is behind = omega (arith, past_shorter qual_mark (λ from. refl) i q (sym is), ap (λ (n : Input). length n.tokens) behind)

none_read : (n : ℕ) (i : Input) → mark_at qual_mark i ≡ None → quals_from n i ≡ Ok ([], i)
unfolding quals_from
none_read zero i is = refl
none_read (suc n) i is = rw is refl

pub all_read : (start : Input) (front : List Qual) (i j : Input) → None ≡ mark_at qual_mark i → j ≡ past (mark_at qual_mark i) i → IsReadTo start front i → quals start ≡ Ok (front, j)
all_read start front i j is behind read =
    let here : mark_at qual_mark i ≡ None = sym is in
    sym read.all ∙ ap (with_front front) (none_read read.count i here) ∙ ap (λ (xs : List Qual). Ok (xs, i)) (append-nil front)
    ∙ ap (λ (k : Input). Ok (front, k)) (ap (λ (o : Option Qual). past o i) (sym here) ∙ sym behind)
