-- Reading marks and items from left to right, as a loop does.
use Rattle.std.proofs.Common.{◌≡◌, ℕ, zero, suc, ◌<◌, ◌≤◌, List, [], ◌∷◌, ◌++◌, length, Option, Some, None, Ok, Err, refl, sym, ap, subst, ◌∙◌, append_assoc, arith}
use Rattle.std.proofs.lemmas.List.{append-nil}
use Rattle.thr_base.specs.declared.stops.Refusal.{Refusal}
use Rattle.thr_base.specs.declared.stops.Stop.{Stop}
use Rattle.thr_base.specs.declared.stops.Stop.TheVariants.{Refused, Memory}
use Rattle.c_tree.specs.declared.term.Term.{Term}
use Rattle.c_tree.specs.inside.Input.{Input, Outcome, Parser, and_then, Reads}
use Rattle.c_tree.specs.inside.Chain.{mark_at, past, one_more, more_from, more_of}
use Rattle.c_tree.proofs.Shrinks.{Shrinks, NoMarkAtEnd, past_shorter}

-- what was read before, and what is still read
abbrev pub with_front : {X : Type 0} → List X → Outcome (List X) → Outcome (List X)
with_front front read = and_then read (λ xs j. Ok (front ++ xs, j))

module _ {M A : Type 0} (mark : Term → ℕ → Option M) (item : Parser A) where
  -- What was read from the start and what is still read are all.
  pub record IsReadTo (start : Input) (front : List (M × A)) (i : Input) : Type 0 where
    -- a bound on what is still read
    pub count : ℕ
    pub enough : length i.tokens ≤ count
    pub all : with_front front (more_from mark item count i) ≡ more_of mark item start

  pub at_start : (i : Input) → IsReadTo i [] i
  unfolding more_of
  at_start i = record { count = length i.tokens; enough = omega arith; all = no_front (more_from mark item (length i.tokens) i) }
    where
      no_front : (r : Outcome (List (M × A))) → with_front [] r ≡ r
      no_front (Ok p) = refl
      no_front (Err d) = refl

  regroup : (front : List (M × A)) (m : M) (x : A) (r : Outcome (List (M × A))) → with_front front (and_then r (λ xs j. Ok ((m, x) ∷ xs, j))) ≡ with_front (front ++ (m, x) ∷ []) r
  regroup front m x (Ok p) = ap (λ (xs : List (M × A)). Ok (xs, p.1)) (sym (append_assoc front ((m, x) ∷ []) p.0))
  regroup front m x (Err d) = refl

  one_read : (n : ℕ) (front : List (M × A)) (i : Input) (m : M) (x : A) (j : Input) → mark_at mark i ≡ Some m → item (past (mark_at mark i) i) ≡ Ok (x, j)
      → with_front front (more_from mark item (suc n) i) ≡ with_front (front ++ (m, x) ∷ []) (more_from mark item n j)
  unfolding more_from
  one_read n front i m x j is e = go (mark_at mark i) is (past (mark_at mark i) i) e
    where
      go : (o : Option M) → o ≡ Some m → (k : Input) → item k ≡ Ok (x, j) → with_front front (one_more item (more_from mark item n) o k) ≡ with_front (front ++ (m, x) ∷ []) (more_from mark item n j)
      go o same k h = rw (same, h) (regroup front m x (more_from mark item n j))

  pub goes_on : NoMarkAtEnd mark → Shrinks item → (start : Input) (front : List (M × A)) (i : Input) (m : M) (x : A) (j : Input) → mark_at mark i ≡ Some m → item (past (mark_at mark i) i) ≡ Ok (x, j)
      → IsReadTo start front i → IsReadTo start (front ++ (m, x) ∷ []) j
  goes_on none shrinks start front i m x j is e read = go read.count read.enough read.all
    where
      go : (n : ℕ) → length i.tokens ≤ n → with_front front (more_from mark item n i) ≡ more_of mark item start → IsReadTo start (front ++ (m, x) ∷ []) j
      go zero le all = absurd (omega (arith, past_shorter mark none i m is))
      go (suc n) le all = record { count = n; enough = omega (arith, past_shorter mark none i m is, shrinks _ _ _ e); all = sym (one_read n front i m x j is e) ∙ all }

  one_refused : (n : ℕ) (front : List (M × A)) (i : Input) (m : M) (d : Refusal) → mark_at mark i ≡ Some m → item (past (mark_at mark i) i) ≡ Err d → with_front front (more_from mark item (suc n) i) ≡ Err d
  unfolding more_from
  one_refused n front i m d is e = other (mark_at mark i) is (past (mark_at mark i) i) e
    where
      other : (o : Option M) → o ≡ Some m → (k : Input) → item k ≡ Err d → with_front front (one_more item (more_from mark item n) o k) ≡ Err d
      other o same k h = rw (same, h) refl

  pub refuses : NoMarkAtEnd mark → (start : Input) (front : List (M × A)) (i : Input) (m : M) (d : Refusal) → mark_at mark i ≡ Some m → item (past (mark_at mark i) i) ≡ Err d
      → IsReadTo start front i → more_of mark item start ≡ Err d
  refuses none start front i m d is e read = go read.count read.enough read.all
    where
      go : (n : ℕ) → length i.tokens ≤ n → with_front front (more_from mark item n i) ≡ more_of mark item start → more_of mark item start ≡ Err d
      go zero le all = absurd (omega (arith, past_shorter mark none i m is))
      go (suc n) le all = sym all ∙ one_refused n front i m d is e

  none_read : (n : ℕ) (i : Input) → mark_at mark i ≡ None → more_from mark item n i ≡ Ok ([], i)
  unfolding more_from
  none_read zero i is = refl
  none_read (suc n) i is = rw is refl

  pub at_end : (start : Input) (front : List (M × A)) (i : Input) → mark_at mark i ≡ None → IsReadTo start front i → more_of mark item start ≡ Ok (front, i)
  at_end start front i is read = sym read.all ∙ ap (with_front front) (none_read read.count i is) ∙ ap (λ (xs : List (M × A)). Ok (xs, i)) (append-nil front)

  -- ---- in the words of the code

  pub next_read : NoMarkAtEnd mark → Shrinks item → (start : Input) (front more : List (M × A)) (i k : Input) (m : M) (x : A) (j : Input) → Some m ≡ mark_at mark i → k ≡ past (mark_at mark i) i → item k ≡ Ok (x, j)
      → more ≡ front ++ (m, x) ∷ [] → IsReadTo start front i → IsReadTo start more j
  next_read none shrinks start front more i k m x j is behind e pushed read =
      subst (λ (xs : List (M × A)). IsReadTo start xs j) (sym pushed) (goes_on none shrinks start front i m x j (sym is) (ap item (sym behind) ∙ e) read)

  pub next_shrinks : NoMarkAtEnd mark → Shrinks item → (i k : Input) (m : M) (x : A) (j : Input) → Some m ≡ mark_at mark i → k ≡ past (mark_at mark i) i → item k ≡ Ok (x, j) → length j.tokens < length i.tokens
  next_shrinks none shrinks i k m x j is behind e =
      omega (arith, past_shorter mark none i m (sym is), shrinks _ _ _ e, ap (λ (n : Input). length n.tokens) behind)

  pub stops : NoMarkAtEnd mark → (start : Input) (front : List (M × A)) (i k : Input) (m : M) (stop : Stop) (j : Input) → Some m ≡ mark_at mark i → k ≡ past (mark_at mark i) i → Reads (item k) (Err stop) j
      → IsReadTo start front i → Reads (more_of mark item start) (Err stop) j
  stops none start front i k m Memory j is behind e read = tt
  stops none start front i k m (Refused d) j is behind e read = refuses none start front i m d (sym is) (ap item (sym behind) ∙ e) read

  pub all_read : (start : Input) (front : List (M × A)) (i j : Input) → None ≡ mark_at mark i → j ≡ past (mark_at mark i) i → IsReadTo start front i → more_of mark item start ≡ Ok (front, j)
  all_read start front i j is behind read =
      let here : mark_at mark i ≡ None = sym is in
      at_end start front i here read ∙ ap (λ (k : Input). Ok (front, k)) (ap (λ (n : Option M). past n i) (sym here) ∙ sym behind)
