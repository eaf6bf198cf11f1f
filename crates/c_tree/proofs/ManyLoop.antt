-- Reading items up to the end of a list, as a loop does.
use Rattle.std.proofs.Common.{◌≡◌, ℕ, zero, suc, ◌<◌, true, false, List, [], ◌∷◌, ◌++◌, length, Ok, Err, refl, sym, ap, subst, ◌∙◌, append_assoc, arith}
use Rattle.std.proofs.lemmas.List.{append-nil}
use Rattle.thr_base.specs.declared.stops.Refusal.{Refusal}
use Rattle.thr_base.specs.declared.stops.Stop.{Stop}
use Rattle.thr_base.specs.declared.stops.Stop.TheVariants.{Refused, Memory}
use Rattle.c_tree.specs.declared.term.Term.{Term}
use Rattle.c_tree.specs.inside.Input.{Input, Outcome, Parser, and_then, Reads, sees}
use Rattle.c_tree.specs.inside.Many.{many_from, many}
use Rattle.c_tree.proofs.Shrinks.{Shrinks}
use Rattle.c_tree.proofs.Chains.{with_front}

module _ {A : Type 0} (end : Term) (item : Parser A) where
  -- What was read from the start and what is still read are all.
  pub record IsReadTo (start : Input) (front : List A) (i : Input) : Type 0 where
    pub count : ℕ
    pub enough : length i.tokens < count
    pub all : with_front front (many_from end item count i) ≡ many end item start

  pub at_start : (i : Input) → IsReadTo i [] i
  unfolding many
  at_start i = record { count = suc (length i.tokens); enough = omega arith; all = no_front (many_from end item (suc (length i.tokens)) i) }
    where
      no_front : (r : Outcome (List A)) → with_front [] r ≡ r
      no_front (Ok p) = refl
      no_front (Err d) = refl

  regroup : (front : List A) (x : A) (r : Outcome (List A)) → with_front front (and_then r (λ xs j. Ok (x ∷ xs, j))) ≡ with_front (front ++ x ∷ []) r
  regroup front x (Ok p) = ap (λ (xs : List A). Ok (xs, p.1)) (sym (append_assoc front (x ∷ []) p.0))
  regroup front x (Err d) = refl

  one_read : (n : ℕ) (front : List A) (i : Input) (x : A) (j : Input) → sees end i ≡ false → item i ≡ Ok (x, j) → with_front front (many_from end item (suc n) i) ≡ with_front (front ++ x ∷ []) (many_from end item n j)
  unfolding many_from
  one_read n front i x j more e = rw (more, e) (regroup front x (many_from end item n j))

  pub goes_on : Shrinks item → (start : Input) (front all : List A) (i : Input) (x : A) (j : Input) → sees end i ≡ false → item i ≡ Ok (x, j) → all ≡ front ++ x ∷ [] → IsReadTo start front i → IsReadTo start all j
  goes_on shrinks start front all i x j more e pushed read = subst (λ (xs : List A). IsReadTo start xs j) (sym pushed) (go read.count read.enough read.all)
    where
      go : (n : ℕ) → length i.tokens < n → with_front front (many_from end item n i) ≡ many end item start → IsReadTo start (front ++ x ∷ []) j
      go zero lt whole = absurd (omega arith)
      go (suc n) lt whole = record { count = n; enough = omega (arith, shrinks _ _ _ e); all = sym (one_read n front i x j more e) ∙ whole }

  one_refused : (n : ℕ) (front : List A) (i : Input) (d : Refusal) → sees end i ≡ false → item i ≡ Err d → with_front front (many_from end item (suc n) i) ≡ Err d
  unfolding many_from
  one_refused n front i d more e = rw (more, e) refl

  pub stops : (start : Input) (front : List A) (i : Input) (stop : Stop) (j : Input) → sees end i ≡ false → Reads (item i) (Err stop) j → IsReadTo start front i → Reads (many end item start) (Err stop) j
  stops start front i Memory j more e read = tt
  stops start front i (Refused d) j more e read = go read.count read.enough read.all
    where
      go : (n : ℕ) → length i.tokens < n → with_front front (many_from end item n i) ≡ many end item start → many end item start ≡ Err d
      go zero lt whole = absurd (omega arith)
      go (suc n) lt whole = sym whole ∙ one_refused n front i d more e

  none_read : (n : ℕ) (i : Input) → sees end i ≡ true → many_from end item (suc n) i ≡ Ok ([], i)
  unfolding many_from
  none_read n i ended = rw ended refl

  pub all_read : (start : Input) (front : List A) (i : Input) → sees end i ≡ true → IsReadTo start front i → many end item start ≡ Ok (front, i)
  all_read start front i ended read = go read.count read.enough read.all
    where
      go : (n : ℕ) → length i.tokens < n → with_front front (many_from end item n i) ≡ many end item start → many end item start ≡ Ok (front, i)
      go zero lt whole = absurd (omega arith)
      go (suc n) lt whole = sym whole ∙ ap (with_front front) (none_read n i ended) ∙ ap (λ (xs : List A). Ok (xs, i)) (append-nil front)
