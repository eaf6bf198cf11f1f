-- Repetitions, and what completes them.
use Rattle.std.proofs.Common.{◌≡◌, ℕ, zero, suc, ◌<◌, ◌≤◌, Bool, true, false, List, [], ◌∷◌, ◌++◌, length, Option, Some, None, Ok, refl, ◌∙◌, arith}
use Rattle.c_lex.specs.Tokens.{Lexeme}
use Rattle.c_tree.specs.declared.term.Term.{Term}
use Rattle.c_tree.specs.Term.{same_term}
use Rattle.c_tree.specs.inside.Input.{Input, Parser, ◌>>=◌, pure, take_token, peek, place, sees, term_at}
use Rattle.c_tree.specs.inside.Chain.{mark_at, more_of}
use Rattle.c_tree.specs.inside.Many.{many}
use Rattle.c_tree.proofs.Shrinks.{Shrinks, NoMarkAtEnd}
use Rattle.c_tree.proofs.Again.{at}
use Rattle.c_tree.proofs.NextToken.{views_sees, seeing}
use Rattle.c_tree.proofs.Unrolled.{views_mark, taken_there, marked_shorter, more_none, more_if, more_same_by, many_if, many_same}
use Rattle.c_tree.proofs.Completing.{Meets, any, Fills, Leads, FinishesAt, Completes, bind_at, fill_bind}
use Rattle.c_tree.proofs.Fillers.{semicolon}
use Rattle.c_tree.proofs.CompletingSteps.{something, filled, leads_any, same_finish, pure_completes, see_at, take_at}

-- ---- marks and items

module _ {M A : Type 0} (mark : Term → ℕ → Option M) (p q : Parser A) (us : List Lexeme) (C D : Term → Bool) (none : NoMarkAtEnd mark) (shrinks : Shrinks p) (deeper : Shrinks q)
    (item : Completes p q us C) (less : (k : Term) → D k ≡ true → C k ≡ true) (unmarked : (k : Term) (from : ℕ) → D k ≡ true → mark k from ≡ None) where
  more_fill : Fills (more_of mark q) [] D
  unfolding more_of peek
  more_fill = record { value = []; reads = λ end tail meets. more_none mark q none deeper (length tail) (at tail end) (unmarked (term_at tail) (place (at tail end)) meets) }

  more_takes : (o : Option M) → List Lexeme
  more_takes None = []
  more_takes (Some m) = something

  more_if_at : (n : ℕ) → ((end : ℕ) (ts : List Lexeme) → length ts < n → FinishesAt (more_of mark p) (more_of mark q) [] D end ts) → (end : ℕ) (ts : List Lexeme) → length ts ≤ n → (o : Option M) → mark_at mark (at ts end) ≡ o
      → FinishesAt (more_if mark p none shrinks o) (more_if mark q none deeper o) (more_takes o) D end ts
  unfolding more_if more_takes
  more_if_at n others end ts le None is = (pure_completes []).there end ts
  more_if_at n others end [] le (Some m) is = absurd (omega (arith, marked_shorter mark none (at [] end) m is))
  more_if_at n others end (t ∷ ts) le (Some m) is =
      let fewer = marked_shorter mark none (at (t ∷ ts) end) m is in
      let none_left : Leads C [] D = record { begins = λ tail meets. less (term_at tail) meets } in
      let last_fill : (x : A) → Fills (more_of mark q >>= λ xs. pure ((m, x) ∷ xs)) [] D = λ x. fill_bind more_fill (λ xs. (pure_completes ((m, x) ∷ xs)).fill) (record { begins = λ tail meets. meets }) in
      filled {u = semicolon} {us = us ++ []} (bind_at take_token take_token _ _ something (us ++ []) any D end (t ∷ ts) (take_at end t ts) (λ from. fill_bind item.fill last_fill none_left) leads_any
      (λ from r e. (let one = taken_there end (t ∷ ts) r from e in
      bind_at p q _ _ us [] C D end r (item.there end r) last_fill none_left
      (λ x s f. (let two = shrinks _ _ _ f in
      bind_at (more_of mark p) (more_of mark q) _ _ [] [] D D end s (others end s (omega arith)) (λ xs. (pure_completes ((m, x) ∷ xs)).fill) (record { begins = λ tail meets. meets }) (λ xs w g. (pure_completes ((m, x) ∷ xs)).there end w))))))

  stays_none : (end : ℕ) (o : Option M) → more_takes o ≡ [] → (tail : List Lexeme) → Meets D tail → mark_at mark (at tail end) ≡ o
  unfolding more_takes peek
  stays_none end None none tail meets = unmarked (term_at tail) (place (at tail end)) meets
  stays_none end (Some m) none tail meets = absurd cc

  more_at : (n end : ℕ) (ts : List Lexeme) → length ts < n → FinishesAt (more_of mark p) (more_of mark q) [] D end ts
  more_at zero end ts lt = absurd (omega arith)
  more_at (suc n) end ts lt =
      same_finish (more_of mark p) (more_of mark q) (seeing (mark_at mark) >>= more_if mark p none shrinks) (seeing (mark_at mark) >>= more_if mark q none deeper) (λ i. more_same_by mark p none shrinks i (mark_at mark i) refl) (λ i. more_same_by mark q none deeper i (mark_at mark i) refl)
      (see_at (mark_at mark) (views_mark mark) (more_if mark p none shrinks) (more_if mark q none deeper) more_takes [] D end ts (more_if_at n (more_at n) end ts (omega arith) (mark_at mark (at ts end)) refl) (λ none. refl) (stays_none end (mark_at mark (at ts end))))

  pub more_completes : Completes (more_of mark p) (more_of mark q) [] D
  more_completes = record { fill = more_fill; there = λ end ts. more_at (suc (length ts)) end ts (omega arith) }

-- ---- items up to an end

-- the token is this one
abbrev pub only : Term → Term → Bool
only k j = same_term j k

module _ {A : Type 0} (last : Term) (p q : Parser A) (us : List Lexeme) (C : Term → Bool) (shrinks : Shrinks p) (deeper : Shrinks q) (u : Lexeme) (item : Completes p q (u ∷ us) C) (less : (k : Term) → only last k ≡ true → C k ≡ true) where
  many_fill : Fills (many last q) [] (only last)
  unfolding many_if sees peek
  many_fill = record { value = []; reads = λ end tail meets. many_same last q deeper (at tail end) ∙ seen_last end tail meets }
    where
      seen_by : (i : Input) (b : Bool) → b ≡ true → many_if last q deeper b i ≡ Ok ([], i)
      seen_by i true so = refl
      seen_by i false so = absurd cc

      seen_last : (end : ℕ) (tail : List Lexeme) → Meets (only last) tail → (seeing (sees last) >>= many_if last q deeper) (at tail end) ≡ Ok ([], at tail end)
      seen_last end tail meets = seen_by (at tail end) (sees last (at tail end)) meets

  many_takes : Bool → List Lexeme
  many_takes true = []
  many_takes false = something

  many_if_at : (n : ℕ) → ((end : ℕ) (ts : List Lexeme) → length ts < n → FinishesAt (many last p) (many last q) [] (only last) end ts) → (end : ℕ) (ts : List Lexeme) → length ts ≤ n → (b : Bool)
      → FinishesAt (many_if last p shrinks b) (many_if last q deeper b) (many_takes b) (only last) end ts
  unfolding many_if many_takes
  many_if_at n others end ts le true = (pure_completes []).there end ts
  many_if_at n others end ts le false =
      let none_left : Leads C [] (only last) = record { begins = λ tail meets. less (term_at tail) meets } in
      filled {u = u} {us = us ++ []} (bind_at p q _ _ (u ∷ us) [] C (only last) end ts (item.there end ts) (λ x. fill_bind many_fill (λ xs. (pure_completes (x ∷ xs)).fill) (record { begins = λ tail meets. meets })) none_left
      (λ x s f. (let two = shrinks _ _ _ f in
      bind_at (many last p) (many last q) _ _ [] [] (only last) (only last) end s (others end s (omega arith)) (λ xs. (pure_completes (x ∷ xs)).fill) (record { begins = λ tail meets. meets }) (λ xs w g. (pure_completes (x ∷ xs)).there end w))))

  many_stays : (end : ℕ) (b : Bool) → many_takes b ≡ [] → (tail : List Lexeme) → Meets (only last) tail → sees last (at tail end) ≡ b
  unfolding many_takes sees peek
  many_stays end true none tail meets = meets
  many_stays end false none tail meets = absurd cc

  many_at : (n end : ℕ) (ts : List Lexeme) → length ts < n → FinishesAt (many last p) (many last q) [] (only last) end ts
  many_at zero end ts lt = absurd (omega arith)
  many_at (suc n) end ts lt =
      same_finish (many last p) (many last q) (seeing (sees last) >>= many_if last p shrinks) (seeing (sees last) >>= many_if last q deeper) (many_same last p shrinks) (many_same last q deeper)
      (see_at (sees last) (views_sees last) (many_if last p shrinks) (many_if last q deeper) many_takes [] (only last) end ts (many_if_at n (many_at n) end ts (omega arith) (sees last (at ts end))) (λ none. refl) (many_stays end (sees last (at ts end))))

  pub many_completes : Completes (many last p) (many last q) [] (only last)
  many_completes = record { fill = many_fill; there = λ end ts. many_at (suc (length ts)) end ts (omega arith) }

-- ---- a part that is missing where a token comes next

module _ {A : Type 0} (k : Term) (f g : Bool → Parser A) (u : Lexeme) (us : List Lexeme) (missing : Completes (f true) (g true) [] (only k)) (present : Completes (f false) (g false) (u ∷ us) (only k)) where
  missing_takes : Bool → List Lexeme
  missing_takes true = []
  missing_takes false = something

  missing_by : (b : Bool) (end : ℕ) (ts : List Lexeme) → FinishesAt (f b) (g b) (missing_takes b) (only k) end ts
  unfolding missing_takes
  missing_by true end ts = missing.there end ts
  missing_by false end ts = filled (present.there end ts)

  missing_stays : (end : ℕ) (b : Bool) → missing_takes b ≡ [] → (tail : List Lexeme) → Meets (only k) tail → sees k (at tail end) ≡ b
  unfolding missing_takes sees peek
  missing_stays end true none tail meets = meets
  missing_stays end false none tail meets = absurd cc

  missing_fill : Fills (seeing (sees k) >>= g) [] (only k)
  unfolding sees peek
  missing_fill = record { value = missing.fill.value; reads = λ end tail meets. rw meets (missing.fill.reads end tail meets) }

  pub missing_completes : Completes (seeing (sees k) >>= f) (seeing (sees k) >>= g) [] (only k)
  missing_completes = record {
    fill = missing_fill;
    there = λ end ts. see_at (sees k) (views_sees k) f g missing_takes [] (only k) end ts (missing_by (sees k (at ts end)) end ts) (λ none. refl) (missing_stays end (sees k (at ts end)));
  }
