-- Where a parser refuses a token, those in front of it begin some that another reads, which has more levels.
use Rattle.std.proofs.Common.{◌≡◌, ℕ, Bool, true, List, [], ◌∷◌, ◌++◌, Ok, Err, refl, sym, ap, subst, ◌∙◌, append_assoc}
use Rattle.std.proofs.Math.Logic.{◌⊎◌, inl, inr}
use Rattle.thr_base.specs.declared.stops.Refusal.{Refusal}
use Rattle.c_lex.specs.Tokens.{Lexeme}
use Rattle.c_tree.specs.declared.term.Term.{Term}
use Rattle.c_tree.specs.inside.Input.{Input, Parser, ◌>>=◌, term_at, refusal, too_deep}
use Rattle.c_tree.specs.Refused.{SameNext}
use Rattle.c_tree.proofs.Steps.{bind_ok}
use Rattle.c_tree.proofs.Again.{at}
use Rattle.c_tree.proofs.NextToken.{next_behind, bind_err}

-- the next token is one of these
abbrev pub Meets : (Term → Bool) → List Lexeme → Type 0
Meets C ts = C (term_at ts) ≡ true

abbrev pub any : Term → Bool
any k = true

-- The parser reads these tokens in front of each of a kind.
pub record Fills {A : Type 0} (q : Parser A) (us : List Lexeme) (C : Term → Bool) : Type 0 where
  pub value : A
  pub reads : (end : ℕ) (tail : List Lexeme) → Meets C tail → q (at (us ++ tail) end) ≡ Ok (value, at tail end)

-- Tokens of the kind D with these in front begin with one of the kind C.
pub record Leads (C : Term → Bool) (us : List Lexeme) (D : Term → Bool) : Type 0 where
  pub begins : (tail : List Lexeme) → Meets D tail → Meets C (us ++ tail)

-- What p gave it gives in front of the same next token, and so does q, and in front of each of a kind; something was
-- taken, if q is filled by something.
pub record Kept {A : Type 0} (p q : Parser A) (us : List Lexeme) (C : Term → Bool) (end : ℕ) (ts : List Lexeme) (x : A) (j : Input) : Type 0 where
  pub front : List Lexeme
  pub rest : List Lexeme
  pub splits : ts ≡ front ++ rest
  pub leaves : j ≡ at rest end
  pub some : front ≡ [] → us ≡ []
  pub again : (vs : List Lexeme) → SameNext rest vs → p (at (front ++ vs) end) ≡ Ok (x, at vs end)
  pub deeper : (vs : List Lexeme) → SameNext rest vs → q (at (front ++ vs) end) ≡ Ok (x, at vs end)
  pub closed : (tail : List Lexeme) → Meets C tail → q (at (front ++ tail) end) ≡ Ok (x, at tail end)

-- The refusal is that of the next token, or says that it opens a level too many, which then goes on.
abbrev pub Says : Refusal → ℕ → List Lexeme → List Lexeme → Type 0
Says d end rest more = (d ≡ refusal (at rest end)) ⊎ ((d ≡ too_deep (at rest end)) × ((tail : List Lexeme) → SameNext rest (more ++ tail)))

-- The first token is refused as one that nothing goes on with.
pub record AtOnce {A : Type 0} (p : Parser A) (end : ℕ) (ts : List Lexeme) (d : Refusal) : Type 0 where
  pub says : d ≡ refusal (at ts end)
  pub again : (vs : List Lexeme) → SameNext ts vs → p (at vs end) ≡ Err d

-- What p refused it refuses in front of the same next token; q reads the tokens in front with others behind.
pub record Stopped {A : Type 0} (p q : Parser A) (C : Term → Bool) (end : ℕ) (ts : List Lexeme) (d : Refusal) : Type 0 where
  pub front : List Lexeme
  pub rest : List Lexeme
  pub more : List Lexeme
  pub value : A
  pub splits : ts ≡ front ++ rest
  pub says : Says d end rest more
  pub again : (vs : List Lexeme) → SameNext rest vs → p (at (front ++ vs) end) ≡ Err d
  pub begins : (tail : List Lexeme) → SameNext ts (front ++ (more ++ tail))
  pub reads : (tail : List Lexeme) → Meets C tail → q (at (front ++ (more ++ tail)) end) ≡ Ok (value, at tail end)

pub record FinishesAt {A : Type 0} (p q : Parser A) (us : List Lexeme) (C : Term → Bool) (end : ℕ) (ts : List Lexeme) : Type 0 where
  pub keeps : (x : A) (j : Input) → p (at ts end) ≡ Ok (x, j) → Kept p q us C end ts x j
  pub stops : (d : Refusal) → p (at ts end) ≡ Err d → AtOnce p end ts d ⊎ Stopped p q C end ts d

pub record Completes {A : Type 0} (p q : Parser A) (us : List Lexeme) (C : Term → Bool) : Type 0 where
  pub fill : Fills q us C
  pub there : (end : ℕ) (ts : List Lexeme) → FinishesAt p q us C end ts

-- ---- lists

none_front : (front rest : List Lexeme) → front ++ rest ≡ [] → front ≡ []
none_front [] rest e = refl
none_front (t ∷ front) rest e = absurd cc

none_back : (front rest : List Lexeme) → front ++ rest ≡ [] → rest ≡ []
none_back [] rest e = e
none_back (t ∷ front) rest e = absurd cc

-- where something is in front, the next token is its first
pub front_next : (t : Lexeme) (front rest ts vs : List Lexeme) → ts ≡ (t ∷ front) ++ rest → SameNext ts ((t ∷ front) ++ vs)
front_next t front rest ts vs splits = subst (λ (l : List Lexeme). SameNext l ((t ∷ front) ++ vs)) (sym splits) refl

pub onto : (front rest ts vs : List Lexeme) → ts ≡ front ++ rest → SameNext rest vs → SameNext ts (front ++ vs)
onto front rest ts vs splits next = subst (λ (l : List Lexeme). SameNext l (front ++ vs)) (sym splits) (next_behind front rest vs next)

-- ---- one step, and another behind it

module _ {A B : Type 0} (p q : Parser A) (f g : A → Parser B) (us vs : List Lexeme) (C D : Term → Bool) (end : ℕ) (ts : List Lexeme) (first : FinishesAt p q us C end ts)
    (fill : (x : A) → Fills (g x) vs D) (leads : Leads C vs D)
    (second : (x : A) (rest : List Lexeme) → p (at ts end) ≡ Ok (x, at rest end) → FinishesAt (f x) (g x) vs D end rest) where
  module _ (x : A) (j : Input) (one : Kept p q us C end ts x j) where
    -- what the first step gave, it gives in front of what the second took, and behind that all of a kind
    reach_front : (front rest : List Lexeme) → one.rest ≡ front ++ rest → (front ≡ [] → vs ≡ []) → (tail : List Lexeme) → Meets D tail → q (at (one.front ++ (front ++ tail)) end) ≡ Ok (x, at (front ++ tail) end)
    reach_front [] rest splits some tail meets = one.closed tail (subst (λ (l : List Lexeme). Meets C (l ++ tail)) (some refl) (leads.begins tail meets))
    reach_front (t ∷ front) rest splits some tail meets = one.deeper (t ∷ front ++ tail) (front_next t front rest one.rest tail splits)

  bind_keeps : (y : B) (j : Input) → (p >>= f) (at ts end) ≡ Ok (y, j) → Kept (p >>= f) (q >>= g) (us ++ vs) D end ts y j
  bind_keeps y j e =
      let a = bind_ok (p (at ts end)) f y j e in
      let one = first.keeps a.0 a.1 a.2 in
      let two = (second a.0 one.rest (a.2 ∙ ap (λ (k : Input). Ok (a.0, k)) one.leaves)).keeps y j (ap (f a.0) (sym one.leaves) ∙ a.3) in record {
        front = one.front ++ two.front;
        rest = two.rest;
        splits = one.splits ∙ ap (λ (l : List Lexeme). one.front ++ l) two.splits ∙ sym (append_assoc one.front two.front two.rest);
        leaves = two.leaves;
        some = λ none. rw (one.some (none_front one.front two.front none)) (two.some (none_back one.front two.front none));
        again = λ ws next. rw (append_assoc one.front two.front ws, one.again (two.front ++ ws) (onto two.front two.rest one.rest ws two.splits next)) (two.again ws next);
        deeper = λ ws next. rw (append_assoc one.front two.front ws, one.deeper (two.front ++ ws) (onto two.front two.rest one.rest ws two.splits next)) (two.deeper ws next);
        closed = λ tail meets. rw (append_assoc one.front two.front tail, reach_front a.0 a.1 one two.front two.rest two.splits two.some tail meets) (two.closed tail meets);
      }

  bind_stops : (d : Refusal) → (p >>= f) (at ts end) ≡ Err d → AtOnce (p >>= f) end ts d ⊎ Stopped (p >>= f) (q >>= g) D end ts d
  bind_stops d e = go (bind_err (p (at ts end)) f d e)
    where
      -- the first step refuses, and is completed and then the second filled
      first_stops : AtOnce p end ts d ⊎ Stopped p q C end ts d → AtOnce (p >>= f) end ts d ⊎ Stopped (p >>= f) (q >>= g) D end ts d
      first_stops (inl once) = inl (record { says = once.says; again = λ ws next. rw (once.again ws next) refl })
      first_stops (inr s) = inr (record {
        front = s.front;
        rest = s.rest;
        more = s.more ++ vs;
        value = (fill s.value).value;
        splits = s.splits;
        says = said s.says;
        again = λ ws next. rw (s.again ws next) refl;
        begins = λ tail. rw (append_assoc s.more vs tail) (s.begins (vs ++ tail));
        reads = λ tail meets. rw (append_assoc s.more vs tail, s.reads (vs ++ tail) (leads.begins tail meets)) ((fill s.value).reads end tail meets);
      })
        where
          said : Says d end s.rest s.more → Says d end s.rest (s.more ++ vs)
          said (inl same) = inl same
          said (inr deep) = inr (deep.0, λ tail. rw (append_assoc s.more vs tail) (deep.1 (vs ++ tail)))

      -- the second refuses its first token: it is filled
      second_at_once : (x : A) (j : Input) (one : Kept p q us C end ts x j) (front : List Lexeme) → one.front ≡ front → AtOnce (f x) end one.rest d → AtOnce (p >>= f) end ts d ⊎ Stopped (p >>= f) (q >>= g) D end ts d
      second_at_once x j one [] is once =
          let same : ts ≡ one.rest = one.splits ∙ ap (λ (l : List Lexeme). l ++ one.rest) is in
          inl (record {
            says = subst (λ (l : List Lexeme). d ≡ refusal (at l end)) (sym same) once.says;
            again = λ ws next. (let next_too : SameNext one.rest ws = subst (λ (l : List Lexeme). SameNext l ws) same next in
                rw (ap (λ (l : List Lexeme). p (at (l ++ ws) end)) (sym is) ∙ one.again ws next_too) (once.again ws next_too));
          })
      second_at_once x j one (t ∷ front) is once = inr (record {
        front = one.front;
        rest = one.rest;
        more = vs;
        value = (fill x).value;
        splits = one.splits;
        says = inl once.says;
        again = λ ws next. rw (one.again ws next) (once.again ws next);
        begins = λ tail. subst (λ (l : List Lexeme). SameNext ts (l ++ (vs ++ tail))) (sym is) (front_next t front one.rest ts (vs ++ tail) (one.splits ∙ ap (λ (l : List Lexeme). l ++ one.rest) is));
        reads = λ tail meets. rw (one.closed (vs ++ tail) (leads.begins tail meets)) ((fill x).reads end tail meets);
      })

      second_stops : (x : A) (j : Input) (one : Kept p q us C end ts x j) → AtOnce (f x) end one.rest d ⊎ Stopped (f x) (g x) D end one.rest d → AtOnce (p >>= f) end ts d ⊎ Stopped (p >>= f) (q >>= g) D end ts d
      second_stops x j one (inl once) = second_at_once x j one one.front refl once
      second_stops x j one (inr s) = inr (record {
        front = one.front ++ s.front;
        rest = s.rest;
        more = s.more;
        value = s.value;
        splits = one.splits ∙ ap (λ (l : List Lexeme). one.front ++ l) s.splits ∙ sym (append_assoc one.front s.front s.rest);
        says = s.says;
        again = λ ws next. rw (append_assoc one.front s.front ws, one.again (s.front ++ ws) (onto s.front s.rest one.rest ws s.splits next)) (s.again ws next);
        begins = λ tail. rw (append_assoc one.front s.front (s.more ++ tail)) (onto one.front one.rest ts (s.front ++ (s.more ++ tail)) one.splits (s.begins tail));
        reads = λ tail meets. rw (append_assoc one.front s.front (s.more ++ tail), one.deeper (s.front ++ (s.more ++ tail)) (s.begins tail)) (s.reads tail meets);
      })

      go : ((p (at ts end) ≡ Err d) ⊎ ((x : A) × (k : Input) × (p (at ts end) ≡ Ok (x, k)) × (f x k ≡ Err d))) → AtOnce (p >>= f) end ts d ⊎ Stopped (p >>= f) (q >>= g) D end ts d
      go (inl refused) = first_stops (first.stops d refused)
      go (inr a) =
          let one = first.keeps a.0 a.1 a.2 in
          second_stops a.0 a.1 one ((second a.0 one.rest (a.2 ∙ ap (λ (k : Input). Ok (a.0, k)) one.leaves)).stops d (ap (f a.0) (sym one.leaves) ∙ a.3))

  pub bind_at : FinishesAt (p >>= f) (q >>= g) (us ++ vs) D end ts
  bind_at = record { keeps = bind_keeps; stops = bind_stops }

pub fill_bind : {A B : Type 0} {q : Parser A} {g : A → Parser B} {us vs : List Lexeme} {C D : Term → Bool} → Fills q us C → ((x : A) → Fills (g x) vs D) → Leads C vs D → Fills (q >>= g) (us ++ vs) D
fill_bind {A} {B} {q} {g} {us} {vs} {C} {D} first second leads = record {
  value = (second first.value).value;
  reads = λ end tail meets. rw (append_assoc us vs tail, first.reads end (vs ++ tail) (leads.begins tail meets)) ((second first.value).reads end tail meets);
}

pub bind : {A B : Type 0} {p q : Parser A} {f g : A → Parser B} {us vs : List Lexeme} {C D : Term → Bool} → Completes p q us C → Leads C vs D → ((x : A) → Completes (f x) (g x) vs D) → Completes (p >>= f) (q >>= g) (us ++ vs) D
bind {A} {B} {p} {q} {f} {g} {us} {vs} {C} {D} first leads second = record {
  fill = fill_bind first.fill (λ x. (second x).fill) leads;
  there = λ end ts. bind_at p q f g us vs C D end ts (first.there end ts) (λ x. (second x).fill) leads (λ x rest e. (second x).there end rest);
}
