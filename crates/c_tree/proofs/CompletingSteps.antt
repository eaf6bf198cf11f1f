-- The steps of parsers, and what completes them.
use Rattle.std.proofs.Common.{◌≡◌, ℕ, Bool, true, false, not, cond, List, [], ◌∷◌, ◌++◌, Ok, Err, refl, sym, ap, subst, ◌∙◌}
use Rattle.std.proofs.Math.Logic.{◌⊎◌, inl, inr}
use Rattle.thr_base.specs.declared.stops.Refusal.{Refusal}
use Rattle.c_lex.specs.Tokens.{Lexeme}
use Rattle.c_tree.specs.declared.term.Term.{Term}
use Rattle.c_tree.specs.declared.term.Term.TheVariants as terms
use Rattle.c_tree.specs.Term.{same_term, term_of}
use Rattle.c_tree.specs.inside.Input.{Input, Outcome, Parser, and_then, ◌>>=◌, ◌>>◌, pure, refuse, refuse_deep, look, here, take_token, eat, peek, place, next, sees, after, expect, term_at, refusal, too_deep}
use Rattle.c_tree.proofs.Steps.{ok_parts, not_err}
use Rattle.c_tree.proofs.Again.{at, same_self}
use Rattle.c_tree.proofs.NextToken.{Views, seeing, views_peek, views_place, views_sees, views_refusal, views_too_deep, ok_not_err, err_parts}
use Rattle.c_tree.proofs.Fillers.{IsToken, is_there, semicolon}
use Rattle.c_tree.proofs.Completing.{Meets, any, Fills, Leads, AtOnce, Stopped, FinishesAt, Completes, front_next, onto, bind_at, bind, fill_bind}

-- ---- what begins, and where

pub leads_token : {t : Lexeme} {k : Term} {C : Term → Bool} {us : List Lexeme} {D : Term → Bool} → IsToken t k → C k ≡ true → Leads C (t ∷ us) D
leads_token {t} {k} {C} {us} {D} token so = record { begins = λ tail meets. ap C token.is ∙ so }

pub leads_any : {us : List Lexeme} {D : Term → Bool} → Leads any us D
leads_any {us} {D} = record { begins = λ tail meets. refl }

pub leads_none : {C D : Term → Bool} → ((k : Term) → D k ≡ true → C k ≡ true) → Leads C [] D
leads_none {C} {D} less = record { begins = λ tail meets. less (term_at tail) meets }

-- some tokens
abbrev pub something : List Lexeme
something = semicolon ∷ []

-- what finishes in front of more kinds, or for another filler
change_at : {A : Type 0} {p q : Parser A} {us ws : List Lexeme} {C D : Term → Bool} {end : ℕ} {ts : List Lexeme} → (us ≡ [] → ws ≡ []) → ((k : Term) → D k ≡ true → C k ≡ true) → FinishesAt p q us C end ts → FinishesAt p q ws D end ts
change_at {A} {p} {q} {us} {ws} {C} {D} {end} {ts} none less first = record {
  keeps = λ x j e. (let k = first.keeps x j e in record {
    front = k.front;
    rest = k.rest;
    splits = k.splits;
    leaves = k.leaves;
    some = λ is. none (k.some is);
    again = k.again;
    deeper = k.deeper;
    closed = λ tail meets. k.closed tail (less (term_at tail) meets);
  });
  stops = λ d e. go d (first.stops d e);
}
  where
    go : (d : Refusal) → AtOnce p end ts d ⊎ Stopped p q C end ts d → AtOnce p end ts d ⊎ Stopped p q D end ts d
    go d (inl once) = inl once
    go d (inr s) = inr (record {
      front = s.front;
      rest = s.rest;
      more = s.more;
      value = s.value;
      splits = s.splits;
      says = s.says;
      again = s.again;
      begins = s.begins;
      reads = λ tail meets. s.reads tail (less (term_at tail) meets);
    })

pub some_not_none : (u : Lexeme) (us ws : List Lexeme) → (u ∷ us) ≡ [] → ws ≡ []
some_not_none u us ws e = absurd cc

pub filled : {A : Type 0} {p q : Parser A} {u : Lexeme} {us ws : List Lexeme} {C : Term → Bool} {end : ℕ} {ts : List Lexeme} → FinishesAt p q (u ∷ us) C end ts → FinishesAt p q ws C end ts
filled {A} {p} {q} {u} {us} {ws} {C} {end} {ts} first = change_at (some_not_none u us ws) (λ k so. so) first

pub closer : {A : Type 0} {p q : Parser A} {us : List Lexeme} {C D : Term → Bool} → ((k : Term) → D k ≡ true → C k ≡ true) → Completes p q us C → Completes p q us D
closer {A} {p} {q} {us} {C} {D} less first = record {
  fill = record { value = first.fill.value; reads = λ end tail meets. first.fill.reads end tail (less (term_at tail) meets) };
  there = λ end ts. change_at (λ none. none) less (first.there end ts);
}

-- what do the same as parsers that finish
pub same_finish : {A : Type 0} {us : List Lexeme} {C : Term → Bool} {end : ℕ} {ts : List Lexeme} (p q a b : Parser A) → ((i : Input) → p i ≡ a i) → ((i : Input) → q i ≡ b i) → FinishesAt a b us C end ts → FinishesAt p q us C end ts
same_finish {A} {us} {C} {end} {ts} p q a b first second local = record {
  keeps = λ x j e. (let k = local.keeps x j (sym (first (at ts end)) ∙ e) in record {
    front = k.front;
    rest = k.rest;
    splits = k.splits;
    leaves = k.leaves;
    some = k.some;
    again = λ vs next. first (at (k.front ++ vs) end) ∙ k.again vs next;
    deeper = λ vs next. second (at (k.front ++ vs) end) ∙ k.deeper vs next;
    closed = λ tail meets. second (at (k.front ++ tail) end) ∙ k.closed tail meets;
  });
  stops = λ d e. go d (local.stops d (sym (first (at ts end)) ∙ e));
}
  where
    go : (d : Refusal) → AtOnce a end ts d ⊎ Stopped a b C end ts d → AtOnce p end ts d ⊎ Stopped p q C end ts d
    go d (inl once) = inl (record { says = once.says; again = λ vs next. first (at vs end) ∙ once.again vs next })
    go d (inr s) = inr (record {
      front = s.front;
      rest = s.rest;
      more = s.more;
      value = s.value;
      splits = s.splits;
      says = s.says;
      begins = s.begins;
      again = λ vs next. first (at (s.front ++ vs) end) ∙ s.again vs next;
      reads = λ tail meets. second (at (s.front ++ (s.more ++ tail)) end) ∙ s.reads tail meets;
    })

pub same_completes : {A : Type 0} {us : List Lexeme} {C : Term → Bool} (p q a b : Parser A) → ((i : Input) → p i ≡ a i) → ((i : Input) → q i ≡ b i) → Completes a b us C → Completes p q us C
same_completes {A} {us} {C} p q a b first second local = record {
  fill = record { value = local.fill.value; reads = λ end tail meets. second (at (us ++ tail) end) ∙ local.fill.reads end tail meets };
  there = λ end ts. same_finish p q a b first second (local.there end ts);
}

-- ---- steps that take nothing

pub pure_completes : {A : Type 0} {C : Term → Bool} (x : A) → Completes (pure x) (pure x) [] C
pure_completes {A} {C} x = record {
  fill = record { value = x; reads = λ end tail meets. refl };
  there = λ end ts. record {
    keeps = λ y j e. (let same = ok_parts x y (at ts end) j e in record {
      front = [];
      rest = ts;
      splits = refl;
      leaves = sym same.1;
      some = λ none. none;
      again = λ vs next. ap (λ (z : A). Ok (z, at vs end)) same.0;
      deeper = λ vs next. ap (λ (z : A). Ok (z, at vs end)) same.0;
      closed = λ tail meets. ap (λ (z : A). Ok (z, at tail end)) same.0;
    });
    stops = λ d e. absurd (ok_not_err _ d e);
  };
}

pub refuse_at : {A : Type 0} {q : Parser A} {us : List Lexeme} {C : Term → Bool} (end : ℕ) (ts : List Lexeme) → FinishesAt refuse q us C end ts
refuse_at {A} {q} {us} {C} end ts = record {
  keeps = λ x j e. absurd (not_err _ x j e);
  stops = λ d e. (let same = err_parts {A = A} (refusal (at ts end)) d e in inl (record {
    says = sym same;
    again = λ vs next. ap (λ (f : Refusal). Err f) (views_refusal end ts vs next ∙ same);
  }));
}

-- what is filled, beside a parser that reads nothing
pub not_read : {A : Type 0} {q : Parser A} {us : List Lexeme} {C : Term → Bool} → Fills q us C → Completes refuse q us C
not_read fill = record { fill = fill; there = λ end ts. refuse_at end ts }

module _ {V A : Type 0} (v : Input → V) (views : Views v) (f g : V → Parser A) (us : V → List Lexeme) (ws : List Lexeme) (C : Term → Bool) (end : ℕ) (ts : List Lexeme)
    (second : FinishesAt (f (v (at ts end))) (g (v (at ts end))) (us (v (at ts end))) C end ts)
    (some : us (v (at ts end)) ≡ [] → ws ≡ [])
    (same : us (v (at ts end)) ≡ [] → (tail : List Lexeme) → Meets C tail → v (at tail end) ≡ v (at ts end)) where
  seen_closed : (front rest : List Lexeme) → ts ≡ front ++ rest → (front ≡ [] → us (v (at ts end)) ≡ []) → (tail : List Lexeme) → Meets C tail → v (at (front ++ tail) end) ≡ v (at ts end)
  seen_closed [] rest splits none tail meets = same (none refl) tail meets
  seen_closed (t ∷ front) rest splits none tail meets = views end ts (t ∷ front ++ tail) (front_next t front rest ts tail splits)

  see_stops : (d : Refusal) → AtOnce (f (v (at ts end))) end ts d ⊎ Stopped (f (v (at ts end))) (g (v (at ts end))) C end ts d → AtOnce (seeing v >>= f) end ts d ⊎ Stopped (seeing v >>= f) (seeing v >>= g) C end ts d
  see_stops d (inl once) = inl (record { says = once.says; again = λ vs next. rw (views end ts vs next) (once.again vs next) })
  see_stops d (inr s) = inr (record {
    front = s.front;
    rest = s.rest;
    more = s.more;
    value = s.value;
    splits = s.splits;
    says = s.says;
    begins = s.begins;
    again = λ vs next. rw (views end ts (s.front ++ vs) (onto s.front s.rest ts vs s.splits next)) (s.again vs next);
    reads = λ tail meets. rw (views end ts (s.front ++ (s.more ++ tail)) (s.begins tail)) (s.reads tail meets);
  })

  pub see_at : FinishesAt (seeing v >>= f) (seeing v >>= g) ws C end ts
  see_at = record {
    keeps = λ x j e. (let k = second.keeps x j e in record {
      front = k.front;
      rest = k.rest;
      splits = k.splits;
      leaves = k.leaves;
      some = λ none. some (k.some none);
      again = λ vs next. rw (views end ts (k.front ++ vs) (onto k.front k.rest ts vs k.splits next)) (k.again vs next);
      deeper = λ vs next. rw (views end ts (k.front ++ vs) (onto k.front k.rest ts vs k.splits next)) (k.deeper vs next);
      closed = λ tail meets. rw (seen_closed k.front k.rest k.splits k.some tail meets) (k.closed tail meets);
    });
    stops = λ d e. see_stops d (second.stops d e);
  }

-- a view behind which something is taken
pub seen_some : {V A : Type 0} {f g : V → Parser A} {u : Lexeme} {us : List Lexeme} {C : Term → Bool} (v : Input → V) → Views v → ((x : V) (end : ℕ) (ts : List Lexeme) → v (at ts end) ≡ x → FinishesAt (f x) (g x) something C end ts)
    → (x : V) → ((end : ℕ) (tail : List Lexeme) → v (at (u ∷ tail) end) ≡ x) → Fills (g x) (u ∷ us) C → Completes (seeing v >>= f) (seeing v >>= g) (u ∷ us) C
seen_some {V} {A} {f} {g} {u} {us} {C} v views second x is fill = record {
  fill = record { value = fill.value; reads = λ end tail meets. rw (is end (us ++ tail)) (fill.reads end tail meets) };
  there = λ end ts. see_at v views f g (λ y. something) (u ∷ us) C end ts (second (v (at ts end)) end ts refl) (some_not_none semicolon [] (u ∷ us)) (λ none. absurd cc);
}

abbrev pub Branches : {A : Type 0} → (Term → Parser A) → (Term → Parser A) → (Term → Bool) → Type 0
Branches f g C = (k : Term) (end : ℕ) (ts : List Lexeme) → term_at ts ≡ k → FinishesAt (f k) (g k) something C end ts

-- by the next token
pub looked : {A : Type 0} {f g : Term → Parser A} {t : Lexeme} {us : List Lexeme} {C : Term → Bool} → Branches f g C → (k : Term) → term_of t ≡ k → Fills (g k) (t ∷ us) C → Completes (look >>= f) (look >>= g) (t ∷ us) C
unfolding peek
looked branches k is fill = seen_some peek views_peek branches k (λ end tail. is) fill

pub looked_fill : {A : Type 0} {t : Lexeme} {us : List Lexeme} {C : Term → Bool} (g : Term → Parser A) (k : Term) → term_of t ≡ k → Fills (g k) (t ∷ us) C → Fills (look >>= g) (t ∷ us) C
unfolding peek
looked_fill g k is fill = record { value = fill.value; reads = λ end tail meets. rw is (fill.reads end tail meets) }

pub placed : {A : Type 0} {f g : ℕ → Parser A} {t : Lexeme} {us : List Lexeme} {C : Term → Bool} → ((from : ℕ) → Completes (f from) (g from) (t ∷ us) C) → Completes (here >>= f) (here >>= g) (t ∷ us) C
unfolding place
placed {A} {f} {g} {t} {us} {C} second = seen_some place views_place (λ from end ts is. filled ((second from).there end ts)) t.from (λ end tail. refl) (second t.from).fill

pub placed_fill : {A : Type 0} {t : Lexeme} {us : List Lexeme} {C : Term → Bool} (g : ℕ → Parser A) → ((from : ℕ) → Fills (g from) (t ∷ us) C) → Fills (here >>= g) (t ∷ us) C
unfolding place
placed_fill {A} {t} {us} {C} g second = record { value = (second t.from).value; reads = λ end tail meets. (second t.from).reads end tail meets }

-- ---- steps that take a token

pub take_at : {C : Term → Bool} (end : ℕ) (t : Lexeme) (ts : List Lexeme) → FinishesAt take_token take_token something C end (t ∷ ts)
unfolding place next
take_at {C} end t ts = record {
  keeps = λ x j e. (let same = ok_parts t.from x (at ts end) j e in record {
    front = t ∷ [];
    rest = ts;
    splits = refl;
    leaves = sym same.1;
    some = λ none. absurd cc;
    again = λ vs next. ap (λ (n : ℕ). Ok (n, at vs end)) same.0;
    deeper = λ vs next. ap (λ (n : ℕ). Ok (n, at vs end)) same.0;
    closed = λ tail meets. ap (λ (n : ℕ). Ok (n, at tail end)) same.0;
  });
  stops = λ d e. absurd (ok_not_err _ d e);
}

pub take_fill : {C : Term → Bool} (t : Lexeme) → Fills take_token (t ∷ []) C
unfolding place next
take_fill t = record { value = t.from; reads = λ end tail meets. refl }

-- what begins with a token of a kind, filled behind it
pub record Takes {A : Type 0} (k : Term) (p q : Parser A) (us : List Lexeme) (C : Term → Bool) : Type 0 where
  pub fill : (t : Lexeme) → term_of t ≡ k → Fills q (t ∷ us) C
  pub there : (end : ℕ) (ts : List Lexeme) → term_at ts ≡ k → FinishesAt p q something C end ts

no_token : (k : Term) → is_there k ≡ true → terms.End ≡ k → ⊥
no_token k some is = (let e : false ≡ true = ap is_there is ∙ some in cc)

-- the token is taken whatever it is
pub taking : {A : Type 0} {f g : ℕ → Parser A} {us : List Lexeme} {C : Term → Bool} {k : Term} → is_there k ≡ true → ((from : ℕ) → Completes (f from) (g from) us C) → Takes k (take_token >>= f) (take_token >>= g) us C
taking {A} {f} {g} {us} {C} {k} some second = record {
  fill = λ t is. fill_bind (take_fill {C = any} t) (λ from. (second from).fill) leads_any;
  there = go;
}
  where
    go : (end : ℕ) (ts : List Lexeme) → term_at ts ≡ k → FinishesAt (take_token >>= f) (take_token >>= g) something C end ts
    go end [] is = absurd (no_token k some is)
    go end (t ∷ ts) is = filled {u = semicolon} {us = us} (bind_at take_token take_token f g something us any C end (t ∷ ts) (take_at end t ts) (λ from. (second from).fill) leads_any (λ from rest e. (second from).there end rest))

-- and something behind it
pub taken_then : {A B : Type 0} {p q : Parser A} {f g : A → Parser B} {us vs : List Lexeme} {C : Term → Bool} {k : Term} → Takes k p q us any → ((x : A) → Completes (f x) (g x) vs C) → Takes k (p >>= f) (q >>= g) (us ++ vs) C
taken_then {A} {B} {p} {q} {f} {g} {us} {vs} {C} {k} first second = record {
  fill = λ t is. fill_bind (first.fill t is) (λ x. (second x).fill) leads_any;
  there = λ end ts is. filled {u = semicolon} {us = vs} (bind_at p q f g something vs any C end ts (first.there end ts is) (λ x. (second x).fill) leads_any (λ x rest e. (second x).there end rest));
}

-- a level too many is opened where a further level would go on
pub deep_at : {A : Type 0} {q : Parser A} {k : Term} {us : List Lexeme} {C : Term → Bool} → is_there k ≡ true → ((t : Lexeme) → term_of t ≡ k → Fills q (t ∷ us) C) → (end : ℕ) (ts : List Lexeme) → term_at ts ≡ k → FinishesAt refuse_deep q something C end ts
unfolding too_deep place
deep_at {A} {q} {k} {us} {C} some fill end [] is = absurd (no_token k some is)
deep_at {A} {q} {k} {us} {C} some fill end (t ∷ ts) is = record {
  keeps = λ x j e. absurd (not_err _ x j e);
  stops = λ d e. (let same = err_parts {A = A} (too_deep (at (t ∷ ts) end)) d e in inr (record {
    front = [];
    rest = t ∷ ts;
    more = t ∷ us;
    value = (fill t is).value;
    splits = refl;
    says = inr (sym same, λ tail. refl);
    again = λ vs next. ap (λ (c : Refusal). Err c) (views_too_deep end (t ∷ ts) vs next ∙ same);
    begins = λ tail. refl;
    reads = λ tail meets. (fill t is).reads end tail meets;
  }));
}

-- ---- a token of one kind

abbrev expect_if : Bool → Parser ℕ
expect_if true = take_token
expect_if false = refuse

end_other : (k : Term) → is_there k ≡ true → same_term terms.End k ≡ false
unfolding same_term
end_other terms.End some = absurd cc
end_other _ some = refl

module _ (k : Term) (some : is_there k ≡ true) where
  taken_if_seen : {C : Term → Bool} (end : ℕ) (ts : List Lexeme) → sees k (at ts end) ≡ true → FinishesAt take_token take_token something C end ts
  unfolding sees peek
  taken_if_seen end [] is = absurd (let e : false ≡ true = sym (end_other k some) ∙ is in cc)
  taken_if_seen end (t ∷ ts) is = take_at end t ts

  expect_by : {C : Term → Bool} (end : ℕ) (ts : List Lexeme) (b : Bool) → sees k (at ts end) ≡ b → FinishesAt (expect_if b) (expect_if b) something C end ts
  expect_by end ts true is = taken_if_seen end ts is
  expect_by end ts false is = refuse_at end ts

pub seen_token : (t : Lexeme) (k : Term) → term_of t ≡ k → (end : ℕ) (tail : List Lexeme) → sees k (at (t ∷ tail) end) ≡ true
unfolding sees peek
seen_token t k is end tail = ap (λ (j : Term). same_term j k) is ∙ same_self k

pub expect_completes : {C : Term → Bool} (t : Lexeme) (k : Term) → IsToken t k → Completes (expect k) (expect k) (t ∷ []) C
unfolding expect
expect_completes {C} t k token = same_completes (expect k) (expect k) (seeing (sees k) >>= expect_if) (seeing (sees k) >>= expect_if) (λ i. go i (sees k i)) (λ i. go i (sees k i))
    (seen_some (sees k) (views_sees k) (λ b end ts is. expect_by k token.some end ts b is) true (seen_token t k token.is) (take_fill t))
  where
    go : (i : Input) (b : Bool) → cond {A = Outcome ℕ} b (Ok (place i, next i)) (Err (refusal i)) ≡ expect_if b i
    go i true = refl
    go i false = refl

-- a token of this kind, and then
pub wanted : {A : Type 0} {f g : ℕ → Parser A} {us : List Lexeme} {C : Term → Bool} {t : Lexeme} {k : Term} → IsToken t k → ((from : ℕ) → Completes (f from) (g from) us C) → Completes (expect k >>= f) (expect k >>= g) (t ∷ us) C
wanted {A} {f} {g} {us} {C} {t} {k} token second = bind (expect_completes {C = any} t k token) leads_any second

pub ended : {A : Type 0} {C : Term → Bool} {t : Lexeme} {k : Term} → IsToken t k → (x : A) → Completes (expect k >>= λ c. pure x) (expect k >>= λ c. pure x) (t ∷ []) C
ended token x = wanted token (λ c. pure_completes x)

-- ---- a token that may be there

abbrev pub is_not : Term → Term → Bool
is_not k j = not (same_term j k)

pub eat_then : {A : Type 0} → (Bool → Parser A) → Bool → Parser A
eat_then f true = take_token >> f true
eat_then f false = f false

not_true : (b : Bool) → not b ≡ true → b ≡ false
not_true true e = absurd cc
not_true false e = refl

module _ {A : Type 0} (f g : Bool → Parser A) (us vs : List Lexeme) (C : Term → Bool) (k : Term) (some : is_there k ≡ true) (other : Leads (is_not k) vs C)
    (taken : Completes (f true) (g true) us C) (left : Completes (f false) (g false) vs C) where
  eat_is : (h : Bool → Parser A) (i : Input) (b : Bool) → and_then (Ok (b, cond b (next i) i)) h ≡ eat_then h b i
  unfolding eat_then
  eat_is h i true = refl
  eat_is h i false = refl

  fills_by : Bool → List Lexeme
  fills_by true = something
  fills_by false = vs

  eat_by : (end : ℕ) (ts : List Lexeme) (b : Bool) → sees k (at ts end) ≡ b → FinishesAt (eat_then f b) (eat_then g b) (fills_by b) C end ts
  unfolding eat_then fills_by
  eat_by end ts true is = filled {u = semicolon} {us = us} (bind_at take_token take_token (λ n. f true) (λ n. g true) something us any C end ts (taken_if_seen k some end ts is) (λ n. taken.fill) leads_any (λ n rest e. taken.there end rest))
  eat_by end ts false is = left.there end ts

  none_by : (b : Bool) → fills_by b ≡ [] → vs ≡ []
  unfolding fills_by
  none_by true none = absurd cc
  none_by false none = none

  other_by : (end : ℕ) (b : Bool) → fills_by b ≡ [] → (tail : List Lexeme) → Meets C tail → sees k (at tail end) ≡ b
  unfolding fills_by sees peek
  other_by end true none tail meets = absurd cc
  other_by end false none tail meets = not_true (same_term (term_at tail) k) (subst (λ (l : List Lexeme). Meets (is_not k) (l ++ tail)) none (other.begins tail meets))

  eaten_fill : Fills (eat k >>= g) vs C
  unfolding after sees peek
  eaten_fill = record {
    value = left.fill.value;
    reads = λ end tail meets. rw (not_true (same_term (term_at (vs ++ tail)) k) (other.begins tail meets)) (left.fill.reads end tail meets);
  }

  eaten_there : (end : ℕ) (ts : List Lexeme) → FinishesAt (eat k >>= f) (eat k >>= g) vs C end ts
  unfolding after
  eaten_there end ts = same_finish (eat k >>= f) (eat k >>= g) (seeing (sees k) >>= eat_then f) (seeing (sees k) >>= eat_then g) (λ i. eat_is f i (sees k i)) (λ i. eat_is g i (sees k i))
      (see_at (sees k) (views_sees k) (eat_then f) (eat_then g) fills_by vs C end ts (eat_by end ts (sees k (at ts end)) refl) (none_by (sees k (at ts end))) (other_by end (sees k (at ts end))))

  eaten_all : Completes (eat k >>= f) (eat k >>= g) vs C
  eaten_all = record { fill = eaten_fill; there = eaten_there }

pub eaten : {A : Type 0} {us vs : List Lexeme} {C : Term → Bool} (k : Term) (f g : Bool → Parser A) → is_there k ≡ true → Leads (is_not k) vs C → Completes (f true) (g true) us C → Completes (f false) (g false) vs C → Completes (eat k >>= f) (eat k >>= g) vs C
eaten {A} {us} {vs} {C} k f g some other taken left = eaten_all f g us vs C k some other taken left
