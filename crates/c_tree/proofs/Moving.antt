-- What is read depends on the places of tokens in the places that it has, and in nothing else.
use Rattle.std.proofs.Common.{◌≡◌, ℕ, zero, suc, Bool, true, false, cond, List, [], ◌∷◌, drop, length, Option, Some, None, Result, Ok, Err, refl, ap, subst}
use Rattle.thr_base.specs.declared.stops.Refusal.{Refusal}
use Rattle.c_lex.specs.Tokens.{Lexeme}
use Rattle.c_tree.specs.declared.term.Term.{Term}
use Rattle.c_tree.specs.declared.term.Term.TheVariants as terms
use Rattle.c_tree.specs.Term.{term_of, same_term}
use Rattle.c_tree.specs.inside.Input.{Input, Outcome, Parser, and_then, ◌>>=◌, pure, refuse, refuse_deep, look, here, take_token, eat, expect, peek, place, bytes, next, sees, after, term_at, bytes_at, refusal}
use Rattle.c_tree.specs.inside.Chain.{mark_at, past, one_more, more_from, more_of}
use Rattle.c_tree.specs.inside.Many.{one_or_end, many_from, many}

-- ---- tokens

-- the same token, perhaps at another place
abbrev pub IsAlike : Lexeme → Lexeme → Type 0
IsAlike t u = (t.kind ≡ u.kind) × (t.bytes ≡ u.bytes)

abbrev pub AreAlike : List Lexeme → List Lexeme → Type 0
AreAlike [] [] = Unit {0}
AreAlike [] (u ∷ us) = ⊥
AreAlike (t ∷ ts) [] = ⊥
AreAlike (t ∷ ts) (u ∷ us) = IsAlike t u × AreAlike ts us

pub term_alike : (ts us : List Lexeme) → AreAlike ts us → term_at ts ≡ term_at us
term_alike [] [] alike = refl
term_alike [] (u ∷ us) alike = absurd alike
term_alike (t ∷ ts) [] alike = absurd alike
term_alike (t ∷ ts) (u ∷ us) alike = rw (alike.0.0, alike.0.1) refl

text_alike : (ts us : List Lexeme) → AreAlike ts us → bytes_at ts ≡ bytes_at us
text_alike [] [] alike = refl
text_alike [] (u ∷ us) alike = absurd alike
text_alike (t ∷ ts) [] alike = absurd alike
text_alike (t ∷ ts) (u ∷ us) alike = alike.0.1

pub length_alike : (ts us : List Lexeme) → AreAlike ts us → length ts ≡ length us
length_alike [] [] alike = refl
length_alike [] (u ∷ us) alike = absurd alike
length_alike (t ∷ ts) [] alike = absurd alike
length_alike (t ∷ ts) (u ∷ us) alike = ap suc (length_alike ts us alike.1)

drop_alike : (ts us : List Lexeme) → AreAlike ts us → AreAlike (drop 1 ts) (drop 1 us)
drop_alike [] [] alike = tt
drop_alike [] (u ∷ us) alike = absurd alike
drop_alike (t ∷ ts) [] alike = absurd alike
drop_alike (t ∷ ts) (u ∷ us) alike = alike.1

module _ (i j : Input) (alike : AreAlike i.tokens j.tokens) where
  pub peek_alike : peek i ≡ peek j
  unfolding peek
  peek_alike = term_alike i.tokens j.tokens alike

  pub bytes_alike : bytes i ≡ bytes j
  unfolding bytes
  bytes_alike = text_alike i.tokens j.tokens alike

  pub next_alike : AreAlike (next i).tokens (next j).tokens
  unfolding next
  next_alike = drop_alike i.tokens j.tokens alike

  sees_alike : (k : Term) → sees k i ≡ sees k j
  unfolding sees
  sees_alike k = ap (λ (t : Term). same_term t k) peek_alike

  after_by : (b : Bool) → AreAlike (cond b (next i) i).tokens (cond b (next j) j).tokens
  after_by true = next_alike
  after_by false = alike

  after_alike : (k : Term) → AreAlike (after k i).tokens (after k j).tokens
  unfolding after
  after_alike k = subst (λ (b : Bool). AreAlike (cond (sees k i) (next i) i).tokens (cond b (next j) j).tokens) (sees_alike k) (after_by (sees k i))

-- ---- parsers

abbrev pub Alike : {A : Type 0} → Outcome A → Outcome A → Type 0
Alike (Ok p) (Ok q) = AreAlike p.1.tokens q.1.tokens
Alike (Ok p) (Err d) = ⊥
Alike (Err d) (Ok q) = ⊥
Alike (Err d) (Err f) = Unit {0}

-- Both read as many tokens of tokens that are alike, or both refuse.
pub record Moves {A : Type 0} (p q : Parser A) : Type 0 where
  pub does : (i j : Input) → AreAlike i.tokens j.tokens → Alike (p i) (q j)

pub pure_moves : {A : Type 0} (x y : A) → Moves (pure x) (pure y)
pure_moves x y = record { does = λ i j alike. alike }

pub refuse_moves : {A : Type 0} → Moves {A = A} refuse refuse
refuse_moves {A} = record { does = λ i j alike. tt }

pub deep_moves : {A : Type 0} → Moves {A = A} refuse_deep refuse_deep
deep_moves {A} = record { does = λ i j alike. tt }

pub here_moves : Moves here here
here_moves = record { does = λ i j alike. alike }

pub take_moves : Moves take_token take_token
take_moves = record { does = λ i j alike. next_alike i j alike }

and_then_alike : {A B : Type 0} (f g : A → Parser B) → ((x y : A) → Moves (f x) (g y)) → (r s : Outcome A) → Alike r s → Alike (and_then r f) (and_then s g)
and_then_alike f g second (Ok p) (Ok q) alike = (second p.0 q.0).does p.1 q.1 alike
and_then_alike f g second (Ok p) (Err d) alike = absurd alike
and_then_alike f g second (Err d) (Ok q) alike = absurd alike
and_then_alike f g second (Err d) (Err e) alike = tt

pub bind_moves : {A B : Type 0} {p q : Parser A} {f g : A → Parser B} → Moves p q → ((x y : A) → Moves (f x) (g y)) → Moves (p >>= f) (q >>= g)
bind_moves {A} {B} {p} {q} {f} {g} first second = record { does = λ i j alike. and_then_alike f g second (p i) (q j) (first.does i j alike) }

-- by what is seen of the input, which does not tell places
pub by_moves : {A V : Type 0} (f g : V → Parser A) → ((x : V) → Moves (f x) (g x)) → (v w : V) → v ≡ w → Moves (f v) (g w)
by_moves {A} {V} f g each v w same = subst (λ (x : V). Moves (f v) (g x)) same (each v)

pub looked_moves : {A : Type 0} {f g : Term → Parser A} → ((k : Term) → Moves (f k) (g k)) → Moves (look >>= f) (look >>= g)
looked_moves {A} {f} {g} each = record { does = λ i j alike. (by_moves f g each (peek i) (peek j) (peek_alike i j alike)).does i j alike }

pub seen_moves : {A : Type 0} {f g : Bool → Parser A} (k : Term) → ((b : Bool) → Moves (f b) (g b)) → Moves ((λ i. Ok (sees k i, i)) >>= f) ((λ i. Ok (sees k i, i)) >>= g)
seen_moves {A} {f} {g} k each = record { does = λ i j alike. (by_moves f g each (sees k i) (sees k j) (sees_alike i j alike k)).does i j alike }

pub eaten_moves : {A : Type 0} {f g : Bool → Parser A} (k : Term) → ((b : Bool) → Moves (f b) (g b)) → Moves (eat k >>= f) (eat k >>= g)
eaten_moves {A} {f} {g} k each = record { does = λ i j alike. (by_moves f g each (sees k i) (sees k j) (sees_alike i j alike k)).does (after k i) (after k j) (after_alike i j alike k) }

expect_if : Bool → Parser ℕ
expect_if b i = cond b (Ok (place i, next i)) (Err (refusal i))

expect_if_moves : (b : Bool) → Moves (expect_if b) (expect_if b)
unfolding expect_if
expect_if_moves true = record { does = λ i j alike. next_alike i j alike }
expect_if_moves false = record { does = λ i j alike. tt }

pub expect_moves : (k : Term) → Moves (expect k) (expect k)
unfolding expect expect_if
expect_moves k = record { does = λ i j alike. (by_moves expect_if expect_if expect_if_moves (sees k i) (sees k j) (sees_alike i j alike k)).does i j alike }

-- ---- lists

-- there is one of both, or of none
abbrev pub SameSome : {M : Type 0} → Option M → Option M → Type 0
SameSome None None = Unit {0}
SameSome None (Some n) = ⊥
SameSome (Some m) None = ⊥
SameSome (Some m) (Some n) = Unit {0}

-- whether there is a mark is told by the token
abbrev pub IsMarked : {M : Type 0} → (Term → ℕ → Option M) → Type 0
IsMarked mark = (k : Term) (from other : ℕ) → SameSome (mark k from) (mark k other)

pub marks_alike : {M : Type 0} (mark : Term → ℕ → Option M) → IsMarked mark → (i j : Input) → AreAlike i.tokens j.tokens → SameSome (mark_at mark i) (mark_at mark j)
marks_alike mark marked i j alike = subst (λ (k : Term). SameSome (mark (peek i) (place i)) (mark k (place j))) (peek_alike i j alike) (marked (peek i) (place i) (place j))

module _ {M A : Type 0} (mark : Term → ℕ → Option M) (marked : IsMarked mark) (p q : Parser A) (item : Moves p q) where
  more_by : (n : ℕ) → Moves (more_from mark p n) (more_from mark q n) → (m o : Option M) → SameSome m o → (i j : Input) → AreAlike i.tokens j.tokens
      → Alike (one_more p (more_from mark p n) m (past m i)) (one_more q (more_from mark q n) o (past o j))
  more_by n others None None same i j alike = alike
  more_by n others None (Some o) same i j alike = absurd same
  more_by n others (Some m) None same i j alike = absurd same
  more_by n others (Some m) (Some o) same i j alike = one.does (next i) (next j) (next_alike i j alike)
    where
      one : Moves (one_more p (more_from mark p n) (Some m)) (one_more q (more_from mark q n) (Some o))
      one = bind_moves item (λ x y. bind_moves others (λ xs ys. pure_moves _ _))

  more_from_moves : (n : ℕ) → Moves (more_from mark p n) (more_from mark q n)
  unfolding more_from
  more_from_moves zero = pure_moves [] []
  more_from_moves (suc n) = record { does = λ i j alike. more_by n (more_from_moves n) (mark_at mark i) (mark_at mark j) (marks_alike mark marked i j alike) i j alike }

  pub more_moves : Moves (more_of mark p) (more_of mark q)
  unfolding more_of
  more_moves = record { does = λ i j alike. (by_moves (more_from mark p) (more_from mark q) more_from_moves (length i.tokens) (length j.tokens) (length_alike i.tokens j.tokens alike)).does i j alike }

module _ {A : Type 0} (last : Term) (p q : Parser A) (item : Moves p q) where
  one_or_end_moves : (n : ℕ) → Moves (many_from last p n) (many_from last q n) → (b : Bool) → Moves (one_or_end p (many_from last p n) b) (one_or_end q (many_from last q n) b)
  one_or_end_moves n others true = pure_moves [] []
  one_or_end_moves n others false = bind_moves item (λ x y. bind_moves others (λ xs ys. pure_moves _ _))

  many_from_moves : (n : ℕ) → Moves (many_from last p n) (many_from last q n)
  unfolding many_from
  many_from_moves zero = refuse_moves
  many_from_moves (suc n) = record { does = λ i j alike. (by_moves (one_or_end p (many_from last p n)) (one_or_end q (many_from last q n)) (one_or_end_moves n (many_from_moves n)) (sees last i) (sees last j) (sees_alike i j alike last)).does i j alike }

  pub many_moves : Moves (many last p) (many last q)
  unfolding many
  many_moves = record { does = λ i j alike. (by_moves (many_from last p) (many_from last q) many_from_moves (suc (length i.tokens)) (suc (length j.tokens)) (ap suc (length_alike i.tokens j.tokens alike))).does i j alike }
