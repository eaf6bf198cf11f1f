-- Lines that are made one after another, as long as each can be made.
use Rattle.std.proofs.Common.{◌≡◌, ℕ, ◌+◌, ◌<◌, ◌≤◌, refl, sym, ◌∙◌, ap, List, [], ◌∷◌, ◌++◌, map, length, drop, get_or, Bool, true, false, cond, Option, Some, None, append_assoc, append-nil}
use Rattle.std.specs.Prelude.{filter, flat_map}
use Rattle.std.specs.Option.{option_map, option_and_then}
use Rattle.std.proofs.lemmas.List.{drop_more, drop_all}
use Rattle.farkas_cert.specs.Elimination.{every}
use Rattle.farkas_cert.proofs.Combinations.{front_more}

pub every-more : {X : Type 0} (front next : List X) (x : X) (o : Option X) (os : List (Option X)) (whole : Option (List X)) → Some x ≡ o
    → next ≡ front ++ x ∷ [] → option_map (λ rest. front ++ rest) (every (o ∷ os)) ≡ whole → option_map (λ rest. next ++ rest) (every os) ≡ whole
unfolding every
every-more front next x o os whole e n k =
    let step = ap (λ o. option_map (λ rest. front ++ rest) (every (o ∷ os))) e in
    rw n (front_more front x (every os) ∙ step ∙ k)

pub every-stops : {X : Type 0} (front : List X) (o : Option X) (os : List (Option X)) (whole : Option (List X)) → None ≡ o
    → option_map (λ rest. front ++ rest) (every (o ∷ os)) ≡ whole → None ≡ whole
unfolding every
every-stops front o os whole e k = ap (λ o. option_map (λ rest. front ++ rest) (every (o ∷ os))) e ∙ k

pub every-ends : {X : Type 0} (front : List X) (whole : Option (List X)) → option_map (λ rest. front ++ rest) (every []) ≡ whole → Some front ≡ whole
unfolding every
every-ends front whole k = ap Some (sym (append-nil front)) ∙ k

-- two lists of them, one behind the other
pub every-append : {X : Type 0} (os ps : List (Option X)) → every (os ++ ps) ≡ option_and_then (λ xs. option_map (λ ys. xs ++ ys) (every ps)) (every os)
unfolding every
every-append {X} [] ps = at (every ps) where
  at : (o : Option (List X)) → o ≡ option_map (λ ys. [] ++ ys) o
  at None = refl
  at (Some ys) = refl
every-append (None ∷ os) ps = refl
every-append {X} (Some x ∷ os) ps = rw (every-append os ps) (at (every os) (every ps)) where
  at : (o p : Option (List X)) → option_map (λ ys. x ∷ ys) (option_and_then (λ xs. option_map (λ ys. xs ++ ys) p) o)
      ≡ option_and_then (λ xs. option_map (λ ys. xs ++ ys) p) (option_map (λ ys. x ∷ ys) o)
  at None p = refl
  at (Some xs) None = refl
  at (Some xs) (Some ys) = refl

-- all of the one list came behind others, or one could not be made
pub every-all_more : {X : Type 0} (front : List X) (os ps : List (Option X)) (whole : Option (List X)) (next : List X)
    → Some next ≡ option_map (λ xs. front ++ xs) (every os) → option_map (λ rest. front ++ rest) (every (os ++ ps)) ≡ whole
    → option_map (λ rest. next ++ rest) (every ps) ≡ whole
every-all_more {X} front os ps whole next e k = at (every os) (every ps) e ∙ ap (λ o. option_map (λ rest. front ++ rest) o) (sym (every-append os ps)) ∙ k where
  at : (o p : Option (List X)) → Some next ≡ option_map (λ xs. front ++ xs) o
      → option_map (λ rest. next ++ rest) p ≡ option_map (λ rest. front ++ rest) (option_and_then (λ xs. option_map (λ ys. xs ++ ys) p) o)
  at None p e = absurd cc
  at (Some xs) None e = refl
  at (Some xs) (Some ys) e = let same : next ≡ front ++ xs = cc in rw same (ap Some (append_assoc front xs ys))

pub every-all_stops : {X : Type 0} (front : List X) (os ps : List (Option X)) (whole : Option (List X))
    → None ≡ option_map (λ xs. front ++ xs) (every os) → option_map (λ rest. front ++ rest) (every (os ++ ps)) ≡ whole → None ≡ whole
every-all_stops {X} front os ps whole e k = at (every os) (every ps) e ∙ ap (λ o. option_map (λ rest. front ++ rest) o) (sym (every-append os ps)) ∙ k where
  at : (o p : Option (List X)) → None ≡ option_map (λ xs. front ++ xs) o
      → None ≡ option_map (λ rest. front ++ rest) (option_and_then (λ xs. option_map (λ ys. xs ++ ys) p) o)
  at None p e = refl
  at (Some xs) p e = absurd cc

-- a filter of what is left of a list, by the test at its first
pub filter-here : {X : Type 0} (p : X → Bool) (xs : List X) (i : ℕ) (x : X) → i < length xs → x ≡ get_or xs i x → p x ≡ true
    → filter p (drop i xs) ≡ x ∷ filter p (drop (i + 1) xs)
filter-here p xs i x h is t = ap (λ ys. filter p ys) (drop_more xs i x h) ∙ rw (← is, t) refl

pub filter-past : {X : Type 0} (p : X → Bool) (xs : List X) (i : ℕ) (x : X) → i < length xs → x ≡ get_or xs i x → p x ≡ false
    → filter p (drop i xs) ≡ filter p (drop (i + 1) xs)
filter-past p xs i x h is t = ap (λ ys. filter p ys) (drop_more xs i x h) ∙ rw (← is, t) refl

-- ---- what is made of those of a list that pass a test, from a place on

pub mapped-more : {X : Type 0} (f : X → Option X) (p : X → Bool) (xs : List X) (i : ℕ) (x y : X) (front next : List X) (whole : Option (List X))
    → i < length xs → x ≡ get_or xs i x → p x ≡ true → Some y ≡ f x → next ≡ front ++ y ∷ []
    → option_map (λ rest. front ++ rest) (every (map f (filter p (drop i xs)))) ≡ whole
    → option_map (λ rest. next ++ rest) (every (map f (filter p (drop (i + 1) xs)))) ≡ whole
mapped-more f p xs i x y front next whole h is t e n k =
    every-more front next y (f x) (map f (filter p (drop (i + 1) xs))) whole e n
    (ap (λ zs. option_map (λ rest. front ++ rest) (every (map f zs))) (sym (filter-here p xs i x h is t)) ∙ k)

pub mapped-skips : {X : Type 0} (f : X → Option X) (p : X → Bool) (xs : List X) (i : ℕ) (x : X) (front next : List X) (whole : Option (List X))
    → i < length xs → x ≡ get_or xs i x → p x ≡ false → next ≡ front
    → option_map (λ rest. front ++ rest) (every (map f (filter p (drop i xs)))) ≡ whole
    → option_map (λ rest. next ++ rest) (every (map f (filter p (drop (i + 1) xs)))) ≡ whole
mapped-skips f p xs i x front next whole h is t n k =
    rw n (ap (λ zs. option_map (λ rest. front ++ rest) (every (map f zs))) (sym (filter-past p xs i x h is t)) ∙ k)

pub mapped-stops : {X : Type 0} (f : X → Option X) (p : X → Bool) (xs : List X) (i : ℕ) (x : X) (front : List X) (whole : Option (List X))
    → i < length xs → x ≡ get_or xs i x → p x ≡ true → None ≡ f x
    → option_map (λ rest. front ++ rest) (every (map f (filter p (drop i xs)))) ≡ whole → None ≡ whole
mapped-stops f p xs i x front whole h is t e k =
    every-stops front (f x) (map f (filter p (drop (i + 1) xs))) whole e
    (ap (λ zs. option_map (λ rest. front ++ rest) (every (map f zs))) (sym (filter-here p xs i x h is t)) ∙ k)

pub mapped-ends : {X : Type 0} (f : X → Option X) (p : X → Bool) (xs : List X) (i : ℕ) (front : List X) (whole : Option (List X)) → length xs ≤ i
    → option_map (λ rest. front ++ rest) (every (map f (filter p (drop i xs)))) ≡ whole → Some front ≡ whole
mapped-ends f p xs i front whole h k =
    every-ends front whole (ap (λ zs. option_map (λ rest. front ++ rest) (every (map f (filter p zs)))) (sym (drop_all i xs h)) ∙ k)

-- ---- the same, where each gives a list

pub flat-more : {X : Type 0} (f : X → List (Option X)) (p : X → Bool) (xs : List X) (i : ℕ) (x : X) (front next : List X) (whole : Option (List X))
    → i < length xs → x ≡ get_or xs i x → p x ≡ true → Some next ≡ option_map (λ ys. front ++ ys) (every (f x))
    → option_map (λ rest. front ++ rest) (every (flat_map f (filter p (drop i xs)))) ≡ whole
    → option_map (λ rest. next ++ rest) (every (flat_map f (filter p (drop (i + 1) xs)))) ≡ whole
flat-more f p xs i x front next whole h is t e k =
    every-all_more front (f x) (flat_map f (filter p (drop (i + 1) xs))) whole next e
    (ap (λ zs. option_map (λ rest. front ++ rest) (every (flat_map f zs))) (sym (filter-here p xs i x h is t)) ∙ k)

pub flat-skips : {X : Type 0} (f : X → List (Option X)) (p : X → Bool) (xs : List X) (i : ℕ) (x : X) (front next : List X) (whole : Option (List X))
    → i < length xs → x ≡ get_or xs i x → p x ≡ false → next ≡ front
    → option_map (λ rest. front ++ rest) (every (flat_map f (filter p (drop i xs)))) ≡ whole
    → option_map (λ rest. next ++ rest) (every (flat_map f (filter p (drop (i + 1) xs)))) ≡ whole
flat-skips f p xs i x front next whole h is t n k =
    rw n (ap (λ zs. option_map (λ rest. front ++ rest) (every (flat_map f zs))) (sym (filter-past p xs i x h is t)) ∙ k)

pub flat-stops : {X : Type 0} (f : X → List (Option X)) (p : X → Bool) (xs : List X) (i : ℕ) (x : X) (front : List X) (whole : Option (List X))
    → i < length xs → x ≡ get_or xs i x → p x ≡ true → None ≡ option_map (λ ys. front ++ ys) (every (f x))
    → option_map (λ rest. front ++ rest) (every (flat_map f (filter p (drop i xs)))) ≡ whole → None ≡ whole
flat-stops f p xs i x front whole h is t e k =
    every-all_stops front (f x) (flat_map f (filter p (drop (i + 1) xs))) whole e
    (ap (λ zs. option_map (λ rest. front ++ rest) (every (flat_map f zs))) (sym (filter-here p xs i x h is t)) ∙ k)

pub flat-ends : {X : Type 0} (f : X → List (Option X)) (p : X → Bool) (xs : List X) (i : ℕ) (front : List X) (whole : Option (List X)) → length xs ≤ i
    → option_map (λ rest. front ++ rest) (every (flat_map f (filter p (drop i xs)))) ≡ whole → Some front ≡ whole
flat-ends f p xs i front whole h k =
    every-ends front whole (ap (λ zs. option_map (λ rest. front ++ rest) (every (flat_map f (filter p zs)))) (sym (drop_all i xs h)) ∙ k)

-- a filter behind a weaker one
pub filter-filter : {X : Type 0} (p q : X → Bool) (xs : List X) → ((x : X) → p x ≡ true → q x ≡ true) → filter p (filter q xs) ≡ filter p xs
filter-filter p q [] h = refl
filter-filter {X} p q (x ∷ xs) h = at (filter-filter p q xs h) (q x) (p x) refl refl where
  at : filter p (filter q xs) ≡ filter p xs → (b d : Bool) → q x ≡ b → p x ≡ d
      → filter p (cond b (x ∷ filter q xs) (filter q xs)) ≡ cond (p x) (x ∷ filter p xs) (filter p xs)
  at rest true d s t = ap (λ ys. cond (p x) (x ∷ ys) ys) rest
  at rest false true s t = let k = h x t in absurd cc
  at rest false false s t = rest ∙ sym (ap (λ b. cond b (x ∷ filter p xs) (filter p xs)) t)
