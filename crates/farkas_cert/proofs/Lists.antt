-- What holds of each element of a list, through the list operations of the elimination.
use Rattle.std.proofs.Common.{◌≡◌, refl, subst, List, [], ◌∷◌, map, Bool, true, false, cond, Some, None, Option}
use Rattle.std.specs.Prelude.{filter, flat_map, find, not}
use Rattle.std.specs.Option.{option_map}
use Rattle.std.specs.List.{AllByRecursion}
use Rattle.lin_rows.proofs.Lists.{AllByRecursion-append, AllByRecursion-front, AllByRecursion-rest}
use Rattle.farkas_cert.specs.Elimination.{every}

-- What holds of all holds of those that pass a test.
pub all_filter : {X : Type 0} (P : X → Type 0) (p : X → Bool) (xs : List X) → AllByRecursion P xs → AllByRecursion P (filter p xs)
all_filter P p [] h = tt
all_filter P p (x ∷ xs) h = keep (all_filter P p xs h.1) (p x) where
  keep : AllByRecursion P (filter p xs) → (b : Bool) → AllByRecursion P (cond b (x ∷ filter p xs) (filter p xs))
  keep rest true = (h.0, rest)
  keep rest false = rest

-- the elements of a filter pass its test
pub filter_all : {X : Type 0} (p : X → Bool) (xs : List X) → AllByRecursion (λ x. p x ≡ true) (filter p xs)
filter_all p [] = tt
filter_all p (x ∷ xs) = keep (filter_all p xs) (p x) refl where
  keep : AllByRecursion (λ x. p x ≡ true) (filter p xs) → (b : Bool) → p x ≡ b
      → AllByRecursion (λ x. p x ≡ true) (cond b (x ∷ filter p xs) (filter p xs))
  keep rest true e = (e, rest)
  keep rest false e = rest

-- Two facts that hold of all hold together.
pub all_both : {X : Type 0} (P Q : X → Type 0) (xs : List X) → AllByRecursion P xs → AllByRecursion Q xs → AllByRecursion (λ x. P x × Q x) xs
all_both P Q [] h k = tt
all_both P Q (x ∷ xs) h k = ((h.0, k.0), all_both P Q xs h.1 k.1)

-- what holds of each element and follows for another predicate
pub all_from : {X : Type 0} (P Q : X → Type 0) (xs : List X) → ((x : X) → P x → Q x) → AllByRecursion P xs → AllByRecursion Q xs
all_from P Q [] f h = tt
all_from P Q (x ∷ xs) f h = (f x h.0, all_from P Q xs f h.1)

-- A fact that goes over to images holds of all images.
pub all_map : {X Y : Type 0} (P : X → Type 0) (Q : Y → Type 0) (f : X → Y) (xs : List X) → ((x : X) → P x → Q (f x)) → AllByRecursion P xs
    → AllByRecursion Q (map f xs)
all_map P Q f [] g h = tt
all_map P Q f (x ∷ xs) g h = (g x h.0, all_map P Q f xs g h.1)

-- A fact that goes over to lists of images holds of all of them.
pub all_flat_map : {X Y : Type 0} (P : X → Type 0) (Q : Y → Type 0) (f : X → List Y) (xs : List X) → ((x : X) → P x → AllByRecursion Q (f x))
    → AllByRecursion P xs → AllByRecursion Q (flat_map f xs)
all_flat_map P Q f [] g h = tt
all_flat_map P Q f (x ∷ xs) g h = AllByRecursion-append Q (f x) (flat_map f xs) (g x h.0) (all_flat_map P Q f xs g h.1)

-- the first element that passes
pub found : {X : Type 0} (P : X → Type 0) (p : X → Bool) (xs : List X) (y : X) → AllByRecursion P xs → find p xs ≡ Some y → P y × (p y ≡ true)
found P p [] y h e = absurd cc
found {X} P p (x ∷ xs) y h e = at (found P p xs y h.1) (p x) refl e where
  at : (find p xs ≡ Some y → P y × (p y ≡ true)) → (b : Bool) → p x ≡ b → cond b (Some x) (find p xs) ≡ Some y → P y × (p y ≡ true)
  at rest true t e = let same : x ≡ y = cc in subst (λ (z : X). P z × (p z ≡ true)) same (h.0, t)
  at rest false t e = rest e

-- Where none is found, none passes the test.
pub none_found : {X : Type 0} (p : X → Bool) (xs : List X) → find p xs ≡ None → AllByRecursion (λ x. p x ≡ false) xs
none_found p [] e = tt
none_found p (x ∷ xs) e = at (none_found p xs) (p x) refl e where
  at : (find p xs ≡ None → AllByRecursion (λ x. p x ≡ false) xs) → (b : Bool) → p x ≡ b → cond b (Some x) (find p xs) ≡ None
      → (p x ≡ false) × AllByRecursion (λ x. p x ≡ false) xs
  at rest true t e = absurd cc
  at rest false t e = (t, rest e)

-- where each value is there, what holds of what is there holds of the values
pub all_every : {X : Type 0} (P : X → Type 0) (os : List (Option X)) (xs : List X) → AllByRecursion (λ o. (x : X) → o ≡ Some x → P x) os
    → every os ≡ Some xs → AllByRecursion P xs
unfolding every
all_every P [] xs h e = let same : [] ≡ xs = cc in rw (← same) tt
all_every P (None ∷ os) xs h e = absurd cc
all_every {X} P (Some x ∷ os) xs h e = at (λ ys. all_every P os ys h.1) (every os) refl e where
  at : ((ys : List X) → every os ≡ Some ys → AllByRecursion P ys) → (o : Option (List X)) → every os ≡ o → option_map (λ ys. x ∷ ys) o ≡ Some xs
      → AllByRecursion P xs
  at rest None t e = absurd cc
  at rest (Some ys) t e = let same : x ∷ ys ≡ xs = cc in rw (← same) (h.0 x refl, rest ys t)

-- Where all options are given, each is, with what holds of all.
pub all_there : {X : Type 0} (P : X → Type 0) (os : List (Option X)) (xs : List X) → every os ≡ Some xs → AllByRecursion P xs
    → AllByRecursion (λ o. (x : X) × (o ≡ Some x) × P x) os
unfolding every
all_there P [] xs e h = tt
all_there P (None ∷ os) xs e h = absurd cc
all_there {X} P (Some x ∷ os) xs e h = at (λ ys t. all_there P os ys t) (every os) refl e where
  at : ((ys : List X) → every os ≡ Some ys → AllByRecursion P ys → AllByRecursion (λ o. (x : X) × (o ≡ Some x) × P x) os) → (o : Option (List X))
      → every os ≡ o → option_map (λ ys. x ∷ ys) o ≡ Some xs
      → ((y : X) × (Some x ≡ Some y) × P y) × AllByRecursion (λ o. (x : X) × (o ≡ Some x) × P x) os
  at rest None t e = absurd cc
  at rest (Some ys) t e =
      let same : xs ≡ x ∷ ys = cc in
      let k : AllByRecursion P (x ∷ ys) = subst (λ (zs : List X). AllByRecursion P zs) same h in
      ((x, refl, k.0), rest ys t k.1)

-- What holds of all images holds of the image of each.
pub all_unmap : {X Y : Type 0} (Q : Y → Type 0) (f : X → Y) (xs : List X) → AllByRecursion Q (map f xs) → AllByRecursion (λ x. Q (f x)) xs
all_unmap Q f [] h = tt
all_unmap Q f (x ∷ xs) h = (h.0, all_unmap Q f xs h.1)

-- What holds of all lists of images, one behind the other, holds of each list.
pub all_unflat : {X Y : Type 0} (Q : Y → Type 0) (f : X → List Y) (xs : List X) → AllByRecursion Q (flat_map f xs)
    → AllByRecursion (λ x. AllByRecursion Q (f x)) xs
all_unflat Q f [] h = tt
all_unflat Q f (x ∷ xs) h = (AllByRecursion-front Q (f x) (flat_map f xs) h, all_unflat Q f xs (AllByRecursion-rest Q (f x) (flat_map f xs) h))

-- What holds of those that pass a test holds of each that does.
pub all_unfilter : {X : Type 0} (P : X → Type 0) (p : X → Bool) (xs : List X) → AllByRecursion P (filter p xs)
    → AllByRecursion (λ x. p x ≡ true → P x) xs
all_unfilter P p [] h = tt
all_unfilter P p (x ∷ xs) h = at (all_unfilter P p xs) (p x) refl h where
  at : (AllByRecursion P (filter p xs) → AllByRecursion (λ x. p x ≡ true → P x) xs) → (b : Bool) → p x ≡ b
      → AllByRecursion P (cond b (x ∷ filter p xs) (filter p xs)) → (p x ≡ true → P x) × AllByRecursion (λ x. p x ≡ true → P x) xs
  at rest true t h = ((λ e. h.0), rest h.1)
  at rest false t h = ((λ e. absurd cc), rest h)

-- both parts of a filter
pub all_parts : {X : Type 0} (P : X → Type 0) (p : X → Bool) (xs : List X) → AllByRecursion P (filter p xs)
    → AllByRecursion P (filter (λ x. not (p x)) xs) → AllByRecursion P xs
all_parts P p [] h k = tt
all_parts P p (x ∷ xs) h k = at (all_parts P p xs) (p x) h k where
  at : (AllByRecursion P (filter p xs) → AllByRecursion P (filter (λ x. not (p x)) xs) → AllByRecursion P xs) → (b : Bool)
      → AllByRecursion P (cond b (x ∷ filter p xs) (filter p xs))
      → AllByRecursion P (cond (not b) (x ∷ filter (λ x. not (p x)) xs) (filter (λ x. not (p x)) xs)) → P x × AllByRecursion P xs
  at rest true h k = (h.0, rest h.1 k)
  at rest false h k = (k.0, rest h k.1)

-- what holds of the elements, where what they come to is there and has Q
pub all_back : {X Y : Type 0} (P : X → Type 0) (Q : Y → Type 0) (f : X → Option Y) (xs : List X) (ys : List Y)
    → ((x : X) (y : Y) → f x ≡ Some y → Q y → P x) → every (map f xs) ≡ Some ys → AllByRecursion Q ys → AllByRecursion P xs
all_back {X} {Y} P Q f xs ys g e h =
    all_from (λ x. (y : Y) × (f x ≡ Some y) × Q y) P xs (λ x k. g x k.0 k.1 k.2)
    (all_unmap (λ o. (y : Y) × (o ≡ Some y) × Q y) f xs (all_there Q (map f xs) ys e h))
