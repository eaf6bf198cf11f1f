-- What stands in a list, by recursion.
use Rattle.std.proofs.Common.{◌≡◌, ◌⊎◌, ℕ, zero, suc, List, [], ◌∷◌, map, Option, Some, None, refl, ap, subst, inl, inr, arith, filter_map}
use Rattle.std.specs.List.{AllByRecursion, Contains, slice_get, cons_option}
use Rattle.lin_rows.proofs.Lists.{AllByRecursion-at}
use Rattle.transition_formula.specs.Program.{at_number}

-- a list has its first element
pub Contains-first : {A : Type 0} (x : A) (xs : List A) → Contains (x ∷ xs) x
Contains-first x xs = (0, omega arith, refl)

-- it has what the rest has
pub Contains-later : {A : Type 0} (x y : A) (xs : List A) → Contains xs y → Contains (x ∷ xs) y
Contains-later x y xs (k, h, e) = (suc k, omega arith, e)

-- and nothing else
pub first-or-later : {A : Type 0} (x y : A) (xs : List A) → Contains (x ∷ xs) y → (x ≡ y) ⊎ Contains xs y
first-or-later x y xs (zero, h, e) = inl e
first-or-later x y xs (suc k, h, e) = inr (k, omega arith, e)

-- an empty list has nothing
pub contains-nothing : {A : Type 0} (y : A) → Contains [] y → ⊥
contains-nothing y (k, h, e) = absurd (omega arith)

-- a map has the image of each element
pub Contains-map : {A B : Type 0} (f : A → B) (xs : List A) (x : A) → Contains xs x → Contains (map f xs) (f x)
Contains-map f [] x c = absurd (contains-nothing x c)
Contains-map f (y ∷ ys) x (zero, h, e) = (0, omega arith, ap f e)
Contains-map f (y ∷ ys) x (suc k, h, e) = Contains-later (f y) (f x) (map f ys) (Contains-map f ys x (k, omega arith, e))

-- and nothing else
pub Contains-unmap : {A B : Type 0} (f : A → B) (xs : List A) (y : B) → Contains (map f xs) y → (x : A) × Contains xs x × (f x ≡ y)
Contains-unmap f [] y c = absurd (contains-nothing y c)
Contains-unmap f (x ∷ xs) y (zero, h, e) = (x, Contains-first x xs, e)
Contains-unmap f (x ∷ xs) y (suc k, h, e) =
    let (found, there, is) = Contains-unmap f xs y (k, omega arith, e) in
    (found, Contains-later x found xs there, is)

-- what is found at a place is there
pub Contains-slice_get : {A : Type 0} (xs : List A) (k : ℕ) (x : A) → slice_get xs k ≡ Some x → Contains xs x
Contains-slice_get [] k x e = cc
Contains-slice_get (y ∷ ys) zero x e = let same : y ≡ x = cc in (0, omega arith, same)
Contains-slice_get (y ∷ ys) (suc k) x e = Contains-later y x ys (Contains-slice_get ys k x e)

-- and what is there is found at a place
pub slice_get-Contains : {A : Type 0} (xs : List A) (x : A) → Contains xs x → (k : ℕ) × (slice_get xs k ≡ Some x)
slice_get-Contains [] x c = absurd (contains-nothing x c)
slice_get-Contains (y ∷ ys) x (zero, h, e) = (0, ap Some e)
slice_get-Contains (y ∷ ys) x (suc k, h, e) = let (place, at) = slice_get-Contains ys x (k, omega arith, e) in (suc place, at)

-- what holds of all holds of each
pub all-contained : {A : Type 0} (P : A → Type 0) (xs : List A) (x : A) → AllByRecursion P xs → Contains xs x → P x
all-contained P xs x all (k, h, e) = subst P e (AllByRecursion-at P xs k x all h)

-- ---- elements that are picked by their positions

all-cons_option : {A : Type 0} (P : A → Type 0) (o : Option A) (xs : List A) → ((x : A) → o ≡ Some x → P x) → AllByRecursion P xs → AllByRecursion P (cons_option o xs)
all-cons_option P None xs first rest = rest
all-cons_option P (Some x) xs first rest = (first x refl, rest)

-- what holds of each element at a position of a list holds of all that are picked by it
pub all-picked : {A : Type 0} (P : A → Type 0) (xs : List A) (ks : List ℕ) → ((k : ℕ) → Contains ks k → (x : A) → at_number xs k ≡ Some x → P x)
    → AllByRecursion P (filter_map (at_number xs) ks)
all-picked P xs [] each = tt
all-picked P xs (k ∷ ks) each =
    all-cons_option P (at_number xs k) (filter_map (at_number xs) ks) (each k (Contains-first k ks)) (all-picked P xs ks (λ j there. each j (Contains-later k j ks there)))
