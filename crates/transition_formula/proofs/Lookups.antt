-- Elements by their numbers.
use Rattle.std.proofs.Common.{◌≡◌, ℕ, zero, suc, ◌<◌, ◌≤◌, length, arith, ◌+◌, ◌-◌, List, [], ◌∷◌, ◌++◌, map, take, drop, get_or, Some, sym, ap, ◌∙◌}
use native.Mathlib.Numerals.{unary_clauses}
use Rattle.std.specs.Option.{IsSome}
use Rattle.std.specs.List.{slice_get, AllByRecursion}
use Rattle.std.proofs.lemmas.List.{take_more}
use Rattle.std.proofs.lemmas.Option.{get_or_from_slice_get, slice_get_within}
use Rattle.lin_rows.proofs.Lists.{AllByRecursion-slice_get}
use Rattle.transition_formula.specs.Program.{at_number}

-- an element that is there, of a list that is mapped
pub slice_get-mapped : {A B : Type 0} (f : A → B) (xs : List A) (k : ℕ) (x : A) → IsSome (slice_get (map f xs) k) → x ≡ get_or xs k x → slice_get (map f xs) k ≡ Some (f x)
slice_get-mapped f [] zero x h e = cc
slice_get-mapped f [] (suc k) x h e = cc
slice_get-mapped f (y ∷ ys) zero x h e = ap (λ v. Some (f v)) (sym e)
slice_get-mapped f (y ∷ ys) (suc k) x h e = slice_get-mapped f ys k x h e

-- The image with a number is that of the element at its place.
pub numbered-mapped : {A B : Type 0} (f : A → B) (xs : List A) (i : ℕ) (x : A) → IsSome (at_number (map f xs) i) → x ≡ get_or xs (i - 1) x → at_number (map f xs) i ≡ Some (f x)
numbered-mapped f xs zero x h e = cc
numbered-mapped f xs (suc k) x h e = slice_get-mapped f xs k x h (simp unary_clauses at e)

-- what holds of each element holds of the one of a number
pub AllByRecursion-numbered : {A : Type 0} (P : A → Type 0) (xs : List A) (i : ℕ) (x : A) → AllByRecursion P xs → at_number xs i ≡ Some x → P x
AllByRecursion-numbered P xs zero x all e = cc
AllByRecursion-numbered P xs (suc k) x all e = AllByRecursion-slice_get P xs k x all e

-- the rest of a list, from an element of it on
pub drop-slice_get : {A : Type 0} (xs : List A) (k : ℕ) (x : A) → slice_get xs k ≡ Some x → drop k xs ≡ x ∷ drop (suc k) xs
drop-slice_get [] zero x e = cc
drop-slice_get [] (suc k) x e = cc
drop-slice_get (y ∷ ys) zero x e = let same : y ≡ x = cc in ap (λ v. v ∷ ys) same
drop-slice_get (y ∷ ys) (suc k) x e = drop-slice_get ys k x e

-- one more element
pub take-slice_get : {A : Type 0} (xs : List A) (k : ℕ) (x : A) → slice_get xs k ≡ Some x → take (k + 1) xs ≡ take k xs ++ x ∷ []
take-slice_get xs k x e = take_more xs k x (slice_get_within xs k x e) ∙ ap (λ r. take k xs ++ r ∷ []) (get_or_from_slice_get xs k x x e)

-- An element has a number from 1 to the length.
pub numbered-within : {A : Type 0} (xs : List A) (i : ℕ) (x : A) → at_number xs i ≡ Some x → (0 < i) × (i ≤ length xs)
numbered-within xs zero x e = cc
numbered-within xs (suc k) x e = let h = slice_get_within xs k x e in (omega arith, omega arith)

-- an element has one value
pub numbered-one : {A : Type 0} (xs : List A) (i : ℕ) (x y : A) → at_number xs i ≡ Some x → at_number xs i ≡ Some y → x ≡ y
numbered-one xs i x y e f = let both : Some x ≡ Some y = sym e ∙ f in cc
