-- Facts of each element of a list.
use Rattle.std.proofs.Common.{◌≡◌, ℕ, zero, suc, ◌+◌, ◌-◌, ◌<◌, ◌≤◌, List, [], ◌∷◌, ◌++◌, map, length, take, drop, get_or, ap, ap₂, ◌∙◌, refl, subst, sym, arith}
use Rattle.std.specs.Prelude.{Some, slice_set}
use Rattle.std.specs.List.{AllByRecursion, slice_range, slice_get}
use Rattle.std.proofs.lemmas.List.{take-take, drop-drop, drop-take, length-take-le, length-drop}

-- What holds of each image holds of the image of the element at a place.
pub AllByRecursion-map_at : {A B : Type 0} (P : B → Type 0) (f : A → B) (xs : List A) (n : ℕ) (x : A) → AllByRecursion P (map f xs) → n < length xs → x ≡ get_or xs n x → P (f x)
AllByRecursion-map_at P f [] n x all h e = absurd (omega arith)
AllByRecursion-map_at P f (y ∷ ys) zero x all h e = subst (λ v. P (f v)) (sym e) all.0
AllByRecursion-map_at P f (y ∷ ys) (suc n) x all h e = AllByRecursion-map_at P f ys n x all.1 (omega arith) e

-- what holds of each element of both parts holds of each of the whole
pub AllByRecursion-append : {A : Type 0} (P : A → Type 0) (xs ys : List A) → AllByRecursion P xs → AllByRecursion P ys → AllByRecursion P (xs ++ ys)
AllByRecursion-append P [] ys p q = q
AllByRecursion-append P (x ∷ xs) ys p q = (p.0, AllByRecursion-append P xs ys p.1 q)

-- from one fact of each element to another of what it is mapped to
pub AllByRecursion-map : {A B : Type 0} (P : A → Type 0) (Q : B → Type 0) (f : A → B) → ((x : A) → P x → Q (f x)) → (xs : List A) → AllByRecursion P xs → AllByRecursion Q (map f xs)
AllByRecursion-map P Q f h [] all = tt
AllByRecursion-map P Q f h (x ∷ xs) all = (h x all.0, AllByRecursion-map P Q f h xs all.1)

-- from one fact of each element to another
pub AllByRecursion-weaken : {A : Type 0} (P Q : A → Type 0) → ((x : A) → P x → Q x) → (xs : List A) → AllByRecursion P xs → AllByRecursion Q xs
AllByRecursion-weaken P Q h [] all = tt
AllByRecursion-weaken P Q h (x ∷ xs) all = (h x all.0, AllByRecursion-weaken P Q h xs all.1)

-- it holds of the element at a place
pub AllByRecursion-at : {A : Type 0} (P : A → Type 0) (xs : List A) (n : ℕ) (d : A) → AllByRecursion P xs → n < length xs → P (get_or xs n d)
AllByRecursion-at P [] n d all h = absurd (omega arith)
AllByRecursion-at P (x ∷ xs) zero d all h = all.0
AllByRecursion-at P (x ∷ xs) (suc n) d all h = AllByRecursion-at P xs n d all.1 (omega arith)

-- where one is replaced
pub AllByRecursion-set : {A : Type 0} (P : A → Type 0) (xs : List A) (i : ℕ) (y : A) → P y → AllByRecursion P xs → AllByRecursion P (slice_set xs i y)
AllByRecursion-set P [] i y h all = tt
AllByRecursion-set P (x ∷ xs) zero y h all = (h, all.1)
AllByRecursion-set P (x ∷ xs) (suc i) y h all = (all.0, AllByRecursion-set P xs i y h all.1)

-- the first elements, and those behind them
pub AllByRecursion-take : {A : Type 0} (P : A → Type 0) (n : ℕ) (xs : List A) → AllByRecursion P xs → AllByRecursion P (take n xs)
AllByRecursion-take P zero xs all = tt
AllByRecursion-take P (suc n) [] all = tt
AllByRecursion-take P (suc n) (x ∷ xs) all = (all.0, AllByRecursion-take P n xs all.1)

-- and those behind them
pub AllByRecursion-drop : {A : Type 0} (P : A → Type 0) (n : ℕ) (xs : List A) → AllByRecursion P xs → AllByRecursion P (drop n xs)
AllByRecursion-drop P zero xs all = all
AllByRecursion-drop P (suc n) [] all = tt
AllByRecursion-drop P (suc n) (x ∷ xs) all = AllByRecursion-drop P n xs all.1

-- and those of a range
pub AllByRecursion-slice_range : {A : Type 0} (P : A → Type 0) (xs : List A) (from to : ℕ) → AllByRecursion P xs → AllByRecursion P (slice_range xs from to)
AllByRecursion-slice_range P xs from to all = AllByRecursion-take P (to - from) (drop from xs) (AllByRecursion-drop P from xs all)

-- a range within a list has as many elements as it names places
pub length-slice_range : {A : Type 0} (xs : List A) (from to : ℕ) → from ≤ to → to ≤ length xs → length (slice_range xs from to) ≡ to - from
length-slice_range xs from to p q = length-take-le (to - from) (drop from xs) (omega (arith, length-drop from xs))

-- the first elements of the rest of the first elements
drop-take_sub : {A : Type 0} (n m : ℕ) (xs : List A) → n ≤ m → drop n (take m xs) ≡ take (m - n) (drop n xs)
drop-take_sub n m xs p = let same : n + (m - n) ≡ m = omega arith in ap (λ k. drop n (take k xs)) (sym same) ∙ drop-take n (m - n) xs

-- a range of a range is a range
pub slice_range-slice_range : {A : Type 0} (xs : List A) (from to first last : ℕ) → first ≤ last → from + last ≤ to
    → slice_range (slice_range xs from to) first last ≡ slice_range xs (from + first) (from + last)
slice_range-slice_range xs from to first last o p =
    let sizes : from + last - (from + first) ≡ last - first = omega arith in
    let fits : last - first ≤ to - from - first = omega arith in
    ap (λ l. take (last - first) l) (drop-take_sub first (to - from) (drop from xs) (omega arith))
    ∙ take-take (last - first) (to - from - first) (drop first (drop from xs)) fits
    ∙ ap₂ (λ n l. take n l) (sym sizes) (drop-drop first from xs)

-- it holds of an element that is there
pub AllByRecursion-slice_get : {A : Type 0} (P : A → Type 0) (xs : List A) (n : ℕ) (x : A) → AllByRecursion P xs → slice_get xs n ≡ Some x → P x
AllByRecursion-slice_get P [] zero x all e = absurd cc
AllByRecursion-slice_get P [] (suc n) x all e = absurd cc
AllByRecursion-slice_get P (y ∷ ys) zero x all e = let same : x ≡ y = cc in subst P (sym same) all.0
AllByRecursion-slice_get P (y ∷ ys) (suc n) x all e = AllByRecursion-slice_get P ys n x all.1 e

-- the parts of a list put together of two
pub AllByRecursion-front : {A : Type 0} (P : A → Type 0) (xs ys : List A) → AllByRecursion P (xs ++ ys) → AllByRecursion P xs
AllByRecursion-front P [] ys all = tt
AllByRecursion-front P (x ∷ xs) ys all = (all.0, AllByRecursion-front P xs ys all.1)

-- and its second part
pub AllByRecursion-rest : {A : Type 0} (P : A → Type 0) (xs ys : List A) → AllByRecursion P (xs ++ ys) → AllByRecursion P ys
AllByRecursion-rest P [] ys all = all
AllByRecursion-rest P (x ∷ xs) ys all = AllByRecursion-rest P xs ys all.1

-- an element at each place within a list
pub slice_get-there : {A : Type 0} (xs : List A) (n : ℕ) → n < length xs → (x : A) × (slice_get xs n ≡ Some x)
slice_get-there [] n h = absurd (omega arith)
slice_get-there (x ∷ xs) zero h = (x, refl)
slice_get-there (x ∷ xs) (suc n) h = slice_get-there xs n (omega arith)
