-- What holds of each element of a list, and lists of what has texts that differ.
use Rattle.std.proofs.Common.{◌≡◌, ◌≢◌, ◌<◌, ℕ, zero, suc, List, [], ◌∷◌, ◌++◌, map, length, get_or, slice_get, Some, subst, arith}
use Rattle.std.specs.List.{AllByRecursion, AllPairs}

-- ---- what holds of each element

-- of both parts, and of each of the whole
pub AllByRecursion-append : {A : Type 0} (P : A → Type 0) (xs ys : List A) → AllByRecursion P xs → AllByRecursion P ys → AllByRecursion P (xs ++ ys)
AllByRecursion-append P [] ys p q = q
AllByRecursion-append P (x ∷ xs) ys p q = (p.0, AllByRecursion-append P xs ys p.1 q)

-- from one fact of each element to another of what it is mapped to
pub AllByRecursion-map : {A B : Type 0} (P : A → Type 0) (Q : B → Type 0) (f : A → B) → ((x : A) → P x → Q (f x)) → (xs : List A) → AllByRecursion P xs → AllByRecursion Q (map f xs)
AllByRecursion-map P Q f h [] all = tt
AllByRecursion-map P Q f h (x ∷ xs) all = (h x all.0, AllByRecursion-map P Q f h xs all.1)

-- from one fact of each element to another
pub AllByRecursion-weaken : {A : Type 0} (P Q : A → Type 0) → ((x : A) → P x → Q x) → (xs : List A) → AllByRecursion P xs → AllByRecursion Q xs
AllByRecursion-weaken P Q h [] all = tt
AllByRecursion-weaken P Q h (x ∷ xs) all = (h x all.0, AllByRecursion-weaken P Q h xs all.1)

-- of the element at a place
AllByRecursion-at : {A : Type 0} (P : A → Type 0) (xs : List A) (n : ℕ) (d : A) → AllByRecursion P xs → n < length xs → P (get_or xs n d)
AllByRecursion-at P [] n d all h = absurd (omega arith)
AllByRecursion-at P (x ∷ xs) zero d all h = all.0
AllByRecursion-at P (x ∷ xs) (suc n) d all h = AllByRecursion-at P xs n d all.1 (omega (arith, h))

-- of the element with a number
pub AllByRecursion-slice_get : {A : Type 0} (P : A → Type 0) (xs : List A) (n : ℕ) (x : A) → AllByRecursion P xs → slice_get xs n ≡ Some x → P x
AllByRecursion-slice_get P [] n x all e = absurd cc
AllByRecursion-slice_get P (y ∷ ys) zero x all e = let same : y ≡ x = cc in subst P same all.0
AllByRecursion-slice_get P (y ∷ ys) (suc n) x all e = AllByRecursion-slice_get P ys n x all.1 e

-- ---- what has texts that differ
-- The texts of the elements differ from each other.
abbrev pub Apart : {X : Type 0} → (X → List ℕ) → List X → Type 0
Apart text [] = Unit {0}
Apart text (x ∷ xs) = AllByRecursion (λ y. text x ≢ text y) xs × Apart text xs

-- The texts of these elements differ from the texts of those.
abbrev pub ApartFrom : {X Y : Type 0} → (X → List ℕ) → (Y → List ℕ) → List X → List Y → Type 0
ApartFrom text other xs ys = AllByRecursion (λ x. AllByRecursion (λ y. text x ≢ other y) ys) xs

-- lists put together differ where their elements differ from each other too
pub apart-append : {X : Type 0} (text : X → List ℕ) (xs ys : List X) → Apart text xs → Apart text ys → ApartFrom text text xs ys → Apart text (xs ++ ys)
apart-append text [] ys p q cross = q
apart-append text (x ∷ xs) ys p q cross = (AllByRecursion-append (λ y. text x ≢ text y) xs ys p.0 cross.0, apart-append text xs ys p.1 q cross.1)

-- they differ where what is known of both says so
pub apart-from : {X Y : Type 0} (text : X → List ℕ) (other : Y → List ℕ) (P : X → Type 0) (Q : Y → Type 0) (xs : List X) (ys : List Y)
    → ((x : X) (y : Y) → P x → Q y → text x ≢ other y) → AllByRecursion P xs → AllByRecursion Q ys → ApartFrom text other xs ys
apart-from text other P Q xs ys h ps qs =
    AllByRecursion-weaken P (λ x. AllByRecursion (λ y. text x ≢ other y) ys) (λ x p. AllByRecursion-weaken Q (λ y. text x ≢ other y) (λ y q. h x y p q) ys qs) xs ps

-- what differs is mapped to what differs
pub apart-map : {X Y : Type 0} (text : Y → List ℕ) (f : X → Y) (xs : List X) → Apart (λ x. text (f x)) xs → Apart text (map f xs)
apart-map text f [] p = tt
apart-map text f (x ∷ xs) p =
    (AllByRecursion-map (λ y. text (f x) ≢ text (f y)) (λ y. text (f x) ≢ text y) f (λ y h. h) xs p.0, apart-map text f xs p.1)

-- and so for two lists
pub apart_from-map : {X Y Z W : Type 0} (text : Y → List ℕ) (other : W → List ℕ) (f : X → Y) (g : Z → W) (xs : List X) (ys : List Z)
    → ApartFrom (λ x. text (f x)) (λ y. other (g y)) xs ys → ApartFrom text other (map f xs) (map g ys)
apart_from-map text other f g xs ys all =
    AllByRecursion-map (λ x. AllByRecursion (λ y. text (f x) ≢ other (g y)) ys) (λ x. AllByRecursion (λ y. text x ≢ other y) (map g ys)) f
    (λ x h. AllByRecursion-map (λ y. text (f x) ≢ other (g y)) (λ y. text (f x) ≢ other y) g (λ y k. k) ys h) xs all

-- each two of what differs differ
pub apart-pairs : (xs : List (List ℕ)) → Apart (λ x. x) xs → AllPairs (λ a b. a ≢ b) xs
apart-pairs [] p i j d below within = absurd (omega arith)
apart-pairs (x ∷ xs) p zero zero d below within = absurd (omega arith)
apart-pairs (x ∷ xs) p zero (suc j) d below within = AllByRecursion-at (λ y. x ≢ y) xs j d p.0 (omega (arith, within))
apart-pairs (x ∷ xs) p (suc i) zero d below within = absurd (omega arith)
apart-pairs (x ∷ xs) p (suc i) (suc j) d below within = apart-pairs xs p.1 i j d (omega (arith, below)) (omega (arith, within))
