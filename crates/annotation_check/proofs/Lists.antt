-- Lists, and elements by their numbers.
use Rattle.std.proofs.Common.{◌≡◌, ◌≤◌, ℕ, zero, suc, List, [], ◌∷◌, ◌++◌, length, map, Option, Some, None, refl, arith, ◌-◌, get_or, take, ap, sym, ◌∙◌, Bool, true, false, Result, Ok, Err, IfOk, IsTrue, ◌↔◌}
use Rattle.std.specs.Prelude.{option_map}
use Rattle.std.specs.Option.{IsSome}
use Rattle.std.specs.List.{AllByRecursion, Contains, slice_get}
use Rattle.std.proofs.lemmas.Option.{slice_get-map, slice_get_within, slice_get-get_or}
use Rattle.transition_formula.specs.Program.{at_number}
use Rattle.horn_rules.proofs.Lists.{Contains-first, Contains-later, Contains-slice_get, all-contained}
use Rattle.annotation_check.specs.inside.Proving.{IsNumberOf}

pub numbered-map : {A B : Type 0} (f : A → B) (xs : List A) (n : ℕ) → at_number (map f xs) n ≡ option_map f (at_number xs n)
numbered-map f xs zero = refl
numbered-map f xs (suc k) = slice_get-map f xs k

pub some-mapped : {A B : Type 0} (f : A → B) (o : Option A) → IsSome (option_map f o) → IsSome o
some-mapped f None there = there
some-mapped f (Some x) there = refl

pub contains-numbered : {A : Type 0} (xs : List A) (n : ℕ) (x : A) → at_number xs n ≡ Some x → Contains xs x
contains-numbered xs zero x at = cc
contains-numbered xs (suc k) x at = Contains-slice_get xs k x at

pub all-numbered : {A : Type 0} (P : A → Type 0) (xs : List A) (n : ℕ) (x : A) → AllByRecursion P xs → at_number xs n ≡ Some x → P x
all-numbered P xs n x all at = all-contained P xs x all (contains-numbered xs n x at)

-- an element with a number stands within the list
pub number-within : {A : Type 0} (xs : List A) (n : ℕ) → IsSome (at_number xs n) → IsNumberOf xs n
number-within xs zero there = cc
number-within xs (suc k) there = of-option (slice_get xs k) refl there
  where
    of-option : (o : Option _) → slice_get xs k ≡ o → IsSome o → IsNumberOf xs (suc k)
    of-option None at some = cc
    of-option (Some x) at some = (omega arith, let h = slice_get_within xs k x at in omega (arith, h))

-- what holds of each element
pub all-each : {A : Type 0} (P : A → Type 0) (xs : List A) → ((x : A) → Contains xs x → P x) → AllByRecursion P xs
all-each P [] each = tt
all-each P (x ∷ xs) each = (each x (Contains-first x xs), all-each P xs (λ y there. each y (Contains-later x y xs there)))

pub all-middle : {A : Type 0} (P : A → Type 0) (xs ys : List A) (y : A) → AllByRecursion P (xs ++ y ∷ ys) → P y
all-middle P [] ys y all = all.0
all-middle P (x ∷ xs) ys y all = all-middle P xs ys y all.1

-- the element of a number, read at its place
pub numbered-or : {A : Type 0} (xs : List A) (n : ℕ) (d : A) → IsNumberOf xs n → at_number xs n ≡ Some (get_or xs (n - 1) d)
numbered-or xs zero d is = absurd (omega (arith, is.0))
numbered-or xs (suc k) d is =
    let place : k ≡ suc k - 1 = omega arith in
    slice_get-get_or xs k d (omega (arith, is.1)) ∙ ap (λ j. Some (get_or xs j d)) place

pub take-whole : {A : Type 0} (xs : List A) (n : ℕ) → length xs ≤ n → take n xs ≡ xs
take-whole [] zero h = refl
take-whole [] (suc n) h = refl
take-whole (x ∷ xs) zero h = absurd (omega arith)
take-whole (x ∷ xs) (suc n) h = ap (λ rest. x ∷ rest) (take-whole xs n (omega arith))

-- a test that says whether something holds, and one that says so of what is as good
pub iff-made : {E : Type 0} (P Q : Type 0) (made : Result Bool E) → (P → Q) → (Q → P) → IfOk made (λ b. IsTrue b ↔ P) → IfOk made (λ b. IsTrue b ↔ Q)
iff-made P Q (Ok b) there back is = ((λ t. there (is.0 t)), (λ q. is.1 (back q)))
iff-made P Q (Err e) there back is = tt

pub not-proved : {P : Type 0} (b : Bool) → b ≡ false → (IsTrue b ↔ P) → ¬ P
not-proved b fails is p = let both : false ≡ true = sym fails ∙ is.1 p in cc
