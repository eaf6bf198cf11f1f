-- What the first number of a line that is not 0 says of its front.
use Rattle.std.proofs.Common.{rules, ◌≡◌, ℕ, zero, suc, Bool, true, false, min, nat_lt, List, [], ◌∷◌, take, length, ℤ, refl, sym, ◌∙◌, ap, ap₂, arith}
use Rattle.std.specs.List.{list_any, position_or_len}
use Rattle.std.proofs.Math.Nat.{suc-min-suc}
use Rattle.farkas_cert.specs.Line.{Line, is_nonzero, has_variable, lowest_column}

-- a test of a list's front, by the place of the first element that passes
any_next : {X : Type 0} (p : X → Bool) (x : X) (xs : List X) (n : ℕ) (b : Bool) → p x ≡ b
    → list_any p (take n xs) ≡ nat_lt (position_or_len p xs) (min (length xs) n)
    → list_any p (x ∷ take n xs) ≡ nat_lt (position_or_len p (x ∷ xs)) (min (suc (length xs)) (suc n))
any_next p x xs n true e h = rw (e, suc-min-suc (length xs) n) (search rules)
any_next p x xs n false e h = rw (e, suc-min-suc (length xs) n) (h ∙ search rules)

pub any_front : {X : Type 0} (p : X → Bool) (n : ℕ) (xs : List X) → list_any p (take n xs) ≡ nat_lt (position_or_len p xs) (min (length xs) n)
any_front p zero xs = let none : min (length xs) 0 ≡ 0 = omega arith in rw none (search rules)
any_front p (suc n) [] = let none : min 0 (suc n) ≡ 0 = omega arith in rw none (search rules)
any_front p (suc n) (x ∷ xs) = any_next p x xs n (p x) refl (any_front p n xs)

first_next : {X : Type 0} (p : X → Bool) (x : X) (xs : List X) (n : ℕ) (b : Bool) → p x ≡ b
    → position_or_len p (take n xs) ≡ min (position_or_len p xs) n
    → position_or_len p (x ∷ take n xs) ≡ min (position_or_len p (x ∷ xs)) (suc n)
first_next p x xs n true e h = rw e (omega arith)
first_next p x xs n false e h = rw e (omega (arith, h))

pub first_front : {X : Type 0} (p : X → Bool) (n : ℕ) (xs : List X) → position_or_len p (take n xs) ≡ min (position_or_len p xs) n
first_front p zero xs = omega arith
first_front p (suc n) [] = omega arith
first_front p (suc n) (x ∷ xs) = first_next p x xs n (p x) refl (first_front p n xs)

-- ---- of a line

pub has_variable-first : (n first m : ℕ) (numbers : List ℤ) (line : Line) → first ≡ position_or_len is_nonzero numbers
    → m ≡ min (length numbers) n → numbers ≡ line.numbers → nat_lt first m ≡ has_variable n line
unfolding has_variable
has_variable-first n first m numbers line f g e =
    ap₂ nat_lt f g ∙ sym (any_front is_nonzero n numbers) ∙ ap (λ xs. list_any is_nonzero (take n xs)) e

pub lowest_column-first : (n first m : ℕ) (numbers : List ℤ) (line : Line) → first ≡ position_or_len is_nonzero numbers
    → m ≡ min first n → numbers ≡ line.numbers → m ≡ lowest_column n line
unfolding lowest_column
lowest_column-first n first m numbers line f g e =
    g ∙ ap (λ k. min k n) f ∙ sym (first_front is_nonzero n numbers) ∙ ap (λ xs. position_or_len is_nonzero (take n xs)) e
