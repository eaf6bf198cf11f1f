-- Parts of a list into which one more element came.
use Rattle.std.proofs.Common.{◌≡◌, ℕ, zero, suc, ◌+◌, ◌≤◌, List, [], ◌∷◌, ◌++◌, length, take, drop, refl, ap, arith}
use Rattle.std.specs.List.{insert}

-- behind its place
pub drop-insert : {X : Type 0} (xs : List X) (i n : ℕ) (x : X) → i ≤ n → i ≤ length xs → drop (suc n) (insert xs i x) ≡ drop n xs
drop-insert [] zero n x le within = refl
drop-insert [] (suc i) n x le within = absurd (omega arith)
drop-insert (y ∷ ys) zero n x le within = refl
drop-insert (y ∷ ys) (suc i) zero x le within = absurd (omega arith)
drop-insert (y ∷ ys) (suc i) (suc n) x le within = drop-insert ys i n x (omega arith) (omega arith)

-- in front of its place
pub take-insert : {X : Type 0} (xs : List X) (i c : ℕ) (x : X) → c ≤ i → i ≤ length xs → take c (insert xs i x) ≡ take c xs
take-insert [] i zero x le within = refl
take-insert [] i (suc c) x le within = absurd (omega arith)
take-insert (y ∷ ys) i zero x le within = refl
take-insert (y ∷ ys) zero (suc c) x le within = absurd (omega arith)
take-insert (y ∷ ys) (suc i) (suc c) x le within = ap (λ zs. y ∷ zs) (take-insert ys i c x (omega arith) (omega arith))

pub take-drop-insert : {X : Type 0} (xs : List X) (i a c : ℕ) (x : X) → a + c ≤ i → i ≤ length xs → take c (drop a (insert xs i x)) ≡ take c (drop a xs)
take-drop-insert xs i zero c x le within = take-insert xs i c x (omega arith) within
take-drop-insert [] i (suc a) c x le within = absurd (omega arith)
take-drop-insert (y ∷ ys) zero (suc a) c x le within = absurd (omega arith)
take-drop-insert (y ∷ ys) (suc i) (suc a) c x le within = take-drop-insert ys i a c x (omega arith) (omega arith)

-- up to it
pub take-insert_at : {X : Type 0} (xs : List X) (i : ℕ) (x : X) → i ≤ length xs → take (suc i) (insert xs i x) ≡ take i xs ++ x ∷ []
take-insert_at [] zero x within = refl
take-insert_at [] (suc i) x within = absurd (omega arith)
take-insert_at (y ∷ ys) zero x within = refl
take-insert_at (y ∷ ys) (suc i) x within = ap (λ zs. y ∷ zs) (take-insert_at ys i x (omega arith))

pub take-drop-insert_at : {X : Type 0} (xs : List X) (i a c : ℕ) (x : X) → i ≡ a + c → i ≤ length xs → take (suc c) (drop a (insert xs i x)) ≡ take c (drop a xs) ++ x ∷ []
take-drop-insert_at xs i zero c x is within = let e : i ≡ c = omega arith in rw e (take-insert_at xs c x (omega arith))
take-drop-insert_at [] i (suc a) c x is within = absurd (omega arith)
take-drop-insert_at (y ∷ ys) zero (suc a) c x is within = absurd (omega arith)
take-drop-insert_at (y ∷ ys) (suc i) (suc a) c x is within = take-drop-insert_at ys i a c x (omega arith) (omega arith)
