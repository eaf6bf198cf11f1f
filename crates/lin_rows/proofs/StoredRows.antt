-- Rows whose coefficients stand in one list, one row behind the other.
use Rattle.std.proofs.Common.{◌≡◌, ℕ, zero, suc, ◌+◌, ◌-◌, ◌*◌, ◌≤◌, ◌<◌, ◌^◌, ℤ, List, [], ◌∷◌, ◌++◌, length, take, drop, refl, sym, ◌∙◌, ap, ap₂, subst, arith, add-one, take_all, lit<}
use Rattle.std.specs.Prelude.{Some}
use Rattle.std.specs.List.{AllByRecursion, slice_get, slice_range}
use Rattle.std.proofs.Math.Nat.{suc-mul, zero-mul, mul-sub, mul-le-mul_right}
use Rattle.std.proofs.lemmas.List.{take-take, drop-drop, drop-take, take-append-le, drop-append-le, length-take-le, length-drop, length-append}
use Rattle.thr_base.specs.Number.{Fits}
use Rattle.lin_rows.specs.System.{System, IsRowOver, IsWellFormed, with_rows}
use Rattle.lin_rows.specs.Buffer.{stored_row, rows_of, stored_system}
use Rattle.lin_rows.specs.inside.Stored.{BoundFits, IsStored}
use Rattle.lin_rows.specs.declared.stored.RightSide.{RightSide}
use Rattle.lin_rows.proofs.Lists.{AllByRecursion-append, AllByRecursion-take, AllByRecursion-drop, AllByRecursion-slice_range, length-slice_range}

-- as many rows as sides
pub length-rows_of : (c : ℕ) (sides : List RightSide) (xs : List ℤ) → length (rows_of c sides xs) ≡ length sides
length-rows_of c [] xs = refl
length-rows_of c (side ∷ sides) xs = ap suc (length-rows_of c sides (drop c xs))

-- ---- products with the number of columns
-- One row more has its numbers behind those of the others.
pub row_end : (n c : ℕ) → suc n * c ≡ c + n * c
row_end n c = omega (arith, suc-mul n c)

-- A product does not change where its factors change places.
mul_comm_ℕ : (m n : ℕ) → m * n ≡ n * m
mul_comm_ℕ m n = omega arith

-- products of a difference
sub-mul : (m n c : ℕ) → m * c - n * c ≡ (m - n) * c
sub-mul m n c = ap₂ (λ x y. x - y) (mul_comm_ℕ m c) (mul_comm_ℕ n c) ∙ sym (mul-sub c m n) ∙ mul_comm_ℕ c (m - n)

-- ---- parts
-- The rows behind the first n are those of what is stored behind them.
rows_of-drop : (c n : ℕ) (sides : List RightSide) (xs : List ℤ) → rows_of c (drop n sides) (drop (n * c) xs) ≡ drop n (rows_of c sides xs)
rows_of-drop c zero sides xs = ap (λ k. rows_of c sides (drop k xs)) (zero-mul c)
rows_of-drop c (suc n) [] xs = refl
rows_of-drop c (suc n) (side ∷ sides) xs =
    ap (λ l. rows_of c (drop n sides) l) (ap (λ k. drop k xs) (row_end n c) ∙ sym (drop-drop (n * c) c xs)) ∙ rows_of-drop c n sides (drop c xs)

-- the first rows
rows_of-take : (c n : ℕ) (sides : List RightSide) (xs : List ℤ) → rows_of c (take n sides) (take (n * c) xs) ≡ take n (rows_of c sides xs)
rows_of-take c zero sides xs = refl
rows_of-take c (suc n) [] xs = refl
rows_of-take c (suc n) (side ∷ sides) xs =
    let front = ap (λ k. take c (take k xs)) (row_end n c) ∙ take-take c (c + n * c) xs (omega arith) in
    let rest = ap (λ k. drop c (take k xs)) (row_end n c) ∙ drop-take c (n * c) xs in
    ap₂ (λ l r. stored_row l side ∷ r) front (ap (λ l. rows_of c (take n sides) l) rest ∙ rows_of-take c n sides (drop c xs))

-- the rows of a range have its part of the numbers
pub rows_of-slice_range : (c from to : ℕ) (sides : List RightSide) (xs : List ℤ)
    → rows_of c (slice_range sides from to) (slice_range xs (from * c) (to * c)) ≡ slice_range (rows_of c sides xs) from to
rows_of-slice_range c from to sides xs =
    ap (λ n. rows_of c (take (to - from) (drop from sides)) (take n (drop (from * c) xs))) (sub-mul to from c)
    ∙ rows_of-take c (to - from) (drop from sides) (drop (from * c) xs)
    ∙ ap (λ rows. take (to - from) rows) (rows_of-drop c from sides xs)

-- ---- one row
-- The row at a place is made of its part of the numbers.
pub slice_get-rows_of : (c n : ℕ) (sides : List RightSide) (xs : List ℤ) (side : RightSide) → slice_get sides n ≡ Some side
    → slice_get (rows_of c sides xs) n ≡ Some (stored_row (take c (drop (n * c) xs)) side)
slice_get-rows_of c zero [] xs side e = absurd cc
slice_get-rows_of c (suc n) [] xs side e = absurd cc
slice_get-rows_of c zero (first ∷ sides) xs side e = ap₂ (λ k s. Some (stored_row (take c (drop k xs)) s)) (sym (zero-mul c)) (is_same e)
  where
    is_same : {a b : RightSide} → Some a ≡ Some b → a ≡ b
    is_same e = cc
slice_get-rows_of c (suc n) (first ∷ sides) xs side e =
    slice_get-rows_of c n sides (drop c xs) side e
    ∙ ap (λ l. Some (stored_row (take c l) side)) (drop-drop (n * c) c xs ∙ ap (λ k. drop k xs) (sym (row_end n c)))

-- the numbers of one row
pub slice_range-row : (c n : ℕ) (xs : List ℤ) → slice_range xs (n * c) ((n + 1) * c) ≡ take c (drop (n * c) xs)
slice_range-row c n xs =
    let size : (n + 1) * c - n * c ≡ c = ap (λ k. k * c - n * c) (add-one n) ∙ omega (arith, row_end n c) in
    ap (λ k. take k (drop (n * c) xs)) size

-- ---- more rows
-- A list of length 0 is empty.
none_left : (xs : List ℤ) → length xs ≡ 0 → xs ≡ []
none_left [] e = refl
none_left (x ∷ xs) e = absurd (omega arith)

-- rows behind rows
pub rows_of-append : (c : ℕ) (sides more : List RightSide) (xs ys : List ℤ) → length xs ≡ length sides * c
    → rows_of c (sides ++ more) (xs ++ ys) ≡ rows_of c sides xs ++ rows_of c more ys
rows_of-append c [] more xs ys e = ap (λ l. rows_of c more (l ++ ys)) (none_left xs (e ∙ zero-mul c))
rows_of-append c (side ∷ sides) more xs ys e =
    let size : length xs ≡ c + length sides * c = e ∙ row_end (length sides) c in
    let within : c ≤ length xs = omega arith in
    let rest : length (drop c xs) ≡ length sides * c = omega (arith, length-drop c xs) in
    ap₂ (λ l r. stored_row l side ∷ r) (take-append-le c xs ys within)
    (ap (λ l. rows_of c (sides ++ more) l) (drop-append-le c xs ys within) ∙ rows_of-append c sides more (drop c xs) ys rest)

-- ---- what is known of what is held
-- The rows of what is stored are over the columns, and fit.
all_over : (c : ℕ) (sides : List RightSide) (xs : List ℤ) → length xs ≡ length sides * c → AllByRecursion Fits xs → AllByRecursion BoundFits sides
    → AllByRecursion (IsRowOver c) (rows_of c sides xs)
all_over c [] xs e fit bounds = tt
all_over c (side ∷ sides) xs e fit bounds =
    let size : length xs ≡ c + length sides * c = e ∙ row_end (length sides) c in
    let over : IsRowOver c (stored_row (take c xs) side) = record {
      width = length-take-le c xs (omega arith);
      fits = record { coefficients = AllByRecursion-take Fits c xs fit; bound = bounds.0 };
    } in
    (over, all_over c sides (drop c xs) (omega (arith, length-drop c xs)) (AllByRecursion-drop Fits c xs fit) bounds.1)

-- they are a system that a program holds
pub IsWellFormed-stored : (c : ℕ) (sides : List RightSide) (xs : List ℤ) → c < 2 ^ 32 → IsStored c sides xs → IsWellFormed (stored_system c sides xs)
IsWellFormed-stored c sides xs columns stored = record {
  columns = columns;
  count = let same = length-rows_of c sides xs in let fits = stored.count in omega arith;
  rows = all_over c sides xs stored.size stored.numbers_fit stored.bounds_fit;
}

-- a range of what is held is held
pub IsStored-slice_range : (c from to : ℕ) (sides : List RightSide) (xs : List ℤ) → from ≤ to → to ≤ length sides → IsStored c sides xs
    → IsStored c (slice_range sides from to) (slice_range xs (from * c) (to * c))
IsStored-slice_range c from to sides xs o p stored =
    let count = stored.count in
    let size = stored.size in
    let few = length-slice_range sides from to o p in
    let within : to * c ≤ length xs = subst (λ k. to * c ≤ k) (sym stored.size) (mul-le-mul_right c p) in
    let numbers = length-slice_range xs (from * c) (to * c) (mul-le-mul_right c o) within in
    record {
      count = omega arith;
      size = numbers ∙ sub-mul to from c ∙ ap (λ k. k * c) (sym few);
      numbers_fit = AllByRecursion-slice_range Fits xs (from * c) (to * c) stored.numbers_fit;
      bounds_fit = AllByRecursion-slice_range BoundFits sides from to stored.bounds_fit;
    }

-- products of a sum
add-mul : (m n c : ℕ) → (m + n) * c ≡ m * c + n * c
add-mul m n c = omega arith

-- both parts together are held
pub IsStored-append : (c : ℕ) (sides more : List RightSide) (xs ys : List ℤ) → length sides + length more < 2 ^ 32 - 1 → IsStored c sides xs → IsStored c more ys
    → IsStored c (sides ++ more) (xs ++ ys)
IsStored-append c sides more xs ys few stored further =
    let both = length-append sides more in record {
      count = omega arith;
      size = length-append xs ys ∙ ap₂ (λ m n. m + n) stored.size further.size ∙ sym (add-mul (length sides) (length more) c) ∙ ap (λ k. k * c) (sym both);
      numbers_fit = AllByRecursion-append Fits xs ys stored.numbers_fit further.numbers_fit;
      bounds_fit = AllByRecursion-append BoundFits sides more stored.bounds_fit further.bounds_fit;
    }

-- the same, by the numbers of the part
pub IsStored-part : (c from to : ℕ) (sides : List RightSide) (xs part : List ℤ) → from ≤ to → to ≤ length sides → part ≡ slice_range xs (from * c) (to * c) → IsStored c sides xs
    → IsStored c (slice_range sides from to) part
IsStored-part c from to sides xs part o p e stored =
    subst (IsStored c (slice_range sides from to)) (sym e) (IsStored-slice_range c from to sides xs o p stored)

-- one row alone
pub IsStored-one : (c : ℕ) (side : RightSide) (xs : List ℤ) → length xs ≡ c → AllByRecursion Fits xs → Fits side.bound → IsStored c (side ∷ []) xs
IsStored-one c side xs size fit bound = record {
  count = lit< tt;
  size = size ∙ omega (arith, row_end 0 c);
  numbers_fit = fit;
  bounds_fit = (bound, tt);
}

-- one row has all numbers
pub rows_of-one : (c : ℕ) (side : RightSide) (xs : List ℤ) → length xs ≡ c → rows_of c (side ∷ []) xs ≡ stored_row xs side ∷ []
rows_of-one c side xs e = ap (λ l. stored_row l side ∷ []) (take_all c xs (omega arith))

-- ---- what is held once more is appended
-- There are as many rows as right sides.
length-stored : (c : ℕ) (sides : List RightSide) (xs : List ℤ) (system : System) → system ≡ stored_system c sides xs → length system.rows ≡ length sides
length-stored c sides xs system e = ap (λ s. length s.rows) e ∙ length-rows_of c sides xs

-- what is held with more behind it is held
pub IsStored-appended : (c : ℕ) (sides more all : List RightSide) (xs ys whole : List ℤ) (system : System) → system ≡ stored_system c sides xs
    → IsStored c sides xs → IsStored system.columns more ys → length system.rows + length more < 2 ^ 32 - 1 → all ≡ sides ++ more → whole ≡ xs ++ ys → IsStored c all whole
IsStored-appended c sides more all xs ys whole system e stored further few p q =
    let columns : system.columns ≡ c = ap (λ s. s.columns) e in
    let size = length-stored c sides xs system e in
    let both = IsStored-append c sides more xs ys (omega arith) stored (subst (λ k. IsStored k more ys) columns further) in
    subst (λ l. IsStored c l whole) (sym p) (subst (IsStored c (sides ++ more)) (sym q) both)

-- and it is the system with more rows
pub stored_system-appended : (c : ℕ) (sides more all : List RightSide) (xs ys whole : List ℤ) (system : System) → system ≡ stored_system c sides xs
    → IsStored c sides xs → all ≡ sides ++ more → whole ≡ xs ++ ys → stored_system c all whole ≡ with_rows system (rows_of system.columns more ys)
stored_system-appended c sides more all xs ys whole system e stored p q =
    ap₂ (stored_system c) p q
    ∙ ap (λ rows. record { columns = c; rows = rows }) (rows_of-append c sides more xs ys stored.size)
    ∙ ap (λ s. with_rows s (rows_of s.columns more ys)) (sym e)
