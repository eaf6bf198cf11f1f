-- A certificate of rows in another order, renumbered, has the same sum, is in order, and keeps its multipliers.
use Rattle.std.proofs.Common.{◌≡◌, ◌≢◌, ℕ, zero, suc, ◌<◌, refl, sym, ◌∙◌, ap, subst, arith, List, [], ◌∷◌, map, length, get_or, Bool, true, false, cond, nat_lt, Option, Some, None, slice_get, ◌⊎◌, inl, inr, ⊎_elim}
use Rattle.std.specs.Prelude.{ℤ, ◌+ℤ◌, ◌*ℤ◌, unsigned_abs}
use Rattle.std.specs.Int.{◌∣◌}
use Rattle.std.specs.List.{AllByRecursion}
use Rattle.std.proofs.lemmas.Bool.{ltb-true, lt-ltb}
use Rattle.std.proofs.lemmas.Int.{ints}
use Rattle.std.proofs.lemmas.List.{length-map}
use Rattle.lin_rows.specs.Row.{Row, multiple_of, sum_of}
use Rattle.lin_rows.specs.System.{System}
use Rattle.lin_rows.proofs.Lists.{AllByRecursion-at}
use Rattle.lin_rows.proofs.Integers.{add_comm_ℤ}
use Rattle.farkas_cert.specs.Cert.{Pairs, InOrder, AllowsAt, IsContradiction, Refutes, row_numbered, add_weighted, weighted_sum}
use Rattle.farkas_cert.specs.Reduced.{IsReduced}
use Rattle.farkas_cert.specs.Order.{StandsOnce, IsOrder, number_in, placed_pair, renumbered_pairs}

-- ---- sums

-- The first two parts of a sum may change places.
swap_ℤ : (x y z : ℤ) → x +ℤ (y +ℤ z) ≡ y +ℤ (x +ℤ z)
swap_ℤ x y z = omega (arith, ints)

-- Two lists may be summed in either order.
sum_of-turn : (xs ys : List ℤ) → sum_of xs ys ≡ sum_of ys xs
sum_of-turn [] [] = refl
sum_of-turn [] (y ∷ ys) = refl
sum_of-turn (x ∷ xs) [] = refl
sum_of-turn (x ∷ xs) (y ∷ ys) = let rest = sum_of-turn xs ys in let here = add_comm_ℤ x y in cc

-- The first two lists of a sum may change places.
sum_of-swap : (xs ys zs : List ℤ) → sum_of xs (sum_of ys zs) ≡ sum_of ys (sum_of xs zs)
sum_of-swap [] ys zs = refl
sum_of-swap (x ∷ xs) [] zs = refl
sum_of-swap (x ∷ xs) (y ∷ ys) [] = let rest = sum_of-turn xs ys in let here = add_comm_ℤ x y in cc
sum_of-swap (x ∷ xs) (y ∷ ys) (z ∷ zs) = let rest = sum_of-swap xs ys zs in let here = swap_ℤ x y z in cc

-- two weighted rows are added in either order
add_weighted-swap : (p q : Option Row) (m n : ℤ) (total : Row) → add_weighted p m (add_weighted q n total) ≡ add_weighted q n (add_weighted p m total)
add_weighted-swap None q m n total = refl
add_weighted-swap (Some row) None m n total = refl
add_weighted-swap (Some row) (Some other) m n total =
    let coefficients = sum_of-swap (multiple_of m row.coefficients) (multiple_of n other.coefficients) total.coefficients in
    let bound = swap_ℤ (m *ℤ row.bound) (n *ℤ other.bound) total.bound in
    cc

-- The weighted sum with a placed pair adds its row.
placed-sum : (rows : List Row) (k : ℕ) (m : ℤ) (pairs : Pairs)
    → weighted_sum rows (placed_pair k m pairs) ≡ add_weighted (row_numbered rows k) m (weighted_sum rows pairs)
placed-sum rows k m [] = refl
placed-sum rows k m ((j, n) ∷ pairs) = at (placed-sum rows k m pairs) (nat_lt k j) where
  at : weighted_sum rows (placed_pair k m pairs) ≡ add_weighted (row_numbered rows k) m (weighted_sum rows pairs) → (b : Bool)
      → weighted_sum rows (cond b ((k, m) ∷ (j, n) ∷ pairs) ((j, n) ∷ placed_pair k m pairs))
      ≡ add_weighted (row_numbered rows k) m (add_weighted (row_numbered rows j) n (weighted_sum rows pairs))
  at rest true = refl
  at rest false =
      ap (λ total. add_weighted (row_numbered rows j) n total) rest
      ∙ add_weighted-swap (row_numbered rows j) (row_numbered rows k) n m (weighted_sum rows pairs)

-- ---- the rows of the order

-- The row at a number of an order is that of the other list at the place.
row_at : (rows others : List Row) (order : List ℕ) (i : ℕ) → map (row_numbered rows) order ≡ map Some others → i < length others
    → row_numbered rows (get_or order i 0) ≡ slice_get others i
row_at rows [] order i e h = absurd (omega arith)
row_at rows (other ∷ others) [] i e h = absurd cc
row_at rows (other ∷ others) (n ∷ order) zero e h = cc
row_at rows (other ∷ others) (n ∷ order) (suc i) e h = let rest : map (row_numbered rows) order ≡ map Some others = cc in row_at rows others order i rest (omega arith)

-- A row that allows a multiplier is within the list.
there : (rows : List Row) (k : ℕ) (m : ℤ) → AllowsAt (slice_get rows k) m → k < length rows
there [] k m h = absurd h
there (row ∷ rows) zero m h = omega arith
there (row ∷ rows) (suc k) m h = let rest = there rows k m h in omega arith

-- a number that allows a multiplier names a row
within : (rows : List Row) (k : ℕ) (m : ℤ) → AllowsAt (row_numbered rows k) m → (i : ℕ) × (k ≡ suc i) × (i < length rows)
within rows zero m h = absurd h
within rows (suc i) m h = (i, refl, there rows i m h)

-- The row of a number in an order is that of the other list.
same_row : (rows others : List Row) (order : List ℕ) (k : ℕ) (m : ℤ) → IsOrder order rows others → AllowsAt (row_numbered others k) m
    → row_numbered rows (number_in order k) ≡ row_numbered others k
same_row rows others order zero m o h = absurd h
same_row rows others order (suc i) m o h = row_at rows others order i o.rows_are (there others i m h)

-- An order has a number for each row.
long_order : (rows others : List Row) (order : List ℕ) → IsOrder order rows others → length order ≡ length others
long_order rows others order o = sym (length-map order (row_numbered rows)) ∙ ap length o.rows_are ∙ length-map others (λ (row : Row). Some row)

-- ---- the order of the numbers

-- An order has no number at two places.
apart : (order : List ℕ) (i j : ℕ) → StandsOnce order → i < j → j < length order → get_or order i 0 ≢ get_or order j 0
apart [] i j o h k = absurd (omega arith)
apart (n ∷ order) i zero o h k = absurd (omega arith)
apart (n ∷ order) zero (suc j) o h k = AllByRecursion-at (λ other. n ≢ other) order j 0 o.0 (omega arith)
apart (n ∷ order) (suc i) (suc j) o h k = apart order i j o.1 (omega arith) (omega arith)

-- What holds of a pair and of all others holds with the pair placed among them.
all-placed : (P : ℕ × ℤ → Type 0) (k : ℕ) (m : ℤ) (pairs : Pairs) → P (k, m) → AllByRecursion P pairs → AllByRecursion P (placed_pair k m pairs)
all-placed P k m [] h hs = (h, tt)
all-placed P k m ((j, n) ∷ pairs) h hs = at (all-placed P k m pairs h hs.1) (nat_lt k j) where
  at : AllByRecursion P (placed_pair k m pairs) → (b : Bool) → AllByRecursion P (cond b ((k, m) ∷ (j, n) ∷ pairs) ((j, n) ∷ placed_pair k m pairs))
  at rest true = (h, hs)
  at rest false = (hs.0, rest)

-- What holds with a pair placed among others holds of it and of them.
all-unplaced : (P : ℕ × ℤ → Type 0) (k : ℕ) (m : ℤ) (pairs : Pairs) → AllByRecursion P (placed_pair k m pairs) → P (k, m) × AllByRecursion P pairs
all-unplaced P k m [] h = (h.0, tt)
all-unplaced P k m ((j, n) ∷ pairs) h = at (all-unplaced P k m pairs) (nat_lt k j) h where
  at : (AllByRecursion P (placed_pair k m pairs) → P (k, m) × AllByRecursion P pairs) → (b : Bool)
      → AllByRecursion P (cond b ((k, m) ∷ (j, n) ∷ pairs) ((j, n) ∷ placed_pair k m pairs)) → P (k, m) × AllByRecursion P ((j, n) ∷ pairs)
  at rest true h = (h.0, h.1)
  at rest false h = let more = rest h.1 in (more.0, (h.0, more.1))

-- Pairs in order from above a number are so from above a lower one.
in_order-lower : (rows : List Row) (last lower : ℕ) (pairs : Pairs) → lower < last → InOrder rows last pairs → InOrder rows lower pairs
in_order-lower rows last lower [] h o = tt
in_order-lower rows last lower ((k, m) ∷ pairs) h o = (let first = o.0 in omega arith, o.1, o.2)

-- The rows of later pairs have other numbers.
numbers_apart : (rows others : List Row) (order : List ℕ) (k : ℕ) (m : ℤ) (pairs : Pairs) → IsOrder order rows others → AllowsAt (row_numbered others k) m
    → InOrder others k pairs → AllByRecursion (λ pair. number_in order k ≢ pair.0) (renumbered_pairs order pairs)
numbers_apart rows others order k m [] o h i = tt
numbers_apart rows others order k m ((j, n) ∷ pairs) o h i =
    all-placed (λ pair. number_in order k ≢ pair.0) (number_in order j) n (renumbered_pairs order pairs)
    (differ (within others k m h) (within others j n i.1))
    (numbers_apart rows others order k m pairs o h (in_order-lower others j k pairs i.0 i.2))
  where
    differ : (p : ℕ) × (k ≡ suc p) × (p < length others) → (q : ℕ) × (j ≡ suc q) × (q < length others) → number_in order k ≢ number_in order j
    differ (p, kp, hp) (q, jq, hq) =
        let long = long_order rows others order o in
        let first = i.0 in
        rw (kp, jq) (apart order p q o.once (omega arith) (omega arith))

-- A number that is neither below nor the same is above.
above : (k j : ℕ) → nat_lt k j ≡ false → k ≢ j → j < k
above k j e differs = by_order (lt-ltb k j) (eq-or-lt k j) where
  eq-or-lt : (k j : ℕ) → (k ≡ j) ⊎ ((k < j) ⊎ (j < k))
  eq-or-lt zero zero = inl refl
  eq-or-lt zero (suc j) = inr (inl (omega arith))
  eq-or-lt (suc k) zero = inr (inr (omega arith))
  eq-or-lt (suc k) (suc j) =
      ⊎_elim (λ same. inl (ap suc same)) (λ other. inr (⊎_elim (λ below. inl (let h = below in omega arith)) (λ more. inr (let h = more in omega arith)) other)) (eq-or-lt k j)

  by_order : (k < j → nat_lt k j ≡ true) → (k ≡ j) ⊎ ((k < j) ⊎ (j < k)) → j < k
  by_order below (inl same) = absurd (differs same)
  by_order below (inr (inl less)) = let t = below less in absurd cc
  by_order below (inr (inr more)) = more

-- A row that allows a multiplier has a number from 1 on.
positive : (rows : List Row) (k : ℕ) (m : ℤ) → AllowsAt (row_numbered rows k) m → 0 < k
positive rows zero m h = absurd h
positive rows (suc k) m h = omega arith

-- Pairs stay in order where one is placed among them.
placed-in_order : (rows : List Row) (last k : ℕ) (m : ℤ) (pairs : Pairs) → last < k → AllowsAt (row_numbered rows k) m
    → AllByRecursion (λ pair. k ≢ pair.0) pairs → InOrder rows last pairs → InOrder rows last (placed_pair k m pairs)
placed-in_order rows last k m [] h allowed other o = (h, allowed, tt)
placed-in_order rows last k m ((j, n) ∷ pairs) h allowed other o = at (λ below. placed-in_order rows j k m pairs below allowed other.1 o.2) (nat_lt k j) refl where
  at : (j < k → InOrder rows j (placed_pair k m pairs)) → (b : Bool) → nat_lt k j ≡ b
      → InOrder rows last (cond b ((k, m) ∷ (j, n) ∷ pairs) ((j, n) ∷ placed_pair k m pairs))
  at rest true e = (h, allowed, (ltb-true k j e, o.1, o.2))
  at rest false e = (o.0, o.1, rest (above k j e other.0))

-- Renumbered pairs are in order.
pub renumbered-in_order : (rows others : List Row) (order : List ℕ) (last : ℕ) (pairs : Pairs) → IsOrder order rows others → InOrder others last pairs
    → InOrder rows 0 (renumbered_pairs order pairs)
renumbered-in_order rows others order last [] o h = tt
renumbered-in_order rows others order last ((k, m) ∷ pairs) o h =
    let allowed = subst (λ (row : Option Row). AllowsAt row m) (sym (same_row rows others order k m o h.1)) h.1 in
    placed-in_order rows 0 (number_in order k) m (renumbered_pairs order pairs) (positive rows (number_in order k) m allowed) allowed
    (numbers_apart rows others order k m pairs o h.1 h.2) (renumbered-in_order rows others order k pairs o h.2)

-- Renumbered pairs have the same weighted sum.
pub renumbered-sum : (rows others : List Row) (order : List ℕ) (last : ℕ) (pairs : Pairs) → IsOrder order rows others → InOrder others last pairs
    → weighted_sum rows (renumbered_pairs order pairs) ≡ weighted_sum others pairs
renumbered-sum rows others order last [] o h = refl
renumbered-sum rows others order last ((k, m) ∷ pairs) o h =
    placed-sum rows (number_in order k) m (renumbered_pairs order pairs)
    ∙ ap (λ row. add_weighted row m (weighted_sum rows (renumbered_pairs order pairs))) (same_row rows others order k m o h.1)
    ∙ ap (λ total. add_weighted (row_numbered others k) m total) (renumbered-sum rows others order k pairs o h.2)

-- ---- the laws

-- A refutation, renumbered, refutes the rows in their other order.
pub renumbered-refutes : (system other : System) (order : List ℕ) (pairs : Pairs) → IsOrder order system.rows other.rows → Refutes other pairs
    → Refutes system (renumbered_pairs order pairs)
renumbered-refutes system other order pairs o refutes = record {
  in_order = renumbered-in_order system.rows other.rows order 0 pairs o refutes.in_order;
  contradicts =
      subst (λ (row : Row). IsContradiction row) (sym (renumbered-sum system.rows other.rows order 0 pairs o refutes.in_order)) refutes.contradicts;
}

-- What holds of all renumbered multipliers holds of all.
all-unrenumbered : (P : ℤ → Type 0) (order : List ℕ) (pairs : Pairs) → AllByRecursion (λ pair. P pair.1) (renumbered_pairs order pairs)
    → AllByRecursion (λ pair. P pair.1) pairs
all-unrenumbered P order [] h = tt
all-unrenumbered P order ((k, m) ∷ pairs) h =
    let parts = all-unplaced (λ pair. P pair.1) (number_in order k) m (renumbered_pairs order pairs) h in
    (parts.0, all-unrenumbered P order pairs parts.1)

-- Renumbered pairs are reduced.
pub renumbered-reduced : (order : List ℕ) (pairs : Pairs) → IsReduced pairs → IsReduced (renumbered_pairs order pairs)
renumbered-reduced order pairs reduced = λ g divides. reduced g (all-unrenumbered (λ m. g ∣ unsigned_abs m) order pairs divides)
