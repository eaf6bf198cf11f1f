-- The sum of a column, pair by pair.
use Rattle.std.proofs.Common.{◌≡◌, ℕ, zero, suc, ◌+◌, ◌<◌, List, [], ◌∷◌, length, drop, get_or, Option, Some, None, Err, IsSome, ◌&&◌, ℤ, pos, ◌+ℤ◌, ◌*ℤ◌, refl, sym, ◌∙◌, ap, subst, drop-cons, add-one, arith}
use Rattle.std.specs.Option.{option_map_or}
use Rattle.thr_base.specs.Number.{Fits, fits}
use Rattle.lin_rows.specs.Row.{Row, multiple_of}
use Rattle.lin_rows.proofs.Integers.{mul-zero_ℤ}
use Rattle.lin_rows.proofs.Numbers.{fits-true}
use Rattle.lin_rows.proofs.Booleans.{both_true, given_where_true}
use Rattle.farkas_cert.specs.Cert.{Pairs, InOrder, AllowsAt, row_numbered}
use Rattle.farkas_cert.specs.Proof.{products, numbers_of}
use Rattle.farkas_cert.specs.inside.Columns.{sum_with, column_from, number_at}

-- The multiple at a place is that of the number there.
pub get_or-scaled : (m : ℤ) (xs : List ℤ) (n : ℕ) → get_or (multiple_of m xs) n (pos 0) ≡ m *ℤ get_or xs n (pos 0)
get_or-scaled m [] n = sym (mul-zero_ℤ m)
get_or-scaled m (x ∷ xs) zero = refl
get_or-scaled m (x ∷ xs) (suc n) = get_or-scaled m xs n

-- ---- each pair in order names a row that is there
-- A row that allows a multiplier is there.
IsSome-AllowsAt : (row : Option Row) (m : ℤ) → AllowsAt row m → IsSome row
IsSome-AllowsAt None m h = absurd h
IsSome-AllowsAt (Some row) m h = refl

-- The row of each listed pair is there.
pub IsSome-InOrder : (rows : List Row) (last : ℕ) (pairs : Pairs) (n : ℕ) (d : ℕ × ℤ) → InOrder rows last pairs → n < length pairs → IsSome (row_numbered rows (get_or pairs n d).0)
IsSome-InOrder rows last [] n d h below = absurd (omega arith)
IsSome-InOrder rows last ((k, m) ∷ pairs) zero d h below = IsSome-AllowsAt (row_numbered rows k) m h.1
IsSome-InOrder rows last ((k, m) ∷ pairs) (suc n) d h below = IsSome-InOrder rows k pairs n d h.2 (omega arith)

-- ---- one more pair
-- The sum of a column goes over the first pair, and then over the others.
column_from-step : (rows : List Row) (sum : ℤ) (column : ℕ) (p : ℕ × ℤ) (pairs : Pairs) (sum' : Option ℤ) → sum' ≡ sum_with sum (p.1 *ℤ number_at (row_numbered rows p.0) column)
    → column_from sum column (products rows (p ∷ pairs)) ≡ option_map_or (λ more. column_from more column (products rows pairs)) sum' (Err p.0)
column_from-step rows sum column (k, m) pairs sum' e =
    ap (λ v. option_map_or (λ more. column_from more column (products rows pairs)) v (Err k))
    (ap (sum_with sum) (get_or-scaled m (numbers_of (row_numbered rows k)) column) ∙ sym e)

-- The sum of a column goes over the pair at a place, and then over those behind.
pub column_from-at : (rows : List Row) (sum : ℤ) (column : ℕ) (pairs : Pairs) (n : ℕ) (d : ℕ × ℤ) (sum' : Option ℤ) → n < length pairs
    → sum' ≡ sum_with sum ((get_or pairs n d).1 *ℤ number_at (row_numbered rows (get_or pairs n d).0) column)
    → column_from sum column (products rows (drop n pairs)) ≡ option_map_or (λ more. column_from more column (products rows (drop (n + 1) pairs))) sum' (Err (get_or pairs n d).0)
column_from-at rows sum column pairs n d sum' below e =
    ap (λ (ps : Pairs). column_from sum column (products rows ps)) (drop-cons pairs n d below) ∙ column_from-step rows sum column (get_or pairs n d) (drop (suc n) pairs) sum' e
    ∙ ap (λ i. option_map_or (λ more. column_from more column (products rows (drop i pairs))) sum' (Err (get_or pairs n d).0)) (sym (add-one n))

-- A sum that is given fits.
pub Fits-sum_with : (sum product more : ℤ) → sum_with sum product ≡ Some more → Fits more
Fits-sum_with sum product more e =
    let parts = given_where_true (fits product && fits (product +ℤ sum)) (product +ℤ sum) more e in
    subst Fits parts.1 (fits-true (product +ℤ sum) (both_true (fits product) (fits (product +ℤ sum)) parts.0).1)
