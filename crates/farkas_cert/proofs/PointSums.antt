-- The sum of a row at a point, place by place.
use Rattle.std.proofs.Common.{◌≡◌, ◌↔◌, ℕ, zero, suc, ◌+◌, ◌-◌, ◌≤ℤ◌, ◌<ℤ◌, IsTrue, MatchBool, IsSomeAnd, slice_get, take, true≢false, List, [], ◌∷◌, length, Some, Bool, false, ℤ, pos, sym, ◌∙◌, ap, subst, add-one, arith}
use Rattle.std.specs.List.{AllByRecursion}
use Rattle.lin_rows.specs.Row.{Row, MeetsOver}
use Rattle.lin_rows.specs.System.{System, IsRationalPoint}
use Rattle.lin_rows.proofs.Lists.{AllByRecursion-weaken}
use Rattle.farkas_cert.specs.Cert.{row_numbered}
use Rattle.farkas_cert.specs.Point.{Passes, IsFirstRow}

-- ---- rows in order
-- A row that a test refused does not hold.
pub broken : (equal result : Bool) (s s' b b' : ℤ) → IsTrue result ↔ MatchBool equal (s' ≡ b') (s' ≤ℤ b') → result ≡ false → s' ≡ s → b' ≡ b → ¬ MatchBool equal (s ≡ b) (s ≤ℤ b)
broken equal result s s' b b' decides refused p q meets =
    true≢false (sym (decides.1 (subst (λ v. MatchBool equal (v ≡ b') (v ≤ℤ b')) (sym p) (subst (λ v. MatchBool equal (s ≡ v) (s ≤ℤ v)) (sym q) meets))) ∙ refused)

-- The row with a number one further on is at this place.
row_numbered-next : (rows : List Row) (n : ℕ) → row_numbered rows (n + 1) ≡ slice_get rows n
row_numbered-next rows n = ap (row_numbered rows) (add-one n)

-- The first row with a property comes behind rows that pass.
pub IsFirstRow-next : (P : Row → Type 0) (x : List ℤ) (d : ℤ) (rows : List Row) (n : ℕ) (row : Row) → AllByRecursion (Passes x d) (take n rows) → slice_get rows n ≡ Some row → P row → IsFirstRow P x d rows (n + 1)
IsFirstRow-next P x d rows n row before is holds = record {
  before = let same : n ≡ n + 1 - 1 = omega arith in subst (λ m. AllByRecursion (Passes x d) (take m rows)) same before;
  there = subst (λ r. IsSomeAnd r P) (sym (row_numbered-next rows n ∙ is)) holds;
}

-- What holds of the first rows and of the next holds of one row more.
pub AllByRecursion-take_more : (P : Row → Type 0) (rows : List Row) (n : ℕ) (row : Row) → AllByRecursion P (take n rows) → slice_get rows n ≡ Some row → P row → AllByRecursion P (take (suc n) rows)
AllByRecursion-take_more P [] zero row before is holds = cc
AllByRecursion-take_more P [] (suc n) row before is holds = cc
AllByRecursion-take_more P (r ∷ rows) zero row before is holds = let same : row ≡ r = cc in (subst P same holds, tt)
AllByRecursion-take_more P (r ∷ rows) (suc n) row before is holds = (before.0, AllByRecursion-take_more P rows n row before.1 is holds)

-- A point that passes all rows is one of the system.
pub IsRationalPoint-passes : (system : System) (x : List ℤ) (d : ℤ) → length x ≡ system.columns → pos 0 <ℤ d → AllByRecursion (Passes x d) system.rows → IsRationalPoint system x d
IsRationalPoint-passes system x d whole positive all = record {
  whole = whole;
  positive = positive;
  meets = AllByRecursion-weaken (Passes x d) (λ row. MeetsOver row x d) (λ row passes. passes.meets) system.rows all;
}
