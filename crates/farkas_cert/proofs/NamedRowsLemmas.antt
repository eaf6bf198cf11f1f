-- The rows that a certificate can name.
use Rattle.std.proofs.Common.{◌≡◌, ℕ, zero, suc, ◌-◌, ◌<◌, ◌≤◌, List, [], ◌∷◌, ◌++◌, length, Option, Some, None, slice_get, IsSome, IfSome, option_map, neg_ℤ, refl, ◌∙◌, ap, arith}
use Rattle.lin_rows.specs.Row.{Row}
use Rattle.lin_rows.specs.System.{System, IsRowOver, IsWellFormed, HasWidths}
use Rattle.lin_rows.specs.Atom.{IsAtom, negation}
use Rattle.lin_rows.specs.View.{row_of}
use Rattle.lin_rows.specs.declared.row.RowView.{RowView}
use Rattle.lin_rows.proofs.Atoms.{IsAtom-negation}
use Rattle.lin_rows.proofs.Lists.{AllByRecursion-append, AllByRecursion-weaken}
use Rattle.std.proofs.lemmas.List.{length-append, length-map}
use Rattle.farkas_cert.specs.Cert.{row_numbered}
use Rattle.farkas_cert.specs.inside.Columns.{perhaps_denying, CanBeDenied}
use Rattle.farkas_cert.specs.Proof.{with_denial}
use Rattle.farkas_cert.specs.NamedRows.{IsNamed}

-- What is not there is not there.
none_is_not : IsSome {T = Row} None → ⊥
none_is_not there = cc

-- a number from 1 is its place and one
row_numbered-place : (rows : List Row) (k : ℕ) → 0 < k → row_numbered rows k ≡ slice_get rows (k - 1)
row_numbered-place rows zero h = absurd (omega arith)
row_numbered-place rows (suc k) h = let e : k ≡ suc k - 1 = omega arith in ap (slice_get rows) e

-- A place in the front list has the front's element.
slice_get-front : (xs ys : List Row) (n : ℕ) → n < length xs → slice_get (xs ++ ys) n ≡ slice_get xs n
slice_get-front [] ys n h = absurd (omega arith)
slice_get-front (x ∷ xs) ys zero h = refl
slice_get-front (x ∷ xs) ys (suc n) h = slice_get-front xs ys n (omega arith)

-- Behind the list only the appended element is there.
slice_get-end : (xs : List Row) (y : Row) (n : ℕ) → length xs ≤ n → IsSome (slice_get (xs ++ y ∷ []) n) → slice_get (xs ++ y ∷ []) n ≡ Some y
slice_get-end [] y zero h there = refl
slice_get-end [] y (suc n) h there = absurd (none_is_not there)
slice_get-end (x ∷ xs) y zero h there = absurd (omega arith)
slice_get-end (x ∷ xs) y (suc n) h there = slice_get-end xs y n (omega arith) there

-- Nothing is there behind the end.
slice_get-past : (xs : List Row) (n : ℕ) → length xs ≤ n → IsSome (slice_get xs n) → ⊥
slice_get-past [] n h there = none_is_not there
slice_get-past (x ∷ xs) zero h there = omega arith
slice_get-past (x ∷ xs) (suc n) h there = slice_get-past xs n (omega arith) there

-- a row of the system itself
pub row_numbered-own : (system : System) (denied : Option Row) (k : ℕ) → 0 < k → k - 1 < length system.rows → row_numbered (perhaps_denying system denied).rows k ≡ slice_get system.rows (k - 1)
row_numbered-own system None k some h = row_numbered-place system.rows k some
row_numbered-own system (Some atom) k some h =
    row_numbered-place (system.rows ++ negation atom ∷ []) k some ∙ slice_get-front system.rows (negation atom ∷ []) (k - 1) h

-- a further row is the negation
pub row_numbered-denied : (system : System) (atom : Row) (k : ℕ) → length system.rows ≤ k - 1 → IsSome (row_numbered (perhaps_denying system (Some atom)).rows k) → row_numbered (perhaps_denying system (Some atom)).rows k ≡ Some (negation atom)
row_numbered-denied system atom zero h there = absurd (none_is_not there)
row_numbered-denied system atom (suc k) h there = slice_get-end system.rows (negation atom) k (omega arith) there

-- a system without a denied atom has no further row
pub row_numbered-none : (system : System) (k : ℕ) → length system.rows ≤ k - 1 → IsSome (row_numbered system.rows k) → ⊥
row_numbered-none system zero h there = none_is_not there
row_numbered-none system (suc k) h there = slice_get-past system.rows k (omega arith) there

-- numbers of rows are from 1
pub row_numbered-some : (rows : List Row) (k : ℕ) → IsSome (row_numbered rows k) → 0 < k
row_numbered-some rows zero there = absurd (none_is_not there)
row_numbered-some rows (suc k) there = omega arith

-- ---- what is known of all of them
-- The rows of a system can be named.
named_alone : (system : System) → IsWellFormed system → IsNamed system
named_alone system held = record { columns = held.columns; count = let few = held.count in omega arith; rows = held.rows }

-- The negation of an atom is over the same columns.
over-negation : (columns : ℕ) (atom : Row) → IsAtom atom → length atom.coefficients ≡ columns → IsRowOver columns (negation atom)
over-negation columns atom is_atom width = record { width = length-map atom.coefficients neg_ℤ ∙ width; fits = (IsAtom-negation atom is_atom).fits }

-- The rows of a system with a denial can be named.
named_denying : (system : System) (atom : Row) → IsWellFormed system → CanBeDenied system atom → IsNamed (with_denial system atom)
named_denying system atom held can =
    let few = held.count in
    let more = length-append system.rows (negation atom ∷ []) in record {
      columns = held.columns;
      count = omega arith;
      rows = AllByRecursion-append (IsRowOver system.columns) system.rows (negation atom ∷ []) held.rows (over-negation system.columns atom can.is_atom can.width, tt);
    }

-- The rows of a system, perhaps with a denial, can be named.
pub IsNamed-perhaps_denying : (system : System) (denied : Option RowView) → IsWellFormed system → IfSome denied (λ atom. CanBeDenied system (row_of atom))
    → IsNamed (perhaps_denying system (option_map row_of denied))
IsNamed-perhaps_denying system None held can = named_alone system held
IsNamed-perhaps_denying system (Some atom) held can = named_denying system (row_of atom) held can

-- Rows that can be named have their widths.
pub HasWidths-named : (system : System) → IsNamed system → HasWidths system
HasWidths-named system named = AllByRecursion-weaken (IsRowOver system.columns) (λ row. length row.coefficients ≡ system.columns) (λ row over. over.width) system.rows named.rows
