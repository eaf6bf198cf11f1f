-- How the check of a certificate goes: column by column, since that takes no memory.
use Rattle.std.specs.Prelude.{◌≡◌, ℕ, ℤ, pos, ◌+ℤ◌, List, [], ◌∷◌, ◌&&◌, Option, Some, None, Result, Ok, Err, length, slice_index_or, nat_lt, if◌then◌else◌}
use Rattle.std.specs.Option.{option_map_or}
use Rattle.thr_base.specs.Number.{fits}
use Rattle.lin_rows.specs.Row.{Row}
use Rattle.lin_rows.specs.System.{System}
use Rattle.lin_rows.specs.Atom.{IsAtom}
use Rattle.farkas_cert.specs.Proof.{numbers_of, with_denial}

-- the system, with an atom's negation as its last row where there is one
abbrev pub perhaps_denying : System → Option Row → System
perhaps_denying system None = system
perhaps_denying system (Some atom) = with_denial system atom

-- It is an atom, with one coefficient per column of the system.
pub record CanBeDenied (system : System) (atom : Row) : Type 0 where
  pub is_atom : IsAtom atom
  pub width : length atom.coefficients ≡ system.columns

-- a number of a row, the bound as the last
abbrev pub number_at : Option Row → ℕ → ℤ
number_at row column = slice_index_or (numbers_of row) column (pos 0)

-- the sum with one more product, where both fit
abbrev pub sum_with : ℤ → ℤ → Option ℤ
sum_with sum product = if fits product && fits (product +ℤ sum) then Some (product +ℤ sum) else None

-- the sum of a column, or the first row at which a product or the sum up to it does not fit
abbrev pub column_from : ℤ → ℕ → List (ℕ × List ℤ) → Result ℤ ℕ
column_from sum column [] = Ok sum
column_from sum column ((k, terms) ∷ rest) =
    option_map_or (λ more. column_from more column rest) (sum_with sum (slice_index_or terms column (pos 0))) (Err k)

-- of two overflows the one at the earlier row, or the first where both are at one row
abbrev pub earlier : Option (ℕ × ℕ) → ℕ → ℕ → Option (ℕ × ℕ)
earlier None row column = Some (row, column)
earlier (Some first) row column = if nat_lt row first.0 then Some (row, column) else Some first
