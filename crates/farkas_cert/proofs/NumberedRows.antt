-- Rows by their numbers, from 1, and by their places in the list.
use Rattle.std.proofs.Common.{◌≡◌, ℕ, zero, suc, ◌+◌, ◌<◌, refl, sym, ◌∙◌, ap, subst, List, [], ◌∷◌, ◌++◌, length, drop, add-one}
use Rattle.std.specs.Prelude.{slice_get, Option, Some, IsSome, false}
use Rattle.std.specs.Option.{option_map, unwrap_or}
use Rattle.lin_rows.specs.Row.{Row}
use Rattle.lin_rows.proofs.Lists.{slice_get-there}
use Rattle.farkas_cert.specs.Cert.{row_numbered}
use Rattle.farkas_cert.specs.Proof.{numbers_of}

-- The numbers of the row at a place are its coefficients and its bound.
pub numbers_of-place : (rows : List Row) (place : ℕ) (row : Row) → slice_get rows place ≡ Some row → numbers_of (row_numbered rows (place + 1)) ≡ row.coefficients ++ row.bound ∷ []
numbers_of-place rows place row is = ap (λ n. numbers_of (row_numbered rows n)) (add-one place) ∙ ap numbers_of is

-- Whether the row at a place is an equality.
pub equality-place : (rows : List Row) (place : ℕ) (row : Row) → slice_get rows place ≡ Some row → unwrap_or (option_map (λ named. named.equal) (row_numbered rows (place + 1))) false ≡ row.equal
equality-place rows place row is =
    ap (λ n. unwrap_or (option_map (λ (named : Row). named.equal) (row_numbered rows n)) false) (add-one place) ∙ ap (λ (o : Option Row). unwrap_or (option_map (λ named. named.equal) o) false) is

-- At each place within there is a row.
pub IsSome-place : (rows : List Row) (place : ℕ) → place < length rows → IsSome (row_numbered rows (place + 1))
IsSome-place rows place within =
    let there = slice_get-there rows place within in
    subst (λ (o : Option Row). IsSome o) (sym (ap (row_numbered rows) (add-one place) ∙ there.1)) refl

-- the rows from a place on
pub drop_row : (rows : List Row) (place : ℕ) (row : Row) → slice_get rows place ≡ Some row → drop place rows ≡ row ∷ drop (suc place) rows
drop_row [] place row e = absurd cc
drop_row (r ∷ rows) zero row e = let same : r ≡ row = cc in rw same refl
drop_row (r ∷ rows) (suc place) row e = drop_row rows place row e
