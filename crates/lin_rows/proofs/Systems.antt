-- Parts of systems.
use Rattle.std.proofs.Common.{◌≡◌, ℕ, ◌+◌, ◌≤◌, ◌-◌, List, [], ◌∷◌, length, ap, ◌∙◌, take_all, arith}
use Rattle.std.proofs.lemmas.List.{length-append}
use Rattle.lin_rows.specs.Row.{Row}
use Rattle.lin_rows.specs.System.{System, part_of, with_row, with_rows}
use Rattle.lin_rows.proofs.Lists.{slice_range-slice_range}

-- a part of a part is a part
pub part_of-part_of : (system : System) (from to first last : ℕ) → first ≤ last → from + last ≤ to
    → part_of first last (part_of from to system) ≡ part_of (from + first) (from + last) system
part_of-part_of system from to first last o p = ap (λ rows. record system { rows = rows }) (slice_range-slice_range system.rows from to first last o p)

-- the part of all rows is the whole
pub part_of-whole : (system : System) → part_of 0 (length system.rows) system ≡ system
part_of-whole system =
    let all : length system.rows ≤ length system.rows - 0 = omega arith in
    ap (λ rows. record system { rows = rows }) (take_all (length system.rows - 0) system.rows all)

-- one row more
pub length-with_row : (now more : System) (row : Row) → more ≡ with_row now row → length more.rows ≡ length now.rows + 1
length-with_row now more row is = ap (λ system. length system.rows) is ∙ length-append now.rows (row ∷ [])

-- more rows
pub length-with_rows : (now more : System) (rows : List Row) → more ≡ with_rows now rows → length more.rows ≡ length now.rows + length rows
length-with_rows now more rows is = ap (λ system. length system.rows) is ∙ length-append now.rows rows
