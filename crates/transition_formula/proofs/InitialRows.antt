-- The rows of initial states hold at exactly these.
use Rattle.std.proofs.Common.{◌≡◌, ℕ, suc, ◌+◌, ◌<◌, ℤ, pos, List, [], ◌∷◌, length, drop, get_or, Option, Some, None, sym, ◌∙◌, subst, arith, drop-cons, length-drop}
use Rattle.std.proofs.lemmas.List.{nil_from_length}
use Rattle.lin_rows.specs.Row.{Row}
use Rattle.transition_formula.specs.Program.{Column}
use Rattle.transition_formula.specs.Step.{MayStart, IsInitial}
use Rattle.transition_formula.specs.Rows.{start_row, start_rows}
use Rattle.transition_formula.specs.Laws.{MeetsAll, InitRowsAreExact}
use Rattle.transition_formula.proofs.ProductLemmas.{product_of-one}

-- Where the row of a column's start holds, the column may start so.
start_row-to : (w c : ℕ) (start : Option ℤ) (rows : List Row) (z : List ℤ) → c < w → MeetsAll (start_row w c start rows) z → MayStart start (get_or z c (pos 0)) × MeetsAll rows z
start_row-to w c None rows z h all = (tt, all)
start_row-to w c (Some v) rows z h all = (sym (product_of-one w c z h) ∙ all.0, all.1)

-- Where a column may start so, the row of its start holds.
start_row-from : (w c : ℕ) (start : Option ℤ) (rows : List Row) (z : List ℤ) → c < w → MayStart start (get_or z c (pos 0)) → MeetsAll rows z → MeetsAll (start_row w c start rows) z
start_row-from w c None rows z h may all = all
start_row-from w c (Some v) rows z h may all = (product_of-one w c z h ∙ may, all)

-- Behind the last column nothing is left.
no_more : (c : ℕ) (z : List ℤ) → length z ≡ c → drop c z ≡ []
no_more c z e = nil_from_length (drop c z) (omega (arith, length-drop c z))

-- Where the rows of the columns from one on hold, these columns start so.
start_rows-to : (w c : ℕ) (columns : List Column) (z : List ℤ) → c + length columns ≡ w → length z ≡ w → MeetsAll (start_rows w c columns) z → IsInitial columns (drop c z)
start_rows-to w c [] z e l all = subst (λ s. IsInitial [] s) (sym (no_more c z (omega arith))) tt
start_rows-to w c (column ∷ columns) z e l all =
    let here = start_row-to w c column.start (start_rows w (suc c) columns) z (omega arith) all in
    let h : c < length z = omega arith in
    subst (λ s. IsInitial (column ∷ columns) s) (sym (drop-cons z c (pos 0) h)) (here.0, start_rows-to w (suc c) columns z (omega arith) l here.1)

-- Where the columns from one on start so, their rows hold.
start_rows-from : (w c : ℕ) (columns : List Column) (z : List ℤ) → c + length columns ≡ w → length z ≡ w → IsInitial columns (drop c z) → MeetsAll (start_rows w c columns) z
start_rows-from w c [] z e l initial = tt
start_rows-from w c (column ∷ columns) z e l initial =
    let h : c < length z = omega arith in
    let here = subst (λ s. IsInitial (column ∷ columns) s) (drop-cons z c (pos 0) h) initial in
    start_row-from w c column.start (start_rows w (suc c) columns) z (omega arith) here.0 (start_rows-from w (suc c) columns z (omega arith) l here.1)

-- The rows of the initial states hold at exactly these.
pub init_rows-exact : InitRowsAreExact
init_rows-exact program state l =
    let n = length program.columns in
    (λ all. start_rows-to n 0 program.columns state (omega arith) l all, λ initial. start_rows-from n 0 program.columns state (omega arith) l initial)
