-- The numbers of a given row's line, as they are written.
use Rattle.std.proofs.Common.{◌≡◌, ℕ, zero, suc, ◌+◌, ◌-◌, ◌<◌, refl, sym, ◌∙◌, ap, arith, List, [], ◌∷◌, ◌++◌, length, take, drop, append_assoc, append-nil, ◌≤◌, length-append, add-one}
use Rattle.std.specs.Prelude.{ℤ, pos, replicate, slice_set, slice_get, Some}
use Rattle.std.specs.List.{AllByRecursion}
use Rattle.std.proofs.lemmas.List.{take_all, drop_all, set-append_right}
use Rattle.thr_base.specs.Number.{Fits}
use Rattle.lin_rows.specs.Row.{Row, RowFits}
use Rattle.lin_rows.proofs.Lists.{AllByRecursion-append, AllByRecursion-set}
use Rattle.farkas_cert.specs.Line.{Line, given_line, given_lines}
use Rattle.farkas_cert.proofs.NumberedRows.{drop_row}

pub given_as_written : (xs : List ℤ) (b : ℤ) (n total place len : ℕ) (start pushed resized : List ℤ) → length xs ≡ n → place < total
    → start ≡ [] → pushed ≡ start ++ (xs ++ b ∷ []) → len ≡ length pushed
    → resized ≡ take (n + 1 + total) pushed ++ replicate (n + 1 + total - len) (pos 0)
    → slice_set resized (n + 1 + place) (pos 1) ≡ xs ++ (b ∷ slice_set (replicate total (pos 0)) place (pos 1))
given_as_written xs b n total place len start pushed resized l h e0 e1 k e3 =
    let front : pushed ≡ xs ++ b ∷ [] = rw (e1, e0) refl in
    let long : length (xs ++ b ∷ []) ≡ n + 1 = length-append xs (b ∷ []) ∙ omega arith in
    let all : take (n + 1 + total) (xs ++ b ∷ []) ≡ xs ++ b ∷ [] = take_all (n + 1 + total) (xs ++ b ∷ []) (omega arith) in
    let size : len ≡ n + 1 = k ∙ ap length front ∙ long in
    let count : n + 1 + total - len ≡ total = omega arith in
    let whole : resized ≡ (xs ++ b ∷ []) ++ replicate total (pos 0) = e3 ∙ rw (front, all, count) refl in
    let at : n + 1 + place - (n + 1) ≡ place = omega arith in
    let set = set-append_right (xs ++ b ∷ []) (replicate total (pos 0)) (n + 1) (n + 1 + place) (pos 1) long (omega arith) in
    rw whole (set ∙ rw at (append_assoc xs (b ∷ []) (slice_set (replicate total (pos 0)) place (pos 1))))

all_replicate : {X : Type 0} (P : X → Type 0) (n : ℕ) (y : X) → P y → AllByRecursion P (replicate n y)
all_replicate P zero y h = tt
all_replicate P (suc n) y h = (h, all_replicate P n y h)

pub given_fit : (total k : ℕ) (row : Row) → RowFits row → AllByRecursion Fits (given_line total k row).numbers
given_fit total k row h =
    AllByRecursion-append Fits row.coefficients (row.bound ∷ slice_set (replicate total (pos 0)) k (pos 1)) h.coefficients
    (h.bound, AllByRecursion-set Fits (replicate total (pos 0)) k (pos 1) (omega arith) (all_replicate Fits total (pos 0) (omega arith)))

-- one more given line
pub given_more : (total place : ℕ) (rows : List Row) (row : Row) (front next whole : List Line) (line : Line) → slice_get rows place ≡ Some row
    → line ≡ given_line total place row → next ≡ front ++ line ∷ [] → front ++ given_lines total place (drop place rows) ≡ whole
    → next ++ given_lines total (place + 1) (drop (place + 1) rows) ≡ whole
unfolding given_lines
given_more total place rows row front next whole line at is e k =
    let step = ap (λ rs. front ++ given_lines total place rs) (drop_row rows place row at) in
    rw (e, is, add-one) (append_assoc front (given_line total place row ∷ []) (given_lines total (suc place) (drop (suc place) rows)) ∙ sym step ∙ k)

pub given_ends : (total place : ℕ) (rows : List Row) (front whole : List Line) → length rows ≤ place
    → front ++ given_lines total place (drop place rows) ≡ whole → front ≡ whole
unfolding given_lines
given_ends total place rows front whole h k = sym (append-nil front) ∙ ap (λ rs. front ++ given_lines total place rs) (sym (drop_all place rows h)) ∙ k

-- ---- by the numbers of rows, from 1
