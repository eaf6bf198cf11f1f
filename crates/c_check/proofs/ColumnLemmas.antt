-- Columns and threads, and how many there are.
use Rattle.std.proofs.Common.{◌≡◌, ℕ, zero, suc, ◌+◌, ◌-◌, ◌<◌, min, pos, List, [], ◌∷◌, ◌++◌, length, drop, get_or, slice_get, Option, Some, None, codes, refl, sym, ap, ◌∙◌, add-one, arith, length-append, append_assoc, drop-cons}
use Rattle.thr_base.specs.Number.{number_text}
use Rattle.thr_base.specs.declared.names.ThreadNo.{ThreadNo}
use Rattle.c_check.specs.declared.columns.OwnVariables.{OwnVariables}
use Rattle.c_check.specs.declared.plan.Column.{Column}
use Rattle.c_check.specs.declared.plan.ColumnKind.TheVariants as kind
use Rattle.c_check.specs.declared.plan.Thread.{Thread}
use Rattle.c_check.specs.Columns.{columns_if, count_if, counter_column, counters_from, local_columns, own_column, own_columns_from, own_count, temporary_columns, threads_from}

drop_at : (ns : List ℕ) (k : ℕ) → k < length ns → drop k ns ≡ get_or ns k 0 ∷ drop (k + 1) ns
drop_at ns k within = rw add-one (drop-cons ns k 0 within)

-- one more behind a list, in front of the rest
moved : {X : Type 0} (old new : List X) (x : X) (rest whole more : List X) → new ≡ old ++ x ∷ [] → more ≡ x ∷ rest → old ++ more ≡ whole → new ++ rest ≡ whole
moved old new x rest whole more added here before = ap (λ xs. xs ++ rest) added ∙ append_assoc old (x ∷ []) rest ∙ ap (λ xs. old ++ xs) (sym here) ∙ before

-- ---- how many

length-local_columns : (i : ThreadNo) (earlier names : List (List ℕ)) → length (local_columns i earlier names) ≡ length names
length-local_columns i earlier [] = refl
length-local_columns i earlier (x ∷ xs) = ap suc (length-local_columns i (earlier ++ x ∷ []) xs)

length-temporary_columns : (i : ThreadNo) (earlier n : ℕ) → length (temporary_columns i earlier n) ≡ n
length-temporary_columns i earlier zero = refl
length-temporary_columns i earlier (suc n) = ap suc (length-temporary_columns i (earlier + 1) n)

pub length-columns_if : (i : ThreadNo) (own : Option OwnVariables) → length (columns_if i own) ≡ count_if own
length-columns_if i None = refl
length-columns_if i (Some own) =
    length-append (local_columns i [] own.locals) (temporary_columns i 0 own.temporaries)
    ∙ (λ j. length-local_columns i [] own.locals j + length-temporary_columns i 0 own.temporaries j)

-- at a place
pub length-own_columns_from : (owns : List OwnVariables) (i k : ℕ) (created : List ℕ) → k < length created
    → length (own_columns_from owns i (drop k created)) ≡ own_count owns (get_or created k 0) + length (own_columns_from owns (i + 1) (drop (k + 1) created))
length-own_columns_from owns i k created within =
    let n = get_or created k 0 in
    let more = own_columns_from owns (i + 1) (drop (k + 1) created) in
    let number : ThreadNo = record { 0 = i } in
    ap (λ ns. length (own_columns_from owns i ns)) (drop_at created k within) ∙ length-append (columns_if number (slice_get owns n)) more
    ∙ ap (λ c. c + length more) (length-columns_if number (slice_get owns n))

-- a sum that ends at a greatest number
pub saturates : (count own rest most : ℕ) → min (min (count + min own most) most + rest) most ≡ min (count + (own + rest)) most
saturates count own rest most = omega arith

-- ---- one more

pub threads-more : (owns : List OwnVariables) (first r k : ℕ) (created : List ℕ) (old new whole : List Thread) → k < length created → r ≡ own_count owns (get_or created k 0)
    → new ≡ old ++ record { function = get_or created k 0; first = first } ∷ [] → old ++ threads_from owns first (drop k created) ≡ whole
    → new ++ threads_from owns (first + r) (drop (k + 1) created) ≡ whole
threads-more owns first r k created old new whole within counted added before =
    ap (λ own. new ++ threads_from owns (first + own) (drop (k + 1) created)) counted
    ∙ moved old new _ _ whole _ added (ap (threads_from owns first) (drop_at created k within)) before

pub counters-more : (i k : ℕ) (created : List ℕ) (old new whole : List Column) → k < length created → new ≡ old ++ counter_column (record { 0 = i }) ∷ []
    → old ++ counters_from i (drop k created) ≡ whole → new ++ counters_from (i + 1) (drop (k + 1) created) ≡ whole
counters-more i k created old new whole within added before = moved old new _ _ whole _ added (ap (counters_from i) (drop_at created k within)) before

pub temporaries-more : (i : ThreadNo) (k n : ℕ) (old new whole : List Column) → k < n
    → new ≡ old ++ own_column i kind.Temporary (codes "$" ++ number_text (pos (k + 1))) None ∷ []
    → old ++ temporary_columns i k (n - k) ≡ whole → new ++ temporary_columns i (k + 1) (n - (k + 1)) ≡ whole
temporaries-more i k n old new whole within added before =
    let left : n - k ≡ suc (n - (k + 1)) = omega arith in
    moved old new _ _ whole _ added (ap (temporary_columns i k) left) before
