-- The first overflow, pair by pair, is the earliest of those of the columns.
use Rattle.std.proofs.Common.{◌≡◌, ℕ, zero, suc, ◌<◌, ◌≤◌, List, [], ◌∷◌, length, take, get_or, map, Option, Some, None, option_map, Result, Ok, Err, Bool, true, false, cond, ◌&&◌, ℤ, pos, ◌+ℤ◌, refl, sym, ◌∙◌, ap, ap₂, le_refl, lt-ltb, le-ltb, arith}
use Rattle.std.proofs.lemmas.Int.{ints}
use Rattle.std.specs.Option.{option_or, option_map_or}
use Rattle.std.specs.List.{AllByRecursion}
use Rattle.thr_base.specs.Number.{fits}
use Rattle.lin_rows.specs.Row.{sum_of}
use Rattle.farkas_cert.specs.Proof.{unfit_place, first_unfit}
use Rattle.farkas_cert.specs.inside.Columns.{sum_with, column_from, earlier}

-- the products of rows, each with its row's number
abbrev Terms : Type 0
Terms = List (ℕ × List ℤ)

-- ---- sums of lists, at a place and in front
-- The sum at a place is that of the numbers there.
pub get_or-sum_of : (xs ys : List ℤ) (n : ℕ) → get_or (sum_of xs ys) n (pos 0) ≡ get_or xs n (pos 0) +ℤ get_or ys n (pos 0)
get_or-sum_of [] ys n = omega (arith, ints)
get_or-sum_of (x ∷ xs) [] n = omega (arith, ints)
get_or-sum_of (x ∷ xs) (y ∷ ys) zero = refl
get_or-sum_of (x ∷ xs) (y ∷ ys) (suc n) = get_or-sum_of xs ys n

-- The first numbers of the empty list are none.
pub take-nil : (n : ℕ) → take {A = ℤ} n [] ≡ []
take-nil zero = refl
take-nil (suc n) = refl

-- The first sums are those of the first numbers.
take-sum_of : (n : ℕ) (xs ys : List ℤ) → sum_of (take n xs) (take n ys) ≡ take n (sum_of xs ys)
take-sum_of zero xs ys = refl
take-sum_of (suc n) [] ys = refl
take-sum_of (suc n) (x ∷ xs) [] = refl
take-sum_of (suc n) (x ∷ xs) (y ∷ ys) = ap (λ zs. (x +ℤ y) ∷ zs) (take-sum_of n xs ys)

-- There are as many sums as numbers in the first list, or more.
length-sum_of : (xs ys : List ℤ) → length xs ≤ length (sum_of xs ys)
length-sum_of [] ys = omega arith
length-sum_of (x ∷ xs) [] = le_refl (length (x ∷ xs))
length-sum_of (x ∷ xs) (y ∷ ys) = let h = length-sum_of xs ys in omega arith

-- ---- one more place of a pair
-- the place c, where a number there does not fit
abbrev unfit_at : List ℤ → List ℤ → ℕ → Option ℕ
unfit_at xs ys c = cond (fits (get_or xs c (pos 0)) && fits (get_or ys c (pos 0))) None (Some c)

-- A place that does not fit, counted from one place further on.
shifted : (b : Bool) (u : Option ℕ) (v : Bool) (c : ℕ) → cond b (option_map suc (option_or u (cond v None (Some c)))) (Some 0) ≡ option_or (cond b (option_map suc u) (Some 0)) (cond v None (Some (suc c)))
shifted true None true c = refl
shifted true None false c = refl
shifted true (Some j) v c = refl
shifted false u v c = refl

-- With one column more, the first that does not fit is as before or the new one.
unfit_place-one_more : (xs ys : List ℤ) (c : ℕ) → c < length xs → c < length ys → unfit_place (take (suc c) xs) (take (suc c) ys) ≡ option_or (unfit_place (take c xs) (take c ys)) (unfit_at xs ys c)
unfit_place-one_more [] ys c p q = absurd (omega arith)
unfit_place-one_more (x ∷ xs) [] c p q = absurd (omega arith)
unfit_place-one_more (x ∷ xs) (y ∷ ys) zero p q = refl
unfit_place-one_more (x ∷ xs) (y ∷ ys) (suc c) p q =
    ap (λ u. cond (fits x && fits y) (option_map suc u) (Some 0)) (unfit_place-one_more xs ys c (omega arith) (omega arith))
    ∙ shifted (fits x && fits y) (unfit_place (take c xs) (take c ys)) (fits (get_or xs c (pos 0)) && fits (get_or ys c (pos 0))) c

-- ---- rows that rise
-- The rows' numbers rise from above one.
abbrev pub Rising : ℕ → Terms → Type 0
Rising last [] = Unit {0}
Rising last ((k, ps) ∷ rest) = (last < k) × Rising k rest

-- the overflow, where there is one, is at a later row
abbrev AboveOption : ℕ → Option (ℕ × ℕ) → Type 0
AboveOption last None = Unit {0}
AboveOption last (Some place) = last < place.0

-- the row of an overflow, where there is one, is later
abbrev AboveResult : ℕ → Result ℤ ℕ → Type 0
AboveResult last (Ok sum) = Unit {0}
AboveResult last (Err k) = last < k

-- What is later than a row is later than those before.
AboveOption-below : (a b : ℕ) (o : Option (ℕ × ℕ)) → a < b → AboveOption b o → AboveOption a o
AboveOption-below a b None h above = tt
AboveOption-below a b (Some place) h above = omega arith

-- What is later than a row is later than those before.
AboveResult-below : (a b : ℕ) (r : Result ℤ ℕ) → a < b → AboveResult b r → AboveResult a r
AboveResult-below a b (Ok sum) h above = tt
AboveResult-below a b (Err k) h above = omega arith

-- Of two overflows at later rows, the first is at a later row.
above_or : (last k : ℕ) (u : Option ℕ) (o : Option (ℕ × ℕ)) → last < k → AboveOption last o → AboveOption last (option_or (option_map (λ column. (k, column)) u) o)
above_or last k None o h above = above
above_or last k (Some j) o h above = h

-- The first overflow of rising terms is at a later row.
first_unfit-above : (last : ℕ) (sums : List ℤ) (terms : Terms) → Rising last terms → AboveOption last (first_unfit sums terms)
first_unfit-above last sums [] h = tt
first_unfit-above last sums ((k, ps) ∷ rest) h =
    above_or last k (unfit_place ps (sum_of ps sums)) (first_unfit (sum_of ps sums) rest) h.0
    (AboveOption-below last k _ h.0 (first_unfit-above k (sum_of ps sums) rest h.1))

-- A sum that goes on overflows at a later row alone.
above_map_or : (last k c : ℕ) (rest : Terms) (more : Option ℤ) → last < k → ((m : ℤ) → AboveResult last (column_from m c rest)) → AboveResult last (option_map_or (λ m. column_from m c rest) more (Err k))
above_map_or last k c rest None h all = h
above_map_or last k c rest (Some m) h all = all m

-- A column of rising terms overflows at a later row alone.
column_from-above : (last c : ℕ) (sum : ℤ) (terms : Terms) → Rising last terms → AboveResult last (column_from sum c terms)
column_from-above last c sum [] h = tt
column_from-above last c sum ((k, ps) ∷ rest) h =
    above_map_or last k c rest (sum_with sum (get_or ps c (pos 0))) h.0 (λ m. AboveResult-below last k _ h.0 (column_from-above k c m rest h.1))

-- ---- one more column
-- the first c places of each pair
abbrev pub fronts : ℕ → Terms → Terms
fronts c terms = map (λ t. (t.0, take c t.1)) terms

-- The fronts of rising terms rise.
Rising-fronts : (c last : ℕ) (terms : Terms) → Rising last terms → Rising last (fronts c terms)
Rising-fronts c last [] h = tt
Rising-fronts c last ((k, ps) ∷ rest) h = (h.0, Rising-fronts c k rest h.1)

-- an overflow and that of one more column
abbrev pub merged : Option (ℕ × ℕ) → ℕ → Result ℤ ℕ → Option (ℕ × ℕ)
merged first c (Ok sum) = first
merged first c (Err k) = earlier first k c

-- What is found first is not earlier than what was there.
not_earlier : (k j k' c : ℕ) → k ≤ k' → Some (k, j) ≡ earlier (Some (k, j)) k' c
not_earlier k j k' c h = ap (λ b. cond b (Some (k', c)) (Some (k, j))) (sym (le-ltb k' k h))

-- What is found is earlier than what comes at later rows.
is_earlier : (k c : ℕ) (o : Option (ℕ × ℕ)) → AboveOption k o → Some (k, c) ≡ earlier o k c
is_earlier k c None h = refl
is_earlier k c (Some place) h = ap (λ b. cond b (Some (k, c)) (Some place)) (sym (lt-ltb k place.0 h))

-- The overflows of a row and of those behind it, joined with a column's.
joined : (k c : ℕ) (u : Option ℕ) (b : Bool) (X X' : Option (ℕ × ℕ)) (Y : Result ℤ ℕ) → X' ≡ merged X c Y → AboveOption k X → AboveResult k Y
    → option_or (option_map (λ column. (k, column)) (option_or u (cond b None (Some c)))) X' ≡ merged (option_or (option_map (λ column. (k, column)) u) X) c (cond b Y (Err k))
joined k c (Some j) true X X' (Ok sum) e a r = refl
joined k c (Some j) true X X' (Err k') e a r = not_earlier k j k' c (omega arith)
joined k c (Some j) false X X' Y e a r = not_earlier k j k c (le_refl k)
joined k c None true X X' Y e a r = e
joined k c None false X X' Y e a r = is_earlier k c X a

-- A column goes on where its sum is given, and else overflows here.
column_from-cond : (b : Bool) (q : ℤ) (c k : ℕ) (rest : Terms) → option_map_or (λ m. column_from m c rest) (cond b (Some q) None) (Err k) ≡ cond b (column_from q c rest) (Err k)
column_from-cond true q c k rest = refl
column_from-cond false q c k rest = refl

-- With one column more, the first overflow is that of the others or of this column.
pub first_unfit-one_more : (n c last : ℕ) (sums : List ℤ) (terms : Terms) → Rising last terms → AllByRecursion (λ t. length t.1 ≡ n) terms → c < n
    → first_unfit (take (suc c) sums) (fronts (suc c) terms) ≡ merged (first_unfit (take c sums) (fronts c terms)) c (column_from (get_or sums c (pos 0)) c terms)
first_unfit-one_more n c last sums [] rising widths below = refl
first_unfit-one_more n c last sums ((k, ps) ∷ rest) rising widths below =
    let more = sum_of ps sums in
    let p = get_or ps c (pos 0) in
    let q = get_or more c (pos 0) in
    let wide : c < length ps = omega arith in
    let wide' : c < length more = omega (arith, length-sum_of ps sums) in
    let b = fits p && fits q in
    let u = unfit_place (take c ps) (take c more) in
    let after : (m : ℕ) → List ℤ → Option (ℕ × ℕ) = λ m list. option_or (option_map (λ column. (k, column)) (unfit_place (take m ps) list)) (first_unfit list (fronts m rest)) in
    let X = first_unfit (take c more) (fronts c rest) in
    let X' = first_unfit (take (suc c) more) (fronts (suc c) rest) in
    let Y = column_from q c rest in
    let left = ap (after (suc c)) (take-sum_of (suc c) ps sums) ∙ ap (λ v. option_or (option_map (λ column. (k, column)) v) X') (unfit_place-one_more ps more c wide wide') in
    let step = joined k c u b X X' Y (first_unfit-one_more n c k more rest rising.1 widths.1 below)
    (first_unfit-above k (take c more) (fronts c rest) (Rising-fronts c k rest rising.1)) (column_from-above k c q rest rising.1) in
    let right = ap₂ (λ v r. merged v c r) (ap (after c) (sym (take-sum_of c ps sums)))
    (sym (column_from-cond b q c k rest) ∙ ap (λ v. option_map_or (λ m. column_from m c rest) (cond (fits p && fits v) (Some v) None) (Err k)) (get_or-sum_of ps sums c)) in
    left ∙ step ∙ right
