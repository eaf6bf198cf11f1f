-- The sum of the products of two lists, place by place.
use Rattle.std.proofs.Common.{◌≡◌, ℕ, suc, ◌+◌, ◌≤◌, ◌<◌, List, ◌∷◌, length, drop, get_or, Option, Some, None, option_map, Bool, true, false, cond, ◌&&◌, ℤ, pos, ◌+ℤ◌, ◌*ℤ◌, refl, sym, ◌∙◌, ap, ap₂, subst, drop-cons, add-one, arith}
use Rattle.std.proofs.lemmas.Int.{ints}
use Rattle.std.specs.Option.{option_map_or, is_none}
use Rattle.thr_base.specs.Number.{Fits, fits}
use Rattle.lin_rows.specs.Row.{product_of}
use Rattle.lin_rows.specs.Sum.{sum_with_product, overflow_from, sum_overflow, sum_in_order}
use Rattle.std.proofs.lemmas.List.{drop_all}
use Rattle.lin_rows.proofs.Integers.{add-zero_ℤ}
use Rattle.lin_rows.proofs.Numbers.{fits-true}

-- a sum that is given is the sum, and fits
pub summed-some : (sum t more : ℤ) → Some more ≡ sum_with_product sum t → (more ≡ sum +ℤ t) × Fits more
summed-some sum t more e = only (fits t) (fits (sum +ℤ t)) refl e
  where
    only : (a b : Bool) → fits (sum +ℤ t) ≡ b → Some more ≡ cond (a && b) (Some (sum +ℤ t)) None → (more ≡ sum +ℤ t) × Fits more
    only true true is e = let same : more ≡ sum +ℤ t = cc in (same, subst Fits (sym same) (fits-true (sum +ℤ t) is))
    only true false is e = cc
    only false b is e = cc

-- both lists from a place on
abbrev from : {A : Type 0} → (List ℤ → List ℤ → A) → List ℤ → List ℤ → ℕ → A
from f xs ys n = f (drop n xs) (drop n ys)

-- what is left from a place on
from-cons : {A : Type 0} (f : List ℤ → List ℤ → A) (xs ys : List ℤ) (n : ℕ) → n < length xs → length xs ≡ length ys
    → from f xs ys n ≡ f (get_or xs n (pos 0) ∷ drop (n + 1) xs) (get_or ys n (pos 0) ∷ drop (n + 1) ys)
from-cons f xs ys n h e =
    let h' : n < length ys = omega arith in
    ap₂ f (drop-cons xs n (pos 0) h) (drop-cons ys n (pos 0) h')
    ∙ ap (λ i. f (get_or xs n (pos 0) ∷ drop i xs) (get_or ys n (pos 0) ∷ drop i ys)) (sym (add-one n))

-- what is left from a place on, one place further
overflow-step : (xs ys : List ℤ) (sum : ℤ) (n : ℕ) (more : Option ℤ) → n < length xs → length xs ≡ length ys → more ≡ sum_with_product sum (get_or xs n (pos 0) *ℤ get_or ys n (pos 0))
    → overflow_from sum (drop n xs) (drop n ys) ≡ option_map_or (λ m. option_map suc (overflow_from m (drop (n + 1) xs) (drop (n + 1) ys))) more (Some 0)
overflow-step xs ys sum n more h e is =
    from-cons (overflow_from sum) xs ys n h e ∙ ap (λ v. option_map_or (λ m. option_map suc (overflow_from m (drop (n + 1) xs) (drop (n + 1) ys))) v (Some 0)) (sym is)

-- a place is the first where nothing before it was too great
pub overflow-here : (xs ys : List ℤ) (sum : ℤ) (n : ℕ) → n < length xs → length xs ≡ length ys → None ≡ sum_with_product sum (get_or xs n (pos 0) *ℤ get_or ys n (pos 0))
    → overflow_from (pos 0) xs ys ≡ option_map (λ i. n + i) (overflow_from sum (drop n xs) (drop n ys)) → overflow_from (pos 0) xs ys ≡ Some n
overflow-here xs ys sum n h e is all =
    all ∙ ap (λ o. option_map (λ i. n + i) o) (overflow-step xs ys sum n None h e is) ∙ ap (λ (i : ℕ). Some i) (omega arith)

-- A place one further on, counted from one place further on.
later : (n : ℕ) (o : Option ℕ) → option_map (λ i. n + i) (option_map suc o) ≡ option_map (λ i. n + 1 + i) o
later n None = refl
later n (Some i) = ap (λ (i : ℕ). Some i) (omega arith)

-- one place further
pub overflow-later : (xs ys : List ℤ) (sum more : ℤ) (n : ℕ) → n < length xs → length xs ≡ length ys → Some more ≡ sum_with_product sum (get_or xs n (pos 0) *ℤ get_or ys n (pos 0))
    → overflow_from (pos 0) xs ys ≡ option_map (λ i. n + i) (overflow_from sum (drop n xs) (drop n ys))
    → overflow_from (pos 0) xs ys ≡ option_map (λ i. n + 1 + i) (overflow_from more (drop (n + 1) xs) (drop (n + 1) ys))
overflow-later xs ys sum more n h e is all =
    all ∙ ap (λ o. option_map (λ i. n + i) o) (overflow-step xs ys sum n (Some more) h e is) ∙ later n (overflow_from more (drop (n + 1) xs) (drop (n + 1) ys))

-- the products that are left, one place further
pub product_of-later : (xs ys : List ℤ) (sum more : ℤ) (n : ℕ) → n < length xs → length xs ≡ length ys → Some more ≡ sum_with_product sum (get_or xs n (pos 0) *ℤ get_or ys n (pos 0))
    → product_of xs ys ≡ sum +ℤ product_of (drop n xs) (drop n ys) → product_of xs ys ≡ more +ℤ product_of (drop (n + 1) xs) (drop (n + 1) ys)
product_of-later xs ys sum more n h e is all =
    let more_is = (summed-some sum (get_or xs n (pos 0) *ℤ get_or ys n (pos 0)) more is).0 in
    regroup (product_of xs ys) sum more (get_or xs n (pos 0) *ℤ get_or ys n (pos 0)) (product_of (drop n xs) (drop n ys)) (product_of (drop (n + 1) xs) (drop (n + 1) ys)) all (from-cons product_of xs ys n h e) more_is
  where
    regroup : (p sum more t rest less : ℤ) → p ≡ sum +ℤ rest → rest ≡ t +ℤ less → more ≡ sum +ℤ t → p ≡ more +ℤ less
    regroup p sum more t rest less a b c = omega (arith, ints)

-- ---- the whole sum
-- A sum of which no part is too great is given.
pub sum_in_order-some : (xs ys : List ℤ) → sum_overflow xs ys ≡ None → sum_in_order xs ys ≡ Some (product_of xs ys)
sum_in_order-some xs ys e = rw e refl

-- what is given is the sum, and no product and no sum on the way was too great
pub sum_in_order-given : (xs ys : List ℤ) (sum : ℤ) → sum_in_order xs ys ≡ Some sum → (sum_overflow xs ys ≡ None) × (sum ≡ product_of xs ys)
sum_in_order-given xs ys sum e = by (sum_overflow xs ys) e
  where
    by : (o : Option ℕ) → cond (is_none o) (Some (product_of xs ys)) None ≡ Some sum → (o ≡ None) × (sum ≡ product_of xs ys)
    by None e = (refl, cc)
    by (Some n) e = absurd cc

-- nothing is left at the end
pub overflow-end : (xs ys : List ℤ) (sum : ℤ) (n : ℕ) → length xs ≤ n → sum_overflow xs ys ≡ option_map (λ i. n + i) (overflow_from sum (drop n xs) (drop n ys)) → sum_overflow xs ys ≡ None
overflow-end xs ys sum n h e = e ∙ ap (λ l. option_map (λ i. n + i) (overflow_from sum l (drop n ys))) (drop_all n xs h)

-- the sum up to the end is the whole
pub product_of-end : (xs ys : List ℤ) (sum : ℤ) (n : ℕ) → length xs ≤ n → product_of xs ys ≡ sum +ℤ product_of (drop n xs) (drop n ys) → product_of xs ys ≡ sum
product_of-end xs ys sum n h e = e ∙ ap (λ l. sum +ℤ product_of l (drop n ys)) (drop_all n xs h) ∙ add-zero_ℤ sum

-- so it is given
pub sum_in_order-end : (xs ys : List ℤ) (sum : ℤ) (n : ℕ) → length xs ≤ n → sum_overflow xs ys ≡ option_map (λ i. n + i) (overflow_from sum (drop n xs) (drop n ys))
    → product_of xs ys ≡ sum +ℤ product_of (drop n xs) (drop n ys) → sum_in_order xs ys ≡ Some sum
sum_in_order-end xs ys sum n h o p = sum_in_order-some xs ys (overflow-end xs ys sum n h o) ∙ ap (λ (z : ℤ). Some z) (product_of-end xs ys sum n h p)
