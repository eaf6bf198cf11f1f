-- The order in which products of two lists are made and summed: from left to right, beginning with the first product.
use Rattle.std.specs.Prelude.{ℕ, suc, ℤ, pos, ◌+ℤ◌, ◌*ℤ◌, List, [], ◌∷◌, Option, Some, None, option_map, is_none, ◌&&◌, if◌then◌else◌}
use Rattle.std.specs.Option.{option_map_or}
use Rattle.thr_base.specs.Number.{fits}
use Rattle.lin_rows.specs.Row.{product_of}

-- the sum with one more product, where both fit
abbrev pub sum_with_product : ℤ → ℤ → Option ℤ
sum_with_product sum product = if fits product && fits (sum +ℤ product) then Some (sum +ℤ product) else None

-- the first place at which a product, or a sum of what is there already with the products up to it, does not fit
abbrev pub overflow_from : ℤ → List ℤ → List ℤ → Option ℕ
overflow_from sum [] ys = None
overflow_from sum (x ∷ xs) [] = None
overflow_from sum (x ∷ xs) (y ∷ ys) = option_map_or (λ more. option_map suc (overflow_from more xs ys)) (sum_with_product sum (x *ℤ y)) (Some 0)

-- the first place at which a product, or the sum of the products up to it, does not fit
abbrev pub sum_overflow : List ℤ → List ℤ → Option ℕ
sum_overflow xs ys = overflow_from (pos 0) xs ys

-- the sum of the products, where each product and each sum on the way fits
abbrev pub sum_in_order : List ℤ → List ℤ → Option ℤ
sum_in_order xs ys = if is_none (sum_overflow xs ys) then Some (product_of xs ys) else None
