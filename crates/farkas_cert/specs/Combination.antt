-- How a combination of two lists is made: number by number, as long as each product and sum fits.
use Rattle.std.specs.Prelude.{ℤ, pos, ◌+ℤ◌, ◌*ℤ◌, List, [], ◌∷◌, Option, Some}
use Rattle.std.specs.Option.{option_map, option_and_then}
use Rattle.lin_rows.specs.Exact.{fitting}

-- a x + b y, where the products and the sum fit
abbrev pub combined_number : ℤ → ℤ → ℤ → ℤ → Option ℤ
combined_number a x b y = option_and_then (λ first. option_and_then (λ second. fitting (first +ℤ second)) (fitting (b *ℤ y))) (fitting (a *ℤ x))

-- one number in front of others, where all are there
abbrev pub in_front : Option ℤ → Option (List ℤ) → Option (List ℤ)
in_front number numbers = option_and_then (λ z. option_map (λ zs. z ∷ zs) numbers) number

-- a times the one list plus b times the other; the shorter is continued by zeros
unfoldable pub combined_numbers : ℤ → List ℤ → ℤ → List ℤ → Option (List ℤ)
combined_numbers a [] b [] = Some []
combined_numbers a [] b (y ∷ ys) = in_front (combined_number a (pos 0) b y) (combined_numbers a [] b ys)
combined_numbers a (x ∷ xs) b [] = in_front (combined_number a x b (pos 0)) (combined_numbers a xs b [])
combined_numbers a (x ∷ xs) b (y ∷ ys) = in_front (combined_number a x b y) (combined_numbers a xs b ys)
