-- How many numbers there are.
use Rattle.std.proofs.Common.{◌≡◌, suc, ap, refl, arith, List, [], ◌∷◌, length}
use Rattle.std.specs.Prelude.{ℤ}
use Rattle.std.proofs.lemmas.List.{length-map}
use Rattle.lin_rows.specs.Gcd.{gcd_of}
use Rattle.lin_rows.specs.Row.{sum_of}
use Rattle.farkas_cert.specs.Divided.{divided_numbers, over}

-- There are as many sums as numbers in the second list.
pub length-sum : (xs ys : List ℤ) → length xs ≡ length ys → length (sum_of xs ys) ≡ length ys
length-sum [] ys h = refl
length-sum (x ∷ xs) [] h = absurd (omega arith)
length-sum (x ∷ xs) (y ∷ ys) h = ap suc (length-sum xs ys (omega arith))

-- There are as many divided numbers as numbers.
pub length-divided : (xs : List ℤ) → length (divided_numbers xs) ≡ length xs
unfolding divided_numbers
length-divided xs = length-map xs (over (gcd_of xs))
