-- Rows of linear constraints, and the points that meet them, over unbounded integers.
use Rattle.std.specs.Prelude.{◌≡◌, ℤ, pos, ◌+ℤ◌, ◌*ℤ◌, ◌≤ℤ◌, Bool, List, [], ◌∷◌, map, MatchBool}
use Rattle.std.specs.List.{AllByRecursion}
use Rattle.thr_base.specs.Number.{Fits}

-- a . z <= b, or a . z = b where it is an equality
pub record Row : Type 0 where
  pub equal : Bool
  pub coefficients : List ℤ
  pub bound : ℤ

-- the sum of the products of two lists, place by place; the shorter is continued by zeros
abbrev pub product_of : List ℤ → List ℤ → ℤ
product_of [] ys = pos 0
product_of (x ∷ xs) [] = pos 0
product_of (x ∷ xs) (y ∷ ys) = x *ℤ y +ℤ product_of xs ys

-- each number of a list, times k
abbrev pub multiple_of : ℤ → List ℤ → List ℤ
multiple_of k xs = map (λ x. k *ℤ x) xs

-- the sums of two lists, place by place; the shorter is continued by zeros
abbrev pub sum_of : List ℤ → List ℤ → List ℤ
sum_of [] ys = ys
sum_of (x ∷ xs) [] = x ∷ xs
sum_of (x ∷ xs) (y ∷ ys) = (x +ℤ y) ∷ sum_of xs ys

-- The whole point z meets the row.
abbrev pub Meets : Row → List ℤ → Type 0
Meets row z = MatchBool row.equal (product_of row.coefficients z ≡ row.bound) (product_of row.coefficients z ≤ℤ row.bound)

-- The rational point x / d meets the row.
abbrev pub MeetsOver : Row → List ℤ → ℤ → Type 0
MeetsOver row x d = MatchBool row.equal (product_of row.coefficients x ≡ row.bound *ℤ d) (product_of row.coefficients x ≤ℤ (row.bound *ℤ d))

-- All numbers of the row fit.
pub record RowFits (row : Row) : Type 0 where
  pub coefficients : AllByRecursion Fits row.coefficients
  pub bound : Fits row.bound
