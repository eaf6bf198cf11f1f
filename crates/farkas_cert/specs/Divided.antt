-- Numbers without a common divisor.
use Rattle.std.specs.Prelude.{ℕ, ℤ, pos, List, map}
use Rattle.std.specs.Int.{int_div_euclid}
use Rattle.lin_rows.specs.Gcd.{gcd_of}

-- x over g, which divides it
abbrev pub over : ℕ → ℤ → ℤ
over g x = int_div_euclid x (pos g)

-- the numbers over their greatest common divisor
unfoldable pub divided_numbers : List ℤ → List ℤ
divided_numbers xs = map (over (gcd_of xs)) xs
