-- Numbers: which of them fit, and the one text of each.
use Rattle.std.specs.Prelude.{◌≡◌, ℕ, suc, ◌+◌, ◌-◌, ◌*◌, ◌^◌, ◌<◌, ℤ, pos, negsuc, List, ◌∷◌, length, fold, slice_index, EachIndex, Bool, nat_lt, Option, None, Some}
use Rattle.std.specs.Char.{IsAsciiDigit}
use Rattle.std.specs.Fmt.{signed_decimal}

-- The absolute value is at most 2^127 - 1. An `i128` also holds -2^127, which does not fit.
abbrev pub Fits : ℤ → Type 0
Fits (pos n) = n < 2 ^ 127
Fits (negsuc n) = suc n < 2 ^ 127

-- The value that a column starts with, where it has one, fits.
abbrev pub StartFits : Option ℤ → Type 0
StartFits None = Unit {0}
StartFits (Some value) = Fits value

-- the test of `Fits`
abbrev pub fits : ℤ → Bool
fits (pos n) = nat_lt n (2 ^ 127)
fits (negsuc n) = nat_lt (suc n) (2 ^ 127)

-- The one text of a number: its decimal digits without a needless zero, behind a `-` where it is negative.
abbrev pub number_text : ℤ → List ℕ
number_text z = signed_decimal z

-- the number that decimal digits write
abbrev pub digits_number : List ℕ → ℕ
digits_number digits = fold (λ n digit. n * 10 + (digit - 48)) 0 digits

-- These are decimal digits of this number, at least one, with no 0 in front of others.
pub record AreDigitsOf (n : ℕ) (text : List ℕ) : Type 0 where
  pub digits : EachIndex text (λ k. IsAsciiDigit (slice_index text k))
  pub some : 0 < length text
  pub plain : slice_index text 0 ≡ 48 → length text ≡ 1
  pub number : digits_number text ≡ n

-- This is a decimal text of this number: digits of it, behind a `-` exactly where it is negative.
abbrev pub IsTextOf : ℤ → List ℕ → Type 0
IsTextOf (pos n) text = AreDigitsOf n text
IsTextOf (negsuc n) text = (digits : List ℕ) × (text ≡ 45 ∷ digits) × AreDigitsOf (suc n) digits
