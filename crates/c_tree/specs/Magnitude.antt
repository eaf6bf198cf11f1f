-- What decimal digits write.
use Rattle.std.specs.Prelude.{◌^◌, ◌<◌, ℤ, pos, negsuc}

-- The number is not negative, and fits.
abbrev pub IsMagnitude : ℤ → Type 0
IsMagnitude (pos n) = n < 2 ^ 127
IsMagnitude (negsuc n) = ⊥
