-- What a value comes to over another denominator.
use Rattle.std.specs.Prelude.{ℤ, unsigned_abs, ◌*ℤ◌, Option}
use Rattle.lin_rows.specs.Exact.{fitting}
use Rattle.farkas_cert.specs.Divided.{over}
use Rattle.farkas_cert.specs.BackSubstitution.{Fraction}

-- the numerator of a value over a common denominator, where it fits
abbrev pub numerator_over : ℤ → Fraction → Option ℤ
numerator_over d value = fitting (value.numerator *ℤ over (unsigned_abs value.denominator) d)
