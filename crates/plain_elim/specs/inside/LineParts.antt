-- What is known of the parts of a line.
use Rattle.std.specs.Prelude.{◌≡◌, ℕ, ℤ, List}
use Rattle.std.specs.List.{AllByRecursion, position_or_len}
use Rattle.thr_base.specs.Number.{Fits}
use Rattle.farkas_cert.specs.Line.{is_nonzero}

-- All numbers fit, and the first that is not 0 is at this place.
pub record IsHeld (first : ℕ) (numbers : List ℤ) : Type 0 where
  pub fit : AllByRecursion Fits numbers
  pub first_is : first ≡ position_or_len is_nonzero numbers
