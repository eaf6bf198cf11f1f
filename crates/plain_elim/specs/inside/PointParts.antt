-- The numbers of a point and of its fractions, and the single steps in which bounds are found.
use Rattle.std.specs.Prelude.{◌<ℤ◌, ℕ, ℤ, pos, ◌-ℤ◌, ◌*ℤ◌, int_lt, List, cond, ◌&&◌, Option, Some, None}
use Rattle.std.specs.Option.{option_and_then}
use Rattle.std.specs.List.{AllByRecursion}
use Rattle.thr_base.specs.Number.{Fits, fits}
use Rattle.farkas_cert.specs.Line.{Line, coefficient_at}
use Rattle.farkas_cert.specs.BackSubstitution.{RationalPoint, Bounds, narrowed_bounds, bound_on}

-- The denominator is positive, and both numbers fit.
pub record IsFraction (numerator denominator : ℤ) : Type 0 where
  pub positive : pos 0 <ℤ denominator
  pub numerator_fits : Fits numerator
  pub denominator_fits : Fits denominator

-- The denominator is positive, and all numbers fit.
pub record IsPoint (numerators : List ℤ) (denominator : ℤ) : Type 0 where
  pub positive : pos 0 <ℤ denominator
  pub numerators_fit : AllByRecursion Fits numerators
  pub denominator_fits : Fits denominator

-- t less a times n, where the product and the difference fit
abbrev pub minus_product : ℤ → ℤ → ℤ → Option ℤ
minus_product t a n = cond (fits (a *ℤ n) && fits (t -ℤ a *ℤ n)) (Some (t -ℤ a *ℤ n)) None

-- the bounds with that of one more line
abbrev pub narrowed_by : ℕ → ℕ → RationalPoint → Line → Bounds → Option Bounds
narrowed_by n c point line bounds =
    option_and_then (narrowed_bounds (int_lt (pos 0) (coefficient_at c line)) bounds) (bound_on n c point line)
