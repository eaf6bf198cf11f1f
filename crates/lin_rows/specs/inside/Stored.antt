-- What is known of the rows that a program holds.
use Rattle.std.specs.Prelude.{◌≡◌, ◌<◌, ◌-◌, ◌*◌, ◌^◌, ℕ, ℤ, pos, negsuc, List, [], ◌∷◌, length}
use Rattle.std.specs.List.{AllByRecursion}
use Rattle.std.specs.Coded.{×_prop, Unit-prop, le_prop}
use Rattle.thr_base.specs.Number.{Fits}
use Rattle.lin_rows.specs.declared.stored.RightSide.{RightSide}

abbrev pub BoundFits : RightSide → Type 0
BoundFits side = Fits side.bound

-- Each row has its coefficients, all numbers fit, and no count is too great.
pub record IsStored (columns : ℕ) (sides : List RightSide) (numbers : List ℤ) : Type 0 where
  pub count : length sides < 2 ^ 32 - 1
  pub size : length numbers ≡ length sides * columns
  pub numbers_fit : AllByRecursion Fits numbers
  pub bounds_fit : AllByRecursion BoundFits sides

-- What is known of all that is held.
pub record IsHeld (columns : ℕ) (sides : List RightSide) (numbers : List ℤ) : Type 0 where
  pub columns_fit : columns < 2 ^ 32
  pub stored : IsStored columns sides numbers

-- ---- each of these facts has one proof
Fits-prop : (z : ℤ) → IsProp (Fits z)
Fits-prop (pos n) = le_prop
Fits-prop (negsuc n) = le_prop

pub AllFit-prop : (numbers : List ℤ) → IsProp (AllByRecursion Fits numbers)
AllFit-prop [] = Unit-prop
AllFit-prop (z ∷ numbers) = ×_prop (Fits-prop z) (AllFit-prop numbers)

pub AllBoundsFit-prop : (sides : List RightSide) → IsProp (AllByRecursion BoundFits sides)
AllBoundsFit-prop [] = Unit-prop
AllBoundsFit-prop (side ∷ sides) = ×_prop (Fits-prop side.bound) (AllBoundsFit-prop sides)
