-- The lines that the program holds, and what is known of them.
use Rattle.std.specs.Prelude.{◌≡◌, ◌≢◌, ℕ, suc, ◌*◌, ◌<◌, ◌^◌, ℤ, pos, negsuc, ◌<ℤ◌, List, [], ◌∷◌, length, take, drop, get_or}
use Rattle.std.specs.List.{AllByRecursion}
use Rattle.std.specs.Coded.{×_prop, Unit-prop, le_prop}
use lib.Dec.{T_prop}
use Rattle.thr_base.specs.Number.{Fits}
use Rattle.tableau_elim.specs.Tableau.{Line, Tableau, Pivot, divisor_of}
use Rattle.tableau_elim.specs.declared.pivot.Pivot.{Pivot as HeldPivot}
use Rattle.tableau_elim.specs.declared.variable.Variable.{Variable}
use Rattle.tableau_elim.specs.declared.variable.Variable.TheVariants.{Column}

-- lines of these basics, of which each has the next so many numbers of a list
abbrev pub lines_of : ℕ → List Variable → List ℤ → List Line
lines_of width [] numbers = []
lines_of width (x ∷ basics) numbers = record { basic = x; numbers = take width numbers } ∷ lines_of width basics (drop width numbers)

-- the tableau of these basics, numbers and places
abbrev pub tableau_by : List Variable → List ℤ → List Variable → Tableau
tableau_by basics numbers places = record { lines = lines_of (suc (length places)) basics numbers; places = places }

-- the line at a place of the list
abbrev pub line_at : ℕ → Tableau → Line
line_at k tableau = get_or tableau.lines k (record { basic = Column 0; numbers = [] })

-- The numbers of a line fit, and its divisor is positive.
abbrev pub IsSound : Line → Type 0
IsSound line = AllByRecursion Fits line.numbers × (pos 0 <ℤ divisor_of line)

-- What always holds of the parts of a tableau: each line has its numbers, the lines are sound, and the places can be numbered.
pub record IsHeld (basics : List Variable) (numbers : List ℤ) (places : List Variable) : Type 0 where
  pub size : length numbers ≡ length basics * suc (length places)
  pub sound : AllByRecursion IsSound (lines_of (suc (length places)) basics numbers)
  pub few : length places < 2 ^ 32

-- ---- that lines are sound has one proof

-- that a number fits
Fits-prop : (z : ℤ) → IsProp (Fits z)
Fits-prop (pos n) = le_prop
Fits-prop (negsuc n) = le_prop

-- that all numbers fit
AllFit-prop : (numbers : List ℤ) → IsProp (AllByRecursion Fits numbers)
AllFit-prop [] = Unit-prop
AllFit-prop (z ∷ numbers) = ×_prop (Fits-prop z) (AllFit-prop numbers)

-- that a line is sound
IsSound-prop : (line : Line) → IsProp (IsSound line)
IsSound-prop line = ×_prop (AllFit-prop line.numbers) (Prim.hlevel T_prop)

-- that lines are sound
pub AllSound-prop : (lines : List Line) → IsProp (AllByRecursion IsSound lines)
AllSound-prop [] = Unit-prop
AllSound-prop (line ∷ lines) = ×_prop (IsSound-prop line) (AllSound-prop lines)

-- ---- pivots

abbrev pub pivot_of : HeldPivot → Pivot
pivot_of pivot = record { place = pivot.place; entering = pivot.entering; leaving = pivot.leaving; number = pivot.number; moved = pivot.moved.items }

-- What is known of a pivot: it has as many numbers as a line, one other than 0 at the place.
pub record IsPivot (width : ℕ) (pivot : Pivot) : Type 0 where
  pub size : length pivot.moved ≡ width
  pub within : suc pivot.place < width
  pub fits : AllByRecursion Fits pivot.moved
  pub number_fits : Fits pivot.number
  pub some : pivot.number ≢ pos 0
  pub front : get_or pivot.moved 0 (pos 0) ≡ pos 0
