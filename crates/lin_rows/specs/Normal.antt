-- The normal form of an inequality.
use Rattle.std.specs.Prelude.{◌≡◌, ◌↔◌, ℤ, pos, ◌≤ℤ◌, ◌<ℤ◌, List, map, Result, Ok, Err}
use Rattle.std.specs.List.{AllByRecursion}
use Rattle.std.specs.Int.{int_div_euclid}
use Rattle.lin_rows.specs.Row.{Row, Meets}
use Rattle.lin_rows.specs.Gcd.{gcd_of}
use Rattle.lin_rows.specs.Atom.{IsAtom, greatest, inequality}
use Rattle.lin_rows.specs.declared.normal_form.NormalForm.{NormalForm}
use Rattle.lin_rows.specs.declared.normal_form.NormalForm.TheVariants.{Always, Never, Atom}
use Rattle.lin_rows.specs.declared.normal_form.NormalStop.{NormalStop}
use Rattle.lin_rows.specs.declared.normal_form.NormalStop.TheVariants.{Overflow, Memory}

-- All coefficients are 0.
abbrev pub IsConstant : Row → Type 0
IsConstant row = AllByRecursion (λ a. a ≡ pos 0) row.coefficients

-- the coefficients over their greatest common divisor, and the floor of the bound over it
abbrev pub reduced_row : Row → Row
reduced_row row =
    let g = pos (gcd_of row.coefficients) in
    inequality (map (λ a. int_div_euclid a g) row.coefficients) (int_div_euclid row.bound g)

-- When each answer comes.
abbrev pub IsNormalForm : Row → Result NormalForm NormalStop → Type 0
IsNormalForm row (Ok Always) = IsConstant row × (pos 0 ≤ℤ row.bound)
IsNormalForm row (Ok Never) = IsConstant row × (row.bound <ℤ pos 0)
IsNormalForm row (Ok (Atom atom)) = (¬ IsConstant row) × (atom ≡ reduced_row row) × IsAtom atom
IsNormalForm row (Err Overflow) = (¬ IsConstant row) × ((reduced_row row).bound ≡ greatest)
IsNormalForm row (Err Memory) = Unit {0}

-- The normal form holds at exactly the whole points at which the row does.
abbrev pub HoldsAlike : Row → NormalForm → Type 0
HoldsAlike row Always = (z : List ℤ) → Meets row z
HoldsAlike row Never = (z : List ℤ) → ¬ Meets row z
HoldsAlike row (Atom atom) = (z : List ℤ) → Meets row z ↔ Meets atom z
