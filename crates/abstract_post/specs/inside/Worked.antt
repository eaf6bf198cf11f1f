-- Of the tests. No public clause cites this file.
use Rattle.std.specs.Prelude.{◌≡◌, ℕ, List, length}
use Rattle.std.specs.List.{AllByRecursion}
use Rattle.lin_rows.specs.Row.{Row}
use Rattle.lin_rows.specs.Atom.{IsAtom}
use Rattle.predicate_sets.specs.HomeSet.{AreDistinct}

-- These are atoms over so many columns.
abbrev pub AreAtomsOver : ℕ → List Row → Type 0
AreAtomsOver n atoms = AllByRecursion (λ atom. IsAtom atom × (length atom.coefficients ≡ n)) atoms

-- They are, and distinct.
pub record IsAtomSetOver (n : ℕ) (atoms : List Row) : Type 0 where
  pub are_atoms : AreAtomsOver n atoms
  pub distinct : AreDistinct atoms
