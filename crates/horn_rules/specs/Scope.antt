-- The modular scope of a home: the shared columns, and at a location those of its thread too.
use Rattle.std.specs.Prelude.{◌≡◌, ℕ, ◌==◌, pos, Bool, true, false, List, ◌++◌, Option, Some, None, slice_get}
use Rattle.lin_rows.specs.Row.{Row}
use Rattle.transition_formula.specs.Program.{Program, Column}
use Rattle.horn_rules.specs.Home.{Home, State, Env}

-- a column with this owner is in the scope
abbrev pub in_scope : Home → Option ℕ → Bool
in_scope home None = true
in_scope (State i l) (Some k) = k == i
in_scope (Env i e) (Some k) = false

-- the columns of a home's rows: those of a state, or those before a step and those after it
abbrev pub columns_of : Program → Home → List Column
columns_of program (State i l) = program.columns
columns_of program (Env i e) = program.columns ++ program.columns

-- The row of the home speaks of columns of the home's scope alone: the others have coefficient 0.
abbrev pub IsModular : Program → Home → Row → Type 0
IsModular program home row =
    (c : ℕ) (column : Column) → slice_get (columns_of program home) c ≡ Some column → in_scope home column.owner ≡ false
    → slice_get row.coefficients c ≡ Some (pos 0)
