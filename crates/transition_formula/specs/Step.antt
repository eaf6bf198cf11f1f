-- The steps of a program. A state is a list with one integer per column.
use Rattle.std.specs.Prelude.{◌≡◌, ℕ, ℤ, pos, ◌+ℤ◌, List, [], ◌∷◌, ◌++◌, length, Option, Some, None, slice_get, slice_set}
use Rattle.std.specs.List.{AllByRecursion}
use Rattle.lin_rows.specs.Row.{product_of, Meets}
use Rattle.transition_formula.specs.Program.{Form, Column, Edge, Thread}

-- the form's value at z
abbrev pub value_of : Form → List ℤ → ℤ
value_of form z = product_of form.coefficients z +ℤ form.constant

-- the state with each set column at its form's value at z
abbrev pub after_sets : List (ℕ × Form) → List ℤ → List ℤ → List ℤ
after_sets [] z state = state
after_sets ((c, form) ∷ sets) z state = slice_set (after_sets sets z state) c (value_of form z)

-- The state after a step: the set columns have the values of their forms at the state before and the inputs, and the counter
-- is at the target. All else stays.
abbrev pub after_step : Thread → Edge → List ℤ → List ℤ → List ℤ
after_step thread edge before inputs = slice_set (after_sets edge.sets (before ++ inputs) before) thread.counter (pos edge.to)

-- The thread steps by its edge with these inputs, from the state before to the state after.
pub record Steps (thread : Thread) (edge : Edge) (before inputs after : List ℤ) : Type 0 where
  pub at_source : slice_get before thread.counter ≡ Some (pos edge.from)
  pub one_each : length inputs ≡ edge.inputs
  pub tests_hold : AllByRecursion (λ row. Meets row (before ++ inputs)) edge.tests
  pub leads : after ≡ after_step thread edge before inputs

-- A column may start with this value.
abbrev pub MayStart : Option ℤ → ℤ → Type 0
MayStart None v = Unit {0}
MayStart (Some start) v = v ≡ start

-- The state is initial: it has one value per column, and each column that has a start starts there.
abbrev pub IsInitial : List Column → List ℤ → Type 0
IsInitial [] [] = Unit {0}
IsInitial [] (v ∷ state) = ⊥
IsInitial (column ∷ columns) [] = ⊥
IsInitial (column ∷ columns) (v ∷ state) = MayStart column.start v × IsInitial columns state
