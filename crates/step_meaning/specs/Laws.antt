-- What outcomes say of the steps of a program, and which of two stops is told.
use Rattle.std.specs.Prelude.{◌≡◌, ◌≢◌, ◌↔◌, ℕ, ℤ, pos, Bool, true, false, List, ◌∷◌, ◌++◌, length, Option, Some, None, IsSome, slice_get}
use Rattle.std.specs.List.{AllByRecursion}
use Rattle.thr_base.specs.Number.{Fits}
use Rattle.lin_rows.specs.Row.{Row, Meets}
use Rattle.lin_rows.specs.Sum.{sum_overflow}
use Rattle.transition_formula.specs.Program.{Form, Thread, Edge}
use Rattle.transition_formula.specs.Step.{Steps, after_step}
use Rattle.transition_formula.specs.Forms.{value_if_fits}
use Rattle.step_meaning.specs.Outcome.{Goes, Blocks, Overflows, outcome_of, looked_at}

-- Each product and each sum of the test fits at z.
abbrev pub TestFits : List ℤ → Row → Type 0
TestFits z row = sum_overflow row.coefficients z ≡ None

-- Each product and each sum of the set's form fits at z.
abbrev pub SetFits : List ℤ → ℕ × Form → Type 0
SetFits z set = IsSome (value_if_fits set.1 z)

-- Each test and each set of the edge fits at z.
pub record EdgeFits (edge : Edge) (z : List ℤ) : Type 0 where
  pub tests : AllByRecursion (TestFits z) edge.tests
  pub sets : AllByRecursion (SetFits z) edge.sets

-- ---- steps

-- An edge that leads to a state steps there, as the program does.
abbrev pub WhatGoesIsAStep : Type 0
WhatGoesIsAStep = (thread : Thread) (edge : Edge) (before inputs after : List ℤ) → length inputs ≡ edge.inputs
    → outcome_of thread edge before inputs ≡ Goes after → Steps thread edge before inputs after

-- An edge that is blocked has no step.
abbrev pub WhatBlocksIsNoStep : Type 0
WhatBlocksIsNoStep = (thread : Thread) (edge : Edge) (before inputs after : List ℤ)
    → outcome_of thread edge before inputs ≡ Blocks → ¬ Steps thread edge before inputs after

-- A step of the program is given, where its numbers fit.
abbrev pub StepsThatFitAreGiven : Type 0
StepsThatFitAreGiven = (thread : Thread) (edge : Edge) (before inputs after : List ℤ) → EdgeFits edge (before ++ inputs)
    → Steps thread edge before inputs after → outcome_of thread edge before inputs ≡ Goes after

-- Where all numbers fit, nothing overflows.
abbrev pub WhatFitsDoesNotOverflow : Type 0
WhatFitsDoesNotOverflow = (thread : Thread) (edge : Edge) (before inputs : List ℤ) → EdgeFits edge (before ++ inputs)
    → outcome_of thread edge before inputs ≢ Overflows

-- The numbers of the state after a step that is given fit, where those of the state before and of the counter's target do.
abbrev pub WhatIsGivenFits : Type 0
WhatIsGivenFits = (thread : Thread) (edge : Edge) (before inputs after : List ℤ) → AllByRecursion Fits before → Fits (pos edge.to)
    → outcome_of thread edge before inputs ≡ Goes after → AllByRecursion Fits after

-- ---- the order

-- Of all that is looked at, this is the first that does not go through: what stands in front of it holds.
pub record IsFirstStop (looks : List (Option Bool)) (stop : Option Bool) : Type 0 where
  pub front : List (Option Bool)
  pub behind : List (Option Bool)
  pub order : looks ≡ front ++ (stop ∷ behind)
  pub hold : AllByRecursion (λ look. look ≡ Some true) front

-- An edge is blocked exactly where the first that does not go through is false, it overflows exactly where a product or a sum of
-- this one does not fit, and it leads to the state after a step exactly where each goes through.
pub record FirstStopsAreTold : Type 0 where
  pub blocks : (thread : Thread) (edge : Edge) (before inputs : List ℤ)
      → (outcome_of thread edge before inputs ≡ Blocks) ↔ IsFirstStop (looked_at thread.counter edge before inputs) (Some false)
  pub overflows : (thread : Thread) (edge : Edge) (before inputs : List ℤ)
      → (outcome_of thread edge before inputs ≡ Overflows) ↔ IsFirstStop (looked_at thread.counter edge before inputs) None
  pub goes : (thread : Thread) (edge : Edge) (before inputs : List ℤ)
      → (outcome_of thread edge before inputs ≡ Goes (after_step thread edge before inputs))
      ↔ AllByRecursion (λ look. look ≡ Some true) (looked_at thread.counter edge before inputs)

-- A test fits and holds at z.
pub record TestPasses (z : List ℤ) (row : Row) : Type 0 where
  pub fits : TestFits z row
  pub meets : Meets row z

-- The counter is at the edge's source.
abbrev pub IsAtSource : Thread → Edge → List ℤ → Type 0
IsAtSource thread edge before = slice_get before thread.counter ≡ Some (pos edge.from)

-- The order in the words of the program. A counter elsewhere blocks, whatever overflows behind it. With the counter at the source,
-- the first test that does not pass is told: it overflows where it does not fit, even if it is false, and else it blocks,
-- whatever overflows behind it. Where all tests pass, a set that does not fit overflows.
pub record OrderIsKept : Type 0 where
  pub elsewhere : (thread : Thread) (edge : Edge) (before inputs : List ℤ) → ¬ IsAtSource thread edge before
      → outcome_of thread edge before inputs ≡ Blocks
  pub test_overflows : (thread : Thread) (edge : Edge) (before inputs : List ℤ) (front behind : List Row) (row : Row)
      → IsAtSource thread edge before → edge.tests ≡ front ++ (row ∷ behind) → AllByRecursion (TestPasses (before ++ inputs)) front
      → ¬ TestFits (before ++ inputs) row → outcome_of thread edge before inputs ≡ Overflows
  pub test_blocks : (thread : Thread) (edge : Edge) (before inputs : List ℤ) (front behind : List Row) (row : Row)
      → IsAtSource thread edge before → edge.tests ≡ front ++ (row ∷ behind) → AllByRecursion (TestPasses (before ++ inputs)) front
      → TestFits (before ++ inputs) row → ¬ Meets row (before ++ inputs) → outcome_of thread edge before inputs ≡ Blocks
  pub set_overflows : (thread : Thread) (edge : Edge) (before inputs : List ℤ) → IsAtSource thread edge before
      → AllByRecursion (TestPasses (before ++ inputs)) edge.tests → ¬ AllByRecursion (SetFits (before ++ inputs)) edge.sets
      → outcome_of thread edge before inputs ≡ Overflows
