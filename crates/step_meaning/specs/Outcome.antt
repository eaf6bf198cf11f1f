-- What an edge does to a state with given inputs: a step looks at the counter, the tests and the sets, in this order, and the
-- first of them that does not go through stops it.
use Rattle.std.specs.Prelude.{ℕ, ℤ, pos, int_le, Bool, true, false, if◌then◌else◌, List, [], ◌∷◌, ◌++◌, map, Option, Some, None, option_map, slice_get}
use Rattle.std.specs.Option.{option_map_or}
use Rattle.std.specs.Ordering.{int_eq}
use Rattle.lin_rows.specs.Row.{Row}
use Rattle.lin_rows.specs.Sum.{sum_in_order}
use Rattle.transition_formula.specs.Program.{Form, Thread, Edge}
use Rattle.transition_formula.specs.Step.{after_step}
use Rattle.transition_formula.specs.Forms.{value_if_fits}

-- The edge leads to a state after; or it has no step, since the first that does not go through is false; or nothing is said,
-- since a product or a sum of the first that does not go through does not fit.
pub data Outcome : Type 0 where
  Goes : (after : List ℤ) → Outcome
  Blocks : Outcome
  Overflows : Outcome

-- ---- what a step looks at: whether it holds, or none where a product or a sum of it does not fit

-- the counter is at the edge's source
abbrev pub source_holds : ℕ → Edge → List ℤ → Option Bool
source_holds counter edge before = Some (option_map_or (λ v. int_eq v (pos edge.from)) (slice_get before counter) false)

-- a row holds where the sum of its products is this; nothing is subtracted from the bound
abbrev pub row_holds : Row → ℤ → Bool
row_holds row sum = if row.equal then int_eq sum row.bound else int_le sum row.bound

-- a test holds; its products are summed over the columns and inputs in order
abbrev pub test_holds : List ℤ → Row → Option Bool
test_holds z row = option_map (row_holds row) (sum_in_order row.coefficients z)

-- a set has nothing that can be false; its products are summed as a test's are, the constant last
abbrev pub set_holds : List ℤ → ℕ × Form → Option Bool
set_holds z set = option_map (λ v. true) (value_if_fits set.1 z)

-- all that a step looks at, in order; tests and sets are taken at the state before
abbrev pub looked_at : ℕ → Edge → List ℤ → List ℤ → List (Option Bool)
looked_at counter edge before inputs =
    source_holds counter edge before ∷ (map (test_holds (before ++ inputs)) edge.tests ++ map (set_holds (before ++ inputs)) edge.sets)

-- the first that does not go through, or that it holds where each goes through
abbrev pub first_stop : List (Option Bool) → Option Bool
first_stop [] = Some true
first_stop (None ∷ rest) = None
first_stop (Some false ∷ rest) = Some false
first_stop (Some true ∷ rest) = first_stop rest

-- ---- the outcome

-- the outcome, by what stops the step first
abbrev pub outcome_by : Option Bool → List ℤ → Outcome
outcome_by None after = Overflows
outcome_by (Some false) after = Blocks
outcome_by (Some true) after = Goes after

-- what the thread's edge does to the state before, with these inputs
abbrev pub outcome_of : Thread → Edge → List ℤ → List ℤ → Outcome
outcome_of thread edge before inputs = outcome_by (first_stop (looked_at thread.counter edge before inputs)) (after_step thread edge before inputs)
