-- What rows of a program say of its states and steps, and runs of the states that are reached.
use Rattle.std.specs.Prelude.{◌≡◌, ◌↔◌, ℕ, ℤ, List, ◌++◌, length}
use Rattle.std.specs.List.{AllByRecursion}
use Rattle.lin_rows.specs.Row.{Row, Meets}
use Rattle.transition_formula.specs.Program.{Program, Thread, Edge, IsProgram, IsEdgeOf}
use Rattle.transition_formula.specs.Step.{Steps, IsInitial}
use Rattle.transition_formula.specs.Run.{Run, IsRun, IsFailing, Fails, Reaches}
use Rattle.transition_formula.specs.Rows.{init_rows, edge_rows}

-- The point meets all rows.
abbrev pub MeetsAll : List Row → List ℤ → Type 0
MeetsAll rows z = AllByRecursion (λ row. Meets row z) rows

-- The rows of the initial states hold at exactly the states that are initial.
abbrev pub InitRowsAreExact : Type 0
InitRowsAreExact = (program : Program) (state : List ℤ)
    → length state ≡ length program.columns
    → MeetsAll (init_rows program) state ↔ IsInitial program.columns state

-- The rows of an edge hold at exactly the steps by it: at the state before, the state after and the inputs.
abbrev pub EdgeRowsAreExact : Type 0
EdgeRowsAreExact = (program : Program) (i e : ℕ) (thread : Thread) (edge : Edge) (before after inputs : List ℤ)
    → IsProgram program → IsEdgeOf program i e thread edge
    → length before ≡ length program.columns → length after ≡ length program.columns → length inputs ≡ edge.inputs
    → MeetsAll (edge_rows (length program.columns) thread.counter edge) (before ++ (after ++ inputs)) ↔ Steps thread edge before inputs after

-- A state is reached exactly where a run ends in it.
abbrev pub RunsEndInReachedStates : Type 0
RunsEndInReachedStates = (program : Program) (state : List ℤ) → Reaches program state ↔ ((run : Run) × IsRun program run state)

-- Where a state that is reached has a thread at location 0, the run that ends in it fails.
abbrev pub FailingStatesEndRuns : Type 0
FailingStatesEndRuns = (program : Program) (run : Run) (state : List ℤ) → IsRun program run state → IsFailing program state → Fails program run

-- A run that fails comes to a state in which a thread is at location 0.
abbrev pub FailingRunsReach : Type 0
FailingRunsReach = (program : Program) (run : Run) (last : List ℤ) → IsRun program run last → Fails program run
    → (state : List ℤ) × Reaches program state × IsFailing program state
