-- Runs of a program: a start, and steps one after another.
use Rattle.std.specs.Prelude.{◌≡◌, ◌⊎◌, ℕ, ℤ, pos, List, [], ◌∷◌, Some, slice_get}
use Rattle.transition_formula.specs.Program.{Program, Thread, Edge, IsThreadOf, IsEdgeOf}
use Rattle.transition_formula.specs.Step.{Steps, IsInitial}

-- A step of a run: the numbers of a thread and of one of its edges, and the inputs.
pub record RunStep : Type 0 where
  pub thread : ℕ
  pub edge : ℕ
  pub inputs : List ℤ

-- A start, and the steps from there.
pub record Run : Type 0 where
  pub start : List ℤ
  pub steps : List RunStep

-- The step leads from the state before to the state after: its thread has the edge, and steps by it.
pub record Leads (program : Program) (taken : RunStep) (before after : List ℤ) : Type 0 where
  pub of_thread : Thread
  pub by_edge : Edge
  pub edge_is : IsEdgeOf program taken.thread taken.edge of_thread by_edge
  pub steps : Steps of_thread by_edge before taken.inputs after

-- The steps lead, one after another, from a state to the last one.
abbrev pub LeadTo : Program → List ℤ → List RunStep → List ℤ → Type 0
LeadTo program state [] last = state ≡ last
LeadTo program state (taken ∷ steps) last = (next : List ℤ) × Leads program taken state next × LeadTo program next steps last

-- The run begins in an initial state, and its steps lead to its last state.
pub record IsRun (program : Program) (run : Run) (last : List ℤ) : Type 0 where
  pub initial : IsInitial program.columns run.start
  pub lead : LeadTo program run.start run.steps last

-- Thread i is at location 0 in the state.
pub record IsFailing (program : Program) (state : List ℤ) : Type 0 where
  pub i : ℕ
  pub thread : Thread
  pub thread_is : IsThreadOf program i thread
  pub fails : slice_get state thread.counter ≡ Some (pos 0)

-- Some thread is at location 0 in the state, or in one of those that the steps lead to.
abbrev pub FailsFrom : Program → List ℤ → List RunStep → Type 0
FailsFrom program state [] = IsFailing program state
FailsFrom program state (taken ∷ steps) =
    IsFailing program state ⊎ ((next : List ℤ) × Leads program taken state next × FailsFrom program next steps)

-- The run fails: some thread is at location 0 in one of its states.
abbrev pub Fails : Program → Run → Type 0
Fails program run = FailsFrom program run.start run.steps

-- The states that runs come to: each initial state, and each that a step leads to from one of these.
pub data Reaches (program : Program) : List ℤ → Type 0 where
  start : (state : List ℤ) → IsInitial program.columns state → Reaches program state
  step : (taken : RunStep) (before after : List ℤ) → Reaches program before → Leads program taken before after → Reaches program after
