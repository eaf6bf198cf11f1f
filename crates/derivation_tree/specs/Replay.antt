-- What a schedule comes to: its steps are taken until one ends at location 0, is blocked, or has a number that does not fit.
use Rattle.std.specs.Prelude.{◌≡◌, ◌≢◌, ◌<◌, ◌^◌, ℕ, suc, ℤ, List, [], ◌∷◌, length}
use Rattle.std.specs.List.{AllByRecursion}
use Rattle.thr_base.specs.Number.{Fits}
use Rattle.transition_formula.specs.Program.{Program, Thread, Edge, IsEdgeOf}
use Rattle.transition_formula.specs.Step.{IsInitial}
use Rattle.transition_formula.specs.Run.{Run, RunStep}
use Rattle.step_meaning.specs.Outcome.{Goes, Blocks, Overflows, outcome_of}

pub data Replay : Type 0 where
  -- a step of this thread ends at location 0
  Fails : ℕ → Replay
  EndsClean : Replay
  -- this step is blocked; 0 is the start
  BlockedAt : ℕ → Replay
  -- the numbers of this step do not fit
  OverflowAt : ℕ → Replay

-- The steps from a state come to this, where so many steps stand before them.
pub data ComesTo (program : Program) : ℕ → List ℤ → List RunStep → Replay → Type 0 where
  ends : (k : ℕ) (state : List ℤ) → ComesTo program k state [] EndsClean
  fails : (k : ℕ) (state after : List ℤ) (taken : RunStep) (steps : List RunStep) (thread : Thread) (edge : Edge) → IsEdgeOf program taken.thread taken.edge thread edge
      → outcome_of thread edge state taken.inputs ≡ Goes after → edge.to ≡ 0 → ComesTo program k state (taken ∷ steps) (Fails taken.thread)
  goes : (k : ℕ) (state after : List ℤ) (taken : RunStep) (steps : List RunStep) (thread : Thread) (edge : Edge) (answer : Replay) → IsEdgeOf program taken.thread taken.edge thread edge
      → outcome_of thread edge state taken.inputs ≡ Goes after → edge.to ≢ 0 → ComesTo program (suc k) after steps answer → ComesTo program k state (taken ∷ steps) answer
  blocks : (k : ℕ) (state : List ℤ) (taken : RunStep) (steps : List RunStep) (thread : Thread) (edge : Edge) → IsEdgeOf program taken.thread taken.edge thread edge
      → outcome_of thread edge state taken.inputs ≡ Blocks → ComesTo program k state (taken ∷ steps) (BlockedAt (suc k))
  overflows : (k : ℕ) (state : List ℤ) (taken : RunStep) (steps : List RunStep) (thread : Thread) (edge : Edge) → IsEdgeOf program taken.thread taken.edge thread edge
      → outcome_of thread edge state taken.inputs ≡ Overflows → ComesTo program k state (taken ∷ steps) (OverflowAt (suc k))

-- What the schedule comes to; a start that is not initial blocks.
pub data IsReplay (program : Program) (schedule : Run) : Replay → Type 0 where
  starts : (answer : Replay) → IsInitial program.columns schedule.start → ComesTo program 0 schedule.start schedule.steps answer → IsReplay program schedule answer
  does_not_start : (¬ IsInitial program.columns schedule.start) → IsReplay program schedule (BlockedAt 0)

-- A step names an edge of its thread, and has a number for each of its inputs.
pub record IsStepOf (program : Program) (taken : RunStep) : Type 0 where
  pub thread : Thread
  pub edge : Edge
  pub edge_is : IsEdgeOf program taken.thread taken.edge thread edge
  pub one_each : length taken.inputs ≡ edge.inputs
  pub fit : AllByRecursion Fits taken.inputs

-- The schedule can be replayed: a value for each column, fewer than 2 ^ 32 steps of the program, and all numbers fit.
pub record IsSchedule (program : Program) (schedule : Run) : Type 0 where
  pub one_each : length schedule.start ≡ length program.columns
  pub fit : AllByRecursion Fits schedule.start
  pub few : length schedule.steps < 2 ^ 32
  pub steps : AllByRecursion (IsStepOf program) schedule.steps

-- The schedule can be replayed, and fails.
abbrev pub FailsAtReplay : Program → Run → Type 0
FailsAtReplay program schedule = IsSchedule program schedule × ((i : ℕ) × IsReplay program schedule (Fails i))
