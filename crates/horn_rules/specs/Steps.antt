-- What statements say of states and steps, and how instances lead them on.
use Rattle.std.specs.Prelude.{◌≡◌, ◌≢◌, ℕ, ℤ, pos, List, ◌++◌, length, Some, slice_get}
use Rattle.std.specs.List.{AllByRecursion}
use Rattle.lin_rows.specs.Row.{Meets}
use Rattle.transition_formula.specs.Program.{Program, Thread, Edge, IsThreadOf, IsEdgeOf, IsProgram}
use Rattle.transition_formula.specs.Step.{Steps, IsInitial}
use Rattle.horn_rules.specs.Home.{State, Env}
use Rattle.horn_rules.specs.Fact.{Statement, IsStatementOf}
use Rattle.horn_rules.specs.Case.{init_case, own_case, guar_case, env_case, inter_case}
use Rattle.horn_rules.specs.Post.{IsGiven}

-- The statement describes the state at thread i: it stands at a location of the thread, the thread is there, and the atoms hold.
pub record Describes (program : Program) (i : ℕ) (statement : Statement) (state : List ℤ) : Type 0 where
  pub l : ℕ
  pub thread : Thread
  pub thread_is : IsThreadOf program i thread
  pub stands : statement.home ≡ State i l
  pub there : slice_get state thread.counter ≡ Some (pos l)
  pub hold : AllByRecursion (λ atom. Meets atom state) statement.atoms

-- The statement tells of the step by edge e of thread i: it stands there, the thread steps by the edge, and the atoms hold of the states
-- before and after.
pub record Tells (program : Program) (i e : ℕ) (statement : Statement) (before inputs after : List ℤ) : Type 0 where
  pub thread : Thread
  pub edge : Edge
  pub edge_is : IsEdgeOf program i e thread edge
  pub stands : statement.home ≡ Env i e
  pub steps : Steps thread edge before inputs after
  pub hold : AllByRecursion (λ atom. Meets atom (before ++ after)) statement.atoms

-- ---- laws

-- What a thread's start gives describes each initial state.
abbrev pub StartsAreDescribed : Type 0
StartsAreDescribed = (program : Program) (i : ℕ) (thread : Thread) (given : Statement) (state : List ℤ)
    → IsProgram program → IsThreadOf program i thread → IsStatementOf program given → IsInitial program.columns state
    → IsGiven (init_case program i) given → Describes program i given state

-- Where f describes the state before a step of its thread, what this step gives describes the state after it.
abbrev pub OwnStepsAreDescribed : Type 0
OwnStepsAreDescribed = (program : Program) (i e : ℕ) (thread : Thread) (edge : Edge) (f given : Statement) (before inputs after : List ℤ)
    → IsProgram program → IsEdgeOf program i e thread edge → IsStatementOf program f → IsStatementOf program given
    → length before ≡ length program.columns → Steps thread edge before inputs after → Describes program i f before
    → IsGiven (own_case program i thread edge f) given → Describes program i given after

-- There, what this step gives to the others tells of the step.
abbrev pub OwnStepsAreTold : Type 0
OwnStepsAreTold = (program : Program) (i e : ℕ) (thread : Thread) (edge : Edge) (f given : Statement) (before inputs after : List ℤ)
    → IsProgram program → IsEdgeOf program i e thread edge → IsStatementOf program f → IsStatementOf program given
    → length before ≡ length program.columns → Steps thread edge before inputs after → Describes program i f before
    → IsGiven (guar_case program i e thread edge f) given → Tells program i e given before inputs after

-- Where f describes the state before a step of another thread, and t tells of the step, what both give describes the state after it.
abbrev pub ToldStepsAreDescribed : Type 0
ToldStepsAreDescribed = (program : Program) (k l i e : ℕ) (other thread : Thread) (edge : Edge) (f t given : Statement) (before inputs after : List ℤ)
    → IsProgram program → k ≢ i → IsThreadOf program k other → IsEdgeOf program i e thread edge → f.home ≡ State k l
    → IsStatementOf program f → IsStatementOf program t → IsStatementOf program given
    → length before ≡ length program.columns → Describes program k f before → Tells program i e t before inputs after
    → IsGiven (env_case program k l other thread edge f t) given → Describes program k given after

-- Where f and g describe the state before a step of g's thread at their two threads, what both give by this step describes the state
-- after it at f's thread.
abbrev pub InterferingStepsAreDescribed : Type 0
InterferingStepsAreDescribed = (program : Program) (k l i e : ℕ) (other thread : Thread) (edge : Edge) (f g given : Statement) (before inputs after : List ℤ)
    → IsProgram program → k ≢ i → IsThreadOf program k other → IsEdgeOf program i e thread edge → f.home ≡ State k l
    → IsStatementOf program f → IsStatementOf program g → IsStatementOf program given
    → length before ≡ length program.columns → Steps thread edge before inputs after → Describes program k f before → Describes program i g before
    → IsGiven (inter_case program k l other thread edge f g) given → Describes program k given after
