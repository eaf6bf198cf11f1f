-- What is known of the plan of a text that is accepted: its columns stand in order, with texts that differ; its threads and
-- functions are there, all that they name is there, and its numbers fit.
use Rattle.std.specs.Prelude.{◌≡◌, ◌≢◌, ◌+◌, ◌-◌, ◌<◌, ◌≤◌, ℕ, ℤ, Bool, true, false, List, [], ◌∷◌, ◌++◌, length, map, filter, slice_get, Option, Some, None, option_map}
use Rattle.std.specs.List.{AllByRecursion, AllPairs}
use Rattle.thr_base.specs.Limits.{most_columns, most_threads}
use Rattle.thr_base.specs.Number.{Fits}
pub use Rattle.thr_base.specs.Number.{StartFits}
use Rattle.thr_base.specs.ColumnText.{IsColumnText}
use Rattle.thr_base.specs.declared.names.ThreadNo.{ThreadNo}
use Rattle.c_tree.specs.declared.item.Tree.{Tree}
use Rattle.c_tree.specs.GrammarItem.{IsTreeOf}
use Rattle.c_tree.specs.Seen.{plain_tree}
use Rattle.c_check.specs.declared.meaning.Variable.{Variable}
use Rattle.c_check.specs.declared.meaning.Variable.TheVariants as variable
use Rattle.c_check.specs.declared.operation.Operation.{Operation}
use Rattle.c_check.specs.declared.operation.Operation.TheVariants as operation
use Rattle.c_check.specs.declared.test.TestOperation.{TestOperation}
use Rattle.c_check.specs.declared.test.TestOperation.TheVariants as test_operation
use Rattle.c_check.specs.declared.test.Condition.{Condition}
use Rattle.c_check.specs.declared.test.Condition.TheVariants as condition
use Rattle.c_check.specs.declared.instruction.Instruction.{Instruction}
use Rattle.c_check.specs.declared.instruction.Instruction.TheVariants as instruction
use Rattle.c_check.specs.declared.plan.Column.{Column}
use Rattle.c_check.specs.declared.plan.ColumnKind.{ColumnKind}
use Rattle.c_check.specs.declared.plan.ColumnKind.TheVariants as kind
use Rattle.c_check.specs.declared.plan.Function.{Function}
use Rattle.c_check.specs.declared.plan.Thread.{Thread}
use Rattle.c_check.specs.declared.plan.Plan.{Plan}
use Rattle.c_check.specs.Check.{IsAccepted, IsPlanOf}

-- ---- how many there are of what names stand for

abbrev pub is_variable : ColumnKind → Bool
is_variable kind.Variable = true
is_variable kind.Lock = false
is_variable kind.Local = false
is_variable kind.Temporary = false
is_variable kind.Counter = false

abbrev pub is_lock : ColumnKind → Bool
is_lock kind.Lock = true
is_lock kind.Variable = false
is_lock kind.Local = false
is_lock kind.Temporary = false
is_lock kind.Counter = false

-- the variables and the locks that all threads share, and the locals of a thread function
pub record Counts : Type 0 where
  pub variables : ℕ
  pub locks : ℕ
  pub locals : ℕ

-- where a function of a plan is
abbrev pub counts_in : Plan → Function → Counts
counts_in plan f = record {
  variables = length (filter (λ c. is_variable c.kind) plan.columns);
  locks = length (filter (λ c. is_lock c.kind) plan.columns);
  locals = f.locals;
}

-- ---- what a function names is there, and its numbers fit

abbrev pub HasVariable : Counts → Variable → Type 0
HasVariable counts (variable.Shared n) = n < counts.variables
HasVariable counts (variable.Own n) = n < counts.locals

abbrev pub HasOperation : Counts → Operation → Type 0
HasOperation counts (operation.Number value) = Fits value
HasOperation counts (operation.Value v) = HasVariable counts v
HasOperation counts operation.Negate = Unit {0}
HasOperation counts operation.Add = Unit {0}
HasOperation counts operation.Subtract = Unit {0}
HasOperation counts operation.Multiply = Unit {0}

abbrev pub HasOperations : Counts → List Operation → Type 0
HasOperations counts = AllByRecursion (HasOperation counts)

abbrev pub HasTest : Counts → TestOperation → Type 0
HasTest counts (test_operation.Compare c) = HasOperations counts c.left × HasOperations counts c.right
HasTest counts test_operation.Not = Unit {0}
HasTest counts test_operation.And = Unit {0}
HasTest counts test_operation.Or = Unit {0}

abbrev pub HasTests : Counts → List TestOperation → Type 0
HasTests counts = AllByRecursion (HasTest counts)

abbrev pub HasCondition : Counts → Condition → Type 0
HasCondition counts (condition.Choice from) = Unit {0}
HasCondition counts (condition.Test from tests) = HasTests counts tests

abbrev pub HasInstruction : Counts → Instruction → Type 0
HasInstruction counts (instruction.Assign a) = HasVariable counts a.variable × HasOperations counts a.value
HasInstruction counts (instruction.AssignAny from v) = HasVariable counts v
HasInstruction counts (instruction.If from c) = HasCondition counts c
HasInstruction counts instruction.Else = Unit {0}
HasInstruction counts instruction.EndIf = Unit {0}
HasInstruction counts (instruction.Loop from c) = HasCondition counts c
HasInstruction counts instruction.Last = Unit {0}
HasInstruction counts instruction.EndLoop = Unit {0}
HasInstruction counts (instruction.Break from) = Unit {0}
HasInstruction counts (instruction.Exit from) = Unit {0}
HasInstruction counts (instruction.Lock from n) = n < counts.locks
HasInstruction counts (instruction.Unlock from n) = n < counts.locks
HasInstruction counts (instruction.Assert from tests) = HasTests counts tests
HasInstruction counts (instruction.Assume from tests) = HasTests counts tests
HasInstruction counts (instruction.Atomic from) = Unit {0}
HasInstruction counts instruction.EndAtomic = Unit {0}

abbrev pub HasCode : Counts → List Instruction → Type 0
HasCode counts = AllByRecursion (HasInstruction counts)

-- ---- of a plan

-- The thread runs a function of the plan, whose locals and temporaries have columns behind the shared ones and in front of the
-- counters.
pub record HasThread (plan : Plan) (thread : Thread) : Type 0 where
  pub function : Function
  pub function_is : slice_get plan.functions thread.function ≡ Some function
  pub behind_shared : length (filter (λ c. is_variable c.kind) plan.columns) + length (filter (λ c. is_lock c.kind) plan.columns) ≤ thread.first
  pub before_counters : thread.first + (function.locals + function.temporaries) ≤ length plan.columns - length plan.threads

-- ---- how its columns stand

-- a column of this kind, of a thread's own or of what all threads share
abbrev pub IsColumnOf : ColumnKind → Option ThreadNo → Column → Type 0
IsColumnOf kind owner c = (c.kind ≡ kind) × (c.owner ≡ owner)

-- The columns are those of a thread's own: its locals, and then its temporaries.
pub record AreThreadColumns (function : Function) (i : ThreadNo) (columns : List Column) : Type 0 where
  pub locals : List Column
  pub temporaries : List Column
  pub columns_are : columns ≡ locals ++ temporaries
  pub locals_are : AllByRecursion (IsColumnOf kind.Local (Some i)) locals
  pub temporaries_are : AllByRecursion (IsColumnOf kind.Temporary (Some i)) temporaries
  pub locals_count : length locals ≡ function.locals
  pub temporaries_count : length temporaries ≡ function.temporaries

-- The columns of threads, which have the numbers from i on, stand one thread's behind another's, from a column on.
abbrev pub AreOwnColumns : Plan → ℕ → ℕ → List Thread → List Column → Type 0
AreOwnColumns plan i first [] columns = columns ≡ []
AreOwnColumns plan i first (t ∷ ts) columns =
    (function : Function) × (own : List Column) × (more : List Column) × (slice_get plan.functions t.function ≡ Some function) × (t.first ≡ first)
    × (columns ≡ own ++ more) × AreThreadColumns function (record { 0 = i }) own × AreOwnColumns plan (i + 1) (first + length own) ts more

-- one counter a thread
abbrev pub AreCounters : ℕ → List Thread → List Column → Type 0
AreCounters i [] columns = columns ≡ []
AreCounters i (t ∷ ts) [] = ⊥
AreCounters i (t ∷ ts) (c ∷ columns) = IsColumnOf kind.Counter (Some (record { 0 = i })) c × AreCounters (i + 1) ts columns

-- The columns are the variables, then the locks, then what the threads have of their own, and then the counters.
pub record HasColumns (plan : Plan) : Type 0 where
  pub variables : List Column
  pub locks : List Column
  pub own : List Column
  pub counters : List Column
  pub columns_are : plan.columns ≡ (variables ++ locks) ++ (own ++ counters)
  pub variables_are : AllByRecursion (IsColumnOf kind.Variable None) variables
  pub locks_are : AllByRecursion (IsColumnOf kind.Lock None) locks
  pub own_are : AreOwnColumns plan 1 (length (variables ++ locks)) plan.threads own
  pub counters_are : AreCounters 1 plan.threads counters

-- the number of a column's thread
abbrev pub owner_number : Column → Option ℕ
owner_number c = option_map (λ i. i.0) c.owner

pub record IsWellFormedPlan (plan : Plan) : Type 0 where
  pub some_threads : 0 < length plan.threads
  pub few_threads : length plan.threads ≤ most_threads
  pub few_columns : length plan.columns ≤ most_columns
  pub columns_are : HasColumns plan
  -- Each column has a text that its owner asks for, and no two have the same.
  pub texts_are : AllByRecursion (λ c. IsColumnText (length plan.threads) (owner_number c) c.text) plan.columns
  pub texts_differ : AllPairs (λ text other. text ≢ other) (map (λ c. c.text) plan.columns)
  pub starts_fit : AllByRecursion (λ c. StartFits c.start) plan.columns
  pub threads_are : AllByRecursion (HasThread plan) plan.threads
  pub functions_are : AllByRecursion (λ f. HasCode (counts_in plan f) f.body) plan.functions

-- The plans of accepted texts are well-formed.
abbrev pub AcceptedPlansAreWellFormed : Type 0
AcceptedPlansAreWellFormed = (text : List ℕ) (tree : Tree) (plan : Plan) → IsTreeOf text tree → IsAccepted (plain_tree tree) → IsPlanOf (plain_tree tree) plan → IsWellFormedPlan plan
