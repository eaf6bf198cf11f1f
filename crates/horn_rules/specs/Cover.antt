-- Closed sets of statements, and what they say of all runs.
use Rattle.std.specs.Prelude.{◌≢◌, ℕ, ℤ, pos, List, Some, slice_get}
use Rattle.std.specs.List.{AllByRecursion, Contains}
use Rattle.thr_base.specs.declared.names.RuleName.{RuleName}
use Rattle.lin_rows.specs.System.{IsPoint}
use Rattle.transition_formula.specs.Program.{Program, Thread, IsProgram, IsThreadOf}
use Rattle.transition_formula.specs.Run.{Run, IsRun, Reaches, Fails}
use Rattle.horn_rules.specs.Home.{State}
use Rattle.horn_rules.specs.Fact.{Sets, Fact, Statement, AreSetsOf, IsStatementOf, statement_of}
use Rattle.horn_rules.specs.Instance.{Instance, HasKind, premises_of, map_instance}
use Rattle.horn_rules.specs.Case.{Case, IsCaseOf}
use Rattle.horn_rules.specs.Post.{IsFactOf, IsGiven}
use Rattle.horn_rules.specs.Least.{Least, LeastSays}
use Rattle.horn_rules.specs.Steps.{Describes}

-- Each instance of the rule over statements that stand, whose system some whole point meets, gives a statement that stands.
abbrev pub IsClosed : Program → RuleName → (Statement → Type 0) → Type 0
IsClosed program rule Stands =
    (instance : Instance Statement) (given : Case) (z : List ℤ) → HasKind rule instance → IsCaseOf program instance given
    → AllByRecursion Stands (premises_of instance) → IsPoint given.system z → (statement : Statement) × Stands statement × IsGiven given statement

-- In each state that a run comes to, a statement that stands describes it at each thread: where the thread is, and what holds.
abbrev pub Covers : Program → (Statement → Type 0) → Type 0
Covers program Stands =
    (state : List ℤ) (i : ℕ) (thread : Thread) → Reaches program state → IsThreadOf program i thread
    → (statement : Statement) × Stands statement × Describes program i statement state

-- No statement that stands is at location 0 of thread i.
abbrev pub HasNoneFailing : (Statement → Type 0) → ℕ → Type 0
HasNoneFailing Stands i = (statement : Statement) → Stands statement → statement.home ≢ State i 0

-- No run comes to a state in which the thread is at location 0.
abbrev pub NeverFails : Program → Thread → Type 0
NeverFails program thread = (state : List ℤ) → Reaches program state → slice_get state thread.counter ≢ Some (pos 0)

abbrev pub NoRunFails : Program → Type 0
NoRunFails program = (run : Run) (last : List ℤ) → IsRun program run last → ¬ Fails program run

-- Each instance of the rule over the least set, whose system some whole point meets, gives its fact.
abbrev pub GivesFacts : Program → RuleName → Sets → Type 0
GivesFacts program rule sets =
    (instance : Instance Fact) (given : Case) (z : List ℤ) → HasKind rule instance → IsCaseOf program (map_instance (statement_of sets) instance) given
    → AllByRecursion (Least program rule sets) (premises_of instance) → IsPoint given.system z → (fact : Fact) × IsFactOf sets given fact

-- ---- laws, for a list of statements and for the least set: no clause can say them of all predicates at once

-- What is closed covers all runs, under either rule.
abbrev pub ClosedListsCover : Type 0
ClosedListsCover = (program : Program) (rule : RuleName) (statements : List Statement)
    → IsProgram program → AllByRecursion (IsStatementOf program) statements → IsClosed program rule (Contains statements) → Covers program (Contains statements)

abbrev pub ClosedLeastCovers : Type 0
ClosedLeastCovers = (program : Program) (rule : RuleName) (sets : Sets)
    → IsProgram program → AreSetsOf program sets → IsClosed program rule (LeastSays program rule sets) → Covers program (LeastSays program rule sets)

-- The least set is closed where its instances give their facts.
abbrev pub LeastIsClosed : Type 0
LeastIsClosed = (program : Program) (rule : RuleName) (sets : Sets) → GivesFacts program rule sets → IsClosed program rule (LeastSays program rule sets)

-- Where what covers has nothing at location 0 of a thread, no run comes there.
abbrev pub CoveredListsDoNotFail : Type 0
CoveredListsDoNotFail = (program : Program) (statements : List Statement) (i : ℕ) (thread : Thread)
    → Covers program (Contains statements) → IsThreadOf program i thread → HasNoneFailing (Contains statements) i → NeverFails program thread

abbrev pub CoveredLeastDoesNotFail : Type 0
CoveredLeastDoesNotFail = (program : Program) (rule : RuleName) (sets : Sets) (i : ℕ) (thread : Thread)
    → Covers program (LeastSays program rule sets) → IsThreadOf program i thread → HasNoneFailing (LeastSays program rule sets) i → NeverFails program thread

-- Where it has nothing at location 0 of any thread, no run fails.
abbrev pub CoveredListsAreSafe : Type 0
CoveredListsAreSafe = (program : Program) (statements : List Statement)
    → Covers program (Contains statements) → ((i : ℕ) → HasNoneFailing (Contains statements) i) → NoRunFails program

abbrev pub CoveredLeastIsSafe : Type 0
CoveredLeastIsSafe = (program : Program) (rule : RuleName) (sets : Sets)
    → Covers program (LeastSays program rule sets) → ((i : ℕ) → HasNoneFailing (LeastSays program rule sets) i) → NoRunFails program
