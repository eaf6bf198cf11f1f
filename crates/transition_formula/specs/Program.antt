-- Programs: the columns of a state, and each thread as a graph of locations and edges. Threads and edges are numbered from 1,
-- columns and locations from 0, where location 0 is the failing one.
use Rattle.std.specs.Prelude.{◌≡◌, ◌≢◌, ◌↔◌, ◌+◌, ◌-◌, ◌<◌, ◌≤◌, ℕ, zero, suc, ℤ, pos, List, length, map, take, nat_eq, Option, Some, None, IsSome, IsNone, slice_get, AllPairs}
use Rattle.std.specs.List.{AllByRecursion, IsDistinct}
use Rattle.thr_base.specs.Limits.{most_threads, most_columns, most_locations, most_edges, most_inputs, most_tests}
use Rattle.thr_base.specs.Number.{Fits}
pub use Rattle.thr_base.specs.Number.{StartFits}
use Rattle.lin_rows.specs.Row.{Row}
use Rattle.lin_rows.specs.System.{IsRowOver}
use Rattle.thr_base.specs.ColumnText.{IsColumnText, counter_text}

-- coefficients . z + constant
pub record Form : Type 0 where
  pub coefficients : List ℤ
  pub constant : ℤ

-- A column: its text, the thread that owns it, or none where all share it, and the value that it has initially, or none where
-- that may be any integer.
pub record Column : Type 0 where
  pub text : List ℕ
  pub owner : Option ℕ
  pub start : Option ℤ

-- An edge leads from a location to a location where its tests hold, and sets columns to forms. Tests and forms are over the
-- columns followed by the inputs.
pub record Edge : Type 0 where
  pub from : ℕ
  pub to : ℕ
  pub inputs : ℕ
  pub tests : List Row
  pub sets : List (ℕ × Form)

-- A thread: the column of its counter, the number of its locations, and its edges.
pub record Thread : Type 0 where
  pub counter : ℕ
  pub locations : ℕ
  pub edges : List Edge

pub record Program : Type 0 where
  pub columns : List Column
  pub threads : List Thread

-- the element of a number from 1
abbrev pub at_number : {X : Type 0} → List X → ℕ → Option X
at_number xs zero = None
at_number xs (suc k) = slice_get xs k

-- The program has thread i, and this is it.
abbrev pub IsThreadOf : Program → ℕ → Thread → Type 0
IsThreadOf program i thread = at_number program.threads i ≡ Some thread

-- Thread i of the program, which is this one, has edge e, and this is it.
pub record IsEdgeOf (program : Program) (i e : ℕ) (thread : Thread) (edge : Edge) : Type 0 where
  pub thread_is : IsThreadOf program i thread
  pub edge_is : at_number thread.edges e ≡ Some edge

-- ---- the programs that there are

-- the first counter: the counters are the last columns
abbrev pub first_counter : Program → ℕ
first_counter program = length program.columns - length program.threads

-- What is asked of a column of a program of so many threads.
pub record IsColumn (threads : ℕ) (column : Column) : Type 0 where
  pub text_is : IsColumnText threads column.owner column.text
  pub start_fits : StartFits column.start

-- A column that is no counter has a value initially exactly where it is shared.
abbrev pub StartsWhereShared : Column → Type 0
StartsWhereShared column = IsSome column.start ↔ IsNone column.owner

-- The form has one coefficient per column and input, and its numbers fit.
pub record IsFormOver (width : ℕ) (form : Form) : Type 0 where
  pub one_each : length form.coefficients ≡ width
  pub coefficients_fit : AllByRecursion Fits form.coefficients
  pub constant_fits : Fits form.constant

-- What is asked of an edge of a program's thread.
pub record IsEdge (program : Program) (thread : Thread) (edge : Edge) : Type 0 where
  pub leaves_no_failure : 0 < edge.from
  pub from_location : edge.from < thread.locations
  pub to_location : edge.to < thread.locations
  pub few_inputs : edge.inputs ≤ most_inputs
  pub few_tests : length edge.tests ≤ most_tests
  pub tests_over : AllByRecursion (IsRowOver (length program.columns + edge.inputs)) edge.tests
  pub forms_over : AllByRecursion (λ set. IsFormOver (length program.columns + edge.inputs) set.1) edge.sets
  pub sets_no_counter : AllByRecursion (λ set. set.0 < first_counter program) edge.sets
  pub sets_none_twice : IsDistinct nat_eq (map (λ set. set.0) edge.sets)

-- The column of a counter is its thread's, has its text, and starts at location 1.
pub record IsCounter (i : ℕ) (column : Column) : Type 0 where
  pub owned : column.owner ≡ Some i
  pub named : column.text ≡ counter_text i
  pub starts : column.start ≡ Some (pos 1)

-- What is asked of thread i of a program. Its counter is the i-th of the last columns.
pub record IsThread (program : Program) (i : ℕ) (thread : Thread) : Type 0 where
  pub in_order : suc thread.counter ≡ first_counter program + i
  pub counts : (column : Column) → slice_get program.columns thread.counter ≡ Some column → IsCounter i column
  pub has_start : 2 ≤ thread.locations
  pub few_locations : thread.locations ≤ most_locations
  pub few_edges : length thread.edges ≤ most_edges
  pub edges_are : AllByRecursion (IsEdge program thread) thread.edges

-- What is asked of a program.
pub record IsProgram (program : Program) : Type 0 where
  pub few_columns : length program.columns ≤ most_columns
  pub few_threads : length program.threads ≤ most_threads
  pub has_counters : length program.threads ≤ length program.columns
  pub columns_are : AllByRecursion (IsColumn (length program.threads)) program.columns
  pub texts_differ : AllPairs (λ a b. a ≢ b) (map (λ column. column.text) program.columns)
  pub others_start : AllByRecursion StartsWhereShared (take (first_counter program) program.columns)
  pub threads_are : (i : ℕ) (thread : Thread) → IsThreadOf program i thread → IsThread program i thread
