-- A thread of a program has the same steps as its source: what this says of them, apart from how the program is made.
use Rattle.std.specs.Prelude.{◌≡◌, ◌↔◌, IsSome, ℕ, ◌-◌, ◌<◌, ℤ, pos, List, ◌++◌, length, map, slice_set, Option, Some}
use Rattle.c_tree.specs.Plain as plain
use Rattle.c_check.specs.Items.{Items}
use Rattle.c_check.specs.Program.{created_of}
use Rattle.c_check.specs.Check.{function_items}
use Rattle.c_check.specs.Columns.{columns_of}
use Rattle.transition_formula.specs.Program.{Edge, IsEdgeOf, IsThreadOf, Program, Thread, at_number}
use Rattle.transition_formula.specs.Step.{Steps}
use Rattle.thread_cfg.specs.Source.{Frame, SourceSteps, Standing, read_as}
use Rattle.thread_cfg.specs.Threads.{Running, threads_running}

-- the standing with its first loop read as the branch that it is
abbrev pub standing_as : Standing → Standing
standing_as Standing.Failed = Standing.Failed
standing_as (Standing.Doing is) = Standing.Doing (read_as is)

-- The state in which the variables and locks have these values, and the threads are at these locations: the counters are the last
-- columns.
abbrev pub state_of : List ℤ → List ℕ → List ℤ
state_of values locations = values ++ map pos locations

-- The i-th thread of the program has an edge that leads, with some inputs, from its location and the values to the location and the
-- values after, wherever the other threads are.
pub record EdgeSteps (program : Program) (i : ℕ) (values : List ℤ) (locations : List ℕ) (after : List ℤ) (to : ℕ) : Type 0 where
  pub thread : Thread
  pub e : ℕ
  pub edge : Edge
  pub edge_is : IsEdgeOf program i e thread edge
  pub inputs : List ℤ
  pub target : edge.to ≡ to
  pub steps : Steps thread edge (state_of values locations) inputs (state_of after (slice_set locations (i - 1) to))

-- what is left to do at each location of a thread, none where the thread has no such location
abbrev pub Lefts : Type 0
Lefts = ℕ → Option Standing

-- The source steps from what is left at the location and the values to the state: to values after, and to a location at which that
-- is left which the source then has left; the other threads stay where they are.
pub record SourceStepsTo (frame : Frame) (left : Lefts) (locations : List ℕ) (from : ℕ) (values state : List ℤ) : Type 0 where
  pub standing : Standing
  pub after : List ℤ
  pub next : Standing
  pub to : ℕ
  pub stands : left from ≡ Some standing
  pub steps : SourceSteps frame values standing after next
  pub lands : left to ≡ Some (standing_as next)
  pub state_is : state ≡ state_of after (slice_set locations (frame.thread - 1) to)

-- A thread of the program has the same steps as what its source has to do. There is one thing left to do at each of its locations,
-- read as it is read: all of the body at 1, nothing at the last location, and at 0, and there alone, the thread has failed. For all
-- values of so many variables and locks, and wherever the other threads are, each step of the source from a location is a step by an
-- edge to a location where that is left which the source has left then; and each step by an edge, to whatever state, is one of the
-- source.
pub record HasSameSteps (program : Program) (columns threads : ℕ) (frame : Frame) (body : Items) : Type 0 where
  pub thread : Thread
  pub thread_is : IsThreadOf program frame.thread thread
  pub left : Lefts
  pub begins : left 1 ≡ Some (Standing.Doing (read_as body))
  pub fails : left 0 ≡ Some Standing.Failed
  pub ends : left (thread.locations - 1) ≡ Some (Standing.Doing Items.End)
  pub fails_alone : (l : ℕ) → left l ≡ Some Standing.Failed → l ≡ 0
  pub at_each : (l : ℕ) → IsSome (left l) ↔ (l < thread.locations)
  pub by_edges : (values : List ℤ) (locations : List ℕ) (from : ℕ) (standing : Standing) (after : List ℤ) (next : Standing)
      → length values ≡ columns → length locations ≡ threads
      → at_number locations frame.thread ≡ Some from → left from ≡ Some standing → SourceSteps frame values standing after next
      → (to : ℕ) × (left to ≡ Some (standing_as next)) × EdgeSteps program frame.thread values locations after to
  pub by_source : (values : List ℤ) (locations : List ℕ) (from e : ℕ) (edge : Edge) (inputs state : List ℤ)
      → length values ≡ columns → length locations ≡ threads
      → at_number locations frame.thread ≡ Some from → IsEdgeOf program frame.thread e thread edge
      → Steps thread edge (state_of values locations) inputs state
      → SourceStepsTo frame left locations from values state

-- The program has the same steps as the text: one thread for each that `main` creates, which has its number, and steps as what its
-- function has to do. The states of the program are the values of all variables and locks, and behind them the locations of the
-- threads.
pub record SameSteps (tree : plain.Tree) (program : Program) : Type 0 where
  pub columns_are : length program.columns ≡ length (columns_of tree)
  pub threads_are : length program.threads ≡ length (threads_running tree)
  pub created : length program.threads ≡ length (created_of tree)
  pub numbered_so : (i : ℕ) (t : Running) → at_number (threads_running tree) i ≡ Some t → t.frame.thread ≡ i
  pub steps_are : (i : ℕ) (t : Running) → at_number (threads_running tree) i ≡ Some t
      → HasSameSteps program (length (columns_of tree) - length (threads_running tree)) (length (threads_running tree)) t.frame (function_items t.function)
