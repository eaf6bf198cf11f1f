-- What an edge does is what its events say.
use Rattle.std.specs.Prelude.{◌≡◌, ◌↔◌, ◌≤◌, ℕ, ◌+◌, ◌-◌, ℤ, List, length, slice_set, Contains, Some, None, Ok}
use Rattle.c_tree.specs.Plain as plain
use Rattle.c_check.specs.Columns.{columns_of}
use Rattle.transition_formula.specs.Program.{Edge, Thread, at_number}
use Rattle.transition_formula.specs.Step.{Steps}
use Rattle.thread_cfg.specs.Source.{Frame}
use Rattle.thread_cfg.specs.Happen.{Happen}
use Rattle.thread_cfg.specs.Action.{Action, Alternative}
use Rattle.thread_cfg.specs.Edge.{alternative_edge}
use Rattle.thread_cfg.specs.Threads.{Running, threads_running}
use Rattle.thread_cfg.specs.Graph.{actions_of}
use Rattle.thread_cfg.specs.SameSteps.{state_of}
use Rattle.thread_cfg.specs.Within.{EventsWithin}

-- A thread steps by the edge of a way on, with some inputs, exactly where the events of that way happen with them. There are n
-- variables and locks and k threads, of which this is the i-th, from 1, and it stands at the edge's location.
abbrev pub EdgesHappen : Type 0
EdgesHappen = (n k i at : ℕ) (frame : Frame) (a : Alternative) (edge : Edge) (thread : Thread) (values after : List ℤ) (locations : List ℕ) (inputs : List ℤ)
    → EventsWithin n frame a.events → alternative_edge (n + k) frame at a ≡ Ok (Some edge)
    → thread.counter ≡ n + (i - 1) → 1 ≤ i → i ≤ k
    → length values ≡ n → length locations ≡ k → at_number locations i ≡ Some at
    → Steps thread edge (state_of values locations) inputs (state_of after (slice_set locations (i - 1) a.to)) ↔ Happen frame values a.events inputs after

-- The events of a way on that has no edge happen nowhere.
abbrev pub NeverEdgesDoNotHappen : Type 0
NeverEdgesDoNotHappen = (n k at : ℕ) (frame : Frame) (a : Alternative) (values after inputs : List ℤ)
    → EventsWithin n frame a.events → alternative_edge (n + k) frame at a ≡ Ok None → length values ≡ n
    → ¬ Happen frame values a.events inputs after

-- The edge of the i-th thread is that of a way on from the action at its location, and what the two laws above ask for holds: n are the
-- columns in front of the counters.
pub record IsEdgeOfAction (tree : plain.Tree) (i : ℕ) (thread : Thread) (edge : Edge) : Type 0 where
  pub running : Running
  pub action : Action
  pub alternative : Alternative
  pub n : ℕ
  pub running_is : at_number (threads_running tree) i ≡ Some running
  pub action_is : at_number (actions_of running) edge.from ≡ Some action
  pub alternative_is : Contains action.alternatives alternative
  pub leads : edge.to ≡ alternative.to
  pub columns_are : n + length (threads_running tree) ≡ length (columns_of tree)
  pub edge_is : alternative_edge (n + length (threads_running tree)) running.frame edge.from alternative ≡ Ok (Some edge)
  pub within : EventsWithin n running.frame alternative.events
  pub counter_is : thread.counter ≡ n + (i - 1)
  pub some : 1 ≤ i
  pub among : i ≤ length (threads_running tree)
