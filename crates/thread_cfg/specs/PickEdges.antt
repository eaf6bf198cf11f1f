-- The edge of a path of an atomic body steps where a way takes what the path picks.
use Rattle.std.specs.Prelude.{◌≡◌, ◌↔◌, ◌≤◌, ℕ, ◌+◌, ◌-◌, ℤ, List, length, slice_set, Contains, Some, None, Ok}
use Rattle.c_check.specs.Plan.{Stmts}
use Rattle.c_check.specs.Items.{Grain, items}
use Rattle.transition_formula.specs.Program.{Edge, Thread, at_number}
use Rattle.transition_formula.specs.Step.{Steps}
use Rattle.thread_cfg.specs.Source.{Frame, WayEnd}
use Rattle.thread_cfg.specs.Happen.{end_of}
use Rattle.thread_cfg.specs.Action.{path_alternative, path_target}
use Rattle.thread_cfg.specs.Edge.{alternative_edge}
use Rattle.thread_cfg.specs.SameSteps.{state_of}
use Rattle.thread_cfg.specs.Picks.{PickedPath, Takes, arrived, block_picked}
use Rattle.thread_cfg.specs.Within.{EventsWithin}

-- A thread steps by the edge of a path, with some inputs, exactly where a way takes just the picks of the path and just these inputs;
-- the step leaves the values that the way comes to. There are n variables and locks and k threads, of which this is the i-th, from 1,
-- and it stands at the edge's location.
abbrev pub PathEdgesTellWays : Type 0
PathEdgesTellWays = (n k i at next : ℕ) (frame : Frame) (inner : Stmts) (p : PickedPath) (edge : Edge) (thread : Thread)
    (values after : List ℤ) (locations : List ℕ) (inputs : List ℤ)
    → Contains (block_picked inner) p → EventsWithin n frame p.path.events
    → alternative_edge (n + k) frame at (path_alternative next p.path) ≡ Ok (Some edge)
    → thread.counter ≡ n + (i - 1) → 1 ≤ i → i ≤ k
    → length values ≡ n → length locations ≡ k → at_number locations i ≡ Some at
    → Steps thread edge (state_of values locations) inputs (state_of after (slice_set locations (i - 1) (path_target next p.path.fails)))
    ↔ Takes frame values (items Grain.Whole inner) p.picks inputs (arrived after) (end_of p.path)

-- No way takes what a path picks that has no edge.
abbrev pub EdgelessPathsHaveNoWay : Type 0
EdgelessPathsHaveNoWay = (n k at next : ℕ) (frame : Frame) (inner : Stmts) (p : PickedPath) (values after inputs : List ℤ) (end : WayEnd)
    → Contains (block_picked inner) p → EventsWithin n frame p.path.events
    → alternative_edge (n + k) frame at (path_alternative next p.path) ≡ Ok None → length values ≡ n
    → ¬ Takes frame values (items Grain.Whole inner) p.picks inputs (arrived after) end
