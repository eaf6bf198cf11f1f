-- The program of a text: its columns, and for each thread that runs its locations and edges; and when there is none, because a limit is
-- passed or a product or sum does not fit.
use Rattle.std.specs.Prelude.{◌≡◌, ℕ, ◌+◌, ◌-◌, nat_lt, Bool, ◌||◌, if◌then◌else◌, List, [], ◌∷◌, ◌++◌, length, map, flat_map, Contains, Option, Some, None, Result, Ok, Err}
use Rattle.std.specs.List.{list_any}
use Rattle.thr_base.specs.declared.stops.Refusal.{Refusal}
use Rattle.thr_base.specs.declared.stops.Stop.{Stop}
use Rattle.thr_base.specs.Limits.{most_locations, most_paths, most_tests}
use Rattle.thr_base.specs.Refusals.{IsFirst, MatchStop, coefficient, too_many}
use Rattle.c_tree.specs.Plain as plain
use Rattle.c_check.specs.Columns.{columns_of}
use Rattle.transition_formula.specs.Program.{Edge, Program, Thread}
use Rattle.thread_cfg.specs.Source.{Frame}
use Rattle.thread_cfg.specs.Threads.{Running, threads_running}
pub use Rattle.thread_cfg.specs.Columns.{program_column}
use Rattle.thread_cfg.specs.Action.{Action, Alternative, exit_of, thread_actions}
use Rattle.thread_cfg.specs.Edge.{alternative_edge}

-- ---- actions

-- the actions of a thread: its temporaries stand behind the locals of its function
abbrev pub actions_of : Running → List Action
actions_of t = thread_actions t.frame (length t.function.locals) t.function.body

-- ---- edges

-- the edge, where one is made
abbrev pub edge_made : Result (Option Edge) ℕ → List Edge
edge_made (Ok (Some edge)) = edge ∷ []
edge_made (Ok None) = []
edge_made (Err from) = []

-- the edges of an action at this location, in the order of its alternatives
abbrev pub action_edges : ℕ → Frame → ℕ → Action → List Edge
action_edges columns frame at action = flat_map (λ a. edge_made (alternative_edge columns frame at a)) action.alternatives

-- the edges of actions, the first of which is at this location: in the order of the locations, and at each of its alternatives
abbrev pub edges_from : ℕ → Frame → ℕ → List Action → List Edge
edges_from columns frame at [] = []
edges_from columns frame at (action ∷ actions) = action_edges columns frame at action ++ edges_from columns frame (at + 1) actions

-- ---- refusals

-- the refusal of what does not fit
abbrev pub unfit : Result (Option Edge) ℕ → List Refusal
unfit (Ok made) = []
unfit (Err from) = record { code = coefficient; place = from } ∷ []

-- more happens on it than an edge may have tests or inputs
abbrev pub is_long : Alternative → Bool
is_long a = nat_lt most_tests (length a.events)

-- an atomic block with more paths than a location may have, or a path on which too much happens
abbrev pub is_too_large : Action → Bool
is_too_large action = nat_lt most_paths (length action.alternatives) || list_any is_long action.alternatives

-- The block is too large, which is said at its first word; or expressions or comparisons have numbers that do not fit.
abbrev pub action_refusals : ℕ → Frame → ℕ → Action → List Refusal
action_refusals columns frame at action =
    if is_too_large action then record { code = too_many; place = action.from } ∷ []
    else flat_map (λ a. unfit (alternative_edge columns frame at a)) action.alternatives

-- the refusals of actions, the first of which is at this location
abbrev pub refusals_from : ℕ → Frame → ℕ → List Action → List Refusal
refusals_from columns frame at [] = []
refusals_from columns frame at (action ∷ actions) = action_refusals columns frame at action ++ refusals_from columns frame (at + 1) actions

-- how many locations a thread has, that of failing and the last one among them
abbrev pub locations_of : Running → ℕ
locations_of t = exit_of t.function.body + 1

-- A thread with too many locations is refused at the name of its function, which stands in front of all that it does.
abbrev pub thread_refusals : ℕ → Running → List Refusal
thread_refusals columns t =
    if nat_lt most_locations (locations_of t) then record { code = too_many; place = t.function.from } ∷ []
    else refusals_from columns t.frame 1 (actions_of t)

-- the refusals of a text: those of each thread that runs
abbrev pub refusals_of : plain.Tree → List Refusal
refusals_of tree = flat_map (thread_refusals (length (columns_of tree))) (threads_running tree)

-- ---- the program

-- a thread, of so many; the counters are the last columns
abbrev pub thread_graph : ℕ → ℕ → Running → Thread
thread_graph columns threads t = record {
  counter = (columns - threads) + t.frame.thread - 1;
  locations = locations_of t;
  edges = edges_from columns t.frame 1 (actions_of t);
}

-- the program of a text: its columns, and the threads that run
abbrev pub program_of : plain.Tree → Program
program_of tree = record {
  columns = map program_column (columns_of tree);
  threads = map (thread_graph (length (columns_of tree)) (length (threads_running tree))) (threads_running tree);
}

-- When each answer comes: a program where there is nothing to refuse, or else the first refusal.
abbrev pub IsBuildAnswer : plain.Tree → Result Program Stop → Type 0
IsBuildAnswer tree answer = MatchStop answer (λ program. (refusals_of tree ≡ []) × (program ≡ program_of tree)) (IsFirst (Contains (refusals_of tree)))
