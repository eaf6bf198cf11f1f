-- Where the actions of a thread stand in the text.
use Rattle.std.specs.Prelude.{◌≡◌, ℕ, ◌+◌, List, length, map, Some}
use Rattle.c_tree.specs.Plain as plain
use Rattle.transition_formula.specs.Program.{at_number}
use Rattle.thread_cfg.specs.Action.{Action}
use Rattle.thread_cfg.specs.Threads.{Running, threads_running}
use Rattle.thread_cfg.specs.Graph.{actions_of, locations_of}

-- the place of the first token of each location's action, from location 1 on
abbrev pub location_places : Running → List ℕ
location_places t = map (λ action. action.from) (actions_of t)

-- The places of the i-th thread that runs: one for each of its locations from 1 on but the last one, where the thread has ended; each is
-- that of the first token of the action at its location.
pub record ArePlacesOf (tree : plain.Tree) (i : ℕ) (places : List ℕ) : Type 0 where
  pub running : Running
  pub running_is : at_number (threads_running tree) i ≡ Some running
  pub one_each : length places + 2 ≡ locations_of running
  pub at_each : (l : ℕ) (action : Action) → at_number (actions_of running) l ≡ Some action → at_number places l ≡ Some action.from
