-- What is found of a thread.
use Rattle.std.specs.Prelude.{◌≡◌, ℕ, [], map}
use Rattle.c_check.specs.First.{first_of}
use Rattle.transition_formula.specs.Stored.{edge_of}
use Rattle.thread_cfg.specs.declared.thread.Found.{Found}
use Rattle.thread_cfg.specs.Threads.{Running}
use Rattle.thread_cfg.specs.Graph.{actions_of, edges_from, locations_of, thread_refusals}

-- The first refusal of a thread is found, or where there is none its locations and edges.
pub record IsFoundOf (columns : ℕ) (t : Running) (found : Found) : Type 0 where
  pub refusal_is : found.refusal ≡ first_of (thread_refusals columns t)
  pub locations_are : thread_refusals columns t ≡ [] → found.locations ≡ locations_of t
  pub edges_are : thread_refusals columns t ≡ [] → map edge_of found.edges.items ≡ edges_from columns t.frame 1 (actions_of t)
