-- What is found of the threads of a plan, one after another.
use Rattle.std.specs.Prelude.{◌≡◌, ℕ, List, [], map, flat_map, Option}
use Rattle.thr_base.specs.declared.stops.Refusal.{Refusal}
use Rattle.c_check.specs.First.{first_of}
use Rattle.transition_formula.specs.Stored.{thread_of}
use Rattle.transition_formula.specs.declared.graph.ThreadGraph.{ThreadGraph}
use Rattle.thread_cfg.specs.Threads.{Running}
use Rattle.thread_cfg.specs.Graph.{thread_graph, thread_refusals}

-- Of these threads the first refusal was found, or where there is none their graphs.
pub record AreFound (columns threads : ℕ) (ts : List Running) (graphs : List ThreadGraph) (refusal : Option Refusal) : Type 0 where
  pub refusal_is : refusal ≡ first_of (flat_map (thread_refusals columns) ts)
  pub graphs_are : flat_map (thread_refusals columns) ts ≡ [] → map thread_of graphs ≡ map (thread_graph columns threads) ts
