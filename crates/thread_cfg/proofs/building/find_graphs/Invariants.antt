-- What was found so far is what there is of the first threads.
use Rattle.std.proofs.Common.{◌≡◌, length, take}
use Rattle.c_tree.specs.Plain as plain
use Rattle.c_check.specs.Columns.{columns_of}
use Rattle.thread_cfg.specs.Threads.{threads_running}
use Rattle.thread_cfg.specs.inside.Built.{AreFound}
use Rattle.thread_cfg.specs.inside.Known.{IsKnownPlan}
use Rattle.thread_cfg.proofs.building.find_graphs.Given as goal

abbrev pub invariant-loop-thread : goal.invariant-loop-thread
invariant-loop-thread l = record {
  at : l.i ≡ l.thread-index;
  found : (tree : plain.Tree) → IsKnownPlan tree l.fn.plan
      → AreFound (length (columns_of tree)) (length (threads_running tree)) (take l.i (threads_running tree)) l.found.graphs.items l.found.refusal;
}
