-- When all threads were looked at, what was found is what there is of all.
use Rattle.std.proofs.Common.{◌≡◌, length, take, subst, ap, arith}
use Rattle.std.proofs.lemmas.List.{take_all}
use Rattle.c_check.specs.Columns.{columns_of}
use Rattle.thread_cfg.specs.Threads.{threads_running}
use Rattle.thread_cfg.specs.inside.Built.{AreFound}
use Rattle.thread_cfg.proofs.RunningThreads.{threads-running}
use Rattle.thread_cfg.proofs.building.find_graphs.Goals as goal

pub returns : goal.returns
returns c = λ tree known.
    let threads = threads-running tree c.args.plan.now known.plan_is known.well_formed in
    let items = ap length c.as_slice-thread-items.ensures in
    let count : c.loop-thread.i ≡ length (threads_running tree) =
    omega (arith, c.loop-thread.invariant.at, c.loop-thread-test.false, c.loop-thread.auto.thread-index-end, items, threads) in
    subst (λ ts. AreFound (length (columns_of tree)) (length (threads_running tree)) ts c.loop-thread.found.graphs.items c.loop-thread.found.refusal) (take_all (length (threads_running tree)) (threads_running tree) (omega arith))
    (subst (λ m. AreFound (length (columns_of tree)) (length (threads_running tree)) (take m (threads_running tree)) c.loop-thread.found.graphs.items c.loop-thread.found.refusal) count
    (c.loop-thread.invariant.found tree known))
