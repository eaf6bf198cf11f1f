use Rattle.transition_formula.specs.Stored.{thread_of}
use Rattle.transition_formula.proofs.Programs.{counter-within, edge-is}
use Rattle.transition_formula.proofs.edges.edge_rows.Goals as goal

pub edge_at-edge-requires : goal.edge_at-edge-requires
edge_at-edge-requires c = c.requires.edge (thread_of c.thread-thread.result.now) c.thread-thread.ensures.thread

pub rows_of-requires-clause-counter : goal.rows_of-requires-clause-counter
rows_of-requires-clause-counter c =
    (counter-within c.args.program.now c.args.i.0 (thread_of c.thread-thread.result.now) c.thread-thread.ensures.program c.thread-thread.ensures.thread).1

pub rows_of-requires-clause-edge : goal.rows_of-requires-clause-edge
rows_of-requires-clause-edge c =
    edge-is c.args.program.now c.args.i.0 c.args.e.0 (thread_of c.thread-thread.result.now) _ c.thread-thread.ensures.program c.thread-thread.ensures.thread c.edge_at-edge.ensures
