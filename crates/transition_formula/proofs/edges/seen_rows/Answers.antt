use Rattle.transition_formula.specs.Stored.{thread_of}
use Rattle.transition_formula.proofs.Programs.{counter-within}
use Rattle.transition_formula.proofs.edges.seen_rows.Goals as goal

pub edge_at-edge-requires : goal.edge_at-edge-requires
edge_at-edge-requires c = c.requires.edge (thread_of c.thread-thread.result.now) c.thread-thread.ensures.thread

pub seen_rows_of-requires-clause-counter : goal.seen_rows_of-requires-clause-counter
seen_rows_of-requires-clause-counter c =
    (counter-within c.args.program.now c.args.i.0 (thread_of c.thread-thread.result.now) c.thread-thread.ensures.program c.thread-thread.ensures.thread).1
