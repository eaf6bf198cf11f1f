use Rattle.std.proofs.Common.{◌≡◌, Some, subst, sym, ◌∙◌, refl}
use Rattle.std.specs.Option.{IsSome}
use Rattle.transition_formula.specs.Program.{Thread, at_number}
use Rattle.transition_formula.specs.Stored.{edge_of}
use Rattle.pending_instances.proofs.Edges.{home_numbered-there, source_home, target_home}
use Rattle.pending_instances.proofs.layouts.seen_edge.Goals as goal

pub edge-found-requires-clause-thread : goal.edge-found-requires-clause-thread
edge-found-requires-clause-thread c =
    let has = c.locations_and_edges_are_homes.ensures.told c.args.program.now c.args.thread.0 c.args.edge.0 (home_numbered-there c.args.program.now c.args.told.0 _ c.requires) in
    subst IsSome (sym has.2.thread_is) refl

pub edge-found-requires-clause-edge : goal.edge-found-requires-clause-edge
edge-found-requires-clause-edge c thread is =
    let has = c.locations_and_edges_are_homes.ensures.told c.args.program.now c.args.thread.0 c.args.edge.0 (home_numbered-there c.args.program.now c.args.told.0 _ c.requires) in
    let both : Some has.0 ≡ Some thread = sym has.2.thread_is ∙ is in
    let same : has.0 ≡ thread = cc in
    let Some_edge : Thread → Type 0 = λ t. IsSome (at_number t.edges c.args.edge.0) in
    subst Some_edge same (subst IsSome (sym has.2.edge_is) refl)

pub number-source-requires : goal.number-source-requires
number-source-requires c =
    let has = c.locations_and_edges_are_homes.ensures.told c.args.program.now c.args.thread.0 c.args.edge.0 (home_numbered-there c.args.program.now c.args.told.0 _ c.requires) in
    source_home c.locations_and_edges_are_homes.ensures.locations c.args.program.now c.args.thread.0 c.args.edge.0 has.0 (edge_of c.edge-found.result.now) c.threads-threads.ensures.program
    (record { thread_is = has.2.thread_is; edge_is = c.edge-found.ensures has.0 has.2.thread_is })

pub number-target-requires : goal.number-target-requires
number-target-requires c =
    let has = c.locations_and_edges_are_homes.ensures.told c.args.program.now c.args.thread.0 c.args.edge.0 (home_numbered-there c.args.program.now c.args.told.0 _ c.requires) in
    target_home c.locations_and_edges_are_homes.ensures.locations c.args.program.now c.args.thread.0 c.args.edge.0 has.0 (edge_of c.edge-found.result.now) c.threads-threads.ensures.program
    (record { thread_is = has.2.thread_is; edge_is = c.edge-found.ensures has.0 has.2.thread_is })

pub returns : goal.returns
returns c =
    let has = c.locations_and_edges_are_homes.ensures.told c.args.program.now c.args.thread.0 c.args.edge.0 (home_numbered-there c.args.program.now c.args.told.0 _ c.requires) in
    record {
      is_seen = record {
        thread = has.0;
        edge = edge_of c.edge-found.result.now;
        edge_is = record { thread_is = has.2.thread_is; edge_is = c.edge-found.ensures has.0 has.2.thread_is };
        source = c.number-source.ensures;
        target = c.number-target.ensures;
        told = c.requires;
      };
      number = refl;
    }
