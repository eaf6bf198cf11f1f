use Rattle.std.proofs.Common.{◌≡◌, length, subst, arith}
use Rattle.horn_rules.specs.Home.{homes}
use Rattle.horn_rules.specs.Stored.{home_of}
use Rattle.pending_instances.proofs.Edges.{AreEdgesUpTo, edges_seen, one_more_up_to}
use Rattle.pending_instances.proofs.layouts.seen_edges.Goals as goal

pub loop-place-preserved : goal.loop-place-preserved
loop-place-preserved c =
    one_more_up_to c.args.program.now c.loop-place.place (home_of c.named.result) c.loop-place.made.items c.push_edge.new.made.items c.loop-place.invariant c.named.ensures c.in_ok-push_edge.ensures

pub returns-clause-edges : goal.returns-clause-edges
returns-clause-edges c =
    let Up_to : _ → Type 0 = λ n. AreEdgesUpTo c.args.program.now n c.loop-place.made.items in
    let all : c.loop-place.place ≡ length (homes c.args.program.now) = omega arith in
    edges_seen c.locations_and_edges_are_homes.ensures.edges c.args.program.now c.loop-place.made.items (subst Up_to all c.loop-place.invariant)
