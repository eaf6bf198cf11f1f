use Rattle.std.proofs.Common.{◌≡◌, Some, sym, subst}
use Rattle.transition_formula.specs.Program.{at_number}
use Rattle.transition_formula.specs.Stored.{edge_of, thread_of}
use Rattle.transition_formula.proofs.Lookups.{numbered-one}
use Rattle.transition_formula.proofs.program.Program.edge.Goals as goal

pub edge_at-requires : goal.edge_at-requires
edge_at-requires c = c.requires.edge (thread_of c.thread.result.now) c.thread.ensures.thread

pub returns : goal.returns
returns c thread at =
    let same = numbered-one c.args.self.now.threads c.args.i.0 (thread_of c.thread.result.now) thread c.thread.ensures.thread at in
    subst (λ found. at_number found.edges c.args.e.0 ≡ Some (edge_of c.edge_at.result.now)) same c.edge_at.ensures
