use Rattle.transition_formula.specs.Stored.{edge_of}
use Rattle.transition_formula.proofs.Lookups.{numbered-mapped}
use Rattle.transition_formula.proofs.edges.edge_at.Goals as goal

pub returns : goal.returns
returns c = numbered-mapped edge_of c.args.thread.now.edges.items c.args.e.0 c.index.result.now c.requires c.index.ensures
