use Rattle.serial_fix.proofs.Instances.{edge-is}
use Rattle.serial_fix.proofs.run.edge_at.Goals as goal

pub returns : goal.returns
returns c = edge-is c.args.program.now c.args.i.0 c.args.e.0 c.edges.result.now c.index-edges-e.result c.edges.ensures c.index-edges-e.is
