use Rattle.std.proofs.Common.{rules}
use Rattle.horn_rules.proofs.HomesThere.{state-thread}
use Rattle.annotation_form.proofs.listing.edges_from.Goals as goal

pub edges-requires : goal.edges-requires
edges-requires c = state-thread c.args.program.now c.in-State.i.0 c.in-State.l.0 (search rules)
