use Rattle.std.proofs.Common.{◌+◌, ◌<◌}
use Rattle.lin_rows.proofs.Lists.{AllByRecursion-map_at}
use Rattle.transition_formula.specs.Program.{IsFormOver}
use Rattle.transition_formula.specs.Stored.{set_of}
use Rattle.transition_formula.proofs.edges.push_sets.Goals as goal

pub push_set-requires-clause-within : goal.push_set-requires-clause-within
push_set-requires-clause-within c =
    AllByRecursion-map_at (λ set. set.0 < c.args.shape.columns) set_of c.args.sets.now
    c.sets.set-index c.set-item.result c.requires.within c.sets-test.true c.set-item.is

pub push_set-requires-clause-over : goal.push_set-requires-clause-over
push_set-requires-clause-over c =
    AllByRecursion-map_at (λ set. IsFormOver (c.args.shape.columns + c.args.shape.inputs) set.1) set_of c.args.sets.now
    c.sets.set-index c.set-item.result c.requires.over c.sets-test.true c.set-item.is
