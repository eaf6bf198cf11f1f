use Rattle.std.proofs.Common.{ap}
use Rattle.plain_elim.proofs.Firsts.{lowest_column-first}
use Rattle.plain_elim.proofs.line.Line.lowest_column.Goals as goal

pub returns : goal.returns
returns c =
    lowest_column-first c.args.columns c.self.inside.first c.min.result c.self.inside.numbers.items c.args.self.now c.self.invariant.first_is c.min.ensures (ap (λ line. line.numbers) c.self.view_is)
