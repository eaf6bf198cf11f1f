use Rattle.std.proofs.Common.{rules}
use Rattle.plain_elim.proofs.PointFractions.{fraction-neg}
use Rattle.plain_elim.proofs.fraction.Fraction.of.Goals as goal

pub returns-then-denominator-lt0 : goal.returns-then-denominator-lt0
returns-then-denominator-lt0 c = search (rules, fraction-neg c.args.numerator c.args.denominator)
