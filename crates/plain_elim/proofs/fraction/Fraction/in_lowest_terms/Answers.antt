use Rattle.std.proofs.Common.{rules}
use Rattle.plain_elim.proofs.PointFractions.{IsFraction-parts}
use Rattle.plain_elim.proofs.fraction.Fraction.in_lowest_terms.Goals as goal
use Rattle.farkas_cert.proofs.Reduced.{fraction-parts}

pub invariant_of-result : goal.invariant_of-result
invariant_of-result c =
    search (rules, IsFraction-parts c.args.numerator c.args.denominator c.requires.numerator c.requires.denominator c.requires.positive)

pub returns : goal.returns
returns c = search (rules, fraction-parts c.args.numerator c.args.denominator c.requires.positive)
