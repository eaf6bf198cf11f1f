use Rattle.std.proofs.Common.{rules}
use Rattle.tableau_elim.proofs.Multiples.{value_parts}
use Rattle.tableau_elim.proofs.point.reduced_value.Goals as goal
use Rattle.farkas_cert.proofs.Reduced.{fraction-parts}

pub returns-clause-value : goal.returns-clause-value
returns-clause-value c = search (rules, fraction-parts c.args.sum c.args.divisor c.requires.positive)

pub returns-clause-known : goal.returns-clause-known
returns-clause-known c = search (rules, value_parts c.args.sum c.args.divisor c.requires.sum c.requires.fits c.requires.positive)
