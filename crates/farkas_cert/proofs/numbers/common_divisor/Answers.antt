use Rattle.std.proofs.Common.{◌≡◌, to_z, of_z, pos, rules}
use Rattle.std.specs.Prelude.{unsigned_abs}
use Rattle.std.specs.Int.{w128}
use Rattle.lin_rows.specs.Gcd.{gcd}
use Rattle.farkas_cert.proofs.Eliminates.{gcd_positive, positive_abs}
use Rattle.farkas_cert.proofs.numbers.common_divisor.Goals as goal

pub returns-clause-positive : goal.returns-clause-positive
returns-clause-positive c =
    let divisor : to_z w128 (of_z w128 c.divisor_of.result) ≡ pos (gcd (unsigned_abs c.args.number) (unsigned_abs c.args.positive)) = search rules in
    rw divisor (gcd_positive (unsigned_abs c.args.number) (unsigned_abs c.args.positive) (positive_abs c.args.positive c.requires.positive))
