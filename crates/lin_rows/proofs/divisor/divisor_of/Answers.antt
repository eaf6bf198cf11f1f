use Rattle.std.proofs.Common.{arith}
use Rattle.std.proofs.lemmas.Int.{ints, to_z_pos}
use Rattle.std.specs.Int.{w128}
use Rattle.lin_rows.proofs.Divisors.{gcd_of-fits}
use Rattle.lin_rows.proofs.divisor.divisor_of.Goals as goal

pub overflow_cast-result : goal.overflow_cast-result
overflow_cast-result c =
    let fits = gcd_of-fits c.args.numbers.now c.requires in
    omega (arith, ints, fits, c.size_of_divisor.ensures)

pub returns : goal.returns
returns c =
    let fits = gcd_of-fits c.args.numbers.now c.requires in
    rw c.size_of_divisor.ensures (to_z_pos w128 _ fits)
