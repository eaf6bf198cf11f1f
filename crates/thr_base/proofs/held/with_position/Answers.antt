use Rattle.std.proofs.Common.{◌*◌, ◌-◌, ◌^◌, ◌%◌, ◌<◌, ap, arith}
use Rattle.std.specs.Prelude.{◌==◌}
use Rattle.std.specs.Int.{w128}
use Rattle.std.proofs.lemmas.Nat.{or_lt}
use Rattle.std.proofs.lemmas.Nat.Bits.{bit_at_set_same, bit_at_set_other}
use Rattle.std.proofs.Math.Pow.{pow-lt}
use Rattle.thr_base.proofs.Positions.{bit-holds, positions-last}
use Rattle.thr_base.proofs.held.with_position.Goals as goal

pub returns-clause-there : goal.returns-clause-there
returns-clause-there c = bit-holds _ c.args.position (bit_at_set_same w128 c.args.held (c.args.position - 1) (omega (arith, c.requires.to_128)))

pub returns-clause-others : goal.returns-clause-others
returns-clause-others c k from_1 other =
    ap (λ b. b == 1) (bit_at_set_other w128 c.args.held (c.args.position - 1) (omega (arith, c.requires.to_128)) (k - 1) (omega (arith, c.requires.from_1)))

pub returns-clause-below : goal.returns-clause-below
returns-clause-below c few =
    let less : 2 ^ (c.args.position - 1) < 2 ^ c.args.position = pow-lt (omega (arith, c.requires.from_1)) in
    or_lt c.args.position c.args.held (1 * 2 ^ (c.args.position - 1) % 340282366920938463463374607431768211456) few (omega arith)

pub returns-clause-last : goal.returns-clause-last
returns-clause-last c few = positions-last c.args.held _ c.args.position c.requires.from_1 c.requires.to_128 few (returns-clause-others c) (returns-clause-there c)
