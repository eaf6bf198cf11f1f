use Rattle.std.proofs.Common.{◌≡◌, ◌∙◌, to_z, of_z, to_z-of_z, arith}
use Rattle.std.specs.Int.{w128}
use Rattle.std.proofs.lemmas.Int.{ints}
use Rattle.farkas_cert.proofs.Combinations.{divided_already, divided_is}
use Rattle.farkas_cert.proofs.combination.divide.Goals as goal

pub returns-then-divisor-gt1 : goal.returns-then-divisor-gt1
returns-then-divisor-gt1 c =
    let d = c.divisor_of-divisor.result in
    let read : to_z w128 (of_z w128 d) ≡ d = to_z-of_z {w = w128} record { sfits = c.divisor_of-divisor.type_inv } in
    divided_is c.args.numbers.now _ _ (read ∙ c.divisor_of-divisor.ensures) c.divide_by.ensures

pub returns-else-divisor-gt1 : goal.returns-else-divisor-gt1
returns-else-divisor-gt1 c = divided_already c.args.numbers.now (omega (arith, ints, c.divisor_of-divisor.ensures))
