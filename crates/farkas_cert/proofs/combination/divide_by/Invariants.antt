use Rattle.std.proofs.Common.{◌≡◌, map, take, drop}
use Rattle.std.specs.Int.{int_div_euclid}
use Rattle.farkas_cert.proofs.combination.divide_by.Given as goal

abbrev pub invariant-loop-number : goal.invariant-loop-number
invariant-loop-number l =
    (take l.number-index l.numbers ≡ map (λ x. int_div_euclid x l.divisor) (take l.number-index l.fn.numbers))
    × (drop l.number-index l.numbers ≡ drop l.number-index l.fn.numbers)
