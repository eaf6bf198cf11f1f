use Rattle.std.proofs.Common.{◌≡◌, map, take, drop}
use Rattle.std.specs.Prelude.{◌*ℤ◌, neg_ℤ}
use Rattle.std.specs.Int.{int_signum}
use Rattle.tableau_elim.proofs.numbers.turn.Given as goal

abbrev pub invariant-loop-number : goal.invariant-loop-number
invariant-loop-number l =
    (take l.number-index l.numbers ≡ map (λ x. neg_ℤ (int_signum l.p) *ℤ x) (take l.number-index l.fn.numbers))
    × (drop l.number-index l.numbers ≡ drop l.number-index l.fn.numbers)
