use Rattle.std.proofs.Common.{◌≡◌, ◌++◌, drop}
use Rattle.std.specs.Option.{option_map}
use Rattle.farkas_cert.specs.Combination.{combined_numbers}
use Rattle.plain_elim.proofs.combination.combined_numbers.Given as goal

abbrev pub invariant-places : goal.invariant-places
invariant-places l =
    option_map (λ rest. l.numbers.items ++ rest) (combined_numbers l.a (drop l.place l.left) l.b (drop l.place l.right)) ≡ combined_numbers l.a l.left l.b l.right
