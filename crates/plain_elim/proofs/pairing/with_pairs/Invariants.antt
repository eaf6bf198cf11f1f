use Rattle.std.proofs.Common.{◌≡◌, ◌++◌, map, drop}
use Rattle.std.specs.Option.{option_map}
use Rattle.farkas_cert.specs.Elimination.{every, paired_line, negatives}
use Rattle.plain_elim.proofs.pairing.with_pairs.Given as goal

abbrev pub invariant-loop-negative : goal.invariant-loop-negative
invariant-loop-negative l =
    option_map (λ rest. l.lines.items ++ rest) (every (map (paired_line l.column l.positive) (negatives l.column (drop l.negative-index l.kept))))
    ≡ option_map (λ pairs. l.fn.lines.items ++ pairs) (every (map (paired_line l.column l.positive) (negatives l.column l.kept)))
