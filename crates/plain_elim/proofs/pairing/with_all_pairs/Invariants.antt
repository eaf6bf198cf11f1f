use Rattle.std.proofs.Common.{◌≡◌, ◌++◌, drop}
use Rattle.std.specs.Option.{option_map}
use Rattle.farkas_cert.specs.Elimination.{positives}
use Rattle.plain_elim.specs.inside.Stages.{pairs_of}
use Rattle.plain_elim.proofs.pairing.with_all_pairs.Given as goal

abbrev pub invariant-loop-positive : goal.invariant-loop-positive
invariant-loop-positive l =
    option_map (λ rest. l.lines.items ++ rest) (pairs_of l.column l.kept (positives l.column (drop l.positive-index l.kept)))
    ≡ option_map (λ pairs. l.fn.lines.items ++ pairs) (pairs_of l.column l.kept (positives l.column l.kept))
