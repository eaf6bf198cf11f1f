use Rattle.std.proofs.Common.{◌≡◌, ◌++◌, map}
use Rattle.std.specs.Option.{option_map}
use Rattle.std.specs.Vec.Iter.{into_iter_items}
use Rattle.farkas_cert.specs.Elimination.{every, substituted_line}
use Rattle.plain_elim.proofs.substitution.substituted_lines.Given as goal

abbrev pub invariant-loop-line : goal.invariant-loop-line
invariant-loop-line l =
    option_map (λ rest. l.all.items ++ rest) (every (map (substituted_line l.column l.equality) (into_iter_items l.line-iterator)))
    ≡ every (map (substituted_line l.column l.equality) l.fn.lines.items)
