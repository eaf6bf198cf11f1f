use Rattle.std.proofs.Common.{◌≡◌, ◌++◌}
use Rattle.std.specs.Vec.Iter.{into_iter_items}
use Rattle.farkas_cert.specs.Elimination.{with_column, without_column}
use Rattle.plain_elim.proofs.pair_stage.split.Given as goal

abbrev pub invariant-loop-line : goal.invariant-loop-line
invariant-loop-line l =
    (l.with.items ++ with_column l.column (into_iter_items l.line-iterator) ≡ with_column l.column l.fn.lines.items)
    × (l.without.items ++ without_column l.column (into_iter_items l.line-iterator) ≡ without_column l.column l.fn.lines.items)
