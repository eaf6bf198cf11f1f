use Rattle.std.proofs.Common.{◌≡◌, ◌++◌}
use Rattle.std.specs.Prelude.{filter}
use Rattle.std.specs.Vec.Iter.{into_iter_items}
use Rattle.farkas_cert.specs.Line.{has_variable}
use Rattle.plain_elim.proofs.constant_test.with_variable.Given as goal

abbrev pub invariant-loop-line : goal.invariant-loop-line
invariant-loop-line l = l.kept.items ++ filter (has_variable l.columns) (into_iter_items l.line-iterator) ≡ filter (has_variable l.columns) l.fn.lines.items
