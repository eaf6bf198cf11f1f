use Rattle.std.proofs.Common.{◌≡◌, ◌++◌, map, take}
use Rattle.std.specs.List.{flat_map}
use Rattle.horn_rules.specs.inside.Lines.{fact_of_line}
use Rattle.horn_rules.specs.Table.{fact_line}
use Rattle.horn_rules.proofs.lines.push_lines.Given as goal

abbrev pub invariant-loop-line : goal.invariant-loop-line
invariant-loop-line l = l.text.items ≡ l.initial.text.items ++ flat_map fact_line (map fact_of_line (take l.line-index l.lines))
