use Rattle.std.proofs.Common.{◌≡◌, ◌++◌, take}
use Rattle.horn_rules.specs.Table.{positions_text}
use Rattle.horn_rules.proofs.lines.push_positions.Given as goal

abbrev pub invariant-loop-position : goal.invariant-loop-position
invariant-loop-position l = l.text.items ≡ l.initial.text.items ++ positions_text (take l.position-index l.held)
