use Rattle.std.proofs.Common.{◌≡◌, map, take}
use Rattle.horn_rules.specs.Stored.{facts_of}
use Rattle.horn_rules.specs.inside.Lines.{fact_of_line}
use Rattle.horn_rules.proofs.lines.lines_of.Given as goal

abbrev pub invariant-loop-fact : goal.invariant-loop-fact
invariant-loop-fact l = map fact_of_line l.lines.items ≡ facts_of l.program (take l.fact-index l.facts)
