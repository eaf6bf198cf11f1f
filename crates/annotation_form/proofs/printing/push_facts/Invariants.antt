use Rattle.std.proofs.Common.{◌≡◌, ◌++◌, map, take}
use Rattle.horn_rules.specs.Stored.{facts_of}
use Rattle.annotation_form.specs.AnnotationText.{Listed}
use Rattle.annotation_form.specs.inside.Printing.{shown}
use Rattle.annotation_form.proofs.printing.push_facts.Given as goal

abbrev pub invariant-loop-fact : goal.invariant-loop-fact
invariant-loop-fact l = l.text.items ≡ l.initial.text.items ++ shown l.program (map Listed (facts_of l.program (take l.fact-index l.facts)))
