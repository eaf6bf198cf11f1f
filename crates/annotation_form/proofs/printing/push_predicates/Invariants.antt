use Rattle.std.proofs.Common.{◌≡◌, ◌++◌, drop}
use Rattle.horn_rules.specs.Home.{homes}
use Rattle.annotation_form.specs.AnnotationText.{predicate_lines}
use Rattle.annotation_form.specs.inside.Printing.{shown}
use Rattle.annotation_form.proofs.printing.push_predicates.Given as goal

abbrev pub invariant-loop-n : goal.invariant-loop-n
invariant-loop-n l = l.text.items ++ shown l.program (predicate_lines (drop l.n (homes l.program)) (drop l.n l.sets)) ≡ l.initial.text.items ++ shown l.program (predicate_lines (homes l.program) l.sets)
