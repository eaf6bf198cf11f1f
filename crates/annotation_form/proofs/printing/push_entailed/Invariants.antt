use Rattle.std.proofs.Common.{◌≡◌, ◌++◌, map, take}
use Rattle.annotation_form.specs.AnnotationText.{Entails, certificate_at}
use Rattle.annotation_form.specs.inside.Printing.{shown}
use Rattle.annotation_form.proofs.printing.push_entailed.Given as goal

abbrev pub invariant-loop-n : goal.invariant-loop-n
invariant-loop-n l = l.text.items ≡ l.initial.text.items ++ shown l.program (map (λ c. Entails (certificate_at l.annotation.certificates c)) (take l.n-index l.numbers))
