use Rattle.std.proofs.Common.{◌≡◌, ◌++◌, take}
use Rattle.annotation_form.specs.AnnotationText.{pairs_text}
use Rattle.annotation_form.proofs.printing.push_pairs.Given as goal

abbrev pub invariant-loop-pair : goal.invariant-loop-pair
invariant-loop-pair l = l.text.items ≡ l.initial.text.items ++ pairs_text (take l.pair-index l.pairs)
