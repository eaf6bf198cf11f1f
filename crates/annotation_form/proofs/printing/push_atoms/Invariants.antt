use Rattle.std.proofs.Common.{◌≡◌, ◌++◌, map, take}
use Rattle.horn_rules.specs.Stored.{home_of}
use Rattle.annotation_form.specs.AnnotationText.{Holds}
use Rattle.annotation_form.specs.inside.Printing.{shown}
use Rattle.annotation_form.proofs.printing.push_atoms.Given as goal

abbrev pub invariant-loop-atom : goal.invariant-loop-atom
invariant-loop-atom l = l.text.items ≡ l.initial.text.items ++ shown l.program (map (λ atom. Holds (record { home = home_of l.home; atom = atom })) (take l.atom-index l.atoms))
