use Rattle.std.proofs.Common.{◌≡◌, ◌++◌, map, take}
use Rattle.std.specs.List.{flat_map}
use Rattle.annotation_form.specs.Annotation.{group_of}
use Rattle.annotation_form.specs.AnnotationText.{group_lines}
use Rattle.annotation_form.specs.inside.Printing.{shown}
use Rattle.annotation_form.proofs.printing.push_groups.Given as goal

abbrev pub invariant-loop-group : goal.invariant-loop-group
invariant-loop-group l = l.text.items ≡ l.initial.text.items ++ shown l.program (flat_map (group_lines l.annotation.certificates) (map group_of (take l.group-index l.groups)))
