use Rattle.std.proofs.Common.{take}
use Rattle.annotation_form.specs.Annotation.{instances_of}
use Rattle.annotation_form.specs.Passes.{AllProve}
use Rattle.annotation_check.proofs.checking.first_unproved.Given as goal

abbrev pub invariant-loop-place : goal.invariant-loop-place
invariant-loop-place l = AllProve l.program l.annotation (take l.place (instances_of l.program l.annotation)) (take l.place l.annotation.groups)
