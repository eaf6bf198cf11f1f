use Rattle.std.proofs.Common.{take}
use Rattle.horn_rules.specs.Fact.{atoms_at}
use Rattle.annotation_form.specs.Passes.{CertificatesProve}
use Rattle.annotation_check.specs.inside.Cases.{told_by}
use Rattle.annotation_check.proofs.entailed.entails_each.Given as goal

abbrev pub invariant-loop-place : goal.invariant-loop-place
invariant-loop-place l = CertificatesProve l.annotation (told_by l.stored) (take l.place l.certificates) (take l.place (atoms_at l.atoms l.positions.items))
