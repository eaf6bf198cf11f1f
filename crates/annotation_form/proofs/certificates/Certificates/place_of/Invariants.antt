use Rattle.annotation_form.proofs.Places.{NoneBelow}
use Rattle.annotation_form.proofs.certificates.Certificates.place_of.Given as goal

abbrev pub invariant-loop-place : goal.invariant-loop-place
invariant-loop-place l = NoneBelow l.self l.pairs l.place
