use Rattle.std.proofs.lemmas.Slice.Eq.{slice_eq-Decides}
use Rattle.std.proofs.lemmas.Bool.Decides.{Decides-eqb, Decides-int_eq}
use Rattle.annotation_form.proofs.Places.{pair-decides}
use Rattle.annotation_form.proofs.certificates.is_same.Goals as goal

pub returns : goal.returns
returns c = slice_eq-Decides (pair-decides _ _ Decides-eqb Decides-int_eq) c.args.one.now c.args.other.now c.eq.result c.eq.ensures
