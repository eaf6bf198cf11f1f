use Rattle.annotation_form.proofs.Passing.{passing-covers}
use Rattle.annotation_form.proofs.laws.passing_annotations_cover.Goals as goal

pub returns : goal.returns
returns c = passing-covers
