use Rattle.annotation_form.proofs.WholeLaws.{whole-of-program, named-there}
use Rattle.annotation_form.proofs.laws.whole_annotations_are_of_their_program.Goals as goal

pub returns : goal.returns
returns c = record { of_program = whole-of-program; named = named-there }
