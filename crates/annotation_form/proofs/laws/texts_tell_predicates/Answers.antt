use Rattle.annotation_form.proofs.TextsTold.{texts-told}
use Rattle.annotation_form.proofs.laws.texts_tell_predicates.Goals as goal

pub returns : goal.returns
returns c = texts-told c.atom_texts_tell_atoms.ensures.atoms
