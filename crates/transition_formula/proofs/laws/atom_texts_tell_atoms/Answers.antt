use Rattle.transition_formula.proofs.AtomsTold.{atoms-told}
use Rattle.transition_formula.proofs.PrintableTexts.{atoms-printable, column-words}
use Rattle.transition_formula.proofs.laws.atom_texts_tell_atoms.Goals as goal

pub returns : goal.returns
returns c = record { atoms = atoms-told; printable = atoms-printable; columns = column-words }
