use Rattle.std.proofs.Common.{sym, ap, ◌∙◌, get_or}
use Rattle.std.specs.Prelude.{Some}
use Rattle.std.proofs.lemmas.Option.{slice_get-get_or}
use Rattle.lin_rows.proofs.Lists.{AllByRecursion-at}
use Rattle.annotation_check.specs.inside.Proving.{IsNumberOf}
use Rattle.annotation_check.proofs.Lists.{numbered-or}
use Rattle.annotation_check.proofs.HeldAtoms.{atoms-at_place}
use Rattle.annotation_check.proofs.entailed.atom_at.Goals as goal

pub returns : goal.returns
returns c =
    let p = get_or c.args.positions.now c.args.place 0 in
    let number = AllByRecursion-at (IsNumberOf c.args.atoms.now) c.args.positions.now c.args.place 0 c.requires.within c.requires.place in
    atoms-at_place c.args.atoms.now c.args.positions.now c.args.place p c.index-atoms-positions.result c.requires.within (slice_get-get_or c.args.positions.now c.args.place 0 c.requires.place)
    (numbered-or c.args.atoms.now p c.index-atoms-positions.result number ∙ ap (λ a. Some a) (sym c.index-atoms-positions.is))
