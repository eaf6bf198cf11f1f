use Rattle.std.proofs.Common.{◌∙◌, rules}
use Rattle.lin_rows.specs.Atom.{IsAtom, inequality}
use Rattle.horn_rules.proofs.PlacedAtoms.{IsAtom-placed}
use Rattle.horn_rules.proofs.placing.place_atom.Goals as goal

pub atom_of-requires : goal.atom_of-requires
atom_of-requires c =
    let is : IsAtom (inequality c.as_slice.result.now c.bound.result) =
    IsAtom-placed c.args.atom.now _ _ c.args.before c.args.columns c.bound.ensures.atom (c.as_slice.ensures.value ∙ c.in_ok-coefficients.ensures) c.bound.ensures.bound in
    search (rules, is)
