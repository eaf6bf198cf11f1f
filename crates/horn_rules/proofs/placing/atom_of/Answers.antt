use Rattle.std.proofs.Common.{◌∙◌, Ok, Err, rules}
use Rattle.lin_rows.specs.Atom.{inequality}
use Rattle.lin_rows.specs.Normal.{IsNormalForm}
use Rattle.lin_rows.specs.declared.normal_form.NormalForm.TheVariants.{Always, Never, Atom}
use Rattle.lin_rows.specs.declared.normal_form.NormalStop.TheVariants.{Overflow}
use Rattle.horn_rules.proofs.PlacedAtoms.{reduced-atom, no-other-form}
use Rattle.horn_rules.proofs.placing.atom_of.Goals as goal

pub returns-in-Ok-Atom : goal.returns-in-Ok-Atom
returns-in-Ok-Atom c =
    let row = inequality c.args.coefficients.now c.args.bound in
    let form : IsNormalForm row (Ok (Atom c.in-Ok-Atom.atom)) = search rules in
    form.1 ∙ reduced-atom row c.requires

pub unreachable-requires : goal.unreachable-requires
unreachable-requires c =
    let row = inequality c.args.coefficients.now c.args.bound in
    let form : IsNormalForm row (Ok Always) = search rules in
    no-other-form row (Ok Always) c.requires form tt

pub unreachable-requires-in-Ok-Never : goal.unreachable-requires-in-Ok-Never
unreachable-requires-in-Ok-Never c =
    let row = inequality c.args.coefficients.now c.args.bound in
    let form : IsNormalForm row (Ok Never) = search rules in
    no-other-form row (Ok Never) c.requires form tt

pub unreachable-requires-in-Err-Overflow : goal.unreachable-requires-in-Err-Overflow
unreachable-requires-in-Err-Overflow c =
    let row = inequality c.args.coefficients.now c.args.bound in
    let form : IsNormalForm row (Err Overflow) = search rules in
    no-other-form row (Err Overflow) c.requires form tt
