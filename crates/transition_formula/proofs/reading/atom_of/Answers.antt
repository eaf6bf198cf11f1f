use Rattle.std.proofs.Common.{◌∙◌, Some, ap}
use Rattle.lin_rows.proofs.Numbers.{read_back}
use Rattle.transition_formula.proofs.NormalAtoms.{reduced-IsAtom, IsAtom-not_constant}
use Rattle.transition_formula.proofs.reading.atom_of.Goals as goal

pub returns-in-Ok-Atom-clause-same : goal.returns-in-Ok-Atom-clause-same
returns-in-Ok-Atom-clause-same c atom =
    let bound = read_back c.args.bound c.requires.bound in
    let form = rw bound at (rw c.in-Ok-Atom.field-0-is at c.in-Ok-Atom.ensures.form) in
    ap Some (form.1 ∙ reduced-IsAtom c.args.coefficients.now c.args.bound atom)

pub returns-in-Ok-Always-clause-same : goal.returns-in-Ok-Always-clause-same
returns-in-Ok-Always-clause-same c atom =
    let form = rw c.in-Ok-Always.field-0-is at c.in-Ok-Always.ensures.form in
    absurd (IsAtom-not_constant _ atom form.0)

pub returns-in-Ok-Never-clause-same : goal.returns-in-Ok-Never-clause-same
returns-in-Ok-Never-clause-same c atom =
    let form = rw c.in-Ok-Never.field-0-is at c.in-Ok-Never.ensures.form in
    absurd (IsAtom-not_constant _ atom form.0)
