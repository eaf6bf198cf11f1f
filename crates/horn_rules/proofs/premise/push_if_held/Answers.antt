use Rattle.std.proofs.Common.{◌-◌, ◌∙◌, sym}
use Rattle.std.proofs.lemmas.Bool.{ltb-false}
use Rattle.horn_rules.specs.Case.{wider_row}
use Rattle.thr_base.specs.Held.{holds}
use Rattle.horn_rules.proofs.Premises.{none_there}
use Rattle.horn_rules.proofs.premise.push_if_held.Goals as goal

pub returns-in-None : goal.returns-in-None
returns-in-None c =
    none_there (wider_row (c.args.rows.now.columns - c.args.columns)) c.args.atoms.now (holds c.args.held c.args.position) c.args.position c.args.rows.now
    (sym c.holds.ensures ∙ c.if-not-holds.false) (ltb-false _ _ (sym c.in-None.ensures.lookup.0))
