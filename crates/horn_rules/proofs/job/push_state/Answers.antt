use Rattle.std.proofs.Common.{sym, ◌∙◌}
use Rattle.horn_rules.proofs.Premises.{atoms-over, said-next, same_thread}
use Rattle.horn_rules.proofs.job.push_state.Goals as goal

pub push_held-requires-clause-one_each : goal.push_held-requires-clause-one_each
push_held-requires-clause-one_each c =
    atoms-over c.args.program.now _ _ _ _ c.requires.at.premise_is.set_is (c.atoms.ensures.atoms ∙ c.deref.ensures) c.columns.ensures.columns

pub returns-clause-rows : goal.returns-clause-rows
returns-clause-rows c i l thread home at =
    let same = sym c.location_of.ensures ∙ home in
    said-next c.args.program.now _ _ _ _ _ thread _ _ i l c.args.premise.now _ same (c.in_ok-push_location.ensures.row thread (same_thread c.args.program.now _ _ i l thread same at)) c.in_ok-push_held.ensures.rows
    c.columns.ensures.columns (c.atoms.ensures.atoms ∙ c.deref.ensures)
