use Rattle.std.proofs.Common.{arith}
use Rattle.farkas_cert.proofs.NamedRowsLemmas.{HasWidths-named}
use Rattle.tableau_elim.specs.inside.Held.{tableau_of}
use Rattle.tableau_elim.proofs.Outcomes.{outcome_begins, evidence_of}
use Rattle.tableau_elim.proofs.tried.try_decide_named.Goals as goal

pub rounds-requires-clause-widths : goal.rounds-requires-clause-widths
rounds-requires-clause-widths c = HasWidths-named c.args.rows.now c.count.ensures.named

pub rounds-requires-clause-leads : goal.rounds-requires-clause-leads
rounds-requires-clause-leads c = outcome_begins c.args.rows.now _ (tableau_of c.in_ok-tableau.tableau) (omega (arith, c.count.ensures.count, c.columns.ensures.columns)) c.in_ok-tableau.ensures

pub returns-clause-evidence : goal.returns-clause-evidence
returns-clause-evidence c = evidence_of c.args.rows.now c.rounds.result (HasWidths-named c.args.rows.now c.count.ensures.named) c.rounds.ensures
