use Rattle.std.proofs.Common.{map, sym, ◌∙◌, ap}
use Rattle.std.proofs.lemmas.List.{length-reverse, length-map}
use Rattle.farkas_cert.specs.Elimination as specs
use Rattle.plain_elim.specs.inside.Held.{kept_of, work_of, next_of}
use Rattle.farkas_cert.proofs.NamedRowsLemmas.{HasWidths-named}
use Rattle.plain_elim.proofs.Stages.{beginning-keeps, outcome-beginning, evidence, IfOk-evidence}
use Rattle.plain_elim.proofs.elimination.decide_named.Goals as goal

pub stages-requires-clause-widths : goal.stages-requires-clause-widths
stages-requires-clause-widths c = HasWidths-named c.args.rows.now c.columns-columns.ensures.named

pub refutation_outcome-requires-clause-widths : goal.refutation_outcome-requires-clause-widths
refutation_outcome-requires-clause-widths c = HasWidths-named c.args.rows.now c.columns-columns.ensures.named

pub stages-requires-clause-fresh : goal.stages-requires-clause-fresh
stages-requires-clause-fresh c =
    let rows = c.args.rows.now in
    let all = map kept_of c.in-Goes.work.kept.items in
    sym (length-reverse all ∙ length-map c.in-Goes.work.kept.items kept_of)
    ∙ beginning-keeps rows (work_of c.in-Goes.work) (sym c.in_ok-next.ensures.next ∙ ap (next_of rows) c.in-Goes.is)

pub stages-requires-clause-leads : goal.stages-requires-clause-leads
stages-requires-clause-leads c =
    let rows = c.args.rows.now in
    outcome-beginning rows (next_of rows c.in_ok-next.next) c.in_ok-next.ensures.next
    ∙ ap (λ next. specs.or_ends (specs.stages rows.columns rows) (next_of rows next)) c.in-Goes.is

pub refutation_outcome-requires-clause-leads : goal.refutation_outcome-requires-clause-leads
refutation_outcome-requires-clause-leads c =
    let rows = c.args.rows.now in
    outcome-beginning rows (next_of rows c.in_ok-next.next) c.in_ok-next.ensures.next
    ∙ ap (λ next. specs.or_ends (specs.stages rows.columns rows) (next_of rows next)) c.in-Refutes.is

pub returns-in-Goes-clause-evidence : goal.returns-in-Goes-clause-evidence
returns-in-Goes-clause-evidence c = IfOk-evidence c.args.rows.now c.stages.result (HasWidths-named c.args.rows.now c.columns-columns.ensures.named) c.stages.ensures

pub returns-in-Refutes-clause-evidence : goal.returns-in-Refutes-clause-evidence
returns-in-Refutes-clause-evidence c = evidence c.args.rows.now c.refutation_outcome.result (HasWidths-named c.args.rows.now c.columns-columns.ensures.named) c.refutation_outcome.ensures

pub returns-in-Leaves-clause-outcome : goal.returns-in-Leaves-clause-outcome
returns-in-Leaves-clause-outcome c =
    let rows = c.args.rows.now in
    sym (outcome-beginning rows (next_of rows c.in_ok-next.next) c.in_ok-next.ensures.next
    ∙ ap (λ next. specs.or_ends (specs.stages rows.columns rows) (next_of rows next)) c.in-Leaves.is)
