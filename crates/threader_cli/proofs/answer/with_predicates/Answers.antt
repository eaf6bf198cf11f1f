use Rattle.std.proofs.Common.{rules, ◌≡◌, List, Err, IfOk, subst}
use Rattle.thr_base.specs.declared.stops.LineStop.{LineStop}
use Rattle.thr_base.specs.Refusals.{MatchLineStop}
use Rattle.lin_rows.specs.Row.{Row}
use Rattle.annotation_form.specs.BadLine.{IsBadLine}
use Rattle.annotation_form.specs.Predicates.{IsReadAs, IsTextOfPredicates}
use Rattle.threader_cli.proofs.AnswerLemmas.{said, passed, IsReadAs-stored}
use Rattle.threader_cli.specs.Answer.{AnswersProgram, AnswersPredicates, bad_line, bad_line_text, predicates_text, read}
use Rattle.threader_cli.proofs.answer.with_predicates.Goals as goal

pub tables-requires : goal.tables-requires
tables-requires c = IsReadAs-stored c.args.program.now c.args.bytes.now c.in-Ok.sets c.in-Ok.ensures.answer

pub returns-in-Ok : goal.returns-in-Ok
returns-in-Ok c =
    passed (AnswersProgram c.args.limits c.args.program.now c.in-Ok.sets) (AnswersPredicates c.args.limits c.args.program.now c.args.bytes.now) c.tables.result
    (λ status text answers. read c.in-Ok.sets status text c.in-Ok.ensures.answer answers) c.tables.ensures

pub returns-in-Err-BadLine : goal.returns-in-Err-BadLine
returns-in-Err-BadLine c =
    let bad = subst (λ (stop : LineStop). MatchLineStop {X = List (List Row)} (Err stop) (IsReadAs c.args.program.now c.args.bytes.now) (IsBadLine (IsTextOfPredicates c.args.program.now) c.args.bytes.now)) c.in-Err-BadLine.field-0-is c.in-Err-BadLine.ensures.answer in
    let told : IfOk c.bad_line.result (λ answer. (answer.status ≡ 3) × (answer.text.items ≡ bad_line_text predicates_text c.in-Err-BadLine.line)) = search rules in
    said (AnswersPredicates c.args.limits c.args.program.now c.args.bytes.now) c.bad_line.result 3 (bad_line_text predicates_text c.in-Err-BadLine.line) told (bad_line c.in-Err-BadLine.line bad)
