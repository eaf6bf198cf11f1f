use Rattle.std.proofs.Common.{rules, ◌≡◌, Err, IfOk, subst}
use Rattle.thr_base.specs.declared.stops.Stop.{Stop}
use Rattle.thread_cfg.specs.Read.{IsReadAnswer}
use Rattle.threader_cli.proofs.AnswerLemmas.{passed, said}
use Rattle.threader_cli.specs.Answer.{refusal_text, AnswersProgramText, AnswersTables, refused, accepted}
use Rattle.threader_cli.specs.inside.Parts.{names}
use Rattle.threader_cli.proofs.answer.answer_program.Goals as goal

pub returns-in-Ok-clause-answer : goal.returns-in-Ok-clause-answer
returns-in-Ok-clause-answer g c =
    let (tree, is) = c.in-Ok.ensures in
    passed (AnswersTables c.args.limits (g.S.Store.meaning c.args.store.now) (g.S.Store.meaning c.answer_tables.new.store) (names c.args.predicates) c.in-Ok.program)
    (AnswersProgramText (AnswersTables c.args.limits (g.S.Store.meaning c.args.store.now) (g.S.Store.meaning c.answer_tables.new.store) (names c.args.predicates)) c.args.bytes.now)
    c.answer_tables.result
    (λ status text answers. accepted tree c.in-Ok.program status text is answers
    (c.tables_tell_safety.ensures c.args.bytes.now tree c.in-Ok.program c.args.limits (g.S.Store.meaning c.args.store.now) (g.S.Store.meaning c.answer_tables.new.store) (names c.args.predicates) status text is answers))
    c.answer_tables.ensures.answer

pub returns-in-Err-Refused-clause-answer : goal.returns-in-Err-Refused-clause-answer
returns-in-Err-Refused-clause-answer g c =
    let why = subst (λ (stop : Stop). IsReadAnswer c.args.bytes.now (Err stop)) c.in-Err-Refused.field-0-is c.in-Err-Refused.ensures in
    let told : IfOk c.refusal_answer.result (λ answer. (answer.status ≡ 3) × (answer.text.items ≡ refusal_text c.in-Err-Refused.refusal)) = search rules in
    said (AnswersProgramText (AnswersTables c.args.limits (g.S.Store.meaning c.args.store.now) (g.S.Store.meaning c.args.store.now) (names c.args.predicates)) c.args.bytes.now) c.refusal_answer.result 3
    (refusal_text c.in-Err-Refused.refusal) told (refused c.in-Err-Refused.refusal why)
