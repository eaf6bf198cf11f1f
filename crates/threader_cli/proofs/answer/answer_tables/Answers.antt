use Rattle.std.proofs.Common.{None, Some, ap}
use Rattle.threader_cli.proofs.AnswerLemmas.{passed, tables-given}
use Rattle.threader_cli.specs.Answer.{no_predicates, predicates_text, AnswersPredicates, AnswersProgram, AnswersTables, AnswersText, alone, with_predicates}
use Rattle.threader_cli.specs.inside.Parts.{names}
use Rattle.threader_cli.proofs.answer.answer_tables.Goals as goal

pub returns-in-None-clause-answer : goal.returns-in-None-clause-answer
returns-in-None-clause-answer g c =
    tables-given c.args.limits (g.S.Store.meaning c.args.store.now) (g.S.Store.meaning c.args.store.now) c.args.program.now (names c.args.predicates) None c.alone.result (ap names c.in-None.is)
    (passed (AnswersProgram c.args.limits c.args.program.now (no_predicates c.args.program.now)) (AnswersTables c.args.limits (g.S.Store.meaning c.args.store.now) (g.S.Store.meaning c.args.store.now) None c.args.program.now) c.alone.result
    (λ status text answers. alone c.args.program.now status text answers) c.alone.ensures)

pub returns-in-Some-clause-answer : goal.returns-in-Some-clause-answer
returns-in-Some-clause-answer g c =
    tables-given c.args.limits (g.S.Store.meaning c.args.store.now) (g.S.Store.meaning c.second.new.store) c.args.program.now (names c.args.predicates) (Some c.in-Some.name.now) c.second.result (ap names c.in-Some.is)
    (passed (AnswersText predicates_text (AnswersPredicates c.args.limits c.args.program.now) c.in-Some.name.now (g.S.Store.meaning c.args.store.now) (g.S.Store.meaning c.second.new.store))
    (AnswersTables c.args.limits (g.S.Store.meaning c.args.store.now) (g.S.Store.meaning c.second.new.store) (Some c.in-Some.name.now) c.args.program.now) c.second.result
    (λ status text answers. with_predicates c.in-Some.name.now c.args.program.now status text answers) c.second.ensures.answer)
