use Rattle.std.proofs.Common.{subst}
use Rattle.threader_cli.proofs.AnswerLemmas.{whole-files, KeepsFiles-trans}
use Rattle.threader_cli.specs.Answer.{program_text, unread}
use Rattle.threader_cli.specs.inside.Parts.{names, IsReadText}
use Rattle.threader_cli.proofs.answer.answer_files.Goals as goal

pub returns-in-Whole-clause-answer : goal.returns-in-Whole-clause-answer
returns-in-Whole-clause-answer g c =
    let text = subst (IsReadText program_text c.args.asked.now.program.now (g.S.Store.meaning c.args.store.now) (g.S.Store.meaning c.read_text.new.store)) c.in-Whole.is c.in_ok-text.ensures.read in
    whole-files c.args.asked.now.limits (g.S.Store.meaning c.args.store.now) (g.S.Store.meaning c.read_text.new.store) (g.S.Store.meaning c.answer_program.new.store) c.args.asked.now.program.now (names c.args.asked.now.predicates) c.answer_program.result c.in-Whole.bytes.items c.deref.result.now c.read_text.ensures.kept text.0 text.1 c.deref.ensures.value c.answer_program.ensures.answer

pub returns-in-Whole-clause-kept : goal.returns-in-Whole-clause-kept
returns-in-Whole-clause-kept g c =
    KeepsFiles-trans (g.S.Store.meaning c.args.store.now) (g.S.Store.meaning c.read_text.new.store) (g.S.Store.meaning c.answer_program.new.store)
    c.read_text.ensures.kept c.answer_program.ensures.kept

pub returns-in-Unread-clause-answer : goal.returns-in-Unread-clause-answer
returns-in-Unread-clause-answer g c =
    unread c.in-Unread.answer.status c.in-Unread.answer.text.items
    (subst (IsReadText program_text c.args.asked.now.program.now (g.S.Store.meaning c.args.store.now) (g.S.Store.meaning c.read_text.new.store)) c.in-Unread.is c.in_ok-text.ensures.read)
