use Rattle.std.proofs.Common.{ℕ, List, subst}
use Rattle.threader_cli.proofs.AnswerLemmas.{passed}
use Rattle.threader_cli.specs.Answer.{predicates_text, AnswersPredicates, AnswersText, unread, read_whole}
use Rattle.threader_cli.specs.inside.Parts.{IsReadText}
use Rattle.threader_cli.proofs.answer.second.Goals as goal

pub returns-in-Whole-clause-answer : goal.returns-in-Whole-clause-answer
returns-in-Whole-clause-answer g c =
    let text = subst (IsReadText predicates_text c.args.name.now (g.S.Store.meaning c.args.store.now) (g.S.Store.meaning c.read_text.new.store)) c.in-Whole.is c.in_ok-text.ensures.read in
    passed (AnswersPredicates c.args.limits c.args.program.now c.deref.result.now)
    (AnswersText predicates_text (AnswersPredicates c.args.limits c.args.program.now) c.args.name.now (g.S.Store.meaning c.args.store.now) (g.S.Store.meaning c.read_text.new.store)) c.with_predicates.result
    (λ status said answers. read_whole c.in-Whole.bytes.items status said text.0 text.1
    (subst (λ (bytes : List ℕ). AnswersPredicates c.args.limits c.args.program.now bytes status said) c.deref.ensures.value answers)) c.with_predicates.ensures

pub returns-in-Unread-clause-answer : goal.returns-in-Unread-clause-answer
returns-in-Unread-clause-answer g c =
    unread c.in-Unread.answer.status c.in-Unread.answer.text.items
    (subst (IsReadText predicates_text c.args.name.now (g.S.Store.meaning c.args.store.now) (g.S.Store.meaning c.read_text.new.store)) c.in-Unread.is c.in_ok-text.ensures.read)
