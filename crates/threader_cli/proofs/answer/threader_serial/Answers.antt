use Rattle.std.proofs.Common.{refl}
use Rattle.threader_cli.proofs.AnswerLemmas.{ends_by, asked-held, Frame-wrote, Frame-silent, KeepsFiles-refl}
use Rattle.threader_cli.specs.Answer.{usage, no_memory}
use Rattle.threader_cli.proofs.answer.threader_serial.Goals as goal

pub returns-in_default-clause-ends : goal.returns-in_default-clause-ends
returns-in_default-clause-ends g c = ends_by 2 c.write.result _ (usage c.in_default.ensures.refused) c.write.ensures

pub returns-in_default-clause-frame : goal.returns-in_default-clause-frame
returns-in_default-clause-frame g c = Frame-wrote (KeepsFiles-refl (g.S.Store.meaning c.args.store.now)) c.write.ensures

pub returns-in-Ok-clause-ends : goal.returns-in-Ok-clause-ends
returns-in-Ok-clause-ends g c =
    ends_by c.in-Ok.answer.status c.write-in-Ok.result c.deref.result.now
    (asked-held c.in-Ok.answer.text.items c.deref.result.now c.in-Some.ensures.asked c.deref.ensures.value c.in-Ok.ensures.answer) c.write-in-Ok.ensures

pub returns-in-Ok-clause-frame : goal.returns-in-Ok-clause-frame
returns-in-Ok-clause-frame g c = Frame-wrote c.answer_files.ensures.kept c.write-in-Ok.ensures

pub returns-in-Err-clause-ends : goal.returns-in-Err-clause-ends
returns-in-Err-clause-ends g c = no_memory _ _ _ c.in-Some.ensures.asked refl

pub returns-in-Err-clause-frame : goal.returns-in-Err-clause-frame
returns-in-Err-clause-frame g c = Frame-silent (g.S.Store.meaning c.args.store.now) (g.S.Store.meaning c.answer_files.new.store) (g.K.Sink.meaning c.args.out.now) c.answer_files.ensures.kept
