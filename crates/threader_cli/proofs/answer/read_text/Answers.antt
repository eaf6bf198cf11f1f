use Rattle.std.proofs.Common.{subst}
use Rattle.thr_base.specs.Reading.{StopsReading}
use Rattle.thr_base.specs.declared.stops.ReadStop.{ReadStop}
use Rattle.threader_cli.specs.Answer.{fault, long}
use Rattle.threader_cli.proofs.answer.read_text.Goals as goal

pub returns-in_ok-text_answer-in-Err-Fault-clause-read : goal.returns-in_ok-text_answer-in-Err-Fault-clause-read
returns-in_ok-text_answer-in-Err-Fault-clause-read g c =
    let why = subst (λ (stop : ReadStop). StopsReading (g.S.Store.meaning c.args.store.now) c.args.name.now c.args.limit stop (g.S.Store.meaning c.read_all.new.store))
    c.in-Err-Fault.field-0-is c.in-Err-Fault.ensures.stopped in
    rw (c.in_ok-text_answer-in-Err-Fault.ensures.0, c.in_ok-text_answer-in-Err-Fault.ensures.1) (fault why)

pub returns-in_ok-too_long-in-Err-TooLong-clause-read : goal.returns-in_ok-too_long-in-Err-TooLong-clause-read
returns-in_ok-too_long-in-Err-TooLong-clause-read g c =
    let why = subst (λ (stop : ReadStop). StopsReading (g.S.Store.meaning c.args.store.now) c.args.name.now c.args.limit stop (g.S.Store.meaning c.read_all.new.store))
    c.in-Err-TooLong.field-0-is c.in-Err-TooLong.ensures.stopped in
    rw (c.in_ok-too_long-in-Err-TooLong.ensures.0, c.in_ok-too_long-in-Err-TooLong.ensures.1) (long why)
