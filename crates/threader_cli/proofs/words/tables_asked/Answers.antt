use Rattle.std.proofs.Common.{map, string_bytes, ap}
use Rattle.command_line.specs.Seen.{request_of, work_of}
use Rattle.threader_cli.specs.Answer.{is_built}
use Rattle.threader_cli.proofs.WordsLemmas.{if_none, nothing_asked, nothing_built, og_is_not_built}
use Rattle.threader_cli.proofs.words.tables_asked.Goals as goal

pub returns-in_err-request-clause-refused : goal.returns-in_err-request-clause-refused
returns-in_err-request-clause-refused c = if_none c.from_residual.result (nothing_asked (map string_bytes c.args.words.now) c.in_err-request.ensures.refused)

pub returns-in-Verify-clause-refused : goal.returns-in-Verify-clause-refused
returns-in-Verify-clause-refused c =
    let held = request_of c.in_ok-request.request in
    nothing_built _ held (c.words_ask_for_one.ensures _) c.in_ok-request.ensures.asked (ap (λ w. is_built (work_of w) held.options.rule) c.in-Verify.is)

pub returns-in-Check-clause-refused : goal.returns-in-Check-clause-refused
returns-in-Check-clause-refused c =
    let held = request_of c.in_ok-request.request in
    nothing_built _ held (c.words_ask_for_one.ensures _) c.in_ok-request.ensures.asked (ap (λ w. is_built (work_of w) held.options.rule) c.in-Check.is)

pub returns-in-Replay-clause-refused : goal.returns-in-Replay-clause-refused
returns-in-Replay-clause-refused c =
    let held = request_of c.in_ok-request.request in
    nothing_built _ held (c.words_ask_for_one.ensures _) c.in_ok-request.ensures.asked (ap (λ w. is_built (work_of w) held.options.rule) c.in-Replay.is)

pub returns-in-Generate-clause-refused : goal.returns-in-Generate-clause-refused
returns-in-Generate-clause-refused c =
    let held = request_of c.in_ok-request.request in
    nothing_built _ held (c.words_ask_for_one.ensures _) c.in_ok-request.ensures.asked (ap (λ w. is_built (work_of w) held.options.rule) c.in-Generate.is)

pub returns-in-Bench-clause-refused : goal.returns-in-Bench-clause-refused
returns-in-Bench-clause-refused c =
    let held = request_of c.in_ok-request.request in
    nothing_built _ held (c.words_ask_for_one.ensures _) c.in_ok-request.ensures.asked (ap (λ w. is_built (work_of w) held.options.rule) c.in-Bench.is)

pub returns-in-Help-clause-refused : goal.returns-in-Help-clause-refused
returns-in-Help-clause-refused c =
    let held = request_of c.in_ok-request.request in
    nothing_built _ held (c.words_ask_for_one.ensures _) c.in_ok-request.ensures.asked (ap (λ w. is_built (work_of w) held.options.rule) c.in-Help.is)

pub returns-in-Og-clause-refused : goal.returns-in-Og-clause-refused
returns-in-Og-clause-refused c =
    let held = request_of c.in_ok-request.request in
    nothing_built _ held (c.words_ask_for_one.ensures _) c.in_ok-request.ensures.asked (og_is_not_built held.work held.options.rule c.in-Og.is)
