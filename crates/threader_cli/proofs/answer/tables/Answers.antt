use Rattle.std.proofs.Common.{subst}
use Rattle.serial_fix.specs.Least.{IsLeastAnswer}
use Rattle.threader_cli.proofs.AnswerLemmas.{said, table-answers}
use Rattle.threader_cli.specs.Answer.{AnswersProgram, leaves, many_facts, many_jobs}
use Rattle.threader_cli.proofs.answer.tables.Goals as goal

pub returns-in_ok-table-in-Facts : goal.returns-in_ok-table-in-Facts
returns-in_ok-table-in-Facts c =
    let least = subst (IsLeastAnswer c.args.program.now c.args.sets.now c.args.limits) c.in-Facts.is c.in_ok-facts.ensures in
    table-answers c.args.limits c.args.program.now c.args.sets.now c.in-Facts.facts.items c.deref.result.now c.in_ok-table-in-Facts.field-0.items least c.deref.ensures.value
    c.in_ok-table-in-Facts.ensures.least

pub returns-in-Leaves : goal.returns-in-Leaves
returns-in-Leaves c =
    let undecided = subst (IsLeastAnswer c.args.program.now c.args.sets.now c.args.limits) c.in-Leaves.is c.in_ok-facts.ensures in
    said (AnswersProgram c.args.limits c.args.program.now c.args.sets.now) c.text_answer.result 4 _ c.text_answer.ensures (leaves undecided)

pub returns-in-TooManyFacts : goal.returns-in-TooManyFacts
returns-in-TooManyFacts c =
    let more = subst (IsLeastAnswer c.args.program.now c.args.sets.now c.args.limits) c.in-TooManyFacts.is c.in_ok-facts.ensures in
    said (AnswersProgram c.args.limits c.args.program.now c.args.sets.now) c.too_low.result 4 _ c.too_low.ensures (many_facts more)

pub returns-in-TooManyJobs : goal.returns-in-TooManyJobs
returns-in-TooManyJobs c =
    let more = subst (IsLeastAnswer c.args.program.now c.args.sets.now c.args.limits) c.in-TooManyJobs.is c.in_ok-facts.ensures in
    said (AnswersProgram c.args.limits c.args.program.now c.args.sets.now) c.too_low-in-TooManyJobs.result 4 _ c.too_low-in-TooManyJobs.ensures (many_jobs more)
